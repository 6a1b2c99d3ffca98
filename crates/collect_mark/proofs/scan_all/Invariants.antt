-- `collect_mark::scan_all` meets its contract: after each turn what counts and stack lead to is what they led to at first. The measure
-- is the number of blocks that can still be scanned.
use mathlib.Core.List.{[]}
use Rattle.rules.specs.Heap.{lent_memory}
use Rattle.count_up.specs.Stack.{top_first, uncounted, remaining}
use Rattle.collect_counts.specs.Counts.{count_maps}
use Rattle.collect_visit.specs.Visit.{Counted}
use Rattle.collect_mark.specs.Mark.{scan}
use Rattle.collect_mark.proofs.Scans.{Leading}
use Rattle.collect_mark.proofs.scan_all.Given as goal

abbrev pub invariant-loop-height : goal.invariant-loop-height
invariant-loop-height l =
    Counted l.blocks l.width l.at l.waiting l.height
    × Leading l.blocks l.width (lent_memory [] l.b [] l.cells [] [] [] l.d [] [])
    (scan l.blocks l.blocks l.width (lent_memory [] l.b [] l.cells [] [] [] l.d [] []) (count_maps l.blocks l.width l.initial.at) (top_first l.initial.waiting l.top))
    (count_maps l.blocks l.width l.at) l.waiting l.height

abbrev pub decreases-loop-height : goal.decreases-loop-height
decreases-loop-height l = remaining uncounted l.blocks l.width (count_maps l.blocks l.width l.at) l.height
