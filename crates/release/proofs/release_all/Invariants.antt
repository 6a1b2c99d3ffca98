-- `release::release_all` meets its contract: what is left to do, to count and to mark gives what is asked. The measure is the number of
-- objects that can still come to be freed.
use mathlib.Core.List.{[]}
use Rattle.rules_stores.specs.Store.{release}
use Rattle.section_figures.specs.Figures.{Upkeep}
use Rattle.count_up.specs.Ready.{part_memory}
use Rattle.count_up.specs.Stack.{top_first, counted, remaining}
use Rattle.release.specs.Blocks.{released_blocks}
use Rattle.release.specs.Marks.{released_marks}
use Rattle.release.proofs.ReleaseLoop.{ReleaseUnderWay}
use Rattle.release.proofs.release_all.Given as goal

abbrev pub invariant-loop-top : goal.invariant-loop-top
invariant-loop-top l =
    ReleaseUnderWay l.blocks l.width l.shade
    (release l.blocks l.blocks l.width (part_memory l.initial.a l.initial.b l.initial.counts l.initial.cells [] l.initial.d) (top_first l.initial.waiting l.initial.top))
    (released_blocks l.blocks l.blocks l.width (part_memory l.initial.a l.initial.b l.initial.counts l.initial.cells [] l.initial.d) (top_first l.initial.waiting l.initial.top))
    (released_marks l.shade l.blocks l.blocks l.width (part_memory l.initial.a l.initial.b l.initial.counts l.initial.cells [] l.initial.d) (top_first l.initial.waiting l.initial.top) l.initial.marks)
    l.a l.b l.counts l.cells l.waiting l.d l.marks l.top l.freed
    × Upkeep l.blocks l.freed l.initial.a l.initial.sections l.a l.sections

abbrev pub decreases-loop-top : goal.decreases-loop-top
decreases-loop-top l =
    remaining counted l.blocks l.width l.counts l.top
