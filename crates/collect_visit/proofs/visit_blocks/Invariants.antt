-- `collect_visit::visit_blocks` meets its contract: the counts and the stack are those that visits of the cells of the blocks so far give.
use Prim.Native.Nat.{◌*◌}
use Rattle.rules_stores.specs.Store.{work}
use Rattle.count_up.specs.Stack.{top_first, uncounted, remaining}
use Rattle.collect_counts.specs.Counts.{count_maps}
use Rattle.collect_visit.specs.Visit.{visit_each, VisitedTo}
use Rattle.collect_visit.proofs.visit_blocks.Given as goal

abbrev pub invariant-loop-k : goal.invariant-loop-k
invariant-loop-k l =
    VisitedTo l.blocks l.width (visit_each l.blocks l.width (work (count_maps l.blocks l.width l.initial.at) (top_first l.initial.waiting l.top)) l.cells (4 * l.i) (4 * l.k))
    (remaining uncounted l.blocks l.width (count_maps l.blocks l.width l.initial.at) l.top) l.at l.waiting l.height
