-- `collect_visit::visit_each` meets its contract: the counts and the stack are those that the visits so far give.
use Rattle.rules_stores.specs.Store.{work}
use Rattle.count_up.specs.Stack.{top_first, uncounted, remaining}
use Rattle.collect_counts.specs.Counts.{count_maps}
use Rattle.collect_visit.specs.Visit.{visit_each, VisitedTo}
use Rattle.collect_visit.proofs.visit_each.Given as goal

abbrev pub invariant-loop-v : goal.invariant-loop-v
invariant-loop-v l =
    VisitedTo l.blocks l.width (visit_each l.blocks l.width (work (count_maps l.blocks l.width l.initial.at) (top_first l.initial.waiting l.top)) l.refs l.j l.v-index)
    (remaining uncounted l.blocks l.width (count_maps l.blocks l.width l.initial.at) l.top) l.at l.waiting l.height
