-- `work_return::clear_roots` meets its contract: the roots below r are seen to.
use Rattle.rules.specs.Heap.{lent_memory}
use Rattle.work_return.proofs.ReturnAnswer.{Progress}
use Rattle.work_return.proofs.clear_roots.Given as goal

abbrev pub invariant-loop-r : goal.invariant-loop-r
invariant-loop-r l =
    Progress l.blocks l.width (lent_memory l.initial.a l.initial.b l.initial.counts l.initial.cells l.initial.roots l.initial.waiting l.initial.sections l.initial.d l.initial.marks l.initial.list) l.chosen l.r
    (lent_memory l.a l.b l.counts l.cells l.roots l.waiting l.sections l.d l.marks l.list) l.freed
