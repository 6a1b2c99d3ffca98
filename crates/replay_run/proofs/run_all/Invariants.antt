-- `run_all` meets its contract: what is left of the run is the run on the calls that are left.
use Rattle.rules.specs.Heap.{lent_memory}
use Rattle.replay_run.proofs.Progress.{Progress}
use Rattle.replay_run.proofs.run_all.Given as goal

abbrev pub invariant-loop-i : goal.invariant-loop-i
invariant-loop-i l =
    Progress l.blocks l.width (lent_memory l.initial.a l.initial.b l.initial.counts l.initial.cells l.initial.roots l.initial.waiting l.initial.sections l.initial.d l.initial.marks l.initial.list) l.calls l.initial.replies l.i
    (lent_memory l.a l.b l.counts l.cells l.roots l.waiting l.sections l.d l.marks l.list) l.replies
