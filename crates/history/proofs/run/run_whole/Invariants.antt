-- `run::run_whole` meets its contract: what is left of the run is the run over the records that are left.
use Rattle.rules.specs.Heap.{lent_memory}
use Rattle.history_runs.proofs.Progress.{Progress}
use Rattle.history.proofs.run.run_whole.Given as goal

abbrev pub invariant-loop-i : goal.invariant-loop-i
invariant-loop-i l =
    Progress l.n l.blocks l.width l.bytes (lent_memory l.initial.a l.initial.b l.initial.counts l.initial.cells l.initial.roots l.initial.waiting l.initial.sections l.initial.d l.initial.marks l.initial.list) l.initial.state.run l.i
    (lent_memory l.a l.b l.counts l.cells l.roots l.waiting l.sections l.d l.marks l.list) l.state
