-- `run::end_piece` meets its contract.
use borrow.Author.Tests.{eq-eqb, ne_eqb}
use Rattle.history_runs.specs.Runs.{ended}
use Rattle.history.proofs.run.end_piece.Goals as goal
use Rattle.history.proofs.run.end_piece.Goals.{else-run-eq0-via-then-run-eq0+else-length-n, else-run-eq0-via-else-run-eq0}

pub returns-then-length-n : goal.returns-then-length-n
unfolding ended
returns-then-length-n c = rw (eq-eqb _ 0 c.if-run-eq0.true, ne_eqb _ _ c.if-length-n.true, ended)

pub returns-else-run-eq0 : goal.returns-else-run-eq0
unfolding ended
returns-else-run-eq0 c = elim c.else-run-eq0.branch [
  | else-run-eq0-via-then-run-eq0+else-length-n w ↦
      rw (eq-eqb _ 0 w.if-run-eq0.true, eq-eqb _ _ w.if-length-n.false, ended)
  | else-run-eq0-via-else-run-eq0 w ↦ rw (ne_eqb _ 0 w.if-run-eq0.false, ended)
]
