-- `run_reply` meets its contract: the check, then the run's range.
use mathlib.Core.Path.{refl, sym, ◌∙◌}
use Rattle.std.proofs.lemmas.Result.{err_from_is_err_and}
use Rattle.types.proofs.Refused.{number_ne0}
use Rattle.history_runs.proofs.Pieces.{reply_unsound, reply_range, reply_passed}
use Rattle.history.proofs.run_reply.Goals as goal

pub returns-in_err-test_heap : goal.returns-in_err-test_heap
returns-in_err-test_heap c =
    let exit = err_from_is_err_and c.from_residual.result c.from_residual.ensures.1 in
    rw (exit.1, exit.2) (reply_unsound c.in_err-test_heap.ensures _ (number_ne0 _))

pub returns-then-not-in_range : goal.returns-then-not-in_range
returns-then-not-in_range c =
    reply_range c.in_ok-test_heap.ensures _ refl (sym c.in_range.ensures ∙ c.if-not-in_range.true) refl

pub returns : goal.returns
returns c =
    reply_passed c.in_ok-test_heap.ensures _ refl (sym c.in_range.ensures ∙ c.if-not-in_range.false) refl
