-- `batch_reply` meets its contract: the check, then the tests of a replay.
use mathlib.Core.Path.{refl}
use Rattle.std.proofs.lemmas.Result.{err_from_is_err_and}
use Rattle.types.proofs.Refused.{number_ne0}
use Rattle.replay_batch.proofs.Batches.{reply_refused, reply_passed}
use Rattle.replay_batch.proofs.batch_reply.Goals as goal

pub returns-in_err-test_heap : goal.returns-in_err-test_heap
returns-in_err-test_heap c =
    let exit = err_from_is_err_and c.from_residual.result c.from_residual.ensures.1 in
    rw (exit.1, exit.2) (reply_refused c.in_err-test_heap.ensures _ _ (number_ne0 _))

pub returns : goal.returns
returns c = reply_passed c.in_ok-test_heap.ensures _ _ refl c.replay_reply.ensures
