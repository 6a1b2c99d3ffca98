-- `make_calls` meets its contract: all tests first, and then the calls on the cleared heap.
use mathlib.Core.Path.{refl}
use Rattle.types.proofs.Refused.{number_ne0}
use Rattle.replay_batch.proofs.Batches.{accepted, start_usable, batch_refused, batch_made}
use Rattle.replay_batch.proofs.make_calls.Goals as goal

pub returns-in-Err : goal.returns-in-Err
returns-in-Err c = rw c.into.ensures (batch_refused c.in-Err.ensures (number_ne0 _))

pub run_all-requires : goal.run_all-requires
run_all-requires c =
    let from = accepted c.in-Ok.ensures refl in
    (start_usable from.undamaged c.clear_all.ensures, from.passed.calls, from.passed.enough_room)

pub returns : goal.returns
returns c =
    rw c.acceptance.ensures (batch_made c.in-Ok.ensures refl c.clear_all.ensures c.run_all.ensures)
