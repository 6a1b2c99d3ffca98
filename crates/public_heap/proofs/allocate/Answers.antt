-- `public_heap::allocate` meets its contract: the gate, and then the work on the cleared heap.
use mathlib.Core.Path.{refl}
use mathlib.Core.Bool.{false}
use Rattle.types.proofs.Refused.{number_ne0}
use Rattle.rules_calls.specs.Calls.{outcome}
use Rattle.test_allocation.proofs.AllocationReply.{replied, allocate_accepts, allocate_goes_on}
use Rattle.test_calls.proofs.ClearedHeap.{cleared_usable, worked_back}
use Rattle.public_heap.proofs.allocate.Goals as goal

pub returns-in-Err : goal.returns-in-Err
returns-in-Err c = rw c.into.ensures ((c.in-Err.ensures false).refused (number_ne0 _))

pub allocate-requires-2 : goal.allocate-requires-2
allocate-requires-2 c = (
  cleared_usable ((c.in-Ok.ensures false).fit refl) c.clear_all.ensures,
  allocate_accepts (replied ((c.in-Ok.ensures false).tested refl)) refl,
)

pub returns : goal.returns
unfolding outcome
returns c =
    worked_back ((c.in-Ok.ensures false).fit refl) c.clear_all.ensures refl
    (allocate_goes_on _ (replied ((c.in-Ok.ensures false).tested refl)) refl) refl c.allocate-2.ensures c.into-2.ensures
