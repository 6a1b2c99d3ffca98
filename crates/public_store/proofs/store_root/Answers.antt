-- `public_store::store_root` meets its contract: the gate, and then the work on the cleared heap.
use mathlib.Core.Path.{refl}
use Rattle.types.proofs.Refused.{number_ne0}
use Rattle.rules_calls.specs.Calls.{freeing, outcome}
use Rattle.test_arguments.proofs.ArgumentTests.{goes_on, root_tested}
use Rattle.test_calls.proofs.ClearedHeap.{cleared_usable, worked_back}
use Rattle.public_store.proofs.store_root.Goals as goal

pub returns-in-Err : goal.returns-in-Err
returns-in-Err c = rw c.into.ensures (c.in-Err.ensures.refused (number_ne0 _))

pub store_root-requires-2 : goal.store_root-requires-2
store_root-requires-2 c = (
  cleared_usable (c.in_default.ensures.fit refl) c.clear_all.ensures,
  goes_on (root_tested (c.in_default.ensures.tested refl)) refl,
)

pub returns : goal.returns
unfolding freeing outcome
returns c =
    worked_back (c.in_default.ensures.fit refl) c.clear_all.ensures refl
    (goes_on (root_tested (c.in_default.ensures.tested refl)) refl) refl c.store_root-2.ensures c.into-2.ensures
