-- `public_heap::collect` meets its contract: the gate, and then the work on the cleared heap.
use mathlib.Core.Path.{refl}
use Rattle.types.proofs.Refused.{number_ne0}
use Rattle.rules_calls.specs.Calls.{freeing, outcome}
use Rattle.test_arguments.proofs.ArgumentTests.{goes_on, collect_tested}
use Rattle.test_calls.proofs.CheckAtGate.{gate_none_open}
use Rattle.test_calls.proofs.ClearedHeap.{cleared_usable, worked_back}
use Rattle.public_heap.proofs.collect.Goals as goal

pub returns-in-Err : goal.returns-in-Err
returns-in-Err c = rw c.into.ensures (c.in-Err.ensures.0.refused (number_ne0 _))

pub collect-requires : goal.collect-requires
collect-requires c = (
  cleared_usable (c.in_default.ensures.0.fit refl) c.clear_all.ensures,
  gate_none_open _ _ (c.in_default.ensures.0.tested refl) refl,
)

pub returns : goal.returns
unfolding freeing outcome
returns c =
    worked_back (c.in_default.ensures.0.fit refl) c.clear_all.ensures refl
    (goes_on (collect_tested (c.in_default.ensures.0.tested refl)) refl) refl c.collect.ensures c.into-2.ensures
