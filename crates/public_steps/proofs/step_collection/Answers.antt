-- `public_steps::step_collection` meets its contract: the gate, and then the work on the cleared heap.
use mathlib.Core.Path.{refl}
use Rattle.types.proofs.Refused.{number_ne0}
use Rattle.rules_calls.specs.Calls.{outcome}
use Rattle.test_arguments.proofs.ArgumentTests.{goes_on, step_tested}
use Rattle.test_calls.proofs.CheckAtGate.{gate_one_open}
use Rattle.test_calls.proofs.ClearedHeap.{cleared_usable, promised_back}
use Rattle.public_steps.proofs.step_collection.Goals as goal

pub returns-in-Err : goal.returns-in-Err
returns-in-Err c = rw c.into.ensures ((c.in-Err.ensures _).refused (number_ne0 _))

pub take_steps-requires : goal.take_steps-requires
take_steps-requires c =
    let facts = c.in_default.ensures 0 in (
      cleared_usable (facts.fit refl) c.clear_all.ensures,
      gate_one_open _ _ (facts.tested refl) refl,
    )

pub returns : goal.returns
unfolding outcome
returns c =
    let facts = c.in_default.ensures 0 in
    promised_back (facts.fit refl) c.clear_all.ensures refl
    (goes_on (step_tested (facts.tested refl)) refl) refl c.take_steps.ensures
