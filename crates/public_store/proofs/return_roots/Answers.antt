-- `public_store::return_roots` meets its contract: the gate, and then the work on the cleared heap.
use mathlib.Core.Path.{refl, sym, ap, ◌∙◌}
use Rattle.types.proofs.Refused.{number_ne0}
use Rattle.rules_calls.specs.Calls.{freeing, outcome}
use Rattle.types.specs.declared.Reply.{Reply}
use Rattle.test_arguments.proofs.ArgumentTests.{goes_on, return_tested}
use Rattle.test_calls.proofs.ClearedHeap.{cleared_usable, worked_back}
use Rattle.public_store.proofs.return_roots.Goals as goal

pub returns-in-Err : goal.returns-in-Err
returns-in-Err c = rw c.into.ensures (c.in-Err.ensures.refused (number_ne0 _))

pub clear_roots-requires : goal.clear_roots-requires
clear_roots-requires c = (
  cleared_usable (c.in_default.ensures.fit refl) c.clear_all.ensures,
  ap (λ (y : Reply). y.number) (sym (c.in_default.ensures.tested refl)) ∙ refl,
)

pub returns : goal.returns
unfolding freeing outcome
returns c =
    worked_back (c.in_default.ensures.fit refl) c.clear_all.ensures refl
    (goes_on (return_tested (c.in_default.ensures.tested refl)) refl) refl c.clear_roots.ensures c.into-2.ensures
