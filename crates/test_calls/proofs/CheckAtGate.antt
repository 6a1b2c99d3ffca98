-- Laws of a gate: a call that the check refuses is refused alike, and what passes it is undamaged; and what the gates of the calls that collect
-- say of an open collection.
use mathlib.Core.Path.{◌≡◌}
use mathlib.Core.Bool.{true, false}
use mathlib.Core.List.{List, []}
use Prim.Native.Nat.{ℕ}
use Rattle.rules.specs.Heap.{Memory, lent_memory}
use Rattle.rules_steps.specs.Steps.{is_open}
use Rattle.rules_calls.specs.Calls.{Call, check}
use Rattle.rules_calls.specs.Promise.{Promise}
use Rattle.types.specs.declared.Reply.{Reply}
use Rattle.theory_memories.proofs.Memories.Fit.{Fit, undamaged_fit}
use Rattle.test_arguments.specs.Replies.{shut_test, open_test}
use Rattle.test_arguments.proofs.ArgumentTests.{collect_tested, step_tested, none_open, one_open}
use Rattle.public_read.proofs.CheckReply.{TestsOne, refused_alike, checked_fit}
use Rattle.test_calls.specs.Gated.{Gated}

module _ {N w : ℕ} {h : Memory} {y : Reply} (checked : Promise N w check h y h) where
  pub checked_passed : y.number ≡ 0 → Fit N w h
  checked_passed accepts = undamaged_fit N w h (checked_fit checked accepts)

  -- the check refuses
  pub gate_shut :
      (y.number ≡ 0 → ⊥) → {c : Call} → TestsOne c → {test : Reply} → Gated N w c h y test
  gate_shut fails tests =
      record {
        refused = refused_alike tests checked;
        fit = λ accepts. absurd (fails accepts);
        tested = λ accepts. absurd (fails accepts);
      }

  -- it accepts, and x is what the call's own test answers
  pub gate_open :
      y.number ≡ 0 → {c : Call} {x test : Reply} → x ≡ test → (Fit N w h → (x.number ≡ 0 → ⊥) → Promise N w c h x h)
      → Gated N w c h x test
  gate_open accepts is_test refuses =
      record {
        refused = refuses (checked_passed accepts);
        fit = λ _. checked_fit checked accepts;
        tested = λ _. is_test;
      }

-- ---- whether a collection is open (request U8): `is_open` of any heap with this list

-- a memory of nothing but a second list
abbrev listed : List ℕ → Memory
listed list = lent_memory [] [] [] [] [] [] [] [] [] list

pub gate_none_open : (N : ℕ) (list : List ℕ) {x : Reply} → x ≡ shut_test N list → x.number ≡ 0 → is_open N (listed list) ≡ false
gate_none_open N list tested accepts = none_open (collect_tested {h = listed list} tested) accepts

pub gate_one_open : (N : ℕ) (list : List ℕ) {x : Reply} → x ≡ open_test N list → x.number ≡ 0 → is_open N (listed list) ≡ true
gate_one_open N list tested accepts = one_open (step_tested {h = listed list} {budget = 0} tested) accepts
