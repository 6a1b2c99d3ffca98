-- The tests of a copy, one after the other.
use mathlib.Core.Path.{◌≡◌, sym, ap, ◌∙◌}
use mathlib.Core.Logic.{◌≢◌}
use mathlib.Core.Bool.{Bool, true, false, ◌&&◌}
use Prim.Native.Nat.{ℕ}
use native.Mathlib.Omega.{arith}
use lib.Dec.{eqb}
use lib.ListN.{length}
use borrow.Author.Tests.{ne_eqb}
use Rattle.types.specs.declared.Reply.{Reply}
use Rattle.rules.specs.Heap.{Memory, shaped}
use Rattle.rules_calls.specs.Calls.{collect, copy_from, other_shaped, reply}
use Rattle.rules_calls.specs.Promise.{Promise}
use Rattle.rules.proofs.Tests.{false_and}
use Rattle.test_arguments.specs.Replies.{shut_test}
use Rattle.test_calls.specs.Gated.{Gated}
use Rattle.test_calls.proofs.CheckAtGate.{gate_none_open}
use Rattle.refinement_copy.proofs.CopyAnswer.{copy_misshapen, copy_refused}
use Rattle.public_copy.specs.Gated.{CopyGated}

module _ {N w : ℕ} {h : Memory} {M v : ℕ} {rightShape : Bool} {rootCount : ℕ} {x : Reply} where
  -- 1, whatever the test that fails
  refused_one : x ≡ reply 1 0 0
      → ((g : Memory) → shaped M v g ≡ rightShape → length g.roots ≡ rootCount → Promise M v (copy_from N w h) g x g)
      → CopyGated N w h M v rightShape rootCount x
  refused_one is promise =
      let one : x.number ≡ 1 = ap (λ (y : Reply). y.number) is in
      record {
        refused = λ _. promise;
        fit = λ z. absurd (omega arith);
        shut = λ z. absurd (omega arith);
        fits = λ z. absurd (omega arith);
        as_many = λ z. absurd (omega arith);
      }

  pub gate_misshapen : rightShape ≡ false → x ≡ reply 1 0 0 → CopyGated N w h M v rightShape rootCount x
  gate_misshapen fails is =
      refused_one is
      (λ g shape roots. copy_misshapen (false_and (other_shaped g (copy_from N w h)) (shaped M v g) (λ _. shape ∙ fails)) is)

  pub gate_other_roots : length h.roots ≢ rootCount → x ≡ reply 1 0 0 → CopyGated N w h M v rightShape rootCount x
  gate_other_roots other is =
      refused_one is
      (λ g shape roots.
      let differ : eqb (length g.roots) (length h.roots) ≡ false =
      ne_eqb (length g.roots) (length h.roots) (λ e. other (sym e ∙ roots)) in
      copy_misshapen
      (first_false (other_shaped g (copy_from N w h)) (shaped M v g) (false_and (shaped N w h) (eqb (length g.roots) (length h.roots)) (λ _. differ))) is)
    where
      first_false : (s t : Bool) → s ≡ false → s && t ≡ false
      first_false s t e = rw e

  pub gate_tested : rightShape ≡ true → length h.roots ≡ rootCount → Gated N w collect h x (shut_test N h.list) → CopyGated N w h M v rightShape rootCount x
  gate_tested right as_many gated =
      record {
        refused = λ fails g shape roots. copy_refused (shape ∙ right) (as_many ∙ sym roots) (gated.refused fails) fails;
        fit = gated.fit;
        shut = λ z. gate_none_open N h.list (gated.tested z) z;
        fits = λ _. right;
        as_many = λ _. as_many;
      }
