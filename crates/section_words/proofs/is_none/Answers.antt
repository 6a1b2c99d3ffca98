-- `is_none` meets its contract: an or that is 0 is one of zeros.
use mathlib.Core.Path.{◌≡◌}
use Prim.Native.Nat.{ℕ}
use native.Mathlib.Omega.{arith}
use lib.Bits.{bit_or, or_add_and}
use borrow.Author.Tests.{eqb-true, eqb-false}
use Rattle.bitmap.proofs.Digits.{or_none}
use Rattle.section_words.proofs.is_none.Goals as goal

of-zeros : (a b : ℕ) → a ≡ 0 → b ≡ 0 → bit_or a b ≡ 0
of-zeros a b e f = omega (arith, or_add_and a b)

pub returns : goal.returns
returns c = (
  λ e.
      let three = or_none _ _ (eqb-true _ _ e) in
      let two = or_none _ _ three.0 in
      let one = or_none _ _ two.0 in
      (one.0, one.1, two.1, three.1),
  λ e zero. eqb-false _ _ e (of-zeros _ _ (of-zeros _ _ (of-zeros _ _ zero.0 zero.1) zero.2) zero.3),
)
