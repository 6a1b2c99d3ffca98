-- Laws of the digits of a number under the machine's operations: and, or, xor, not, shifts, and the count of trailing zeros.
-- With them eight blocks are looked at in one byte.
use mathlib.Core.Path.{◌≡◌, refl, sym, ap, ◌∙◌, subst}
use mathlib.Core.Logic.{◌≢◌}
use Prim.Native.Nat.{ℕ, zero, suc, ◌+◌, ◌-◌, ◌*◌, ◌/◌, ◌%◌, ◌^◌, ◌≤◌, ◌<◌, min, max}
use native.Mathlib.Nat.{zero-add, div-eq_of_lt, pow-suc, le_of_suc-le-suc, not-suc-le-zero}
use native.Mathlib.Decide.{ℕ_discrete}
use native.Mathlib.Omega.{arith}
use lib.Bits.{bit_and, bit_or, bit_xor, differ, and_step, or_step, xor_step, and_shr, or_shr, xor_shr, and_le_l, and_le_r, or_add_and, and_self}
use lib.Count.{count_trailing_zeros}
use lib.Pow.{pow_pos, shl-shr, split}
use Rattle.bitmap.specs.Bit.{bit_of, put_bit}
use Rattle.bitmap.proofs.Bits.{bit_suc, bit_below, bit_from, bit_zero, bits_past, bits_ext, put_zero, put_suc}

-- ---- a digit is 0 or 1

pub each_bit : (P : ℕ → Type 0) → P 0 → P 1 → (x : ℕ) → x < 2 → P x
each_bit P p q zero h = p
each_bit P p q (suc zero) h = q
each_bit P p q (suc (suc x)) h = absurd (omega arith)

-- ---- two numbers

and_odd : (a b : ℕ) → bit_and a b % 2 ≡ min (a % 2) (b % 2)
and_odd a b = omega (arith, and_step a b)

or_odd : (a b : ℕ) → bit_or a b % 2 ≡ max (a % 2) (b % 2)
or_odd a b = omega (arith, or_step a b)

pub digit_and : (a b k : ℕ) → bit_of (bit_and a b) k ≡ min (bit_of a k) (bit_of b k)
digit_and a b k = ap (λ (x : ℕ). x % 2) (and_shr a b k) ∙ and_odd (a / 2 ^ k) (b / 2 ^ k)

pub digit_or : (a b k : ℕ) → bit_of (bit_or a b) k ≡ max (bit_of a k) (bit_of b k)
digit_or a b k = ap (λ (x : ℕ). x % 2) (or_shr a b k) ∙ or_odd (a / 2 ^ k) (b / 2 ^ k)

differ_bits : (x y : ℕ) → x < 2 → y < 2 → differ x y ≡ (x + y) % 2
differ_bits zero zero p q = refl
differ_bits zero (suc zero) p q = refl
differ_bits (suc zero) zero p q = refl
differ_bits (suc zero) (suc zero) p q = refl
differ_bits zero (suc (suc y)) p q = absurd (omega arith)
differ_bits (suc zero) (suc (suc y)) p q = absurd (omega arith)
differ_bits (suc (suc x)) y p q = absurd (omega arith)

xor_odd : (a b : ℕ) → bit_xor a b % 2 ≡ (a % 2 + b % 2) % 2
xor_odd a b = omega (arith, xor_step a b, differ_bits (a % 2) (b % 2) (omega arith) (omega arith))

pub digit_xor : (a b k : ℕ) → bit_of (bit_xor a b) k ≡ (bit_of a k + bit_of b k) % 2
digit_xor a b k = ap (λ (x : ℕ). x % 2) (xor_shr a b k) ∙ xor_odd (a / 2 ^ k) (b / 2 ^ k)

-- ---- an or is 0 where both numbers are, of whatever width

pub or_none : (a b : ℕ) → bit_or a b ≡ 0 → (a ≡ 0) × (b ≡ 0)
or_none a b e =
    let sum = or_add_and a b in
    let one = and_le_l a b in
    let two = and_le_r a b in
    (omega arith, omega arith)

pub or_some : (a b : ℕ) → a ≢ 0 → bit_or a b ≢ 0
or_some a b n e = n (or_none a b e).0

pub or_other : (a b : ℕ) → b ≢ 0 → bit_or a b ≢ 0
or_other a b n e = n (or_none a b e).1

-- ---- not

pub digit_not : (n a k : ℕ) → a < 2 ^ n → k < n → bit_of (2 ^ n - 1 - a) k ≡ 1 - bit_of a k
digit_not zero a k h l = absurd (not-suc-le-zero l)
digit_not (suc n) a zero h l = omega (arith, pow-suc 2 n, pow_pos n)
digit_not (suc n) a (suc k) h l =
    let half : (2 ^ suc n - 1 - a) / 2 ≡ 2 ^ n - 1 - a / 2 = omega (arith, pow-suc 2 n, pow_pos n) in
    let less : a / 2 < 2 ^ n = omega (arith, pow-suc 2 n) in
    bit_suc (2 ^ suc n - 1 - a) k ∙ ap (λ (x : ℕ). bit_of x k) half ∙ digit_not n (a / 2) k less (le_of_suc-le-suc l)
    ∙ ap (λ (x : ℕ). 1 - x) (sym (bit_suc a k))

-- ---- shifts

-- what lies past place n does not matter below it
pub digit_mod : (x n k : ℕ) → k < n → bit_of (x % 2 ^ n) k ≡ bit_of x k
digit_mod x n k l =
    let whole : x ≡ x % 2 ^ n + x / 2 ^ n * 2 ^ n = omega (arith, split x n) in
    sym (ap (λ (y : ℕ). bit_of y k) whole ∙ bit_below (x % 2 ^ n) (x / 2 ^ n) n k l)

-- to the left: zeros come in below ..
pub digit_shl_low : (x s k : ℕ) → k < s → bit_of (x * 2 ^ s) k ≡ 0
digit_shl_low x s k l = ap (λ (y : ℕ). bit_of y k) (sym (zero-add (x * 2 ^ s))) ∙ bit_below 0 x s k l ∙ bit_zero k

-- .. and the rest moves up
pub digit_shl : (x s k : ℕ) → bit_of (x * 2 ^ s) (s + k) ≡ bit_of x k
digit_shl x s k = bit_from (x * 2 ^ s) s k ∙ ap (λ (y : ℕ). bit_of y k) (shl-shr x s)

-- ---- none and some

pub digits_none : (n x : ℕ) → x < 2 ^ n → ((k : ℕ) → k < n → bit_of x k ≡ 0) → x ≡ 0
digits_none n x h all = bits_ext n x 0 h (pow_pos n) (λ k l. all k l ∙ sym (bit_zero k))

pub digit_past : (n x k : ℕ) → x < 2 ^ n → n ≤ k → bit_of x k ≡ 0
digit_past n x k h l = bits_past x n k (div-eq_of_lt h) l

-- ---- trailing zeros

pub trailing_even : (n x : ℕ) → x % 2 ≡ 0 → count_trailing_zeros (suc n) x ≡ suc (count_trailing_zeros n (x / 2))
unfolding count_trailing_zeros
trailing_even n x e = rw (e, count_trailing_zeros)

pub trailing_odd : (n x : ℕ) → x % 2 ≡ 1 → count_trailing_zeros (suc n) x ≡ 0
unfolding count_trailing_zeros
trailing_odd n x e = rw (e, count_trailing_zeros)

-- t is the place of the lowest 1 of x, a number of n digits
pub record Lowest (n x t : ℕ) : Type 0 where
  pub inside : t < n
  pub here : bit_of x t ≡ 1
  pub below : (s : ℕ) → s < t → bit_of x s ≡ 0

lowest_up : (n x t : ℕ) → x % 2 ≡ 0 → Lowest n (x / 2) t → Lowest (suc n) x (suc t)
lowest_up n x t e low = record { inside = omega (arith, low.inside); here = bit_suc x t ∙ low.here; below = below }
  where
    below : (s : ℕ) → s < suc t → bit_of x s ≡ 0
    below zero l = omega arith
    below (suc s) l = bit_suc x s ∙ low.below s (le_of_suc-le-suc l)

-- a number that is not 0 has it where the zeros end
pub trailing_lowest : (n x : ℕ) → x < 2 ^ n → x ≢ 0 → Lowest n x (count_trailing_zeros n x)
trailing_lowest zero x h some = absurd (some (omega arith))
trailing_lowest (suc n) x h some = elim (ℕ_discrete (x % 2) 1) [
  | yes e ↦
      subst (Lowest (suc n) x) (sym (trailing_odd n x e))
      (record { inside = omega arith; here = omega arith; below = λ s l. absurd (omega arith) })
  | no d ↦
      let even : x % 2 ≡ 0 = omega arith in
      let half : x / 2 < 2 ^ n = omega (arith, pow-suc 2 n) in
      subst (Lowest (suc n) x) (sym (trailing_even n x even))
      (lowest_up n x (count_trailing_zeros n (x / 2)) even (trailing_lowest n (x / 2) half (omega arith)))
]

-- `x & (x - 1)` is x without its lowest 1
pub clear_lowest : (n x : ℕ) → x < 2 ^ n → x ≢ 0 → bit_and x (x - 1) ≡ put_bit x (count_trailing_zeros n x) 0
clear_lowest zero x h some = absurd (some (omega arith))
clear_lowest (suc n) x h some = elim (ℕ_discrete (x % 2) 1) [
  | yes e ↦
      let same : (x - 1) / 2 ≡ x / 2 = omega arith in
      let both : bit_and (x / 2) ((x - 1) / 2) ≡ x / 2 = ap (bit_and (x / 2)) same ∙ and_self (x / 2) in
      let gone : bit_and x (x - 1) ≡ x / 2 * 2 + 0 = omega (arith, and_step x (x - 1)) in
      gone ∙ sym (put_zero x 0) ∙ ap (λ (t : ℕ). put_bit x t 0) (sym (trailing_odd n x e))
  | no d ↦
      let even : x % 2 ≡ 0 = omega arith in
      let half : x / 2 < 2 ^ n = omega (arith, pow-suc 2 n) in
      let less : (x - 1) / 2 ≡ x / 2 - 1 = omega arith in
      let t : ℕ = count_trailing_zeros n (x / 2) in
      let up : bit_and (x / 2) ((x - 1) / 2) ≡ put_bit (x / 2) t 0 =
      ap (bit_and (x / 2)) less ∙ clear_lowest n (x / 2) half (omega arith) in
      let gone : bit_and x (x - 1) ≡ put_bit (x / 2) t 0 * 2 + x % 2 = omega (arith, and_step x (x - 1)) in
      gone ∙ sym (put_suc x t 0) ∙ ap (λ (k : ℕ). put_bit x k 0) (sym (trailing_even n x even))
]
