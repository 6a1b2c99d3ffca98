-- The counts of eight blocks at once, by the bytes of the maps: which are 0, and which have every bit 1.
use mathlib.Core.Path.{◌≡◌, sym, ap, ◌∙◌}
use mathlib.Core.List.{List}
use Prim.Native.Nat.{ℕ, ◌+◌, ◌-◌, ◌*◌, ◌^◌, ◌<◌, min, max}
use native.Mathlib.Nat.{pow-suc}
use native.Mathlib.Numerals.{add-one}
use native.Mathlib.Decide.{ℕ_discrete}
use native.Mathlib.Omega.{arith}
use lib.Bits.{bit_and, bit_or}
use lib.Dec.{eqb}
use lib.ListN.{get_or}
use lib.Pow.{pow_pos}
use borrow.Author.Tests.{eq-eqb, ne_eqb, eqb-true}
use Rattle.bitmap.specs.Bit.{bit_of, bit_at}
use Rattle.bitmap.proofs.Bits.{bit_lt, bit_zero, bit_ones}
use Rattle.bitmap.proofs.Digits.{each_bit, digit_and, digit_or}
use Rattle.bitmap.proofs.Maps.{bit_of_byte, bit_at_lt}
use Rattle.planes.specs.Plane.{plane_bit, count_at}
use Rattle.planes.proofs.Counts.{count_more, count_lt}

-- two tests of numbers are the same where each number passes with the other
pub same_test : (x y u v : ℕ) → (x ≡ y → u ≡ v) → (u ≡ v → x ≡ y) → eqb x y ≡ eqb u v
same_test x y u v f g = elim (ℕ_discrete x y) [
  | yes e ↦ eq-eqb x y e ∙ sym (eq-eqb u v (f e))
  | no n ↦ ne_eqb x y n ∙ sym (ne_eqb u v (λ e. n (g e)))
]

pub test_to : (x y u v : ℕ) → eqb x y ≡ eqb u v → x ≡ y → u ≡ v
test_to x y u v t e = eqb-true u v (sym t ∙ eq-eqb x y e)

pub test_from : (x y u v : ℕ) → eqb x y ≡ eqb u v → u ≡ v → x ≡ y
test_from x y u v t e = eqb-true x y (t ∙ eq-eqb u v e)

module _ (counts : List ℕ) (bytes k : ℕ) where
  -- bit s of the byte of map p is the bit of block 8 k + s
  byte_bit : (p s : ℕ) → s < 8 → bit_of (get_or counts (p * bytes + k) 0) s ≡ bit_at counts (plane_bit bytes p (8 * k + s))
  byte_bit p s l =
      let place : 8 * (p * bytes + k) + s ≡ plane_bit bytes p (8 * k + s) = omega arith in
      sym (bit_of_byte counts (p * bytes + k) s l) ∙ ap (bit_at counts) place

  -- the digits of x are 1 where the count by the first p maps is not 0
  abbrev pub SomeEight : ℕ → ℕ → Type 0
  SomeEight p x = (s : ℕ) → s < 8 → eqb (bit_of x s) 0 ≡ eqb (count_at bytes p counts (8 * k + s)) 0

  pub some_start : SomeEight 0 0
  unfolding count_at
  some_start s l = ap (λ (d : ℕ). eqb d 0) (bit_zero s)

  pub some_more : (p x : ℕ) → SomeEight p x → SomeEight (p + 1) (bit_or x (get_or counts (p * bytes + k) 0))
  some_more p x h s l =
      let d : ℕ = bit_of x s in
      let c : ℕ = count_at bytes p counts (8 * k + s) in
      let b : ℕ = bit_at counts (plane_bit bytes p (8 * k + s)) in
      ap (λ (y : ℕ). eqb y 0) (digit_or x (get_or counts (p * bytes + k) 0) s ∙ ap (max d) (byte_bit p s l))
      ∙ go d c b (bit_at_lt counts (plane_bit bytes p (8 * k + s))) (h s l)
      ∙ ap (λ (y : ℕ). eqb y 0) (count_more bytes p counts (8 * k + s))
    where
      go : (d c b : ℕ) → b < 2 → eqb d 0 ≡ eqb c 0 → eqb (max d b) 0 ≡ eqb (c + b * 2 ^ p) 0
      go d c b lt t =
          each_bit (λ (y : ℕ). eqb (max d y) 0 ≡ eqb (c + y * 2 ^ p) 0)
          (same_test (max d 0) 0 (c + 0 * 2 ^ p) 0
          (λ e. omega (arith, test_to d 0 c 0 t (omega arith)))
          (λ e. omega (arith, test_from d 0 c 0 t (omega arith))))
          (same_test (max d 1) 0 (c + 1 * 2 ^ p) 0 (λ e. absurd (omega arith)) (λ e. absurd (omega (arith, pow_pos p))))
          b lt

  -- the digits of x are 1 where the count by the first p maps has every bit 1
  abbrev pub FullEight : ℕ → ℕ → Type 0
  FullEight p x = (s : ℕ) → s < 8 → eqb (bit_of x s) 1 ≡ eqb (count_at bytes p counts (8 * k + s)) (2 ^ p - 1)

  pub full_start : FullEight 0 255
  unfolding count_at
  full_start s l = ap (λ (d : ℕ). eqb d 1) (bit_ones 8 s l)

  pub full_more : (p x : ℕ) → FullEight p x → FullEight (p + 1) (bit_and x (get_or counts (p * bytes + k) 0))
  full_more p x h s l =
      let d : ℕ = bit_of x s in
      let c : ℕ = count_at bytes p counts (8 * k + s) in
      let b : ℕ = bit_at counts (plane_bit bytes p (8 * k + s)) in
      let top : 2 ^ (p + 1) ≡ 2 ^ p * 2 = ap (λ (y : ℕ). 2 ^ y) (add-one p) ∙ pow-suc 2 p in
      ap (λ (y : ℕ). eqb y 1) (digit_and x (get_or counts (p * bytes + k) 0) s ∙ ap (min d) (byte_bit p s l))
      ∙ go d c b (bit_lt x s) (count_lt bytes p counts (8 * k + s)) (bit_at_lt counts (plane_bit bytes p (8 * k + s))) (h s l) (2 ^ (p + 1)) top
      ∙ ap (λ (y : ℕ). eqb y (2 ^ (p + 1) - 1)) (count_more bytes p counts (8 * k + s))
    where
      go : (d c b : ℕ) → d < 2 → c < 2 ^ p → b < 2 → eqb d 1 ≡ eqb c (2 ^ p - 1)
          → (most : ℕ) → most ≡ 2 ^ p * 2 → eqb (min d b) 1 ≡ eqb (c + b * 2 ^ p) (most - 1)
      go d c b small less lt t most top =
          each_bit (λ (y : ℕ). eqb (min d y) 1 ≡ eqb (c + y * 2 ^ p) (most - 1))
          (same_test (min d 0) 1 (c + 0 * 2 ^ p) (most - 1) (λ e. absurd (omega arith)) (λ e. absurd (omega arith)))
          (same_test (min d 1) 1 (c + 1 * 2 ^ p) (most - 1)
          (λ e. omega (arith, test_to d 1 c (2 ^ p - 1) t (omega arith)))
          (λ e. omega (arith, test_from d 1 c (2 ^ p - 1) t (omega arith))))
          b lt
