-- The blocks at which unmarked objects start, as the bits of a byte; and a search for the next one, by the rest of a byte.
use mathlib.Core.Path.{◌≡◌, refl, sym, ap, ap₂, ◌∙◌}
use mathlib.Core.Logic.{◌≢◌}
use mathlib.Core.Bool.{Bool, true, false, not, ◌&&◌}
use Prim.Native.Nat.{ℕ, ◌+◌, ◌-◌, ◌*◌, ◌/◌, ◌%◌, ◌^◌, ◌≤◌, ◌<◌, min}
use native.Mathlib.Decide.{dec_lt}
use native.Mathlib.Omega.{arith}
use lib.Bits.{bit_and}
use lib.Count.{count_trailing_zeros}
use lib.Dec.{eqb}
use lib.Pow.{shr_le}
use borrow.Author.Tests.{eq-eqb, ne_eqb}
use Rattle.bitmap.specs.Bit.{bit_of}
use Rattle.bitmap.proofs.Bits.{bit_lt, bit_from, bit_zero}
use Rattle.bitmap.proofs.Digits.{each_bit, digit_and, digit_not, digit_past, trailing_lowest}
use Rattle.rules.specs.Heap.{Memory, is_first, count_of}
use Rattle.rules.proofs.Stretches.{EightTests}
use Rattle.collect_sweep.specs.Sweep.{is_unmarked}

-- ---- eight blocks

-- the bits of first blocks without those of counts that are not 0
pub eight_unmarked : (N w : ℕ) (h : Memory) (k first some : ℕ) → some < 256 → EightTests (is_first N h) k first
    → ((s : ℕ) → s < 8 → eqb (bit_of some s) 0 ≡ eqb (count_of N w h (8 * k + s)) 0)
    → EightTests (is_unmarked N w h) k (bit_and first (255 - some))
unfolding is_unmarked
eight_unmarked N w h k first some small firsts somes s l =
    ap₂ ◌&&◌ (firsts s l) (sym (somes s l))
    ∙ each_bit (λ (x : ℕ). (not (eqb x 0) && eqb (bit_of some s) 0) ≡ not (eqb (min x (1 - bit_of some s)) 0))
    (each_bit (λ (y : ℕ). (not (eqb 0 0) && eqb y 0) ≡ not (eqb (min 0 (1 - y)) 0)) refl refl (bit_of some s) (bit_lt some s))
    (each_bit (λ (y : ℕ). (not (eqb 1 0) && eqb y 0) ≡ not (eqb (min 1 (1 - y)) 0)) refl refl (bit_of some s) (bit_lt some s))
    (bit_of first s) (bit_lt first s)
    ∙ ap (λ (x : ℕ). not (eqb x 0))
    (ap (min (bit_of first s)) (sym (digit_not 8 some s small l)) ∙ sym (digit_and first (255 - some) s))

-- ---- the rest of a byte

-- what the byte x says of block `at` and of those behind it
abbrev pub rest_at : ℕ → ℕ → ℕ
rest_at x at = x / 2 ^ (at % 8)

module _ (test : ℕ → Bool) (at x : ℕ) (small : x < 256) (eight : EightTests test (at / 8) x) where
  rest_digit : (s : ℕ) → at % 8 + s < 8 → test (at + s) ≡ not (eqb (bit_of (rest_at x at) s) 0)
  rest_digit s l =
      let here : at + s ≡ 8 * (at / 8) + (at % 8 + s) = omega arith in
      ap test here ∙ eight (at % 8 + s) l ∙ ap (λ (y : ℕ). not (eqb y 0)) (bit_from x (at % 8) s)

  rest_lt : rest_at x at < 256
  rest_lt = omega (arith, shr_le x (at % 8))

  digit_none : (j : ℕ) → at ≤ j → at % 8 + (j - at) < 8 → bit_of (rest_at x at) (j - at) ≡ 0 → test j ≡ false
  digit_none j l inside digit =
      let there : j ≡ at + (j - at) = omega arith in
      ap test there ∙ rest_digit (j - at) inside ∙ ap not (eq-eqb (bit_of (rest_at x at) (j - at)) 0 digit)

  -- nothing: the test fails in what is left of the byte
  pub rest_none : rest_at x at ≡ 0 → (j : ℕ) → at ≤ j → j < at + (8 - at % 8) → test j ≡ false
  rest_none none j l u =
      digit_none j l (omega arith) (ap (λ (y : ℕ). bit_of y (j - at)) none ∙ bit_zero (j - at))

  -- something: the test passes first at its lowest 1
  module _ (some : rest_at x at ≢ 0) where
    pub rest_inside : at % 8 + count_trailing_zeros 8 (rest_at x at) < 8
    rest_inside =
        let low = trailing_lowest 8 (rest_at x at) rest_lt some in
        let t : ℕ = count_trailing_zeros 8 (rest_at x at) in
        elim (dec_lt (at % 8 + t) 8) [
          | yes s ↦ s
          | no s ↦ absurd (omega (arith, low.here, bit_from x (at % 8) t, digit_past 8 x (at % 8 + t) small (omega arith)))
        ]

    pub rest_here : test (at + count_trailing_zeros 8 (rest_at x at)) ≡ true
    rest_here =
        let low = trailing_lowest 8 (rest_at x at) rest_lt some in
        let t : ℕ = count_trailing_zeros 8 (rest_at x at) in
        rest_digit t rest_inside ∙ ap not (ne_eqb (bit_of (rest_at x at) t) 0 (λ e. omega (arith, low.here)))

    pub rest_before : (j : ℕ) → at ≤ j → j < at + count_trailing_zeros 8 (rest_at x at) → test j ≡ false
    rest_before j l u =
        let low = trailing_lowest 8 (rest_at x at) rest_lt some in
        digit_none j l (omega (arith, rest_inside)) (low.below (j - at) (omega arith))
