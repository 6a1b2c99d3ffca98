-- Laws of the number of blocks from one to the first 0 of the B-map: `size_from`.
use mathlib.Core.Path.{◌≡◌, refl, sym, ap, ◌∙◌}
use mathlib.Core.Logic.{◌≢◌}
use mathlib.Core.List.{List}
use Prim.Native.Nat.{ℕ, zero, suc, ◌+◌, ◌-◌, ◌*◌, ◌/◌, ◌%◌, ◌^◌, ◌≤◌, ◌<◌, min}
use native.Mathlib.Decide.{dec_lt}
use native.Mathlib.Omega.{arith}
use lib.Count.{count_trailing_zeros}
use lib.ListN.{get_or}
use lib.Pow.{shr_le}
use Rattle.bitmap.specs.Bit.{bit_of, bit_at}
use Rattle.bitmap.proofs.Bits.{bit_from, bit_zero}
use Rattle.bitmap.proofs.Digits.{digit_not, digit_past, trailing_lowest}
use Rattle.bitmap.proofs.Maps.{bit_at_lt, bit_of_byte}
use Rattle.rules.proofs.Objects as rules
use Rattle.rules.specs.Heap.{size_from}

-- ---- by bytes

-- every B bit from i to the end is 1
pub size_full : (n : ℕ) (b : List ℕ) (i : ℕ) → ((j : ℕ) → i ≤ j → j < i + n → bit_at b j ≡ 1) → size_from n b i ≡ n
unfolding size_from
size_full zero b i h = refl
size_full (suc n) b i h =
    rules.size_next n b i (h i (omega arith) (omega arith))
    ∙ ap suc (size_full n b (i + 1) (λ j l u. h j (omega arith) (omega arith)))

-- the B bits from i to before `at` are 1
abbrev pub Inner : List ℕ → ℕ → ℕ → Type 0
Inner b i at = (j : ℕ) → i ≤ j → j < at → bit_at b j ≡ 1

-- what is not in the byte of block `at`, from that block on
abbrev pub rest_at : List ℕ → ℕ → ℕ
rest_at b at = (255 - get_or b (at / 8) 0) / 2 ^ (at % 8)

module _ (b : List ℕ) (at : ℕ) (byte : get_or b (at / 8) 0 < 256) where
  -- its digit s is 1 where block at + s has B bit 0
  rest_digit : (s : ℕ) → at % 8 + s < 8 → bit_of (rest_at b at) s ≡ 1 - bit_at b (at + s)
  rest_digit s l =
      let here : at + s ≡ 8 * (at / 8) + (at % 8 + s) = omega arith in
      sym (bit_from (255 - get_or b (at / 8) 0) (at % 8) s)
      ∙ digit_not 8 (get_or b (at / 8) 0) (at % 8 + s) byte l
      ∙ ap (λ (x : ℕ). 1 - x) (sym (ap (bit_at b) here ∙ bit_of_byte b (at / 8) (at % 8 + s) l))

  pub rest_lt : rest_at b at < 256
  rest_lt = omega (arith, shr_le (255 - get_or b (at / 8) 0) (at % 8))

  -- nothing: the byte is passed
  pub rest_none : (i : ℕ) → Inner b i at → rest_at b at ≡ 0 → Inner b i (at + (8 - at % 8))
  rest_none i inner none j l u = elim (dec_lt j at) [
    | yes s ↦ inner j l s
    | no s ↦
        let there : at + (j - at) ≡ j = omega arith in
        let digit : bit_of (rest_at b at) (j - at) ≡ 0 = ap (λ (x : ℕ). bit_of x (j - at)) none ∙ bit_zero (j - at) in
        omega (arith, rest_digit (j - at) (omega arith), ap (bit_at b) there, bit_at_lt b j)
  ]

  -- something: its lowest 1 is the first 0 of the B-map
  pub rest_inside : rest_at b at ≢ 0 → at % 8 + count_trailing_zeros 8 (rest_at b at) < 8
  rest_inside some =
      let low = trailing_lowest 8 (rest_at b at) rest_lt some in
      let t : ℕ = count_trailing_zeros 8 (rest_at b at) in
      elim (dec_lt (at % 8 + t) 8) [
        | yes s ↦ s
        | no s ↦
            absurd (omega (
              arith,
              low.here,
              bit_from (255 - get_or b (at / 8) 0) (at % 8) t,
              digit_past 8 (255 - get_or b (at / 8) 0) (at % 8 + t) (omega arith) (omega arith),
            ))
      ]

  pub rest_end : rest_at b at ≢ 0 → bit_at b (at + count_trailing_zeros 8 (rest_at b at)) ≡ 0
  rest_end some =
      let low = trailing_lowest 8 (rest_at b at) rest_lt some in
      let t : ℕ = count_trailing_zeros 8 (rest_at b at) in
      omega (arith, low.here, rest_digit t (rest_inside some), bit_at_lt b (at + t))

  pub rest_inner : (i : ℕ) → Inner b i at → rest_at b at ≢ 0 → Inner b i (at + count_trailing_zeros 8 (rest_at b at))
  rest_inner i inner some j l u = elim (dec_lt j at) [
    | yes s ↦ inner j l s
    | no s ↦
        let low = trailing_lowest 8 (rest_at b at) rest_lt some in
        let there : at + (j - at) ≡ j = omega arith in
        let inside : at % 8 + (j - at) < 8 = omega (arith, rest_inside some) in
        omega (arith, low.below (j - at) (omega arith), rest_digit (j - at) inside, ap (bit_at b) there, bit_at_lt b j)
  ]

-- the size, where there is no 0 from i on inside of the heap
pub size_open : (N : ℕ) (b : List ℕ) (i last : ℕ) → i ≤ N → N ≤ last → Inner b i last → N - i ≡ size_from (N - i) b i
size_open N b i last l u inner = sym (size_full (N - i) b i (λ j p q. inner j p (omega arith)))

-- the size, where the first 0 from i on stands at `last`, if it is inside of the heap, or where there is none
pub size_to : (N : ℕ) (b : List ℕ) (i last : ℕ) → i ≤ last → i < N → Inner b i last → bit_at b last ≡ 0
    → min last (N - 1) + 1 - i ≡ size_from (N - i) b i
size_to N b i last l u inner e = elim (dec_lt last N) [
  | yes s ↦
      let there : i + (last - i) ≡ last = omega arith in
      let size = rules.size_is (N - i) b i (last - i) (omega arith) (λ j p q. inner j p (omega arith)) (ap (bit_at b) there ∙ e) in
      omega arith
  | no s ↦ omega (arith, size_open N b i last (omega arith) (omega arith) inner)
]
