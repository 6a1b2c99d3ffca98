-- Kind 3 within a byte: objects of up to four blocks are told by its bits.
use mathlib.Core.Path.{◌≡◌, refl, sym, ap, ap₂, ◌∙◌}
use mathlib.Core.Logic.{◌≢◌}
use mathlib.Core.Bool.{true}
use mathlib.Core.List.{List}
use Prim.Native.Nat.{ℕ, zero, suc, ◌+◌, ◌-◌, ◌*◌, ◌/◌, ◌%◌, ◌^◌, ◌≤◌, ◌<◌, min, max}
use native.Mathlib.Decide.{ℕ_discrete}
use native.Mathlib.Omega.{arith}
use lib.Bits.{bit_and, bit_or, and_le_r, or_lt}
use lib.Count.{count_trailing_zeros}
use lib.ListN.{get_or}
use lib.Pow.{mod-mod-pow}
use borrow.Author.Tests.{eq-eqb, ne_eqb}
use Rattle.bitmap.specs.Bit.{bit_of, bit_at}
use Rattle.bitmap.proofs.Bits.{bit_lt, bit_zero, bit_from}
use Rattle.bitmap.proofs.Digits.{digit_and, digit_or, trailing_lowest}
use Rattle.bitmap.proofs.Maps.{bit_of_byte}
use Rattle.rules.specs.Heap.{exponent_from, exponent, size_from}
use Rattle.rules.specs.Tools.{some_below}
use Rattle.rules.proofs.Chunks.{exponent_covers}
use Rattle.rules.proofs.Objects.{size_some, size_next, size_is}
use Rattle.rules.proofs.Tests.{true_some}
use Rattle.check_maps.proofs.Chains.{some_same}
use Rattle.check_maps.specs.Chunks.{off_chunk}

-- ---- a chunk of two or four blocks, or of more

above_one : (e n : ℕ) → n ≤ 2 ^ e → 2 ≤ n → 1 ≤ e
above_one zero n h l = absurd (omega arith)
above_one (suc e) n h l = omega arith

above_two : (e n : ℕ) → n ≤ 2 ^ e → 3 ≤ n → 2 ≤ e
above_two zero n h l = absurd (omega arith)
above_two (suc zero) n h l = absurd (omega arith)
above_two (suc (suc e)) n h l = omega arith

-- what starts at a multiple of a power of two does at one of a lower power
lower : (i e k : ℕ) → k ≤ e → 0 % 2 ^ k ≡ 0 → i % 2 ^ e ≡ 0 → i % 2 ^ k ≡ 0
lower i e k l z h =
    let place : e ≡ e - k + k = omega arith in
    sym (mod-mod-pow i (e - k) k) ∙ ap (λ (x : ℕ). x % 2 ^ k) (ap (λ (x : ℕ). i % 2 ^ x) (sym place) ∙ h) ∙ z

odd_start : (i n : ℕ) → 2 ≤ n → i % 2 ≡ 1 → i % 2 ^ exponent n ≢ 0
odd_start i n l odd h =
    let even : i % 2 ≡ 0 = lower i (exponent n) 1 (above_one (exponent n) n (exponent_covers n) l) refl h in
    omega arith

half_start : (i n : ℕ) → 3 ≤ n → i % 4 ≡ 2 → i % 2 ^ exponent n ≢ 0
half_start i n l half h =
    let whole : i % 4 ≡ 0 = lower i (exponent n) 2 (above_two (exponent n) n (exponent_covers n) l) refl h in
    omega arith

-- ---- a maximum of digits

max_none : (x y : ℕ) → max x y ≡ 0 → (x ≡ 0) × (y ≡ 0)
max_none x y e = (omega arith, omega arith)

min_none : (x y : ℕ) → x ≡ 0 → min x y ≡ 0
min_none x y e = omega arith

none_max : (x y : ℕ) → x ≡ 0 → y ≡ 0 → max x y ≡ 0
none_max x y d e = omega arith

-- ---- sizes by bits

size_least : (n : ℕ) (b : List ℕ) (i m : ℕ) → m < n → ((t : ℕ) → t < m → bit_at b (i + t) ≡ 1) → suc m ≤ size_from n b i
size_least zero b i m l h = absurd (omega arith)
size_least (suc n) b i zero l h = let some = size_some (suc n) b i (λ e. omega arith) in omega arith
size_least (suc n) b i (suc m) l h =
    let here : i ≡ i + 0 = omega arith in
    omega (
      arith,
      size_next n b i (ap (bit_at b) here ∙ h 0 (omega arith)),
      size_least n b (i + 1) m (omega arith)
          (λ t u. let place : i + 1 + t ≡ i + suc t = omega arith in ap (bit_at b) place ∙ h (suc t) (omega arith)),
    )

size_of : (n : ℕ) (b : List ℕ) (i m : ℕ) → m < n → ((t : ℕ) → t < m → bit_at b (i + t) ≡ 1) → bit_at b (i + m) ≡ 0 → size_from n b i ≡ suc m
size_of n b i m l h end =
    size_is n b i m l
    (λ j from to. let place : j ≡ i + (j - i) = omega arith in ap (bit_at b) place ∙ h (j - i) (omega arith)) end

-- ---- the eight blocks of byte k

module _ (N : ℕ) (b : List ℕ) (k first : ℕ) (inside : 8 * (k + 1) ≤ N) where
  -- the B bits of the byte, and what the code makes of them
  abbrev byte : ℕ
  byte = get_or b k 0

  abbrev two : ℕ
  two = bit_and first byte

  abbrev three : ℕ
  three = bit_and two (byte / 2 ^ 1)

  abbrev crooked : ℕ
  crooked = bit_or (bit_and two 42) (bit_and three 4)

  abbrev measured : ℕ
  measured = bit_or (bit_or (bit_and (bit_and three (byte / 2 ^ 2)) (byte / 2 ^ 3)) (bit_and three 64)) (bit_and two 128)

  -- the size of what starts at block s of the byte
  abbrev size : ℕ → ℕ
  size s = size_from (N - (8 * k + s)) b (8 * k + s)

  abbrev Aligned : ℕ → Type 0
  Aligned s = (8 * k + s) % 2 ^ exponent (size s) ≡ 0

  two_is : (s : ℕ) → bit_of two s ≡ min (bit_of first s) (bit_of byte s)
  two_is s = digit_and first byte s

  three_is : (s : ℕ) → bit_of three s ≡ min (bit_of two s) (bit_of byte (1 + s))
  three_is s = digit_and two (byte / 2 ^ 1) s ∙ ap (min (bit_of two s)) (sym (bit_from byte 1 s))

  crooked_is : (s : ℕ) → bit_of crooked s ≡ max (min (bit_of two s) (bit_of 42 s)) (min (bit_of three s) (bit_of 4 s))
  crooked_is s = digit_or (bit_and two 42) (bit_and three 4) s ∙ ap₂ max (digit_and two 42 s) (digit_and three 4 s)

  measured_is : (s : ℕ) → bit_of measured s
      ≡ max (max (min (min (bit_of three s) (bit_of byte (2 + s))) (bit_of byte (3 + s))) (min (bit_of three s) (bit_of 64 s)))
      (min (bit_of two s) (bit_of 128 s))
  measured_is s =
      digit_or (bit_or (bit_and (bit_and three (byte / 2 ^ 2)) (byte / 2 ^ 3)) (bit_and three 64)) (bit_and two 128) s
      ∙ ap₂ max
      (digit_or (bit_and (bit_and three (byte / 2 ^ 2)) (byte / 2 ^ 3)) (bit_and three 64) s
      ∙ ap₂ max
      (digit_and (bit_and three (byte / 2 ^ 2)) (byte / 2 ^ 3) s
      ∙ ap₂ min (digit_and three (byte / 2 ^ 2) s ∙ ap (min (bit_of three s)) (sym (bit_from byte 2 s))) (sym (bit_from byte 3 s)))
      (digit_and three 64 s))
      (digit_and two 128 s)

  -- where it is not, neither part is
  unmeasured_parts : (s : ℕ) → bit_of measured s ≡ 0
      → (min (min (bit_of three s) (bit_of byte (2 + s))) (bit_of byte (3 + s)) ≡ 0) × (min (bit_of three s) (bit_of 64 s) ≡ 0)
      × (min (bit_of two s) (bit_of 128 s) ≡ 0)
  unmeasured_parts s e =
      let outer = max_none _ _ (sym (measured_is s) ∙ e) in
      let inner = max_none _ _ outer.0 in
      (inner.0, inner.1, outer.1)

  crooked_lt : crooked < 256
  crooked_lt = or_lt 8 (bit_and two 42) (bit_and three 4) (omega (arith, and_le_r two 42)) (omega (arith, and_le_r three 4))

  bit_there : (s t : ℕ) → s + t < 8 → bit_at b (8 * k + s + t) ≡ bit_of byte (s + t)
  bit_there s t l =
      let place : 8 * k + s + t ≡ 8 * k + (s + t) = omega arith in
      ap (bit_at b) place ∙ bit_of_byte b k (s + t) l

  -- sizes of up to four blocks
  size_one : (s : ℕ) → s < 8 → bit_of byte s ≡ 0 → size s ≡ 1
  size_one s l e =
      let place : s + 0 ≡ s = omega arith in
      size_of (N - (8 * k + s)) b (8 * k + s) 0 (omega arith) (λ t u. absurd (omega arith))
      (bit_there s 0 (omega arith) ∙ ap (bit_of byte) place ∙ e)

  size_more : (s m : ℕ) → s + m < 8 → ((t : ℕ) → t < m → bit_of byte (s + t) ≡ 1) → bit_of byte (s + m) ≡ 0 → size s ≡ suc m
  size_more s m l h e =
      size_of (N - (8 * k + s)) b (8 * k + s) m (omega arith) (λ t u. bit_there s t (omega arith) ∙ h t u) (bit_there s m l ∙ e)

  one_aligned : (s : ℕ) → s < 8 → bit_of byte s ≡ 0 → Aligned s
  unfolding exponent exponent_from
  one_aligned s l e = ap (λ (z : ℕ). (8 * k + s) % 2 ^ exponent z) (size_one s l e) ∙ omega arith

  two_aligned : (s : ℕ) → s + 1 < 8 → s % 2 ≡ 0 → bit_of byte (s + 0) ≡ 1 → bit_of byte (s + 1) ≡ 0 → Aligned s
  unfolding exponent exponent_from
  two_aligned s l even e z =
      ap (λ (z : ℕ). (8 * k + s) % 2 ^ exponent z) (size_more s 1 l (upto_one (λ t. bit_of byte (s + t)) e) z) ∙ omega arith
    where
      upto_one : (f : ℕ → ℕ) → f 0 ≡ 1 → (t : ℕ) → t < 1 → f t ≡ 1
      upto_one f e zero u = e
      upto_one f e (suc t) u = absurd (omega arith)

  upto : (f : ℕ → ℕ) → f 0 ≡ 1 → f 1 ≡ 1 → (t : ℕ) → t < 2 → f t ≡ 1
  upto f d e zero u = d
  upto f d e (suc zero) u = e
  upto f d e (suc (suc t)) u = absurd (omega arith)

  three_aligned : (s : ℕ) → s + 2 < 8 → s % 4 ≡ 0 → bit_of byte (s + 0) ≡ 1 → bit_of byte (s + 1) ≡ 1 → bit_of byte (s + 2) ≡ 0 → Aligned s
  unfolding exponent exponent_from
  three_aligned s l even d e z =
      ap (λ (z : ℕ). (8 * k + s) % 2 ^ exponent z) (size_more s 2 l (upto (λ t. bit_of byte (s + t)) d e) z) ∙ omega arith

  four_aligned : (s : ℕ) → s + 3 < 8 → s % 4 ≡ 0 → bit_of byte (s + 0) ≡ 1 → bit_of byte (s + 1) ≡ 1 → bit_of byte (s + 2) ≡ 1
      → bit_of byte (s + 3) ≡ 0 → Aligned s
  unfolding exponent exponent_from
  four_aligned s l even c d e z =
      ap (λ (z : ℕ). (8 * k + s) % 2 ^ exponent z) (size_more s 3 l (upto_three (λ t. bit_of byte (s + t)) c d e) z) ∙ omega arith
    where
      upto_three : (f : ℕ → ℕ) → f 0 ≡ 1 → f 1 ≡ 1 → f 2 ≡ 1 → (t : ℕ) → t < 3 → f t ≡ 1
      upto_three f c d e zero u = c
      upto_three f c d e (suc zero) u = d
      upto_three f c d e (suc (suc zero)) u = e
      upto_three f c d e (suc (suc (suc t))) u = absurd (omega arith)

  -- from block 0 or 4 on up to four blocks are aligned
  from_four : (s : ℕ) → s + 3 < 8 → s % 4 ≡ 0 → bit_of byte (s + 0) ≡ 1 → bit_of three s ≡ min (bit_of first s) (bit_of byte (s + 1)) → bit_of first s ≡ 1
      → min (min (bit_of three s) (bit_of byte (s + 2))) (bit_of byte (s + 3)) ≡ 0 → Aligned s
  from_four s l even here third start none =
      elim (ℕ_discrete (bit_of byte (s + 1)) 0) [
        | yes e ↦ two_aligned s (omega arith) (omega arith) here e
        | no n ↦
            let next : bit_of byte (s + 1) ≡ 1 = omega (arith, bit_lt byte (s + 1)) in
            elim (ℕ_discrete (bit_of byte (s + 2)) 0) [
              | yes e ↦ three_aligned s (omega arith) even here next e
              | no m ↦
                  let after : bit_of byte (s + 2) ≡ 1 = omega (arith, bit_lt byte (s + 2)) in
                  four_aligned s l even here next after (omega (arith, third, bit_lt byte (s + 3)))
            ]
      ]

  -- a first block that is neither crooked nor measured is aligned
  fine : (s : ℕ) → s < 8 → bit_of crooked s ≡ 0 → bit_of measured s ≡ 0 → bit_of first s ≡ 1 → Aligned s
  fine s l straight unmeasured start = elim (ℕ_discrete (bit_of byte s) 0) [
    | yes e ↦ one_aligned s l e
    | no n ↦ more s l straight unmeasured start (omega (arith, bit_lt byte s))
  ]
    where
      more : (s : ℕ) → s < 8 → bit_of crooked s ≡ 0 → bit_of measured s ≡ 0 → bit_of first s ≡ 1 → bit_of byte s ≡ 1 → Aligned s
      more zero l straight unmeasured start here =
          from_four 0 (omega arith) refl here (omega (arith, three_is 0, two_is 0)) start
          (unmeasured_parts 0 unmeasured).0
      more (suc zero) l straight unmeasured start here = absurd (omega (arith, crooked_is 1, two_is 1))
      more (suc (suc zero)) l straight unmeasured start here =
          two_aligned 2 (omega arith) refl here (omega (arith, crooked_is 2, three_is 2, two_is 2, bit_lt byte 3))
      more (suc (suc (suc zero))) l straight unmeasured start here = absurd (omega (arith, crooked_is 3, two_is 3))
      more (suc (suc (suc (suc zero)))) l straight unmeasured start here =
          from_four 4 (omega arith) refl here (omega (arith, three_is 4, two_is 4)) start
          (unmeasured_parts 4 unmeasured).0
      more (suc (suc (suc (suc (suc zero))))) l straight unmeasured start here = absurd (omega (arith, crooked_is 5, two_is 5))
      more (suc (suc (suc (suc (suc (suc zero)))))) l straight unmeasured start here =
          two_aligned 6 (omega arith) refl here (omega (arith, (unmeasured_parts 6 unmeasured).1, three_is 6, two_is 6))
      more (suc (suc (suc (suc (suc (suc (suc zero))))))) l straight unmeasured start here = absurd (omega (arith, (unmeasured_parts 7 unmeasured).2, two_is 7))
      more (suc (suc (suc (suc (suc (suc (suc (suc s)))))))) l straight unmeasured start here = absurd (omega arith)

  -- what is crooked is a first block, and not aligned
  least_two : (s : ℕ) → s < 7 → bit_of byte (s + 0) ≡ 1 → 2 ≤ size s
  least_two s l here =
      size_least (N - (8 * k + s)) b (8 * k + s) 1 (omega arith) (λ t u.
      let place : 8 * k + s + t ≡ 8 * k + s + 0 = omega arith in ap (bit_at b) place ∙ bit_there s 0 (omega arith) ∙ here)

  least_three : (s : ℕ) → s < 6 → bit_of byte (s + 0) ≡ 1 → bit_of byte (s + 1) ≡ 1 → 3 ≤ size s
  least_three s l here next =
      size_least (N - (8 * k + s)) b (8 * k + s) 2 (omega arith)
      (λ t u. bit_there s t (omega arith) ∙ upto (λ t. bit_of byte (s + t)) here next t u)

  bent : (s : ℕ) → s < 8 → bit_of crooked s ≡ 1 → (bit_of first s ≡ 1) × ((8 * k + s) % 2 ^ exponent (size s) ≢ 0)
  bent zero l e = absurd (omega (arith, crooked_is 0))
  bent (suc zero) l e = (
    omega (arith, crooked_is 1, two_is 1, bit_lt first 1),
    odd_start (8 * k + 1) (size 1) (least_two 1 (omega arith) (omega (arith, crooked_is 1, two_is 1, bit_lt byte 1))) (omega arith),
  )
  bent (suc (suc zero)) l e = (
    omega (arith, crooked_is 2, three_is 2, two_is 2, bit_lt first 2),
    half_start (8 * k + 2) (size 2)
        (least_three 2 (omega arith) (omega (arith, crooked_is 2, three_is 2, two_is 2, bit_lt byte 2)) (omega (arith, crooked_is 2, three_is 2, bit_lt byte 3)))
        (omega arith),
  )
  bent (suc (suc (suc zero))) l e = (
    omega (arith, crooked_is 3, two_is 3, bit_lt first 3),
    odd_start (8 * k + 3) (size 3) (least_two 3 (omega arith) (omega (arith, crooked_is 3, two_is 3, bit_lt byte 3))) (omega arith),
  )
  bent (suc (suc (suc (suc zero)))) l e = absurd (omega (arith, crooked_is 4))
  bent (suc (suc (suc (suc (suc zero))))) l e = (
    omega (arith, crooked_is 5, two_is 5, bit_lt first 5),
    odd_start (8 * k + 5) (size 5) (least_two 5 (omega arith) (omega (arith, crooked_is 5, two_is 5, bit_lt byte 5))) (omega arith),
  )
  bent (suc (suc (suc (suc (suc (suc zero)))))) l e = absurd (omega (arith, crooked_is 6))
  bent (suc (suc (suc (suc (suc (suc (suc zero))))))) l e = absurd (omega (arith, crooked_is 7))
  bent (suc (suc (suc (suc (suc (suc (suc (suc s)))))))) l e = absurd (omega arith)

  -- ---- what the code does

  pub byte_crooked : crooked ≢ 0 → true ≡ some_below (off_chunk first k N b) 8
  unfolding off_chunk
  byte_crooked some =
      let low = trailing_lowest 8 crooked crooked_lt some in
      let s : ℕ = count_trailing_zeros 8 crooked in
      let found = bent s low.inside low.here in
      sym
      (true_some (off_chunk first k N b) 8 s low.inside
      (rw (ne_eqb (bit_of first s) 0 (λ z. omega (arith, found.0)), ne_eqb ((8 * k + s) % 2 ^ exponent (size s)) 0 found.1, off_chunk)))

  -- a measured block is a first one
  measured_first : (s : ℕ) → bit_of measured s ≡ 1 → bit_of first s ≡ 1
  measured_first s e = elim (ℕ_discrete (bit_of first s) 0) [
    | no n ↦ omega (arith, bit_lt first s)
    | yes z ↦
        let none : bit_of two s ≡ 0 = two_is s ∙ min_none (bit_of first s) (bit_of byte s) z in
        let neither : bit_of three s ≡ 0 = three_is s ∙ min_none (bit_of two s) (bit_of byte (1 + s)) none in
        let zero_bit : bit_of measured s ≡ 0 =
        measured_is s
        ∙ none_max _ _ (none_max _ _ (min_none _ _ (min_none (bit_of three s) (bit_of byte (2 + s)) neither)) (min_none (bit_of three s) (bit_of 64 s) neither))
        (min_none (bit_of two s) (bit_of 128 s) none) in
        absurd (omega arith)
  ]

  same_test : (straight : crooked ≡ 0) (s : ℕ) → s < 8 → off_chunk measured k N b s ≡ off_chunk first k N b s
  unfolding off_chunk
  same_test straight s l = elim (ℕ_discrete (bit_of measured s) 0) [
    | no n ↦
        let one : bit_of measured s ≡ 1 = omega (arith, bit_lt measured s) in
        rw (ne_eqb (bit_of measured s) 0 n, ne_eqb (bit_of first s) 0 (λ z. omega (arith, measured_first s one)), off_chunk)
    | yes e ↦ elim (ℕ_discrete (bit_of first s) 0) [
      | yes z ↦ rw (eq-eqb (bit_of measured s) 0 e, eq-eqb (bit_of first s) 0 z, off_chunk)
      | no n ↦
          let start : bit_of first s ≡ 1 = omega (arith, bit_lt first s) in
          let none : bit_of crooked s ≡ 0 = ap (λ (x : ℕ). bit_of x s) straight ∙ bit_zero s in
          rw (
            eq-eqb (bit_of measured s) 0 e,
            ne_eqb (bit_of first s) 0 n,
            eq-eqb ((8 * k + s) % 2 ^ exponent (size s)) 0 (fine s l none e start),
            off_chunk,
          )
    ]
  ]

  pub byte_straight : crooked ≡ 0 → some_below (off_chunk measured k N b) 8 ≡ some_below (off_chunk first k N b) 8
  byte_straight straight = some_same (off_chunk measured k N b) (off_chunk first k N b) 8 (same_test straight)
