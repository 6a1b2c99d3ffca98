-- Laws of counting: `count_below`, and the number of 0 bits of a map, `zeros`.
-- What a write of a bit or of a run does to that number, its bounds, and the sum of the language's count of zeros of each byte.
use mathlib.Core.Path.{◌≡◌, refl, sym, ap, ◌∙◌}
use mathlib.Core.Logic.{◌≢◌, inr}
use mathlib.Core.Bool.{Bool, true, false}
use mathlib.Core.List.{List}
use Prim.Native.Nat.{ℕ, zero, suc, ◌+◌, ◌-◌, ◌*◌, ◌/◌, ◌%◌, ◌^◌, ◌≤◌, ◌<◌}
use native.Mathlib.Nat.{add-zero, add-suc, pow-suc}
use native.Mathlib.Numerals.{add-one}
use native.Mathlib.Decide.{ℕ_discrete}
use native.Mathlib.Omega.{arith}
use lib.Count.{ones, ones_step, ones-le}
use lib.Dec.{eqb}
use lib.ListN.{length, get_or, replicate, length-replicate, take}
use lib.Seq.{take-length}
use Rattle.std.specs.Int.{count_zeros, w8}
use Rattle.std.specs.List.{sum_by}
use Rattle.std.proofs.lemmas.List.Sums.{sum_by_more}
use Rattle.bitmap.specs.Bit.{bit_of, bit_at, set_bit, fill_bits, one, count_below, zeros, Bytes}
use Rattle.bitmap.proofs.Bits.{bit_suc}
use Rattle.bitmap.proofs.Digits.{digit_not}
use Rattle.bitmap.proofs.Maps.{bit_of_byte, bit_set_same, bit_set_other, length_set_bit, bit_all_zero}
use Rattle.bitmap.proofs.Runs.{length_fill, bit_fill_out}

-- ---- numbers that pass a test

one_le : (b : Bool) → one b ≤ 1
one_le true = omega arith
one_le false = omega arith

pub count_le : (test : ℕ → Bool) (n : ℕ) → count_below test n ≤ n
unfolding count_below
count_le test zero = omega arith
count_le test (suc n) = omega (arith, count_le test n, one_le (test n))

-- tests that agree below n count the same
pub count_same : (test other : ℕ → Bool) (n : ℕ) → ((i : ℕ) → i < n → test i ≡ other i) → count_below test n ≡ count_below other n
unfolding count_below
count_same test other zero h = refl
count_same test other (suc n) h =
    omega (arith, count_same test other n (λ i l. h i (omega arith)), ap one (h n (omega arith)))

-- tests that agree below n, but for i
pub count_change : (test other : ℕ → Bool) (n i : ℕ) → i < n → ((j : ℕ) → j < n → j ≢ i → test j ≡ other j)
    → count_below test n + one (other i) ≡ count_below other n + one (test i)
unfolding count_below
count_change test other zero i l h = absurd (omega arith)
count_change test other (suc n) i l h =
    go (ℕ_discrete i n) (λ s. count_change test other n i s (λ j u. h j (omega arith)))
  where
    go : Dec (i ≡ n) → (i < n → count_below test n + one (other i) ≡ count_below other n + one (test i))
        → count_below test (suc n) + one (other i) ≡ count_below other (suc n) + one (test i)
    go (yes q) before =
        omega (
          arith,
          count_same test other n (λ j u. h j (omega arith) (λ e. omega arith)),
          ap (λ (x : ℕ). one (test x)) q,
          ap (λ (x : ℕ). one (other x)) q,
        )
    go (no q) before = omega (arith, before (omega arith), ap one (h n (omega arith) (λ e. q (sym e))))

-- ---- the number of 0 bits

-- how many of the bits below place n of a map are 0
abbrev pub zeros_below : List ℕ → ℕ → ℕ
zeros_below map n = count_below (λ i. eqb (bit_at map i) 0) n

pub zeros_le : (map : List ℕ) → zeros map ≤ 8 * length map
unfolding zeros
zeros_le map = count_le (λ i. eqb (bit_at map i) 0) (8 * length map)

-- it depends on the bits alone
pub zeros_same_bits : (map other : List ℕ) → length map ≡ length other
    → ((i : ℕ) → i < 8 * length map → bit_at map i ≡ bit_at other i) → zeros map ≡ zeros other
unfolding zeros
zeros_same_bits map other e h =
    count_same (λ i. eqb (bit_at map i) 0) (λ i. eqb (bit_at other i) 0) (8 * length map) (λ i l. ap (λ (x : ℕ). eqb x 0) (h i l))
    ∙ ap (λ (n : ℕ). zeros_below other (8 * n)) e

-- a bit written
pub zeros_set_bit : (map : List ℕ) (i v : ℕ) → i < 8 * length map → v < 2
    → zeros (set_bit map i v) + one (eqb (bit_at map i) 0) ≡ zeros map + one (eqb v 0)
unfolding zeros
zeros_set_bit map i v h e =
    let after : List ℕ = set_bit map i v in
    let change =
    count_change (λ j. eqb (bit_at after j) 0) (λ j. eqb (bit_at map j) 0) (8 * length map) i h
    (λ j u ne. ap (λ (x : ℕ). eqb x 0) (bit_set_other map i v j ne e)) in
    omega (
      arith,
      change,
      ap (λ (n : ℕ). zeros_below after (8 * n)) (length_set_bit map i v),
      ap (λ (x : ℕ). one (eqb x 0)) (bit_set_same map i v h e),
    )

-- a run of 1 bits that become 0
pub zeros_fill_zeros : (map : List ℕ) (from n : ℕ) → from + n ≤ 8 * length map
    → ((i : ℕ) → from ≤ i → i < from + n → bit_at map i ≡ 1) → zeros (fill_bits map from n 0) ≡ zeros map + n
unfolding fill_bits
zeros_fill_zeros map from zero h all = omega arith
zeros_fill_zeros map from (suc n) h all =
    let before : List ℕ = fill_bits map from n 0 in
    let was : bit_at before (from + n) ≡ 1 =
    bit_fill_out map from n 0 (from + n) (omega arith) (inr (omega arith)) ∙ all (from + n) (omega arith) (omega arith) in
    omega (
      arith,
      zeros_fill_zeros map from n (omega arith) (λ i l u. all i l (omega arith)),
      zeros_set_bit before (from + n) 0 (omega (arith, length_fill map from n 0)) (omega arith),
      ap (λ (x : ℕ). one (eqb x 0)) was,
    )

-- a map of 0 bits alone
count_all : (test : ℕ → Bool) (n : ℕ) → ((i : ℕ) → test i ≡ true) → count_below test n ≡ n
unfolding count_below
count_all test zero h = refl
count_all test (suc n) h = omega (arith, count_all test n h, ap one (h n))

pub zeros_all_zero : (n : ℕ) → zeros (replicate n 0) ≡ 8 * n
unfolding zeros
zeros_all_zero n =
    count_all (λ i. eqb (bit_at (replicate n 0) i) 0) (8 * length (replicate n 0)) (λ i. ap (λ (x : ℕ). eqb x 0) (bit_all_zero n i))
    ∙ ap (λ (k : ℕ). 8 * k) (length-replicate {A = ℕ} n 0)

-- ---- byte by byte

-- a bit that is 0 counts for one
one_bit : (x : ℕ) → x < 2 → one (eqb x 0) + x ≡ 1
one_bit zero h = refl
one_bit (suc zero) h = refl
one_bit (suc (suc x)) h = absurd (omega arith)

-- how many of the k lowest bits of b are 1
unfoldable low : ℕ → ℕ → ℕ
low b zero = 0
low b (suc k) = low b k + bit_of b k

low_suc : (b k : ℕ) → low b (suc k) ≡ b % 2 + low (b / 2) k
unfolding low
low_suc b zero = omega arith
low_suc b (suc k) = omega (arith, low_suc b k, bit_suc b k)

ones_low : (n b : ℕ) → b < 2 ^ n → ones b ≡ low b n
unfolding low
ones_low zero b h = omega (arith, ones-le 0 b h)
ones_low (suc n) b h =
    let half : b / 2 < 2 ^ n = omega (arith, pow-suc 2 n) in
    omega (arith, ones_step b, ones_low n (b / 2) half, low_suc b n)

-- the 0 bits among the k lowest of byte j are the 1 bits of its complement
zeros_in_byte : (map : List ℕ) (j k : ℕ) → k ≤ 8 → get_or map j 0 < 256
    → zeros_below map (8 * j + k) ≡ zeros_below map (8 * j) + low (255 - get_or map j 0) k
unfolding count_below low
zeros_in_byte map j zero h small = omega (arith, ap (zeros_below map) (add-zero (8 * j)))
zeros_in_byte map j (suc k) h small =
    omega (
      arith,
      zeros_in_byte map j k (omega arith) small,
      ap (zeros_below map) (add-suc (8 * j) k),
      bit_of_byte map j k h,
      digit_not 8 (get_or map j 0) k small h,
      one_bit (bit_at map (8 * j + k)) (omega (arith, bit_of_byte map j k h)),
    )

-- one byte more
zeros_more : (map : List ℕ) (j : ℕ) → get_or map j 0 < 256
    → zeros_below map (8 * (j + 1)) ≡ zeros_below map (8 * j) + count_zeros w8 (get_or map j 0)
zeros_more map j h =
    let e : 8 * (j + 1) ≡ 8 * j + 8 = omega arith in
    omega (
      arith,
      ap (zeros_below map) e,
      zeros_in_byte map j 8 (omega arith) h,
      ones_low 8 (255 - get_or map j 0) (omega arith),
    )

sum_below : (map : List ℕ) → Bytes map → (n : ℕ) → n ≤ length map
    → sum_by (count_zeros w8) (take n map) ≡ zeros_below map (8 * n)
unfolding count_below Bytes
sum_below map small zero l = refl
sum_below map small (suc n) l =
    ap (λ (k : ℕ). sum_by (count_zeros w8) (take k map)) (sym (add-one n))
    ∙ omega (
      arith,
      sum_by_more (count_zeros w8) map n 0 l,
      sum_below map small n (omega arith),
      zeros_more map n (small n),
      ap (λ (k : ℕ). zeros_below map (8 * k)) (add-one n),
    )

pub zeros_sum : (map : List ℕ) → Bytes map → sum_by (count_zeros w8) map ≡ zeros map
unfolding zeros
zeros_sum map small =
    sym (ap (sum_by (count_zeros w8)) (take-length map)) ∙ sum_below map small (length map) (omega arith)
