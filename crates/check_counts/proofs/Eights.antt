-- Kinds 4 and 5 at eight blocks: by the bits of three bytes and the tally.
use mathlib.Core.Path.{◌≡◌, sym, ap, ◌∙◌}
use mathlib.Core.Logic.{◌≢◌, inl, inr}
use mathlib.Core.Bool.{Bool, true, false, not, ◌&&◌, ◌||◌}
use mathlib.Core.List.{List}
use Prim.Native.Nat.{ℕ, zero, suc, ◌+◌, ◌-◌, ◌*◌, ◌^◌, ◌≤◌, ◌<◌, min}
use native.Mathlib.Nat.{mul-one, mul-zero}
use native.Mathlib.Decide.{ℕ_discrete}
use native.Mathlib.Omega.{arith}
use lib.Bits.{bit_and}
use lib.Dec.{eqb, ltb}
use lib.ListN.{get_or}
use lib.Pow.{pow_mono}
use borrow.Author.Tests.{eq-eqb, ne_eqb, eqb-true, eqb-false, lt-ltb, le-ltb, not-true, not-false}
use Rattle.bitmap.specs.Bit.{bit_of, bit_at}
use Rattle.bitmap.proofs.Bits.{bit_lt, bit_zero, bits_ext}
use Rattle.bitmap.proofs.Digits.{digit_and, digit_not, each_bit}
use Rattle.bitmap.proofs.Maps.{bit_of_byte}
use Rattle.planes.specs.Plane.{plane_bit, count_at}
use Rattle.planes.proofs.Counts.{count_lt}
use Rattle.planes.proofs.Eights.{same_test, test_to, test_from}
use Rattle.rules.specs.Tools.{some_below}
use Rattle.rules.specs.Heap.{capacity}
use Rattle.rules.proofs.Tests.{test_cases_lem, some_true, true_some, some_false, false_some}
use Rattle.check_counts.specs.Lanes.{pack}
use Rattle.check_counts.specs.Late.{count_off, stray_in, off_in}
use Rattle.check_counts.proofs.Packs.{pack_same, pack_plus, pack_none, pack_some, pack_each, pack_apart, masked}

-- ---- the counts by their bytes in four maps at most

module _ (counts : List ℕ) (bytes width k : ℕ) where
  -- x is byte k of map p, or 0 where there are fewer maps
  abbrev pub PlaneByte : ℕ → ℕ → Type 0
  PlaneByte p x = (p < width → x ≡ get_or counts (p * bytes + k) 0) × (width ≤ p → x ≡ 0)

  -- so its bits are those of map p, or 0
  plane_bit_lem : (p x s : ℕ) → s < 8 → p < width → PlaneByte p x → bit_of x s ≡ bit_at counts (plane_bit bytes p (8 * k + s))
  plane_bit_lem p x s l there h =
      let place : 8 * (p * bytes + k) + s ≡ plane_bit bytes p (8 * k + s) = omega arith in
      ap (λ (y : ℕ). bit_of y s) (h.0 there) ∙ sym (bit_of_byte counts (p * bytes + k) s l) ∙ ap (bit_at counts) place

  plane_none : (p x s : ℕ) → width ≤ p → PlaneByte p x → bit_of x s ≡ 0
  plane_none p x s past h = ap (λ (y : ℕ). bit_of y s) (h.1 past) ∙ bit_zero s

-- a count is put together of four bits
four_bits : (counts : List ℕ) (bytes width k : ℕ) (x y z t s : ℕ) → s < 8 → 1 ≤ width → width ≤ 4
    → PlaneByte counts bytes width k 0 x → PlaneByte counts bytes width k 1 y → PlaneByte counts bytes width k 2 z
    → PlaneByte counts bytes width k 3 t
    → bit_of x s + bit_of y s * 2 + bit_of z s * 4 + bit_of t s * 8 ≡ count_at bytes width counts (8 * k + s)
unfolding count_at
four_bits counts bytes zero k x y z t s l some most hx hy hz ht = absurd (omega arith)
four_bits counts bytes (suc zero) k x y z t s l some most hx hy hz ht = omega (
  arith,
  plane_bit_lem counts bytes 1 k 0 x s l (omega arith) hx,
  plane_none counts bytes 1 k 1 y s (omega arith) hy,
  plane_none counts bytes 1 k 2 z s (omega arith) hz,
  plane_none counts bytes 1 k 3 t s (omega arith) ht,
)
four_bits counts bytes (suc (suc zero)) k x y z t s l some most hx hy hz ht = omega (
  arith,
  plane_bit_lem counts bytes 2 k 0 x s l (omega arith) hx,
  plane_bit_lem counts bytes 2 k 1 y s l (omega arith) hy,
  plane_none counts bytes 2 k 2 z s (omega arith) hz,
  plane_none counts bytes 2 k 3 t s (omega arith) ht,
)
four_bits counts bytes (suc (suc (suc zero))) k x y z t s l some most hx hy hz ht = omega (
  arith,
  plane_bit_lem counts bytes 3 k 0 x s l (omega arith) hx,
  plane_bit_lem counts bytes 3 k 1 y s l (omega arith) hy,
  plane_bit_lem counts bytes 3 k 2 z s l (omega arith) hz,
  plane_none counts bytes 3 k 3 t s (omega arith) ht,
)
four_bits counts bytes (suc (suc (suc (suc zero)))) k x y z t s l some most hx hy hz ht = omega (
  arith,
  plane_bit_lem counts bytes 4 k 0 x s l (omega arith) hx,
  plane_bit_lem counts bytes 4 k 1 y s l (omega arith) hy,
  plane_bit_lem counts bytes 4 k 2 z s l (omega arith) hz,
  plane_bit_lem counts bytes 4 k 3 t s l (omega arith) ht,
)
four_bits counts bytes (suc (suc (suc (suc (suc w))))) k x y z t s l some most hx hy hz ht = absurd (omega arith)

pub count_pack : (counts : List ℕ) (bytes width k : ℕ) (x y z t : ℕ) → 1 ≤ width → width ≤ 4
    → PlaneByte counts bytes width k 0 x → PlaneByte counts bytes width k 1 y → PlaneByte counts bytes width k 2 z
    → PlaneByte counts bytes width k 3 t
    → pack (λ s. bit_of x s) 8 + pack (λ s. bit_of y s) 8 * 2 + pack (λ s. bit_of z s) 8 * 4 + pack (λ s. bit_of t s) 8 * 8
    ≡ pack (λ s. count_at bytes width counts (8 * k + s)) 8
count_pack counts bytes width k x y z t some most hx hy hz ht =
    ap (λ (n : ℕ). n + pack (λ s. bit_of z s) 8 * 4 + pack (λ s. bit_of t s) 8 * 8) (pack_plus 2 (λ s. bit_of x s) (λ s. bit_of y s) 8)
    ∙ ap (λ (n : ℕ). n + pack (λ s. bit_of t s) 8 * 8) (pack_plus 4 (λ s. bit_of x s + bit_of y s * 2) (λ s. bit_of z s) 8)
    ∙ pack_plus 8 (λ s. bit_of x s + bit_of y s * 2 + bit_of z s * 4) (λ s. bit_of t s) 8
    ∙ pack_same (λ s. bit_of x s + bit_of y s * 2 + bit_of z s * 4 + bit_of t s * 8) (λ s. count_at bytes width counts (8 * k + s)) 8
    (λ s l. four_bits counts bytes width k x y z t s l some most hx hy hz ht)

-- ---- named where no object starts

module _ (first : ℕ) (at : List ℕ) (k : ℕ) (byte : first < 256) (small : (s : ℕ) → s < 8 → get_or at (8 * k + s) 0 < 256) where
  -- the tallies of the eight blocks
  abbrev named : ℕ → ℕ
  named s = get_or at (8 * k + s) 0

  abbrev outside : ℕ → ℕ
  outside s = named s * bit_of (255 - first) s

  stray_at : (s : ℕ) → s < 8 → stray_in first at k s ≡ not (eqb (outside s) 0)
  unfolding stray_in
  stray_at s l = rw (digit_not 8 first s byte l, stray_in) (go (bit_of first s) (bit_lt first s) (named s))
    where
      go : (f : ℕ) → f < 2 → (t : ℕ) → (not (not (eqb f 0)) && not (eqb t 0)) ≡ not (eqb (t * (1 - f)) 0)
      go f h t =
          each_bit (λ (f : ℕ). (not (not (eqb f 0)) && not (eqb t 0)) ≡ not (eqb (t * (1 - f)) 0))
          (ap (λ (x : ℕ). not (eqb x 0)) (sym (mul-one t))) (sym (ap (λ (x : ℕ). not (eqb x 0)) (mul-zero t))) f h

  pub stray_eight : not (eqb (bit_and (pack named 8) (pack (λ s. bit_of (255 - first) s * 255) 8)) 0) ≡ some_below (stray_in first at k) 8
  stray_eight = rw (masked named (255 - first) small) (elim (ℕ_discrete (pack outside 8) 0) [
    | yes e ↦
        ap not (eq-eqb (pack outside 8) 0 e)
        ∙ sym (false_some (stray_in first at k) 8 (λ s l. stray_at s l ∙ ap not (eq-eqb (outside s) 0 (pack_none outside 8 e s l))))
    | no n ↦
        let found = pack_some outside 8 n in
        ap not (ne_eqb (pack outside 8) 0 n)
        ∙ sym (true_some (stray_in first at k) 8 found.0 found.1 (stray_at found.0 found.1 ∙ ap not (ne_eqb (outside found.0) 0 found.2)))
  ])

-- ---- kind 5 at a block

module _ (w c named : ℕ) where
  -- no object starts there
  off_other : (first : Bool) → first ≡ false → count_off first w c named ≡ not (eqb c 0)
  unfolding count_off
  off_other first e = rw (e, count_off)

  off_first : (first : Bool) → first ≡ true → count_off first w c named ≡ (eqb c 0 || (ltb c (capacity w) && not (eqb c named)))
  unfolding count_off
  off_first first e = rw (e, count_off)

  -- an object starts and the count is 0, or none does and it is not
  off_apart : (f m : ℕ) → f < 2 → m < 2 → eqb m 0 ≡ eqb c 0 → f ≢ m → count_off (not (eqb f 0)) w c named ≡ true
  off_apart f m hf hm some apart = elim (ℕ_discrete f 0) [
    | yes e ↦ off_other (not (eqb f 0)) (ap not (eq-eqb f 0 e)) ∙ ap not (sym some ∙ ne_eqb m 0 (λ z. apart (omega arith)))
    | no n ↦
        let none : m ≡ 0 = omega arith in
        off_first (not (eqb f 0)) (ap not (ne_eqb f 0 n)) ∙ rw (sym some ∙ eq-eqb m 0 none)
  ]

  -- both or neither: what is left is the tally, where the count is not full
  off_else : (f m u : ℕ) → f < 2 → m < 2 → u < 2 → c < 2 ^ w → eqb m 0 ≡ eqb c 0 → eqb u 1 ≡ eqb c (2 ^ w - 1) → f ≡ m
      → count_off (not (eqb f 0)) w c named ≡ (not (eqb (min f (1 - u)) 0) && not (eqb c named))
  off_else f m u hf hm hu less some full same = elim (ℕ_discrete f 0) [
    | yes e ↦
        let none : min f (1 - u) ≡ 0 = omega arith in
        off_other (not (eqb f 0)) (ap not (eq-eqb f 0 e)) ∙ ap not (sym some ∙ eq-eqb m 0 (sym same ∙ e))
        ∙ sym (rw (eq-eqb (min f (1 - u)) 0 none))
    | no n ↦
        let some_count = sym some ∙ ne_eqb m 0 (λ z. n (same ∙ z)) in
        off_first (not (eqb f 0)) (ap not (ne_eqb f 0 n))
        ∙ rw some_count
        (elim (ℕ_discrete u 1) [
          | yes e ↦
              let filled : c ≡ 2 ^ w - 1 = test_to u 1 c (2 ^ w - 1) full e in
              let none : min f (1 - u) ≡ 0 = omega arith in
              rw (le-ltb c (capacity w) (omega arith), eq-eqb (min f (1 - u)) 0 none)
          | no d ↦
              let not-filled : c ≢ 2 ^ w - 1 = λ q. d (test_from u 1 c (2 ^ w - 1) full q) in
              let there : min f (1 - u) ≢ 0 = omega arith in
              rw (lt-ltb c (capacity w) (omega arith), ne_eqb (min f (1 - u)) 0 there)
        ])
  ]

-- ---- at eight blocks

-- bytes that differ have a bit that does
some_apart : (f m : ℕ) → f < 256 → m < 256 → f ≢ m → (s : ℕ) × (s < 8) × (bit_of f s ≢ bit_of m s)
some_apart f m hf hm n = elim (test_cases_lem (some_below test 8)) [
  | inl e ↦
      let found = some_true test 8 e in
      (found.0, found.1, eqb-false (bit_of f found.0) (bit_of m found.0) (not-true (eqb (bit_of f found.0) (bit_of m found.0)) found.2))
  | inr e ↦
      absurd
      (n (bits_ext 8 f m hf hm (λ s l. eqb-true (bit_of f s) (bit_of m s) (not-false (eqb (bit_of f s) (bit_of m s)) (some_false test 8 e s l)))))
]
  where
    test : ℕ → Bool
    test s = not (eqb (bit_of f s) (bit_of m s))

-- `first` has the first blocks of byte k, and `some` those whose count is not 0
module _ (first bytes width : ℕ) (counts at : List ℕ) (k some : ℕ) (first-lt : first < 256) (some-lt : some < 256)
    (somes : (s : ℕ) → s < 8 → eqb (bit_of some s) 0 ≡ eqb (count_at bytes width counts (8 * k + s)) 0) where
  abbrev count : ℕ → ℕ
  count s = count_at bytes width counts (8 * k + s)

  abbrev tally : ℕ → ℕ
  tally s = get_or at (8 * k + s) 0

  pub eight_apart : some ≢ first → some_below (off_in first bytes width counts at k) 8 ≡ true
  unfolding off_in
  eight_apart n =
      let found = some_apart first some first-lt some-lt (λ e. n (sym e)) in
      let s : ℕ = found.0 in
      true_some (off_in first bytes width counts at k) 8 s found.1
      (off_apart width (count s) (tally s) (bit_of first s) (bit_of some s) (bit_lt first s) (bit_lt some s) (somes s found.1) found.2)

  module _ (same : some ≡ first) where
    -- none starts, and no count is another than 0
    pub eight_free : first ≡ 0 → some_below (off_in first bytes width counts at k) 8 ≡ false
    unfolding off_in
    eight_free none =
        false_some (off_in first bytes width counts at k) 8
        (λ s l.
        let zero_bit : bit_of first s ≡ 0 = ap (λ (x : ℕ). bit_of x s) none ∙ bit_zero s in
        off_other width (count s) (tally s) (not (eqb (bit_of first s) 0)) (ap not (eq-eqb (bit_of first s) 0 zero_bit))
        ∙ ap not (sym (somes s l) ∙ eq-eqb (bit_of some s) 0 (ap (λ (x : ℕ). bit_of x s) same ∙ zero_bit)))

    -- a third byte has the counts that are full: the others are held to the tally
    module _ (full : ℕ) (full-lt : full < 256)
        (fulls : (s : ℕ) → s < 8 → eqb (bit_of full s) 1 ≡ eqb (count_at bytes width counts (8 * k + s)) (2 ^ width - 1))
        (wide : width ≤ 4) (small : (s : ℕ) → s < 8 → get_or at (8 * k + s) 0 < 256) where
      abbrev these : ℕ
      these = bit_and first (255 - full)

      off_at : (s : ℕ) → s < 8 → off_in first bytes width counts at k s ≡ not (eqb (tally s * bit_of these s) (count s * bit_of these s))
      unfolding off_in
      off_at s l =
          off_else width (count s) (tally s) (bit_of first s) (bit_of some s) (bit_of full s) (bit_lt first s) (bit_lt some s) (bit_lt full s)
          (count_lt bytes width counts (8 * k + s)) (somes s l) (fulls s l) (ap (λ (x : ℕ). bit_of x s) (sym same))
          ∙ ap (λ (x : ℕ). not (eqb x 0) && not (eqb (count s) (tally s)))
          (sym (digit_and first (255 - full) s ∙ ap (min (bit_of first s)) (digit_not 8 full s full-lt l)))
          ∙ kept (bit_of these s) (bit_lt these s) (count s) (tally s)
        where
          kept : (m : ℕ) → m < 2 → (c t : ℕ) → (not (eqb m 0) && not (eqb c t)) ≡ not (eqb (t * m) (c * m))
          kept m h c t =
              each_bit (λ (m : ℕ). (not (eqb m 0) && not (eqb c t)) ≡ not (eqb (t * m) (c * m)))
              (sym (ap not (eq-eqb (t * 0) (c * 0) (omega arith))))
              (ap not (same_test c t (t * 1) (c * 1) (λ e. omega arith) (λ e. omega arith)))
              m h

      count_small : (s : ℕ) → s < 8 → count s < 256
      count_small s l =
          let most : 2 ^ width ≤ 2 ^ 4 = pow_mono wide in
          omega (arith, count_lt bytes width counts (8 * k + s))

      lane_small : (t : ℕ → ℕ) → ((s : ℕ) → s < 8 → t s < 256) → (s : ℕ) → s < 8 → t s * bit_of these s < 256
      lane_small t h s l =
          each_bit (λ (m : ℕ). t s * m < 256) (omega arith) (omega (arith, h s l)) (bit_of these s) (bit_lt these s)

      pub eight_held : not (eqb (bit_and (pack tally 8) (pack (λ s. bit_of these s * 255) 8)) (bit_and (pack count 8) (pack (λ s. bit_of these s * 255) 8)))
          ≡ some_below (off_in first bytes width counts at k) 8
      eight_held = rw (masked tally these small, masked count these count_small) (elim (ℕ_discrete (pack left 8) (pack right 8)) [
        | yes e ↦
            ap not (eq-eqb (pack left 8) (pack right 8) e)
            ∙ sym (false_some (off_in first bytes width counts at k) 8
            (λ s l. off_at s l ∙ ap not (eq-eqb (left s) (right s) (pack_each left right 8 (lane_small tally small) (lane_small count count_small) e s l))))
        | no n ↦
            let found = pack_apart left right 8 n in
            ap not (ne_eqb (pack left 8) (pack right 8) n)
            ∙ sym (true_some (off_in first bytes width counts at k) 8 found.0 found.1
            (off_at found.0 found.1 ∙ ap not (ne_eqb (left found.0) (right found.0) found.2)))
      ])
        where
          left : ℕ → ℕ
          left s = tally s * bit_of these s

          right : ℕ → ℕ
          right s = count s * bit_of these s
