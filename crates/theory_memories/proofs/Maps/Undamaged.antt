-- The damage test as facts: what holds of a heap with no kind of damage.
use mathlib.Core.Path.{◌≡◌, sym, ap, ◌∙◌}
use mathlib.Core.Logic.{◌≢◌, ◌⊎◌, inl, inr}
use mathlib.Core.Bool.{Bool, true, false, not, ◌&&◌, ◌||◌, true≢false}
use mathlib.Core.List.{List, [], ◌∷◌}
use Prim.Native.Nat.{ℕ, ◌+◌, ◌*◌, ◌/◌, ◌%◌, ◌^◌, ◌<◌}
use native.Mathlib.Decide.{ℕ_discrete}
use native.Mathlib.Omega.{arith}
use lib.Dec.{leb, ltb, eqb}
use lib.ListN.{length, get_or}
use borrow.Author.Tests.{leb-false, lt-leb, lt-ltb, ltb-true, eqb-true, eqb-false, eq-eqb, ne_eqb, not-false}
use Rattle.bitmap.specs.Bit.{bit_at}
use Rattle.planes.proofs.Counts.{count_lt}
use Rattle.rules.specs.Heap.{Memory, capacity, count_of, is_free, is_last, is_first, size_at, exponent, is_ref, is_data, reference, references}
use Rattle.rules.specs.Tools.{some_below}
use Rattle.rules.specs.Damage.{end_on_free, open_end, unaligned, bad_cell, bad_root, bad_count, stray_data, damage}
use Rattle.rules.proofs.Tests.{test_cases_lem, and_true, true_and, and_false, false_and, or_false, false_or, some_false, false_some}
use Rattle.rules.proofs.Tests.{done, also, first_at_lem, first_none}
use Rattle.rules.proofs.Shape.{Shaped}
use Rattle.rules.proofs.Objects.{bit_cases, bit_one, one_bit, first_facts}
use Rattle.theory_memories.proofs.Maps.Extents.{Delimited, Represents, sizes_of}
use Rattle.theory_memories.proofs.Maps.Parse.{parse}

pub record DamageFree (N w : ℕ) (h : Memory) : Type 0 where
  -- kinds 1 and 2
  pub delimited : Delimited N h.a h.b
  -- kind 3
  pub aligned : (i : ℕ) → is_first N h i ≡ true → i % 2 ^ exponent (size_at N h i) ≡ 0
  -- kind 4
  pub free_cells : (j : ℕ) → j < 4 * N → bit_at h.a (j / 4) ≡ 0 → get_or h.cells j 0 ≡ 0
  pub cell_refs_lem : (j : ℕ) → j < 4 * N → is_ref N h (reference N h j) ≡ true
  pub root_refs : (r : ℕ) → r < length h.roots → is_ref N h (get_or h.roots r 0) ≡ true
  -- kind 5
  pub no_count : (i : ℕ) → i < N → is_first N h i ≡ false → count_of N w h i ≡ 0
  pub some_count : (i : ℕ) → is_first N h i ≡ true → count_of N w h i ≢ 0
  pub counted : (i : ℕ) → is_first N h i ≡ true → (count_of N w h i ≡ capacity w) ⊎ (count_of N w h i ≡ references N h i)
  -- kind 7
  pub data_first : (i : ℕ) → i < N → is_first N h i ≡ false → bit_at h.d i ≡ 0

-- the sizes of an undamaged heap
pub undamaged_represents : (N w : ℕ) (h : Memory) → Shaped N w h → DamageFree N w h → Represents N h.a h.b (sizes_of N h.a h.b)
undamaged_represents N w h s u =
    parse N h.a h.b (omega (arith, s.length_a, s.whole_bytes)) (omega (arith, s.length_b, s.whole_bytes)) u.delimited

-- ---- each kind at one place

module _ (N w : ℕ) (h : Memory) where
  abbrev EndUsed : ℕ → Type 0
  EndUsed i = bit_at h.b i ≡ 0 → bit_at h.a i ≡ 1

  kind1_facts : (i : ℕ) → end_on_free h i ≡ false → EndUsed i
  unfolding end_on_free
  kind1_facts i e end = elim (bit_cases h.a i) [
    | inr used ↦ used
    | inl free ↦
        absurd (eqb-false (bit_at h.b i) 0 (and_false (is_free h.a i) (is_last h.b i) e (eq-eqb (bit_at h.a i) 0 free)) end)
  ]

  kind1_test : (i : ℕ) → EndUsed i → end_on_free h i ≡ false
  unfolding end_on_free
  kind1_test i u =
      false_and (is_free h.a i) (is_last h.b i)
      (λ free. ne_eqb (bit_at h.b i) 0 (λ end. omega (arith, eqb-true (bit_at h.a i) 0 free, u end)))

  abbrev GoesOn : ℕ → Type 0
  GoesOn i = bit_at h.a i ≡ 1 → bit_at h.b i ≡ 1 → (i + 1 < N) × (bit_at h.a (i + 1) ≡ 1)

  abbrev unended : ℕ → Bool
  unended i = not (is_free h.a i) && not (is_last h.b i)

  kind2_facts : (i : ℕ) → open_end N h i ≡ false → GoesOn i
  unfolding open_end
  kind2_facts i e used more =
      let here = true_and (not (is_free h.a i)) (not (is_last h.b i)) (one_bit h.a i used) (one_bit h.b i more) in
      let on = and_false (unended i) (leb N (i + 1) || is_free h.a (i + 1)) e here in
      let next = or_false (leb N (i + 1)) (is_free h.a (i + 1)) on in
      (leb-false N (i + 1) next.0, bit_one h.a (i + 1) (ap not next.1))

  kind2_test : (i : ℕ) → GoesOn i → open_end N h i ≡ false
  unfolding open_end
  kind2_test i g =
      false_and (unended i) (leb N (i + 1) || is_free h.a (i + 1))
      (λ here.
      let bits = and_true (not (is_free h.a i)) (not (is_last h.b i)) here in
      let next = g (bit_one h.a i bits.0) (bit_one h.b i bits.1) in
      false_or (leb N (i + 1)) (is_free h.a (i + 1)) (lt-leb N (i + 1) next.0)
      (ne_eqb (bit_at h.a (i + 1)) 0 (omega (arith, next.1))))

  abbrev offset : ℕ → ℕ
  offset i = i % 2 ^ exponent (size_at N h i)

  kind3_facts : (i : ℕ) → unaligned N h i ≡ false → is_first N h i ≡ true → offset i ≡ 0
  unfolding unaligned
  kind3_facts i e f = eqb-true (offset i) 0 (not-false (eqb (offset i) 0) (and_false (is_first N h i) (not (eqb (offset i) 0)) e f))

  kind3_test : (i : ℕ) → (is_first N h i ≡ true → offset i ≡ 0) → unaligned N h i ≡ false
  unfolding unaligned
  kind3_test i g = false_and (is_first N h i) (not (eqb (offset i) 0)) (λ f. ap not (eq-eqb (offset i) 0 (g f)))

  abbrev cell : ℕ → ℕ
  cell j = get_or h.cells j 0

  abbrev Cell : ℕ → Type 0
  Cell j = (bit_at h.a (j / 4) ≡ 0 → cell j ≡ 0) × (is_ref N h (reference N h j) ≡ true)

  kind4_facts : (j : ℕ) → bad_cell N h j ≡ false → Cell j
  unfolding bad_cell
  kind4_facts j e =
      let both = or_false (is_free h.a (j / 4) && not (eqb (cell j) 0)) (not (is_ref N h (reference N h j))) e in (
        λ free. eqb-true (cell j) 0 (not-false (eqb (cell j) 0)
            (and_false (is_free h.a (j / 4)) (not (eqb (cell j) 0)) both.0 (eq-eqb (bit_at h.a (j / 4)) 0 free))),
        not-false (is_ref N h (reference N h j)) both.1,
      )

  kind4_test : (j : ℕ) → Cell j → bad_cell N h j ≡ false
  unfolding bad_cell
  kind4_test j (clear, ref) =
      false_or (is_free h.a (j / 4) && not (eqb (cell j) 0)) (not (is_ref N h (reference N h j)))
      (false_and (is_free h.a (j / 4)) (not (eqb (cell j) 0))
      (λ free. ap not (eq-eqb (cell j) 0 (clear (eqb-true (bit_at h.a (j / 4)) 0 free)))))
      (ap not ref)

  abbrev count : ℕ → ℕ
  count i = count_of N w h i

  -- "a count below capacity that differs from the number of all cells and roots naming the object"
  abbrev miscounted : ℕ → Bool
  miscounted i = ltb (count i) (capacity w) && not (eqb (count i) (references N h i))

  kind5_none : (i : ℕ) → bad_count N w h i ≡ false → is_first N h i ≡ false → count i ≡ 0
  unfolding bad_count
  kind5_none i e f = eqb-true (count i) 0 (not-false (eqb (count i) 0) (rw (f, bad_count) at e))

  kind5_some : (i : ℕ) → bad_count N w h i ≡ false → is_first N h i ≡ true
      → (count i ≢ 0) × ((count i ≡ capacity w) ⊎ (count i ≡ references N h i))
  unfolding bad_count
  kind5_some i e f =
      let both = or_false (eqb (count i) 0) (miscounted i) (rw (f, bad_count) at e) in (
        eqb-false (count i) 0 both.0,
        elim (ℕ_discrete (count i) (capacity w)) [
          | yes q ↦ inl q
          | no m ↦
              let below : count i < capacity w = omega (arith, count_lt (N / 8) w h.counts i) in
              inr (eqb-true (count i) (references N h i) (not-false (eqb (count i) (references N h i))
              (and_false (ltb (count i) (capacity w)) (not (eqb (count i) (references N h i))) both.1 (lt-ltb (count i) (capacity w) below))))
        ],
      )

  kind5_test : (i : ℕ) → (is_first N h i ≡ false → count i ≡ 0)
      → (is_first N h i ≡ true → (count i ≢ 0) × ((count i ≡ capacity w) ⊎ (count i ≡ references N h i))) → bad_count N w h i ≡ false
  unfolding bad_count
  kind5_test i none some = elim (test_cases_lem (is_first N h i)) [
    | inr f ↦ rw (f, bad_count) (ap not (eq-eqb (count i) 0 (none f)))
    | inl f ↦
        let both = some f in
        rw (f, bad_count)
        (false_or (eqb (count i) 0) (miscounted i) (ne_eqb (count i) 0 both.0)
        (false_and (ltb (count i) (capacity w)) (not (eqb (count i) (references N h i)))
        (λ below. elim both.1 [
          | inl q ↦ absurd (omega (arith, ltb-true (count i) (capacity w) below))
          | inr q ↦ ap not (eq-eqb (count i) (references N h i) q)
        ])))
  ]

  kind7_facts : (i : ℕ) → stray_data N h i ≡ false → is_first N h i ≡ false → bit_at h.d i ≡ 0
  unfolding stray_data
  kind7_facts i e f = elim (bit_cases h.d i) [
    | inl z ↦ z
    | inr o ↦ absurd (true≢false (sym (ap not f) ∙ and_false (is_data h.d i) (not (is_first N h i)) e (eq-eqb (bit_at h.d i) 1 o)))
  ]

  kind7_test : (i : ℕ) → (is_first N h i ≡ false → bit_at h.d i ≡ 0) → stray_data N h i ≡ false
  unfolding stray_data
  kind7_test i g =
      false_and (is_data h.d i) (not (is_first N h i))
      (λ t. elim (test_cases_lem (is_first N h i)) [
        | inl f ↦ ap not f
        | inr f ↦ absurd (omega (arith, g f, eqb-true (bit_at h.d i) 1 t))
      ])

-- ---- all kinds

-- the tests, in order
abbrev kinds : ℕ → ℕ → Memory → List (ℕ × Bool)
kinds N w h =
    (1, some_below (end_on_free h) N)
    ∷ (2, some_below (open_end N h) N)
    ∷ (3, some_below (unaligned N h) N)
    ∷ (4, some_below (bad_cell N h) (4 * N) || some_below (bad_root N h) (length h.roots))
    ∷ (5, some_below (bad_count N w h) N)
    ∷ (7, some_below (stray_data N h) N)
    ∷ []

-- kinds 1 and 2 are absent
pub kinds_delimited :
    (N w : ℕ) (h : Memory) → some_below (end_on_free h) N ≡ false → some_below (open_end N h) N ≡ false → Delimited N h.a h.b
kinds_delimited N w h one two =
    record {
      end_used = λ i l. kind1_facts N w h i (some_false (end_on_free h) N one i l);
      goes_on = λ i l. kind2_facts N w h i (some_false (open_end N h) N two i l);
    }

pub damage_facts : (N w : ℕ) (h : Memory) → damage N w h ≡ 0 → DamageFree N w h
unfolding damage bad_root
damage_facts N w h e = record {
  delimited = kinds_delimited N w h (absent 0) (absent 1);
  aligned = λ i f. kind3_facts N w h i (some_false (unaligned N h) N (absent 2) i (inside i f)) f;
  free_cells = λ j l. (kind4_facts N w h j (some_false (bad_cell N h) (4 * N) slots.0 j l)).0;
  cell_refs_lem = λ j l. (kind4_facts N w h j (some_false (bad_cell N h) (4 * N) slots.0 j l)).1;
  root_refs = λ r l. not-false (is_ref N h (get_or h.roots r 0)) (some_false (bad_root N h) (length h.roots) slots.1 r l);
  no_count = λ i l. kind5_none N w h i (some_false (bad_count N w h) N (absent 4) i l);
  some_count = λ i f. (kind5_some N w h i (some_false (bad_count N w h) N (absent 4) i (inside i f)) f).0;
  counted = λ i f. (kind5_some N w h i (some_false (bad_count N w h) N (absent 4) i (inside i f)) f).1;
  data_first = λ i l. kind7_facts N w h i (some_false (stray_data N h) N (absent 5) i l);
}
  where
    absent : (i : ℕ) → (get_or (kinds N w h) i (0, false)).1 ≡ false
    absent =
        first_at_lem (kinds N w h)
        (also (omega arith) (also (omega arith) (also (omega arith) (also (omega arith) (also (omega arith) (also (omega arith) done)))))) e

    slots : (some_below (bad_cell N h) (4 * N) ≡ false) × (some_below (bad_root N h) (length h.roots) ≡ false)
    slots = or_false (some_below (bad_cell N h) (4 * N)) (some_below (bad_root N h) (length h.roots)) (absent 3)

    inside : (i : ℕ) → is_first N h i ≡ true → i < N
    inside i f = (first_facts N h.a h.b i f).inside

pub damage_test : (N w : ℕ) (h : Memory) → DamageFree N w h → damage N w h ≡ 0
unfolding damage bad_root
damage_test N w h u =
    first_none (kinds N w h)
    (also (false_some (end_on_free h) N (λ i l. kind1_test N w h i (u.delimited.end_used i l)))
    (also (false_some (open_end N h) N (λ i l. kind2_test N w h i (u.delimited.goes_on i l)))
    (also (false_some (unaligned N h) N (λ i l. kind3_test N w h i (u.aligned i)))
    (also slots
    (also (false_some (bad_count N w h) N (λ i l. kind5_test N w h i (u.no_count i l) (λ f. (u.some_count i f, u.counted i f))))
    (also (false_some (stray_data N h) N (λ i l. kind7_test N w h i (u.data_first i l))) done))))))
  where
    slots : some_below (bad_cell N h) (4 * N) || some_below (bad_root N h) (length h.roots) ≡ false
    slots =
        false_or (some_below (bad_cell N h) (4 * N)) (some_below (bad_root N h) (length h.roots))
        (false_some (bad_cell N h) (4 * N) (λ j l. kind4_test N w h j (u.free_cells j l, u.cell_refs_lem j l)))
        (false_some (bad_root N h) (length h.roots) (λ r l. ap not (u.root_refs r l)))
