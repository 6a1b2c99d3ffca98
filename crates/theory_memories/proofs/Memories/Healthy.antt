-- What is carried from call to call about a lent memory: its shape, that its maps stand for the sizes read off them, that its view keeps
-- the laws of the object graph, that every object is aligned, and that nothing is left where no object stands. Exactly the memories with the
-- right shape and no damage are healthy.
use mathlib.Core.Path.{◌≡◌, sym, ap, ◌∙◌}
use mathlib.Core.Logic.{◌≢◌, ◌⊎◌, inl, inr}
use mathlib.Core.Bool.{true, false, true≢false}
use mathlib.Core.List.{List, []}
use Prim.Native.Nat.{ℕ, suc, ◌+◌, ◌-◌, ◌*◌, ◌/◌, ◌%◌, ◌^◌, ◌≤◌, ◌<◌}
use native.Mathlib.Nat.{add-zero}
use native.Mathlib.Decide.{ℕ_discrete, dec_lt}
use native.Mathlib.Omega.{arith}
use lib.ListN.{length, get_or, length-append, get_or-eq_default}
use lib.Pow.{pow_mono}
use Rattle.bitmap.proofs.Maps.{bit_past_end}
use Rattle.planes.proofs.Counts.{count_lt}
use Rattle.rules.specs.Heap.{Memory, shaped, capacity, count_of, is_first, exponent, is_ref, reference}
use Rattle.rules.specs.Damage.{damage}
use Rattle.rules.proofs.Tests.{test_cases_lem}
use Rattle.rules.proofs.Shape.{Shaped, shape_facts, shape_test}
use Rattle.rules.proofs.Objects.{bit_cases, first_facts, ref_test}
use Rattle.rules.proofs.Tabulate.{length_tabulate, get_d_tabulate}
use Rattle.theory_memories.proofs.Maps.Extents.{Represents, sizes_of, length_sizes_of, size_not_first, sized_first, first_size, extent, represents_delimited}
use Rattle.theory_memories.proofs.Maps.Undamaged.{DamageFree, undamaged_represents, damage_facts, damage_test}
use Rattle.theory_graphs.proofs.Graphs.Occurrences.{equals_none, occurrences, occurrences_nil, occurrences_find}
use Rattle.theory_graphs.proofs.Graphs.Graph.{size, count, slot, Owns}
use Rattle.theory_graphs.proofs.Graphs.Balance.{Law, unreferenced, unreferenced_absent, unreferenced_counted, all_counted, named_object}
use Rattle.theory_graphs.proofs.Graphs.Calls.{Whole}
use Rattle.rules.proofs.Reading.{read_free}
use Rattle.theory_memories.proofs.Memories.Reading.{Bare}
use Rattle.theory_memories.proofs.Memories.View.{cell_refs, slots_in, view}
use Rattle.theory_memories.proofs.Memories.Slots.{root_slot, cell_slot, length_cell_refs, cell_within, slot_cases, references_slots, ref_first}

-- every object starts at a multiple of the least power of two that is its size or more
abbrev pub Aligned : List ℕ → Type 0
Aligned sizes = (x : ℕ) → get_or sizes x 0 ≢ 0 → x % 2 ^ exponent (get_or sizes x 0) ≡ 0

pub record Healthy (N w : ℕ) (h : Memory) : Type 0 where
  pub shape : Shaped N w h
  pub represents : Represents N h.a h.b (sizes_of N h.a h.b)
  pub whole : Whole (capacity w) (length h.roots) (view N w h)
  pub aligned : Aligned (sizes_of N h.a h.b)
  pub bare : Bare N h.a h.b h.d h.cells

pub capacity_positive : (w : ℕ) → 1 ≤ w → 0 < capacity w
capacity_positive w l = omega (arith, pow_mono {i = 1} {j = w} l)

pub view_count : (N w : ℕ) (h : Memory) (b : ℕ) → b < N → count (view N w h) b ≡ count_of N w h b
view_count N w h b l = get_d_tabulate 0 N (count_of N w h) b l

-- ---- no damage makes a healthy memory

module _ (N w : ℕ) (h : Memory) (shape : Shaped N w h) (undamaged : DamageFree N w h) where
  represents : Represents N h.a h.b (sizes_of N h.a h.b)
  represents = undamaged_represents N w h shape undamaged

  -- what a slot names is the first block of an object
  named : (s b : ℕ) → get_or (slots_in N h) s 0 ≡ suc b → is_first N h b ≡ true
  named s b e =
      elim (slot_cases h s) [
        | inl l ↦ ref_first N h (get_or h.roots s 0) b (undamaged.root_refs s l) (sym (root_slot N h s l) ∙ e)
        | inr q ↦ cell q.0 (ap (λ (i : ℕ). get_or (slots_in N h) i 0) (sym q.1) ∙ e)
      ]
    where
      cell : (j : ℕ) → get_or (slots_in N h) (length h.roots + j) 0 ≡ suc b → is_first N h b ≡ true
      cell j p =
          let inside = cell_within N h j (omega arith) in
          ref_first N h (reference N h j) b (undamaged.cell_refs_lem j inside) (sym (cell_slot N h j inside) ∙ p)

  -- nothing names a block that is not a first one, and it has no count
  unnamed : (b : ℕ) → is_first N h b ≡ false → occurrences (suc b) (slots_in N h) ≡ 0
  unnamed b f =
      elim (dec_lt 0 (occurrences (suc b) (slots_in N h))) [
        | yes l ↦ let found = occurrences_find (suc b) (slots_in N h) l in absurd (true≢false (sym (named found.0 b found.2) ∙ f))
        | no l ↦ omega arith
      ]

  uncounted : (b : ℕ) → is_first N h b ≡ false → count (view N w h) b ≡ 0
  uncounted b f =
      elim (dec_lt b N) [
        | yes l ↦ view_count N w h b l ∙ undamaged.no_count b l f
        | no l ↦ get_or-eq_default (view N w h).counts 0 {n = b} (omega (arith, length_tabulate N (count_of N w h)))
      ]

  undamaged_law : (b : ℕ) → Law (capacity w) (size (view N w h) b) (count (view N w h) b) (occurrences (suc b) (slots_in N h))
  undamaged_law b = elim (test_cases_lem (is_first N h b)) [ inl f ↦ object f | inr f ↦ other f ]
    where
      object : is_first N h b ≡ true → Law (capacity w) (size (view N w h) b) (count (view N w h) b) (occurrences (suc b) (slots_in N h))
      object f =
          let c = view_count N w h b (first_facts N h.a h.b b f).inside in
          record {
            bounded = omega (arith, count_lt (N / 8) w h.counts b);
            exact = λ l.
                elim (undamaged.counted b f) [
                  | inl e ↦ absurd (omega arith)
                  | inr e ↦ c ∙ e ∙ sym (references_slots N h b)
                ];
            absent = λ z. absurd (first_size N h.a h.b (sizes_of N h.a h.b) represents b f z);
          }

      other : is_first N h b ≡ false → Law (capacity w) (size (view N w h) b) (count (view N w h) b) (occurrences (suc b) (slots_in N h))
      other f =
          let c = uncounted b f in
          let n = unnamed b f in
          record { bounded = omega arith; exact = λ l. omega arith; absent = λ z. c }

  waits : (b : ℕ) → occurrences b [] ≡ unreferenced (size (view N w h) b) (count (view N w h) b)
  waits b =
      elim (test_cases_lem (is_first N h b)) [
        | inl f ↦
            occurrences_nil b
            ∙ sym
            (unreferenced_counted
            (size (view N w h) b)
            (count (view N w h) b)
            (λ z. undamaged.some_count b f (sym (view_count N w h b (first_facts N h.a h.b b f).inside) ∙ z)))
        | inr f ↦
            occurrences_nil b
            ∙ sym (unreferenced_absent (size (view N w h) b) (count (view N w h) b) (size_not_first N h.a h.b b f))
      ]

  -- a cell that is not 0 is one of a used block, which has an owner
  owned :
      (s : ℕ) → get_or (slots_in N h) s 0 ≢ 0
      → (s < length h.roots) ⊎ ((x : ℕ) × Owns (length h.roots) (sizes_of N h.a h.b) x s)
  owned s n =
      elim (slot_cases h s) [
        | inl l ↦ inl l
        | inr q ↦ inr (cell q.0 q.1 (λ z. n (ap (λ (i : ℕ). get_or (slots_in N h) i 0) q.1 ∙ z)))
      ]
    where
      cell :
          (j : ℕ) → s ≡ length h.roots + j → get_or (slots_in N h) (length h.roots + j) 0 ≢ 0
          → (x : ℕ) × Owns (length h.roots) (sizes_of N h.a h.b) x s
      cell j e some =
          let inside = cell_within N h j some in
          elim (bit_cases h.a (j / 4)) [
            | inl z ↦
                absurd
                (some
                (cell_slot N h j inside ∙ read_free N h.a h.b h.d h.cells j z ∙ undamaged.free_cells j inside z))
            | inr u ↦
                let o = represents.owner (j / 4) u in
                (o.0, (omega (arith, o.1), omega (arith, o.2)))
          ]

  bare : Bare N h.a h.b h.d h.cells
  bare =
      record {
        free_cells = λ j z.
            elim (dec_lt j (4 * N)) [
              | yes l ↦ undamaged.free_cells j l z
              | no l ↦ get_or-eq_default h.cells 0 {n = j} (omega (arith, shape.length_cells))
            ];
        data_first = λ i f.
            elim (dec_lt i N) [
              | yes l ↦ undamaged.data_first i l f
              | no l ↦ bit_past_end h.d i (omega (arith, shape.length_d, shape.whole_bytes))
            ];
      }

  pub undamaged_healthy : Healthy N w h
  undamaged_healthy =
      record {
        shape = shape;
        represents = represents;
        whole = record {
          balanced = λ b. rw (equals_none b, add-zero) (undamaged_law b);
          waits = waits;
          shape = record {
            disjoint = represents.apart;
            inside = λ x n. rw (length_sizes_of N h.a h.b) (represents.inside x n);
            counts_length = length_tabulate N (count_of N w h) ∙ sym (length_sizes_of N h.a h.b);
            slots_length = omega (arith, length-append h.roots (cell_refs N h), length_cell_refs N h, length_sizes_of N h.a h.b);
            owned = owned;
          };
        };
        aligned = λ x n.
            ap (λ (m : ℕ). x % 2 ^ exponent m) (sym (extent N h.a h.b (sizes_of N h.a h.b) represents x n))
            ∙ undamaged.aligned x (sized_first N h.a h.b x n);
        bare = bare;
      }

-- ---- and the other way

module _ (N w : ℕ) (h : Memory) (healthy : Healthy N w h) where
  sized : (i : ℕ) → is_first N h i ≡ true → size (view N w h) i ≢ 0
  sized i f = first_size N h.a h.b (sizes_of N h.a h.b) healthy.represents i f

  -- what a slot holds is a reference
  slot_ref : (s v : ℕ) → slot (view N w h) s ≡ v → is_ref N h v ≡ true
  slot_ref s v e = ref_test N h.a h.b v (cases (ℕ_discrete v 0))
    where
      cases : Dec (v ≡ 0) → (v ≡ 0) ⊎ (is_first N h (v - 1) ≡ true)
      cases (yes z) = inl z
      cases (no n) =
          inr
          (sized_first N h.a h.b (v - 1)
          (named_object (capacity w) (capacity_positive w healthy.shape.width_min) (view N w h) healthy.whole.balanced s (v - 1) (omega arith)))

  pub healthy_damage_free : DamageFree N w h
  healthy_damage_free =
      record {
        delimited = represents_delimited N h.a h.b (sizes_of N h.a h.b) healthy.represents;
        aligned = λ i f.
            ap (λ (m : ℕ). i % 2 ^ exponent m) (extent N h.a h.b (sizes_of N h.a h.b) healthy.represents i (sized i f))
            ∙ healthy.aligned i (sized i f);
        free_cells = λ j l z. healthy.bare.free_cells j z;
        cell_refs_lem = λ j l. slot_ref (length h.roots + j) (reference N h j) (cell_slot N h j l);
        root_refs = λ s l. slot_ref s (get_or h.roots s 0) (root_slot N h s l);
        no_count = λ i l f. sym (view_count N w h i l) ∙ (healthy.whole.balanced i).absent (size_not_first N h.a h.b i f);
        some_count = λ i f z.
            all_counted (view N w h) healthy.whole.waits i (sized i f)
            (view_count N w h i (first_facts N h.a h.b i f).inside ∙ z);
        counted = λ i f.
            let c = view_count N w h i (first_facts N h.a h.b i f).inside in
            let law = healthy.whole.balanced i in
            elim (dec_lt (count_of N w h i) (capacity w)) [
              | yes l ↦ inr (omega (arith, law.exact (omega arith), equals_none i, references_slots N h i))
              | no l ↦ inl (omega (arith, law.bounded))
            ];
        data_first = λ i l f. healthy.bare.data_first i f;
      }

-- ---- as the tests of a call have it

pub healthy_facts : (N w : ℕ) (h : Memory) → shaped N w h ≡ true → damage N w h ≡ 0 → Healthy N w h
healthy_facts N w h s d = undamaged_healthy N w h (shape_facts N w h s) (damage_facts N w h d)

pub healthy_shaped : (N w : ℕ) (h : Memory) → Healthy N w h → shaped N w h ≡ true
healthy_shaped N w h healthy = shape_test N w h healthy.shape

pub healthy_no_damage : (N w : ℕ) (h : Memory) → Healthy N w h → damage N w h ≡ 0
healthy_no_damage N w h healthy = damage_test N w h (healthy_damage_free N w h healthy)
