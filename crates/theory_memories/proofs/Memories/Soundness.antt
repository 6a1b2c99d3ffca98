-- A healthy memory with a true list of sections is sound in the words of demand 3. Most of that is read off the two maps. The number of references takes a step: the
-- words count the cells of objects, the damage test counts all cells, and every cell that is read as a reference is one of an object.
use mathlib.Core.Path.{◌≡◌, refl, sym, ap, ◌∙◌}
use mathlib.Core.Logic.{◌⊎◌, inl, inr}
use mathlib.Core.Bool.{Bool, true, false, ◌&&◌}
use Prim.Native.Nat.{ℕ, ◌+◌, ◌*◌, ◌/◌, ◌%◌, ◌^◌, ◌≤◌, ◌<◌}
use native.Mathlib.Decide.{dec_lt}
use native.Mathlib.Omega.{arith}
use lib.Dec.{leb, ltb, eqb}
use lib.ListN.{get_or}
use borrow.Author.Tests.{eqb-true, lt-ltb, le-leb}
use Rattle.bitmap.specs.Bit.{bit_at}
use Rattle.bitmap.proofs.Zeros.{count_same}
use Rattle.rules.specs.Tools.{holding}
use Rattle.rules.specs.Heap.{Memory, capacity, count_of, is_first, size_at, exponent, reference, references}
use Rattle.rules.specs.Sections.{figures}
use Rattle.rules_stores.specs.Collection.{is_cell_of, cell_of_chosen, references_from}
use Rattle.theory_memories.specs.Words.{Object, Names, by_root, by_cell, number_of_references, InExtent}
use Rattle.theory_memories.specs.Sound.{Sound}
use Rattle.rules.proofs.Tests.{test_cases_lem, true_and, true_some}
use Rattle.rules.proofs.Objects.{bit_cases}
use Rattle.theory_memories.proofs.Maps.Extents.{Represents, sizes_of}
use Rattle.theory_memories.proofs.Maps.Undamaged.{DamageFree}
use Rattle.rules.proofs.Reading.{read_free}
use Rattle.theory_memories.proofs.Memories.Slots.{ref_first}
use Rattle.theory_memories.proofs.Memories.Healthy.{Healthy, healthy_damage_free}
use Rattle.theory_memories.proofs.Memories.Leads.{object_size, size_object}

-- ---- the number of references, where the cells of free blocks are 0

module _ (N : ℕ) (h : Memory) (represents : Represents N h.a h.b (sizes_of N h.a h.b))
    (free_cells : (j : ℕ) → bit_at h.a (j / 4) ≡ 0 → get_or h.cells j 0 ≡ 0) where
  -- block i lies in the object at x, by the sizes and by the words
  covers : (x i : ℕ) → x ≤ i → i < x + get_or (sizes_of N h.a h.b) x 0 → InExtent N h i x
  covers x i l u =
      let object = size_object N h (sizes_of N h.a h.b) represents x (omega arith) in
      record { first = object.first; from = l; below = omega (arith, object.size) }

  -- a cell that holds a name is one of an object
  owned_cell : (j b : ℕ) → j < 4 * N → reference N h j ≡ b + 1 → cell_of_chosen N h (is_first N h) j ≡ true
  unfolding cell_of_chosen is_cell_of
  owned_cell j b l e =
      elim (bit_cases h.a (j / 4)) [
        | inl z ↦ absurd (omega (arith, read_free N h.a h.b h.d h.cells j z, free_cells j z))
        | inr u ↦ let o = represents.owner (j / 4) u in found o.0 (covers o.0 (j / 4) o.1 o.2)
      ]
    where
      found : (x : ℕ) → InExtent N h (j / 4) x → cell_of_chosen N h (is_first N h) j ≡ true
      found x extent =
          true_some
          (λ i. is_first N h i && is_first N h i && is_cell_of N h i j)
          N
          x
          (omega (arith, extent.from))
          (true_and
          (is_first N h x && is_first N h x)
          (is_cell_of N h x j)
          (true_and (is_first N h x) (is_first N h x) extent.first extent.first)
          (true_and
          (leb (4 * x) j)
          (ltb j (4 * (x + size_at N h x)))
          (le-leb (4 * x) j (omega (arith, extent.from)))
          (lt-ltb j (4 * (x + size_at N h x)) (omega (arith, extent.below)))))

  -- so all references are those that the rules count for objects
  pub all_references : (b : ℕ) → number_of_references N h b ≡ references N h b
  unfolding references_from
  all_references b =
      ap
      (λ (n : ℕ). holding (b + 1) h.roots + n)
      (count_same
      (λ j. elim (eqb (reference N h j) (b + 1)) [ true ↦ cell_of_chosen N h (is_first N h) j | false ↦ false ])
      (λ j. eqb (reference N h j) (b + 1))
      (4 * N)
      (λ j l.
      passed
      (eqb (reference N h j) (b + 1))
      (cell_of_chosen N h (is_first N h) j)
      (λ e. owned_cell j b l (eqb-true (reference N h j) (b + 1) e))))
    where
      -- a second test that passes wherever the first does
      passed : (s t : Bool) → (s ≡ true → t ≡ true) → elim s [ true ↦ t | false ↦ false ] ≡ s
      passed true t p = p refl
      passed false t p = refl

module _ (N w : ℕ) (h : Memory) (healthy : Healthy N w h) where
  undamaged : DamageFree N w h
  undamaged = healthy_damage_free N w h healthy

  -- ---- extents

  covered : (x i : ℕ) → InExtent N h i x → i < x + get_or (sizes_of N h.a h.b) x 0
  covered x i e =
      let object : Object N h x (size_at N h x) = record { first = e.first; size = refl } in
      omega (arith, (object_size N h (sizes_of N h.a h.b) healthy.represents x (size_at N h x) object).0, e.below)

  apart : (i x y : ℕ) → x < y → InExtent N h i x → InExtent N h i y → x + get_or (sizes_of N h.a h.b) x 0 ≤ y
  apart i x y l p q =
      healthy.represents.apart x y l (omega (arith, p.from, covered x i p)) (omega (arith, q.from, covered y i q))

  -- ---- references

  named : (b : ℕ) → Names N h b → is_first N h b ≡ true
  named b (by_root r l e) = ref_first N h (get_or h.roots r 0) b (undamaged.root_refs r l) (omega arith)
  named b (by_cell a n j object l e) =
      let same = object_size N h (sizes_of N h.a h.b) healthy.represents a n object in
      let inside = healthy.represents.inside a (λ z. same.1 (sym same.0 ∙ z)) in
      ref_first N h (reference N h (4 * a + j)) b (undamaged.cell_refs_lem (4 * a + j) (omega (arith, same.0))) (omega arith)

  pub healthy_counted : (b : ℕ) → is_first N h b ≡ true → (count_of N w h b ≡ capacity w) ⊎ (count_of N w h b ≡ number_of_references N h b)
  healthy_counted b f =
      elim (undamaged.counted b f) [
        | inl e ↦ inl e
        | inr e ↦ inr (e ∙ sym (all_references N h healthy.represents healthy.bare.free_cells b))
      ]

  pub healthy_sound : h.sections ≡ figures N h.a → Sound N w h
  healthy_sound listed =
      record {
        named = named;
        counted = healthy_counted;
        covered = λ i l u. let o = healthy.represents.owner i u in (o.0, covers N h healthy.represents healthy.bare.free_cells o.0 i o.1 o.2);
        disjoint = λ i x y p q.
            elim (dec_lt x y) [
              | yes l ↦ absurd (omega (arith, apart i x y l p q, q.from, covered x i p))
              | no l ↦
                  elim (dec_lt y x) [ yes u ↦ absurd (omega (arith, apart i y x u q p, p.from, covered y i q)) | no u ↦ omega arith ]
            ];
        allocated = λ i x e.
            let l = covered x i e in
            (omega (arith, healthy.represents.inside x (omega (arith, e.from)), e.from), healthy.represents.used x i e.from l);
        aligned = λ x n object. ap (λ (m : ℕ). x % 2 ^ exponent m) (sym object.size) ∙ undamaged.aligned x object.first;
        cleared = undamaged.free_cells;
        listed = listed;
        data_first = λ i l e.
            elim (test_cases_lem (is_first N h i)) [ inl f ↦ f | inr f ↦ absurd (omega (arith, healthy.bare.data_first i f)) ];
      }
