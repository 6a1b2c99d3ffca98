-- A copy depends on the shape alone: two heaps of one shape have equal copies.
use mathlib.Core.Path.{◌≡◌, refl, sym, ap, ◌∙◌}
use mathlib.Core.Logic.{inl, inr}
use mathlib.Core.List.{List, ◌∷◌, map, map-map}
use mathlib.Core.Option.{Option}
use Prim.Native.Nat.{ℕ, zero, suc, ◌*◌, ◌≤◌, ◌<◌}
use native.Mathlib.Omega.{arith}
use lib.Dec.{eqb}
use lib.ListN.{length, get_or}
use Rattle.bitmap.specs.Bit.{bit_at}
use Rattle.rules.specs.Heap.{Memory, with_roots, capacity, is_first, size_at, is_data}
use Rattle.rules_stores.specs.Store.{formatted, made_at}
use Rattle.rules_stores.specs.Collection.{collected}
use Rattle.rules_output.specs.Walk.{number_in, block_at, references_of, numbered}
use Rattle.rules_output.specs.Shape.{cells_of}
use Rattle.rules_copy.specs.Copy.{Laid, size_of, lay_next, lay_first, lay_all, places_in, new_reference, new_cell, fill_cells, copy_one, copy_first, copy_all, copied}
use Rattle.rules.proofs.Tests.{test_cases_lem}
use Rattle.theory_memories.specs.Words.{Object}
use Rattle.theory_walks.proofs.Walks.Numbers.{number_zero}
use Rattle.theory_walks.proofs.Walks.Reached.{references_at, led_first, Named, numbered_distinct, all_met}
use Rattle.theory_walks.proofs.Walks.Equal.{cells_at, described_data, described_other, described_sizes, Alike, maps_at}
use Rattle.theory_copies.proofs.Copies.Image.{cell_data, cell_other}

fill_same : (f f' : ℕ → ℕ) (cells : List ℕ) (p n : ℕ) → ((j : ℕ) → j < n → f j ≡ f' j) → fill_cells f cells p n ≡ fill_cells f' cells p n
unfolding fill_cells
fill_same f f' cells p zero same = refl
fill_same f f' cells p (suc n) same = rw (fill_same f f' cells p n (λ j l. same j (omega arith)), same n (omega arith)) refl

-- what the object of number k + 1 is copied from
object : (N : ℕ) (h : Memory) → Named N h → (k : ℕ) → k < length (numbered N h) → Object N h (block_at (numbered N h) (suc k)) (size_of N h (numbered N h) k)
object N h named k l =
    let o = (all_met N h named).each_object k l in
    let is : block_at (numbered N h) (suc k) ≡ o.0 = omega (arith, o.2.object) in
    record { first = ap (is_first N h) is ∙ led_first N h o.1; size = refl }

module _ (N K : ℕ) (h f : Memory) (named : Named N h) (named' : Named K f) (alike : Alike N h K f) where
  abbrev met : List ℕ
  met = numbered N h

  abbrev met' : List ℕ
  met' = numbered K f

  abbrev block : ℕ → ℕ
  block k = block_at met (suc k)

  abbrev block' : ℕ → ℕ
  block' k = block_at met' (suc k)

  same_object : (k : ℕ) → k < length met → (size_at N h (block k) ≡ size_at K f (block' k)) × (bit_at h.d (block k) ≡ bit_at f.d (block' k))
  same_object k l = described_sizes N K h f met met' (block k) (block' k) (alike.each k l)

  same_kind : (k : ℕ) → k < length met → is_data f.d (block' k) ≡ is_data h.d (block k)
  same_kind k l = ap (λ (x : ℕ). eqb x 1) (sym (same_object k l).1)

  module _ (places : List ℕ) where
    same_cell : (k j : ℕ) → k < length met → j < 4 * size_at N h (block k) → new_cell h met places (block k) j ≡ new_cell f met' places (block' k) j
    same_cell k j l u =
        let u' : j < 4 * size_at K f (block' k) = omega (arith, (same_object k l).0) in
        let l' : k < length met' = omega (arith, alike.objects) in
        elim (test_cases_lem (is_data h.d (block k))) [
          | inl made ↦
              let shown : size_at N h (block k) ∷ bit_at h.d (block k) ∷ cells_of N h (block k)
              ≡ size_at K f (block' k) ∷ bit_at f.d (block' k) ∷ cells_of K f (block' k) =
              sym (described_data N h met (block k) made) ∙ alike.each k l ∙ described_data K f met' (block' k) (same_kind k l ∙ made) in
              let lists : cells_of N h (block k) ≡ cells_of K f (block' k) = cc in
              cell_data h met places (block k) j made
              ∙ sym (cells_at N h (block k) j u) ∙ ap (λ (x : List ℕ). get_or x j 0) lists ∙ cells_at K f (block' k) j u'
              ∙ sym (cell_data f met' places (block' k) j (same_kind k l ∙ made))
          | inr other ↦
              let shown : size_at N h (block k) ∷ bit_at h.d (block k) ∷ map (number_in met) (references_of N h (block k))
              ≡ size_at K f (block' k) ∷ bit_at f.d (block' k) ∷ map (number_in met') (references_of K f (block' k)) =
              sym (described_other N h met (block k) other) ∙ alike.each k l ∙ described_other K f met' (block' k) (same_kind k l ∙ other) in
              let lists : map (number_in met) (references_of N h (block k)) ≡ map (number_in met') (references_of K f (block' k)) = cc in
              let numbers = maps_at (number_in met) (number_in met') (references_of N h (block k)) (references_of K f (block' k))
              (number_zero (numbered_distinct N h named)) (number_zero (numbered_distinct K f named')) lists j in
              let held = sym (named.read.of_others (block k) _ j (object N h named k l) other u) ∙ sym (references_at N h (block k) j u) in
              let held' = references_at K f (block' k) j u' ∙ named'.read.of_others (block' k) _ j (object K f named' k l') (same_kind k l ∙ other) u' in
              cell_other h met places (block k) j other
              ∙ ap (new_reference places) (ap (number_in met) held ∙ numbers ∙ ap (number_in met') held')
              ∙ sym (cell_other f met' places (block' k) j (same_kind k l ∙ other))
        ]

    module _ (M v : ℕ) where
      same_copy :
          (k : ℕ) → k < length met → (g : Memory) (p : ℕ)
          → copy_one N h met places M v g (block k) p ≡ copy_one K f met' places M v g (block' k) p
      unfolding copy_one
      same_copy k l g p =
          let size = (same_object k l).0 in
          let bit = (same_object k l).1 in
          let cells : fill_cells (new_cell h met places (block k)) g.cells (4 * p) (4 * size_at N h (block k))
          ≡ fill_cells (new_cell f met' places (block' k)) g.cells (4 * p) (4 * size_at K f (block' k)) =
          fill_same (new_cell h met places (block k)) (new_cell f met' places (block' k)) g.cells (4 * p) (4 * size_at N h (block k)) (λ j u. same_cell k j l u)
          ∙ ap (λ (n : ℕ). fill_cells (new_cell f met' places (block' k)) g.cells (4 * p) (4 * n)) size in
          λ i. made_at M v g p (size i) (capacity v) (cells i) (bit i)

      same_copies : (k : ℕ) → k ≤ length met → copy_first N h met places M v k ≡ copy_first K f met' places M v k
      unfolding copy_first
      same_copies zero l = ap (formatted M v) alike.number
      same_copies (suc k) l =
          same_copy k (omega arith) (copy_first N h met places M v k) (get_or places k 0)
          ∙ ap (λ (g : Memory). copy_one K f met' places M v g (block' k) (get_or places k 0)) (same_copies k (omega arith))

      same_roots : map (λ x. new_reference places (number_in met x)) h.roots ≡ map (λ x. new_reference places (number_in met' x)) f.roots
      same_roots =
          sym (map-map (new_reference places) (number_in met) h.roots) ∙ ap (map (new_reference places)) alike.roots
          ∙ map-map (new_reference places) (number_in met') f.roots

      same_all : copy_all N h met places M v ≡ copy_all K f met' places M v
      unfolding copy_all
      same_all =
          let copies = same_copies (length met) (omega arith) ∙ ap (copy_first K f met' places M v) alike.objects in
          λ i. with_roots (same_roots i) (copies i)

  module _ (M : ℕ) where
    same_laid : (k : ℕ) → k ≤ length met → lay_first M (size_of N h met) k ≡ lay_first M (size_of K f met') k
    unfolding lay_first
    same_laid zero l = refl
    same_laid (suc k) l = λ i. lay_next M ((same_object k (omega arith)).0 i) (same_laid k (omega arith) i)

    pub same_places : lay_all N h M ≡ lay_all K f M
    unfolding lay_all
    same_places = same_laid (length met) (omega arith) ∙ ap (lay_first M (size_of K f met')) alike.objects

    pub same_copied : (v : ℕ) → copied N h M v ≡ copied K f M v
    unfolding copied
    same_copied v =
        ap (λ (o : Option Laid). collected M v (copy_all N h met (places_in o) M v)) same_places
        ∙ ap (collected M v) (same_all (places_in (lay_all K f M)) M v)
