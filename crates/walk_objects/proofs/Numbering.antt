-- The walk over a heap in the local arrays.
use mathlib.Core.Path.{◌≡◌, refl, sym, ap, ◌∙◌, subst}
use mathlib.Core.Logic.{◌≢◌, ◌⊎◌, inl, inr}
use mathlib.Core.Bool.{true, false}
use mathlib.Core.List.{List, [], ◌∷◌, ◌++◌}
use Prim.Native.Nat.{ℕ, zero, suc, ◌+◌, ◌-◌, ◌*◌, ◌≤◌, ◌<◌}
use native.Mathlib.Decide.{ℕ_discrete}
use native.Mathlib.Omega.{arith}
use lib.ListN.{length, get_or, take, drop, length-append, length-drop, get_or-append}
use lib.Seq.{ext_get_or, get_or-append-add, length-take-le}
use Rattle.std.proofs.lemmas.List.{get_or-take, get_or-drop}
use Rattle.rules.specs.Heap.{Memory, max_blocks, is_first, size_at, is_data}
use Rattle.rules_stores.specs.Store.{naming_cells}
use Rattle.rules_output.specs.Walk.{object_at, walk, references_of, followed}
use Rattle.rules.proofs.Objects.{first_facts}
use Rattle.rules.proofs.Tests.{test_cases_lem}
use Rattle.theory_memories.specs.Words.{Leads}
use Rattle.theory_walks.proofs.Walks.Numbers.{object_same, object_other, object_some}
use Rattle.theory_walks.proofs.Walks.Steps.{all_at, walk_all, distinct_length}
use Rattle.theory_walks.proofs.Walks.Reached.{references_length, references_at, followed_zero, followed_block, follows, led_first, Named}
use Rattle.theory_walks.proofs.Walks.Reached.{root_led, cell_led, roots_below, cells_below}
use Rattle.walk_objects.specs.Walking.{Walked, walked_heap, last_first, part}
use Rattle.walk_objects.proofs.Meeting.{top_length}

-- ---- parts

pub part_length : (l : List ℕ) (j n : ℕ) → length (part l j n) ≡ n
unfolding part
part_length l j zero = refl
part_length l j (suc n) = length-append (part l j n) (get_or l (j + n) 0 ∷ []) ∙ omega (arith, part_length l j n)

pub part_at : (l : List ℕ) (j n i : ℕ) → i < n → get_or (part l j n) i 0 ≡ get_or l (j + i) 0
unfolding part
part_at l j zero i h = absurd (omega arith)
part_at l j (suc n) i h = elim (ℕ_discrete i n) [
  | yes e ↦
      let place : i ≡ length (part l j n) + 0 = omega (arith, part_length l j n) in
      ap (λ (x : ℕ). get_or (part l j n ++ (get_or l (j + n) 0 ∷ [])) x 0) place
      ∙ get_or-append-add (part l j n) (get_or l (j + n) 0 ∷ []) 0 0
      ∙ ap (λ (x : ℕ). get_or l (j + x) 0) (sym e)
  | no d ↦ get_or-append (part l j n) (get_or l (j + n) 0 ∷ []) 0 i (omega (arith, part_length l j n)) ∙ part_at l j n i (omega arith)
]

-- a subslice
pub part_slice : (l : List ℕ) (j n : ℕ) → j + n ≤ length l → take n (drop j l) ≡ part l j n
part_slice l j n room =
    ext_get_or 0 (take n (drop j l)) (part l j n) (long ∙ sym (part_length l j n))
    (λ i h.
    let inside : i < n = omega (arith, long) in
    get_or-take n (drop j l) i 0 inside ∙ get_or-drop j l i 0 ∙ sym (part_at l j n i inside))
  where
    long : length (take n (drop j l)) ≡ n
    long = length-take-le n (drop j l) (omega (arith, length-drop j l))

pub part_whole : (l : List ℕ) → part l 0 (length l) ≡ l
part_whole l =
    ext_get_or 0 (part l 0 (length l)) l (part_length l 0 (length l))
    (λ i h.
    let place : 0 + i ≡ i = omega arith in
    part_at l 0 (length l) i (omega (arith, part_length l 0 (length l))) ∙ ap (λ (x : ℕ). get_or l x 0) place)

-- object k + 1 stands at place k
pub top_object : (order : List ℕ) (n k : ℕ) → k < n → object_at (last_first order n) (suc k) ≡ get_or order k 0
unfolding last_first
top_object order zero k h = absurd (omega arith)
top_object order (suc n) k h = elim (ℕ_discrete k n) [
  | yes e ↦
      object_same (get_or order n 0) (suc k) (last_first order n) (omega (arith, top_length order n)) ∙ ap (λ (x : ℕ). get_or order x 0) (sym e)
  | no d ↦
      object_other (get_or order n 0) (suc k) (last_first order n) (omega (arith, top_length order n)) ∙ top_object order n k (omega arith)
]

-- ---- in a heap

module _ (N : ℕ) (a b d cells roots : List ℕ) (named : Named N (walked_heap a b d cells roots)) where
  abbrev pub heap : Memory
  heap = walked_heap a b d cells roots

  abbrev pub steps : ℕ → List ℕ
  steps k = walk roots (followed N heap) k

  abbrev Led : ℕ → Type 0
  Led v = (v ≢ 0) × Leads N heap (v - 1)

  led_next : (v j : ℕ) → Led v → get_or (followed N heap v) j 0 ≢ 0 → Led (get_or (followed N heap v) j 0)
  led_next v j led s =
      let f = follows N heap v j s in
      (s, subst (λ (x : ℕ). Leads N heap (x - 1)) (sym f.is) (cell_led N heap named led.1 j f.below (λ z. s (f.is ∙ z))))

  -- ---- the cells of an object, as code reads them

  module _ (at : ℕ) (first : is_first N heap at ≡ true) where
    abbrev size : ℕ
    size = size_at N heap at

    ordinary : is_data d at ≡ false → (i : ℕ) → i < 4 * size → get_or cells (4 * at + i) 0 ≡ get_or (references_of N heap at) i 0
    ordinary e i l =
        sym (named.read.of_others at size i (record { first = first; size = refl }) e l) ∙ sym (references_at N heap at i l)

    -- of data none is read
    pub data_zeros : is_data d at ≡ true → (j : ℕ) → j < length (references_of N heap at) → get_or (references_of N heap at) j 0 ≡ 0
    data_zeros made j l =
        let low : j < 4 * size = omega (arith, references_length N heap at) in
        references_at N heap at j low ∙ named.read.of_data at size j (record { first = first; size = refl }) made low

    pub cells_list : is_data d at ≡ false → part cells (4 * at) (4 * size) ≡ references_of N heap at
    cells_list other =
        ext_get_or 0 (part cells (4 * at) (4 * size)) (references_of N heap at) (part_length cells (4 * at) (4 * size) ∙ sym (references_length N heap at))
        (λ i l.
        let low : i < 4 * size = omega (arith, part_length cells (4 * at) (4 * size)) in
        part_at cells (4 * at) (4 * size) i low ∙ ordinary other i low)

    pub cells_count : (n : ℕ) → n ≡ naming_cells d at size → ((is_data d at ≡ true) × (n ≡ 0)) ⊎ ((is_data d at ≡ false) × (n ≡ 4 * size))
    unfolding naming_cells
    cells_count n count = elim (test_cases_lem (is_data d at)) [
      | inl made ↦ inl (made, count ∙ rw (made, naming_cells) refl)
      | inr other ↦ inr (other, count ∙ rw (other, naming_cells) refl)
    ]

    pub cells_fit : (n : ℕ) → n ≡ naming_cells d at size → (i : ℕ) → i < n → get_or cells (4 * at + i) 0 ≤ N
    cells_fit n count i l = elim (cells_count n count) [
      | inl (made, none) ↦ absurd (omega arith)
      | inr (other, all) ↦
          omega (
            arith,
            ordinary other i (omega arith),
            ap (λ (x : List ℕ). get_or x i 0) (followed_block N heap at),
            cells_below N heap named (suc at) i,
          )
    ]

  pub roots_fit : (i : ℕ) → i < length roots → get_or roots (0 + i) 0 ≤ N
  roots_fit i l = roots_below N heap named (0 + i)

  -- ---- the object that is taken

  pub record Taken (order : List ℕ) (k : ℕ) : Type 0 where
    pub some : get_or order k 0 ≢ 0
    pub below : get_or order k 0 ≤ N
    pub object : object_at (steps k) (suc k) ≡ get_or order k 0
    pub first : is_first N heap (get_or order k 0 - 1) ≡ true
    pub block : get_or order k 0 - 1 < N
    pub small : N ≤ max_blocks
    pub turn : k < N

  pub taken : (order numbers : List ℕ) (met k : ℕ) → Walked N (steps k) order numbers met → k < met → Taken order k
  taken order numbers met k w h =
      let at = top_object order met k h in
      let inside : suc k ≤ length (last_first order met) = omega (arith, top_length order met) in
      let object : object_at (steps k) (suc k) ≡ get_or order k 0 = ap (λ (l : List ℕ). object_at l (suc k)) (sym w.is) ∙ at in
      let led : Led (get_or order k 0) =
      subst Led object
      (all_at (walk_all roots (followed N heap) (followed_zero N heap) {P = Led} (λ r s. (s, root_led N heap named r s)) led_next k)
      (suc k) (omega arith) (omega (arith, ap length w.is))) in
      let first = led_first N heap led.1 in
      record {
        block = (first_facts N a b (get_or order k 0 - 1) first).inside;
        small = w.walking.small;
        turn = omega (arith, distinct_length N w.walking.distinct w.walking.below, top_length order met);
        some = λ z. object_some w.walking.distinct (suc k) (omega arith) inside (at ∙ z);
        below = subst (λ (x : ℕ). x ≤ N) at (all_at w.walking.below (suc k) (omega arith) inside);
        object = object;
        first = first;
      }
