-- Request U8, what a store marks and lists while a collection is open: "clearing a freed object's cells marks
-- and lists the unmarked ones they named; a freed object leaves map and list". The rule (`marks_after`,
-- `list_after`, rules_steps/specs/Steps.antt) names no order of freeing. Here the marks and the list go along step
-- by step, in any order, as in request U7 (Orders.antt): each ends in the rule's.
use Rattle.std.specs.Prelude.{ℕ, ◌+◌, ◌*◌, ◌≤◌, ◌<◌, ◌≡◌, Bool, true, false, not, ◌&&◌, ◌||◌, List, [], ◌∷◌, ◌++◌, length, get_or, set, ltb, eqb}
use Rattle.std.proofs.Math.Option.{some}
use Rattle.rules.specs.Tools.{holding}
use Rattle.rules.specs.Heap.{Memory, with_counts, with_cells, with_roots, is_first, size_at, is_ref, is_data, exponent, lowest_free}
use Rattle.rules_stores.specs.Store.{work, count_up, count_down, work_after, memory_after, change_root, change_cell, placed, allocate_in}
use Rattle.rules_steps.specs.Steps.{names, is_open, is_listed, was_marked, marks_after, list_after}
use Rattle.theory_memories.specs.Heaps.{Undamaged}

-- the marks and the list, as sets of blocks, once the object at i is freed in h
pub record Frees (N : ℕ) (h : Memory) (i : ℕ) (marks list marks' list' : ℕ → Bool) : Type 0 where
  pub marks_are : (b : ℕ) → marks' b ≡ (marks b && not (eqb b i)) || names N h i b
  pub list_are : (b : ℕ) → list' b ≡ (list b && not (eqb b i)) || (names N h i b && not (marks b))

-- an order (`Taken`, Orders.antt) with the marks and the list
pub data TakenMarking (N w : ℕ) : Memory → (waiting : List ℕ) → (marks list : ℕ → Bool) → Memory → (left : List ℕ) → (marks' list' : ℕ → Bool) → Type 0 where
  none : {h : Memory} {waiting : List ℕ} {marks list : ℕ → Bool} → TakenMarking N w h waiting marks list h waiting marks list
  next :
      {h g : Memory} {waiting left : List ℕ} {marks list marks₁ list₁ marks' list' : ℕ → Bool} (front : List ℕ) (i : ℕ) (back : List ℕ)
      → waiting ≡ front ++ (i ∷ back) → Frees N h i marks list marks₁ list₁
      → TakenMarking N w (memory_after N w h i (front ++ back)) (work_after N w h i (front ++ back)).stack marks₁ list₁ g left marks' list'
      → TakenMarking N w h waiting marks list g left marks' list'

-- Before anything is let go: what was marked or is born, and what the store touches, is marked; and "what is
-- unmarked among" these is listed.
abbrev pub first_marks : (N : ℕ) (h k : Memory) (touched : List ℕ) (g : Memory) → ℕ → Bool
first_marks N h k touched g b = was_marked N h k touched g b || ltb 0 (holding (b + 1) touched)

abbrev pub first_list : (N : ℕ) (h k : Memory) (touched : List ℕ) (g : Memory) → ℕ → Bool
first_list N h k touched g b = is_listed N h b || (ltb 0 (holding (b + 1) touched) && not (was_marked N h k touched g b))

-- h before the call, k with its store written in, `counted` the same with the call's own reference counted;
-- what v names is let go there. Whatever the order, the marks and the list come to the rule's for the memory
-- `end`.
abbrev pub MarkedAlike : (N w : ℕ) (h k : Memory) (touched : List ℕ) (counted : Memory) (v : ℕ) (end : Memory) → Type 0
MarkedAlike N w h k touched counted v end =
    let s = count_down N w (work counted.counts []) v in
    (g : Memory) (marks list : ℕ → Bool)
    → TakenMarking N w (with_counts s.counts counted) s.stack (first_marks N h k touched end) (first_list N h k touched end) g [] marks list
    → (b : ℕ) → (marks b ≡ marks_after N h k touched end b) × (list b ≡ list_after N h k touched end b)

-- a store in a root, a store in a cell, an allocation
pub record MarkedInAnyOrder (N w : ℕ) (h : Memory) : Type 0 where
  pub in_root : (r v : ℕ) → r < length h.roots → is_ref N h v ≡ true
      → let old : ℕ = get_or h.roots r 0 in
      MarkedAlike N w h (with_roots (set h.roots r v) h) (old ∷ v ∷ [])
      (with_roots (set h.roots r v) (with_counts (count_up N w h.counts v) h)) old (change_root N w h r v)
  pub in_cell : (a j v : ℕ) → is_first N h a ≡ true → j < 4 * size_at N h a → is_data h.d a ≡ false → is_ref N h v ≡ true
      → let old : ℕ = get_or h.cells (4 * a + j) 0 in
      MarkedAlike N w h (with_cells (set h.cells (4 * a + j) v) h) ((a + 1) ∷ old ∷ v ∷ [])
      (with_cells (set h.cells (4 * a + j) v) (with_counts (count_up N w h.counts v) h)) old (change_cell N w h (4 * a + j) v)
  pub new : (asData : Bool) (n r i : ℕ) → 1 ≤ n → r < length h.roots → lowest_free N (exponent n) h.a ≡ some i
      → let k : Memory = with_roots (set h.roots r (i + 1)) (placed N w asData h i n) in
      let old : ℕ = get_or h.roots r 0 in
      MarkedAlike N w h k (old ∷ (i + 1) ∷ []) k old (allocate_in N w asData h n r i)

abbrev pub MarksOrderUnseen : Type 0
MarksOrderUnseen = (N w : ℕ) (h : Memory) → Undamaged N w h → is_open N h ≡ true → MarkedInAnyOrder N w h
