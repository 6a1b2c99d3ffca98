-- Request U7: "Implementers differ in the order of taking the objects waiting to be freed. Show that from an undamaged heap each order ends
-- in the same maps, cells, counts and freed blocks."
use Rattle.std.specs.Prelude.{ℕ, suc, ◌+◌, ◌*◌, ◌≤◌, ◌<◌, ◌≡◌, Bool, true, false, List, [], ◌∷◌, ◌++◌, length, get_or, set}
use Rattle.std.proofs.Math.Option.{some}
use Rattle.bitmap.specs.Bit.{zeros}
use Rattle.rules.specs.Heap.{Memory, with_counts, with_cells, with_roots, is_first, size_at, is_ref, is_data, exponent, lowest_free}
use Rattle.rules_stores.specs.Store.{work, count_up, count_down, work_after, memory_after, release, change_root, change_cell, placed, allocate_in}
use Rattle.rules_stores.specs.Collection.{swept}
use Rattle.rules_steps.specs.Steps.{is_open, progress_of, steps_from, survivors_let_go, unmarked_freed, closes}
use Rattle.theory_memories.specs.Heaps.{Intact, Undamaged}

-- An order, step by step. In memory h the objects of `waiting` wait. k of them, or of those that come to wait on the way, are taken one
-- after another, at each step any one that waits then, and freed as the rules free one (`work_after`, `memory_after`). They have n blocks in
-- all; afterwards the memory is g, and the objects of `left` still wait. So a stack, a queue, the lowest first, and a choice that looks at
-- anything are all orders.
pub data Taken (N w : ℕ) : (k n : ℕ) → Memory → (waiting : List ℕ) → Memory → (left : List ℕ) → Type 0 where
  none : {h : Memory} {waiting : List ℕ} → Taken N w 0 0 h waiting h waiting
  next : {k n total : ℕ} {h g : Memory} {waiting left : List ℕ} (front : List ℕ) (i : ℕ) (back : List ℕ) → waiting ≡ front ++ (i ∷ back)
      → total ≡ size_at N h i + n
      → Taken N w k n (memory_after N w h i (front ++ back)) (work_after N w h i (front ++ back)).stack g left
      → Taken N w (suc k) total h waiting g left

-- every order in which what waits in h is freed comes to one end, the memory `end`
pub record OneEnd (N w : ℕ) (h : Memory) (waiting : List ℕ) (end : Memory) : Type 0 where
  -- no order goes on for more than N steps
  pub bounded : (k n : ℕ) (g : Memory) (left : List ℕ) → Taken N w k n h waiting g left → k ≤ N
  -- none gets stuck: whatever was taken so far, the rest can be taken too
  pub finishes : (k n : ℕ) (g : Memory) (left : List ℕ) → Taken N w k n h waiting g left → (l : ℕ) × (m : ℕ) × Taken N w l m g left end []
  -- where none waits any more all lists are those of `end`, and the blocks counted on the way make up its 0 bits in the A-map with those before
  pub alike : (k n : ℕ) (g : Memory) → Taken N w k n h waiting g [] → (g ≡ end) × (zeros h.a + n ≡ zeros end.a)
  -- the order of the rules is one of them
  pub own : (k : ℕ) × (n : ℕ) × Taken N w k n h waiting end []

-- what v names is counted down in h, and what waits then is freed
abbrev pub LetGoAlike : ℕ → ℕ → Memory → (v : ℕ) → (end : Memory) → Type 0
LetGoAlike N w h v end = let s = count_down N w (work h.counts []) v in OneEnd N w (with_counts s.counts h) s.stack end

-- Three places where the rules let go: a store in a root, a store in a cell, an allocation. Each lets go in a
-- memory with the call's own reference counted and written, whose A-map is the one before the call, with the
-- new object in an allocation. So in a store the blocks counted are the value.
pub record AnyOrder (N w : ℕ) (h : Memory) : Type 0 where
  pub in_root : (r v : ℕ) → r < length h.roots → is_ref N h v ≡ true
      → let written : Memory = with_roots (set h.roots r v) (with_counts (count_up N w h.counts v) h) in
      LetGoAlike N w written (get_or h.roots r 0) (change_root N w h r v)
  pub in_cell : (a j v : ℕ) → is_first N h a ≡ true → j < 4 * size_at N h a → is_data h.d a ≡ false → is_ref N h v ≡ true
      → let written : Memory = with_cells (set h.cells (4 * a + j) v) (with_counts (count_up N w h.counts v) h) in
      LetGoAlike N w written (get_or h.cells (4 * a + j) 0) (change_cell N w h (4 * a + j) v)
  pub new : (asData : Bool) (n r i : ℕ) → 1 ≤ n → r < length h.roots → lowest_free N (exponent n) h.a ≡ some i
      → let written : Memory = with_roots (set h.roots r (i + 1)) (placed N w asData h i n) in
      LetGoAlike N w written (get_or h.roots r 0) (allocate_in N w asData h n r i)

-- the order can't be seen
abbrev pub OrderUnseen : Type 0
OrderUnseen = (N w : ℕ) (h : Memory) → Intact N w h → AnyOrder N w h

-- The fourth is the close of a collection in small steps (request U8): g is what is left of h without its
-- unmarked objects, and the survivors that these named are counted down there. In what order those that come
-- to 0 are freed can't be seen, and the N steps of `release` are enough.
pub record CloseInAnyOrder (N w : ℕ) (h : Memory) (marks : List Bool) : Type 0 where
  pub order :
      let g = swept N w h marks N in
      let s = survivors_let_go N w marks h (work g.counts []) N in
      OneEnd N w (with_counts s.counts g) s.stack (unmarked_freed N w marks h)
  pub enough : (steps : ℕ) → N ≤ steps →
      let g = swept N w h marks N in
      let s = survivors_let_go N w marks h (work g.counts []) N in
      release steps N w (with_counts s.counts g) s.stack ≡ unmarked_freed N w marks h

-- of every call that closes one
abbrev pub CloseOrderUnseen : Type 0
CloseOrderUnseen =
    (N w : ℕ) (h : Memory) → Undamaged N w h → is_open N h ≡ true → (budget : ℕ) →
    let p = (steps_from budget N h (progress_of N h)).reached in
    closes budget p ≡ true → CloseInAnyOrder N w h p.marks
