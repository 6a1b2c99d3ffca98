-- Request U5, "When objects become stuck": what the second value of an allocation and of the two stores says of the heap, and that no
-- collection brings a count to the capacity.
use Rattle.std.specs.Prelude.{ℕ, ◌+◌, ◌*◌, ◌<◌, ◌≡◌, ◌⊎◌, ◌↔◌, Bool, true, false, get_or, eqb}
use Rattle.rules.specs.Heap.{Memory, with_counts, capacity, count_of, is_first}
use Rattle.rules_stores.specs.Store.{count_up, placed}
use Rattle.rules_calls.specs.Calls.{Call, format, check, collect, free_blocks, allocate, store_root, store_cell, look, return_roots, open_collection, take_steps}
use Rattle.rules_calls.specs.Calls.{allocate_data, write_number, read_number, write_reason, write_shape, allocate_as, answer}
use Rattle.rules_calls.specs.Calls.{copy_from, copy_into}
use Rattle.types.specs.declared.Reply.{Reply}
use Rattle.theory_memories.specs.Words.{Object}
use Rattle.theory.specs.CallWords.{copied_over}
use Rattle.theory.specs.Stuck.{writes}
use Rattle.theory_memories.specs.Heaps.{Undamaged}

-- The heap once the call's own reference is counted, nothing let go yet: an allocation's object stands with its count, a store has counted
-- up what it stores. A store of the value present counts nothing up (request U2).
unfoldable pub counted : ℕ → ℕ → Call → Memory → Reply → Memory
counted N w (allocate n r) h x = placed N w false h x.value n
counted N w (allocate_data n r) h x = placed N w true h x.value n
counted N w (store_root r v) h x = elim (eqb (get_or h.roots r 0) v) [ true ↦ h | false ↦ with_counts (count_up N w h.counts v) h ]
counted N w (store_cell at j v) h x =
    elim (eqb (get_or h.cells (4 * at + j) 0) v) [ true ↦ h | false ↦ with_counts (count_up N w h.counts v) h ]
counted N w format h x = h
counted N w check h x = h
counted N w collect h x = h
counted N w free_blocks h x = h
counted N w (look at) h x = h
counted N w (return_roots chosen) h x = h
counted N w (write_number at j v) h x = h
counted N w (read_number at j) h x = h
counted N w (write_reason at room) h x = h
counted N w (write_shape room) h x = h
counted N w open_collection h x = h
counted N w (take_steps budget) h x = h
counted N w (copy_from K u first) h x = h
counted N w (copy_into M v second) h x = h

-- "this very step brought the count to the capacity, a birth at width 1 included": the object at b, between the heap h before the call and
-- a heap g with the reference counted
pub record BecameStuck (N w : ℕ) (call : Call) (h : Memory) (x : Reply) (g : Memory) (b : ℕ) : Type 0 where
  -- the call's own reference names it
  pub reference : writes call x ≡ 1 + b
  -- it was not there before the call, or was below the capacity
  pub below : (is_first N h b ≡ false) ⊎ (count_of N w h b < capacity w)
  -- it stands in g, with the capacity
  pub stands : is_first N g b ≡ true
  pub full : count_of N w g b ≡ capacity w

-- The second value is 1 exactly where this is so. What is stuck stays so whatever the call lets go, and nothing else comes to the capacity:
-- so it can be told as well from the heap that the call leaves.
pub record Tells (N w : ℕ) (call : Call) (h : Memory) (x : Reply) (g : Memory) : Type 0 where
  pub once_counted : (x.second ≡ 1) ↔ ((b : ℕ) × BecameStuck N w call h x (counted N w call h x) b)
  pub afterwards : (x.second ≡ 1) ↔ ((b : ℕ) × BecameStuck N w call h x g b)
  pub yes_or_no : (x.second ≡ 1) ⊎ (x.second ≡ 0)

pub record EachTells (N w : ℕ) (h : Memory) : Type 0 where
  pub allocation :
      (asData : Bool) (n r : ℕ) → let x = answer N w h (allocate_as asData n r) in
      x.0.number ≡ 0 → Tells N w (allocate_as asData n r) h x.0 x.1
  pub store_root_lem : (r v : ℕ) → let x = answer N w h (store_root r v) in x.0.number ≡ 0 → Tells N w (store_root r v) h x.0 x.1
  pub store_cell_lem :
      (at j v : ℕ) → let x = answer N w h (store_cell at j v) in x.0.number ≡ 0 → Tells N w (store_cell at j v) h x.0 x.1

-- "Every store and allocation passes the fact on". No hypothesis: only an undamaged heap is accepted.
abbrev pub StuckTold : Type 0
StuckTold = (N w : ℕ) (h : Memory) → EachTells N w h

-- No moment goes untold: where an object stands before a call below the capacity and after it, not made anew by
-- a copy, at the capacity, the second value is 1. The new object of an allocation is in `StuckTold`.
abbrev pub NoneUntold : Type 0
NoneUntold =
    (N w : ℕ) (h : Memory) → Undamaged N w h → (call : Call) (b n : ℕ) → let x = answer N w h call in
    copied_over call x.0 ≡ false → Object N h b n → Object N x.1 b n → count_of N w h b < capacity w → count_of N w x.1 b ≡ capacity w
    → x.0.second ≡ 1

-- "no object below the capacity before a collection stands at it afterwards"; where it is gone, its block has count 0
abbrev pub CollectionSticksNone : Type 0
CollectionSticksNone =
    (N w : ℕ) (h : Memory) → Undamaged N w h → (b : ℕ) → is_first N h b ≡ true → count_of N w h b < capacity w
    → count_of N w (answer N w h collect).1 b < capacity w

-- a collection in small steps neither (request U8): its steps, and its close
abbrev pub StepsStickNone : Type 0
StepsStickNone =
    (N w : ℕ) (h : Memory) → Undamaged N w h → (budget b : ℕ) → is_first N h b ≡ true → count_of N w h b < capacity w
    → count_of N w (answer N w h (take_steps budget)).1 b < capacity w
