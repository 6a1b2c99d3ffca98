-- Blocks allocated, freed and in use. Request U1: "Prove that blocks allocated in all, less the blocks freed by every call, allocations too,
-- are the blocks in use."
use Rattle.std.specs.Prelude.{ℕ, zero, suc, ◌+◌, ◌≡◌, Bool, true, false, not, ◌&&◌, List, [], ◌∷◌, eqb}
use Rattle.bitmap.specs.Bit.{zeros}
use Rattle.rules.specs.Heap.{Memory, is_first, size_at}
use Rattle.rules_stores.specs.Store.{formatted}
use Rattle.rules_calls.specs.Calls.{Call, format, check, collect, free_blocks, allocate, store_root, store_cell, look, return_roots, open_collection, take_steps}
use Rattle.rules_calls.specs.Calls.{allocate_data, write_number, read_number, write_reason, write_shape, allocate_as, answer}
use Rattle.rules_calls.specs.Calls.{copy_from, copy_into}
use Rattle.types.specs.declared.Reply.{Reply}
use Rattle.theory.specs.CallWords.{copied_over, Made, left_by}
use Rattle.theory.specs.Demand.{Chain}
use Rattle.theory_memories.specs.Heaps.{Undamaged}
use Rattle.theory_memories.specs.Words.{in_use}

-- the sum of what f gives at the numbers below n
unfoldable pub sum_below : (ℕ → ℕ) → ℕ → ℕ
sum_below f zero = 0
sum_below f (suc n) = sum_below f n + f n

-- "A call frees an object that stood before it if no object of that first block and size stands after it": the blocks of the object at b,
-- where it is freed between h and g
unfoldable pub freed_at : (N : ℕ) → (h g : Memory) → (b : ℕ) → ℕ
freed_at N h g b =
    elim (is_first N h b && not (is_first N g b && eqb (size_at N g b) (size_at N h b))) [ true ↦ size_at N h b | false ↦ 0 ]

-- the blocks of all objects that are freed between h and g
unfoldable pub freed_blocks : (N : ℕ) → (h g : Memory) → ℕ
freed_blocks N h g = sum_below (freed_at N h g) N

-- the blocks that an accepted call allocates; a copy (request U14) tells how many it made
unfoldable pub allocates : Call → Reply → ℕ
allocates (allocate n r) x = n
allocates format x = 0
allocates check x = 0
allocates collect x = 0
allocates free_blocks x = 0
allocates (store_root r v) x = 0
allocates (store_cell at j v) x = 0
allocates (look at) x = 0
allocates (return_roots chosen) x = 0
allocates (allocate_data n r) x = n
allocates (write_number at j v) x = 0
allocates (read_number at j) x = 0
allocates (write_reason at room) x = 0
allocates (write_shape room) x = 0
allocates open_collection x = 0
allocates (take_steps budget) x = 0
allocates (copy_from K u first) x = x.value
allocates (copy_into M v second) x = 0

-- a refused call allocates nothing
unfoldable pub allocated_by : Call → Reply → ℕ
allocated_by call x = elim (eqb x.number 0) [ true ↦ allocates call x | false ↦ 0 ]

-- "blocks allocated in all"
unfoldable pub blocks_allocated : List Made → ℕ
blocks_allocated [] = 0
blocks_allocated (m ∷ ms) = allocated_by m.call m.reply + blocks_allocated ms

-- the blocks that a call frees: those of the objects that it frees, which in a copy into the heap are all that
-- stood there, whatever it makes then
unfoldable pub freed_by : (N : ℕ) → Call → Memory → Reply → Memory → ℕ
freed_by N call h x g = elim (copied_over call x) [ true ↦ freed_blocks N h (formatted N 0 0) | false ↦ freed_blocks N h g ]

-- "the blocks freed by every call, allocations too"
unfoldable pub blocks_freed : ℕ → List Made → ℕ
blocks_freed N [] = 0
blocks_freed N (m ∷ ms) = freed_by N m.call m.before m.reply m.after + blocks_freed N ms

-- over every list of calls from an undamaged heap, with what was in use before it; a new heap has no block in use (`NewHeapUnused`,
-- history/specs/Claims.antt)
abbrev pub BlocksBalance : Type 0
BlocksBalance =
    (N w : ℕ) (h : Memory) → Undamaged N w h → (made : List Made) → Chain N w h made
    → in_use N h + blocks_allocated made ≡ blocks_freed N made + in_use N (left_by h made)

-- "The value is the number of blocks freed": counted by objects it is the same number, and the difference of 0 bits that defines it is not cut
-- off at 0.
pub record FreedValue (N : ℕ) (h : Memory) (x : Reply) (g : Memory) : Type 0 where
  pub by_objects : x.value ≡ freed_blocks N h g
  pub by_zeros : zeros h.a + x.value ≡ zeros g.a

-- of accepted calls: stores, returns and the collection give the number as their value; an allocation of n
-- blocks, of data too, frees so many blocks that its n are the rest
pub record FreedAddUp (N w : ℕ) (h : Memory) : Type 0 where
  pub store_root_lem : (r v : ℕ) → let x = answer N w h (store_root r v) in x.0.number ≡ 0 → FreedValue N h x.0 x.1
  pub store_cell_lem : (at j v : ℕ) → let x = answer N w h (store_cell at j v) in x.0.number ≡ 0 → FreedValue N h x.0 x.1
  pub return_roots_lem : (chosen : ℕ) → let x = answer N w h (return_roots chosen) in x.0.number ≡ 0 → FreedValue N h x.0 x.1
  pub collection : let x = answer N w h collect in x.0.number ≡ 0 → FreedValue N h x.0 x.1
  -- request U8: the second value of a call that takes steps is "the blocks freed"
  pub steps :
      (budget : ℕ) → let x = answer N w h (take_steps budget) in
      x.0.number ≡ 0 → (x.0.second ≡ freed_blocks N h x.1) × (zeros h.a + x.0.second ≡ zeros x.1.a)
  pub allocation :
      (asData : Bool) (n r : ℕ) → let x = answer N w h (allocate_as asData n r) in
      x.0.number ≡ 0 → zeros h.a + freed_blocks N h x.1 ≡ zeros x.1.a + n

-- no hypothesis: only an undamaged heap is accepted
abbrev pub BlocksAddUp : Type 0
BlocksAddUp = (N w : ℕ) (h : Memory) → FreedAddUp N w h
