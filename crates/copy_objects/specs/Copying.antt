-- The writing of the second heap as code has it: from the maps and cells of the first and the local arrays. For contracts of inner functions.
use Rattle.std.specs.Prelude.{ℕ, zero, suc, ◌+◌, ◌-◌, ◌*◌, ◌≤◌, ◌<◌, ◌≡◌, ◌≢◌, true, false, List, length, get_or, eqb}
use Rattle.bitmap.specs.Bit.{bit_at}
use Rattle.rules.specs.Heap.{Memory, max_blocks, capacity, size_from}
use Rattle.rules_stores.specs.Store.{made_at}
use Rattle.rules_copy.specs.Copy.{fill_cells}
use Rattle.copy_plan.specs.Plan.{block_in}

-- the reference to the copy of what v names, read off the array; 0 for nothing
unfoldable pub moved_to : (moved : List ℕ) → (v : ℕ) → ℕ
moved_to moved v = elim (eqb v 0) [ true ↦ 0 | false ↦ get_or moved (v - 1) 0 ]

-- what stands in the copy for cell i of those from place j on, of an object of this D bit
unfoldable pub moved_cells : (bit : ℕ) → (moved cells : List ℕ) → (j i : ℕ) → ℕ
moved_cells bit moved cells j i = elim (eqb bit 1) [ true ↦ get_or cells (j + i) 0 | false ↦ moved_to moved (get_or cells (j + i) 0) ]

-- the object at block `at` of a heap of N blocks can be written into one of M
pub record Movable (N : ℕ) (b d cells moved : List ℕ) (M at : ℕ) : Type 0 where
  pub small : N ≤ max_blocks
  pub long_b : N ≤ 8 * length b
  pub long_d : N ≤ 8 * length d
  pub long_cells : length cells ≡ 4 * N
  pub long_moved : N ≤ length moved
  pub below : at < N
  -- it has a place, in the second heap
  pub some : get_or moved at 0 ≢ 0
  pub inside : get_or moved at 0 - 1 + size_from (N - at) b at ≤ M
  -- its references lie in the first
  pub of_cells : bit_at d at ≢ 1 → (i : ℕ) → i < 4 * size_from (N - at) b at → get_or cells (4 * at + i) 0 ≤ N

-- `copy_one` of the rules, with g as the second heap
unfoldable pub copy_object : (N : ℕ) → (b d cells moved : List ℕ) → (M v : ℕ) → Memory → (at : ℕ) → Memory
copy_object N b d cells moved M v g at =
    let n = size_from (N - at) b at in
    let to = get_or moved at 0 - 1 in
    made_at M v g to n (capacity v) (fill_cells (moved_cells (bit_at d at) moved cells (4 * at)) g.cells (4 * to) (4 * n)) (bit_at d at)

-- the first k objects
unfoldable pub copy_objects : (N : ℕ) → (b d cells order moved : List ℕ) → (M v : ℕ) → Memory → (k : ℕ) → Memory
copy_objects N b d cells order moved M v g zero = g
copy_objects N b d cells order moved M v g (suc k) =
    copy_object N b d cells moved M v (copy_objects N b d cells order moved M v g k) (block_in order k)
