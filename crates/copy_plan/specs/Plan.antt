-- The plan as code has it: from the B-map of the first heap and the local arrays of the walk. For contracts of inner functions.
use Rattle.std.specs.Prelude.{ℕ, ◌+◌, ◌-◌, ◌≤◌, ◌<◌, ◌≡◌, ◌≢◌, Bool, true, List, length, get_or}
use Rattle.rules.specs.Heap.{max_blocks, size_from}
use Rattle.rules_copy.specs.Copy.{lay_first, all_laid, places_in, new_reference}

-- the first block of object k + 1: `order` has the references to the objects in the order of their numbers
abbrev pub block_in : (order : List ℕ) → (k : ℕ) → ℕ
block_in order k = get_or order k 0 - 1

-- its size
abbrev pub sizes_in : ℕ → (b order : List ℕ) → (k : ℕ) → ℕ
sizes_in N b order k = size_from (N - block_in order k) b (block_in order k)

-- `order` and `numbers`, which has at a block the number of the object that starts there, or 0, say the same
pub record Numbering (N : ℕ) (order numbers : List ℕ) (met : ℕ) : Type 0 where
  pub small : N ≤ max_blocks
  pub long_order : met ≤ length order
  pub long_numbers : N ≤ length numbers
  pub some : (k : ℕ) → k < met → get_or order k 0 ≢ 0
  pub below : (k : ℕ) → k < met → get_or order k 0 ≤ N
  pub number : (k : ℕ) → k < met → get_or numbers (block_in order k) 0 ≡ k + 1
  pub object : (b : ℕ) → b < N → get_or numbers b 0 ≢ 0 → (get_or numbers b 0 ≤ met) × (block_in order (get_or numbers b 0 - 1) ≡ b)

-- r says whether each of the first `met` objects found a chunk; if so, each number has become the reference to the copy
pub record Planned (M : ℕ) (sizes : ℕ → ℕ) (met N : ℕ) (numbers moved : List ℕ) (r : Bool) : Type 0 where
  pub laid_all : r ≡ all_laid (lay_first M sizes met)
  pub moved_is : r ≡ true → (b : ℕ) → b < N → get_or moved b 0 ≡ new_reference (places_in (lay_first M sizes met)) (get_or numbers b 0)
