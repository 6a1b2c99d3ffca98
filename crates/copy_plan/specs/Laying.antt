-- What the search for one object's chunk knows and finds, for contracts of inner functions. M is the number of blocks of the second heap, and a
-- the A-map that it will have.
use Rattle.std.specs.Prelude.{ℕ, ◌/◌, ◌%◌, ◌^◌, ◌≤◌, ◌<◌, ◌≡◌, true, List, length, get_or, Option as CodeOption, Some}
use Rattle.bitmap.specs.Bit.{fill_bits}
use Rattle.rules.specs.Heap.{is_blocks, exponent, lowest_free}
use Rattle.rules.proofs.Chunks.{Used}
use Rattle.search_walk.specs.Search.{Part, answered}

-- no chunk of 2 ^ k blocks that starts before block `from` is free, and the search can go on there
pub record PassedOver (M k : ℕ) (a : List ℕ) (from : ℕ) : Type 0 where
  pub part : Part from M (2 ^ k)
  pub used : (i : ℕ) → i % 2 ^ k ≡ 0 → i < from → Used a i (2 ^ k)

-- .. for each size of a chunk, with its block `from` at the place of its exponent
pub record Sought (M : ℕ) (a from : List ℕ) : Type 0 where
  pub blocks : is_blocks M ≡ true
  pub length_map : length a ≡ M / 8
  pub length_from : length from ≡ 17
  pub passed : (k : ℕ) → 2 ^ k ≤ M → PassedOver M k a (get_or from k 0)

-- an object of n blocks is laid at block `at`, if there is room for it
pub record LaidOne (M n : ℕ) (a a' from' : List ℕ) (at : CodeOption ℕ) : Type 0 where
  pub lowest : at ≡ answered (lowest_free M (exponent n) a)
  pub below : (i : ℕ) → at ≡ Some i → i < M
  pub map_is : (i : ℕ) → at ≡ Some i → a' ≡ fill_bits a i n 1
  pub sought : (i : ℕ) → at ≡ Some i → Sought M a' from'
