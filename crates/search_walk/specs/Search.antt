-- What a search of a part of the heap answers, for contracts of inner functions: where it found a chunk, and how many blocks it looked at.
use Rattle.std.specs.Prelude.{ℕ, ◌+◌, ◌-◌, ◌/◌, ◌%◌, ◌^◌, ◌≤◌, ◌≡◌, Bool, ◌&&◌, List, leb, eqb, Option as CodeOption, None, Some}
use Rattle.std.proofs.Math.Option.{Option, none, some}
use Rattle.rules.specs.Heap.{lowest_from}

-- what the rules find, as a function answers it: code's `Option` is another type than that of the rules
abbrev pub answered : Option ℕ → CodeOption ℕ
answered none = None
answered (some i) = Some i

-- Request U3: "keep the length of the free stretch that ends here, and judge each chunk from that figure": a chunk ends before block `end`,
-- and the free stretch that ends there covers it
unfoldable pub judged_free : (end size stretch : ℕ) → Bool
judged_free end size stretch = leb size stretch && eqb (end % size) 0

-- what can be searched: from block `from` up to block `to` lie whole bytes of the map and whole chunks of `size` blocks
pub record Part (from to size : ℕ) : Type 0 where
  pub exponent : ℕ
  pub power : size ≡ 2 ^ exponent
  pub upward : from ≤ to
  pub from_chunk : from % size ≡ 0
  pub to_chunk : to % size ≡ 0
  pub from_byte : from % 8 ≡ 0
  pub to_byte : to % 8 ≡ 0

-- the lowest free chunk of 2 ^ k blocks from block `from` up to block `to`
unfoldable pub lowest_in : (from to k : ℕ) → List ℕ → Option ℕ
lowest_in from to k a = lowest_from ((to - from) / 2 ^ k) k a from

-- Request U3: "the number of blocks from where the search starts to the end of the chunk found, or of the part searched where there is none"
abbrev pub looks_for : (from to k : ℕ) → Option ℕ → ℕ
looks_for from to k none = to - from
looks_for from to k (some i) = i + 2 ^ k - from

-- `at` is where the chunk was found, if it was; `looks` is the number of looks
pub record Search (from to k : ℕ) (lowest : Option ℕ) (at : CodeOption ℕ) (looks : ℕ) : Type 0 where
  pub at_is : at ≡ answered lowest
  pub looks_is : looks ≡ looks_for from to k lowest
