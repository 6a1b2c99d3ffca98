-- What the search of an allocation answers: where a chunk is, and how many blocks it looked at.
use Rattle.std.specs.Prelude.{ℕ, ◌+◌, ◌*◌, ◌^◌, ◌≡◌, true, false, List, leb, Option as CodeOption}
use Rattle.std.proofs.Math.Option.{Option, none, some}
use Rattle.rules.specs.Heap.{lowest_free, section_length, section_count}
use Rattle.rules.specs.Sections.{figures, suffices_from, lowest_in_section}
use Rattle.search_walk.specs.Search.{answered, looks_for}

-- in a section the count begins at its first block; where no figure suffices nothing is searched
unfoldable pub looks_in_section : (N k : ℕ) → List ℕ → Option ℕ → ℕ
looks_in_section N k a none = 0
looks_in_section N k a (some s) =
    looks_for (s * section_length N) (s * section_length N + section_length N) k (lowest_in_section N k a (some s))

-- "Longer ones search as before": the whole map
unfoldable pub looks_by_sections : (N k : ℕ) → List ℕ → ℕ
looks_by_sections N k a =
    elim (leb (2 ^ k) (section_length N)) [
      | true ↦ looks_in_section N k a (suffices_from (section_count N) (figures N a) (2 ^ k) 0)
      | false ↦ looks_for 0 N k (lowest_free N k a)
    ]

-- `at` is the heap's lowest free chunk of 2 ^ k blocks, if there is one
pub record Found (N k : ℕ) (a : List ℕ) (at : CodeOption ℕ) (looks : ℕ) : Type 0 where
  pub at_is : at ≡ answered (lowest_free N k a)
  pub looks_is : looks ≡ looks_by_sections N k a
