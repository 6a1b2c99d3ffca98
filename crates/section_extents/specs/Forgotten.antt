-- Figures that have to be found anew, for contracts of inner functions.
use Rattle.std.specs.Prelude.{ℕ, ◌+◌, ◌*◌, ◌≤◌, ◌<◌, ◌≡◌, ◌⊎◌, List, length, get_or}
use Rattle.rules.specs.Heap.{section_length, section_count}

-- the figures of the sections in which the n blocks from block i on lie are unknown, and all others are as they were
pub record Forgotten (N i n : ℕ) (sections after : List ℕ) : Type 0 where
  pub same_length : length after ≡ length sections
  pub each :
      (s : ℕ) → s < section_count N
      → (get_or after s 0 ≡ 65535)
      ⊎ ((get_or after s 0 ≡ get_or sections s 0) × (((s + 1) * section_length N ≤ i) ⊎ (i + n ≤ s * section_length N)))
