-- Lists of figures while a call works, for contracts of inner functions.
use Rattle.std.specs.Prelude.{ℕ, ◌≤◌, ◌<◌, ◌≡◌, true, ◌⊎◌, List, length, get_or}
use Rattle.rules.specs.Heap.{is_blocks, section_count}
use Rattle.rules.specs.Sections.{figure}

-- every number of the list is its section's figure, or says that it has to be found anew: 65,535, which no section has
pub record Coherent (N : ℕ) (a sections : List ℕ) : Type 0 where
  pub blocks : is_blocks N ≡ true
  pub length_is : length sections ≡ section_count N
  pub each : (s : ℕ) → s < section_count N → (get_or sections s 0 ≡ figure N a s) ⊎ (get_or sections s 0 ≡ 65535)

-- the figures before number s are known, the others are known or unknown
pub record Renewed (N : ℕ) (a sections : List ℕ) (s : ℕ) : Type 0 where
  pub within : s ≤ section_count N
  pub known : (j : ℕ) → j < s → get_or sections j 0 ≡ figure N a j
  pub rest : Coherent N a sections

-- Work that freed so many blocks keeps the list coherent; where it freed none, the map and the list are as they were.
pub record Upkeep (N freed : ℕ) (a sections a' sections' : List ℕ) : Type 0 where
  pub coherent : Coherent N a' sections'
  pub untouched : freed ≡ 0 → (a' ≡ a) × (sections' ≡ sections)
