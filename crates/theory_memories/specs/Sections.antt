-- Request U4: what is proved of the figures of sections, and of the lent list that holds them.
use Rattle.std.specs.Prelude.{ℕ, ◌+◌, ◌*◌, ◌^◌, ◌≤◌, ◌≡◌, ◌≢◌, ◌↔◌, true, false, List, length}
use Rattle.rules.specs.Heap.{is_blocks, chunk_free, lowest_free, section_length, section_count}
use Rattle.rules.specs.Sections.{figure, figures, stale_figures, lowest_by_sections}

-- "For every heap the address, or the lack of one, must be that of document 01": the lowest section whose figure suffices has the heap's
-- lowest free chunk, and there is no such section where no chunk is free
abbrev pub SectionsFindLowest : Type 0
SectionsFindLowest = (N k : ℕ) (a : List ℕ) → is_blocks N ≡ true → 2 ^ k ≤ section_length N → lowest_by_sections N k a ≡ lowest_free N k a

-- chunk number c of 2 ^ k blocks lies in section number s, and is free
pub record FreeWithin (N : ℕ) (a : List ℕ) (s k c : ℕ) : Type 0 where
  pub from : s * section_length N ≤ c * 2 ^ k
  pub to : c * 2 ^ k + 2 ^ k ≤ (s + 1) * section_length N
  pub free : chunk_free k a (c * 2 ^ k) ≡ true

-- "the size of its largest free aligned chunk, 0 if none": a figure that is not 0 is the size of a free chunk of its section, and no free
-- chunk of the section is larger
pub record Largest (N : ℕ) (a : List ℕ) (s : ℕ) : Type 0 where
  pub there_is : figure N a s ≢ 0 → (k : ℕ) × (c : ℕ) × (figure N a s ≡ 2 ^ k) × FreeWithin N a s k c
  pub none_larger : (k c : ℕ) → FreeWithin N a s k c → 2 ^ k ≤ figure N a s

abbrev pub FiguresAreLargest : Type 0
FiguresAreLargest = (N : ℕ) (a : List ℕ) → is_blocks N ≡ true → (s : ℕ) → Largest N a s

-- "11, the list doesn't match the maps", if and only if: a list of as many numbers as there are sections passes exactly where each is its
-- section's figure
abbrev pub StaleExactly : Type 0
StaleExactly =
    (N : ℕ) (a sections : List ℕ) → length sections ≡ section_count N → (stale_figures N a sections ≡ false) ↔ (sections ≡ figures N a)
