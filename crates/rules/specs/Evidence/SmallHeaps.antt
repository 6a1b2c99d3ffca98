-- Small heaps, for cases.
use Rattle.std.specs.Prelude.{ℕ, List, [], ◌∷◌, set, replicate}
use Rattle.rules.specs.Heap.{Memory, lent_memory}
use Rattle.rules.specs.Sections.{figures}

-- a heap of 8 blocks and width 2, its list of sections true: the byte of each of the four maps, the cells and
-- the roots; no data, no collection open
unfoldable pub eight_blocks : (a b low high : ℕ) → (cells roots : List ℕ) → Memory
eight_blocks a b low high cells roots =
    lent_memory (a ∷ []) (b ∷ []) (low ∷ high ∷ []) cells roots (replicate 8 0) (figures 8 (a ∷ [])) (0 ∷ []) (0 ∷ []) (replicate 9 0)

-- the 32 cells, all 0 but number j
unfoldable pub cell_holding : (j v : ℕ) → List ℕ
cell_holding j v = set (replicate 32 0) j v

-- the 4 roots, all 0 but number r
unfoldable pub root_holding : (r v : ℕ) → List ℕ
root_holding r v = set (replicate 4 0) r v
