-- Damage kind 4 as far as it is told without a look at what is named: a cell of a free block that is not 0, and a cell or root beyond the
-- heap.
use Rattle.std.specs.Prelude.{ℕ, ◌+◌, ◌*◌, ◌/◌, ◌<◌, ◌≡◌, Bool, true, false, not, ◌&&◌, ◌||◌, List, eqb, ltb, get_or}
use Rattle.bitmap.specs.Bit.{bit_of}
use Rattle.rules.specs.Heap.{is_free, ref_at}

-- v is not 0, and stands in a free block or names none of N blocks
unfoldable pub wild : ℕ → Bool → ℕ → Bool
wild N free v = not (eqb v 0) && (free || ltb N v)

-- .. of cell number j of all cells
abbrev pub wild_cell : ℕ → (a b d cells : List ℕ) → ℕ → Bool
wild_cell N a b d cells j = wild N (is_free a (j / 4)) (ref_at N a b d cells j)

-- .. of root r
abbrev pub wild_root : ℕ → List ℕ → ℕ → Bool
wild_root N roots r = wild N false (get_or roots r 0)

-- ---- the 32 cells of the eight blocks of byte k

-- what cell j of them is read as, where the blocks of data are the bits of `made`
unfoldable pub read_in : (made : ℕ) → List ℕ → (k j : ℕ) → ℕ
read_in made cells k j = elim (eqb (bit_of made (j / 4)) 0) [ true ↦ get_or cells (32 * k + j) 0 | false ↦ 0 ]

-- .. and whether it is wild, where the used blocks are the bits of `used`
abbrev pub wild_in : (N used made : ℕ) → List ℕ → (k j : ℕ) → Bool
wild_in N used made cells k j = wild N (eqb (bit_of used (j / 4)) 0) (read_in made cells k j)

-- a bit of `filled` is 0 only where its cell is 0
abbrev pub FilledCells : (cells : List ℕ) → (k filled : ℕ) → Type 0
FilledCells cells k filled = (j : ℕ) → j < 32 → bit_of filled j ≡ 0 → get_or cells (32 * k + j) 0 ≡ 0
