-- Cases of the definitions of Heap.antt, Damage.antt and Sections.antt, each on the definition itself: each tells a rule from a wrong one. The
-- wrong rules are the edits of must-fail/. That each case gives what it says is one lemma a list, in proofs/.
use Rattle.std.specs.Prelude.{ℕ, Bool, true, false, List, [], ◌∷◌, set, replicate}
use Rattle.std.proofs.Math.Option.{Option, none, some}
use Rattle.rules.specs.Heap.{Memory, with_d}
use Rattle.rules.specs.Sections.{figures}
use Rattle.rules.specs.Evidence.SmallHeaps.{eight_blocks, cell_holding, root_holding}

-- ---- damage kinds

-- heaps of 8 blocks and width 2, each with its damage kind, 0 for none
unfoldable pub damage_cases : List (Memory × ℕ)
damage_cases =
    (eight_blocks 1 254 1 0 (replicate 32 0) (root_holding 0 1), 0)
    -- "The capacity is 2^w − 1.": a count of 3 is at capacity, so it may differ from the number of references
    ∷ (eight_blocks 1 254 1 1 (replicate 32 0) (root_holding 0 1), 0)
    -- 1, 2 and 3, P11's; 2, ".. whose next block is .. past the end"
    ∷ (eight_blocks 0 254 0 0 (replicate 32 0) (replicate 4 0), 1)
    ∷ (eight_blocks 1 255 0 0 (replicate 32 0) (replicate 4 0), 2)
    ∷ (eight_blocks 128 255 128 0 (replicate 32 0) (root_holding 3 8), 2)
    ∷ (eight_blocks 6 251 0 0 (replicate 32 0) (replicate 4 0), 3)
    -- 4, "A cell of a free block that isn't 0", though it names an object, which has count 2 for the root and this cell
    ∷ (eight_blocks 1 254 0 1 (cell_holding 31 1) (root_holding 0 1), 4)
    -- ".. or a cell .. that is neither 0 nor 1 + a first block": of an object
    ∷ (eight_blocks 1 254 1 0 (cell_holding 3 2) (root_holding 0 1), 4)
    -- ".. or root": the last one; a free block, and past the end
    ∷ (eight_blocks 0 255 0 0 (replicate 32 0) (root_holding 3 8), 4)
    ∷ (eight_blocks 0 255 0 0 (replicate 32 0) (root_holding 3 9), 4)
    -- 5, "A count other than 0 where no object starts"; "an object with count 0", which no reference names
    ∷ (eight_blocks 0 255 0 128 (replicate 32 0) (replicate 4 0), 5)
    ∷ (eight_blocks 1 254 0 0 (replicate 32 0) (replicate 4 0), 5)
    -- "a count below capacity that differs from the number of all cells and roots naming the object": 2 with one reference
    ∷ (eight_blocks 1 254 0 1 (replicate 32 0) (root_holding 0 1), 5)
    -- Request U6: numbers in the cells of data, in its last block too, are neither checked nor counted: 9 names no block, 1 the data itself
    ∷ (with_d (1 ∷ []) (eight_blocks 3 253 1 0 (set (cell_holding 7 9) 0 1) (root_holding 0 1)), 0)
    -- kinds 4 and 5 read the rest as before: the object behind the data; the D-map is read at first blocks alone
    ∷ (with_d (1 ∷ []) (eight_blocks 3 252 3 0 (cell_holding 4 9) (1 ∷ 2 ∷ 0 ∷ 0 ∷ [])), 4)
    ∷ (with_d (1 ∷ []) (eight_blocks 3 252 3 0 (cell_holding 4 1) (1 ∷ 2 ∷ 0 ∷ 0 ∷ [])), 5)
    ∷ (with_d (2 ∷ []) (eight_blocks 3 253 1 0 (cell_holding 4 9) (root_holding 0 1)), 4)
    -- "7 is a D bit where no object starts": on the second block of one; after 5
    ∷ (with_d (2 ∷ []) (eight_blocks 3 253 1 0 (replicate 32 0) (root_holding 0 1)), 7)
    ∷ (with_d (2 ∷ []) (eight_blocks 3 253 2 0 (replicate 32 0) (root_holding 0 1)), 5)
    ∷ []

-- ---- chunks

-- the exponent of a size, the byte of the A-map of 8 blocks, and "the lowest free chunk of s blocks": block 0 used; blocks 1 to 6 free
unfoldable pub chunk_cases : List ((ℕ × ℕ) × Option ℕ)
chunk_cases = ((1, 1), some 2) ∷ ((2, 1), some 4) ∷ ((0, 1), some 1) ∷ ((1, 129), some 2) ∷ ((2, 129), none) ∷ ((3, 0), some 0) ∷ []

-- figures, the size sought, and "the lowest section whose figure suffices"
unfoldable pub section_cases : List ((List ℕ × ℕ) × Option ℕ)
section_cases = ((1 ∷ 4 ∷ 8 ∷ [], 2), some 1) ∷ ((2 ∷ 4 ∷ [], 2), some 0) ∷ ((1 ∷ 4 ∷ [], 8), none) ∷ []

-- ---- request U4

-- A byte of the A-map, and the figure of its eight blocks: "the size of its largest free aligned chunk, 0 if none"
unfoldable pub figures_of_bytes : List (ℕ × ℕ)
figures_of_bytes =
    (0, 8) ∷ (255, 0) ∷ (1, 4) ∷ (128, 4) ∷ (17, 2)
    -- blocks 1 to 6 are free, in no chunk of four
    ∷ (129, 2)
    -- blocks 3 and 4, or 0 and 7, are free, in no chunk of two
    ∷ (231, 1) ∷ (126, 1) ∷ []

-- a heap of two sections as it is formatted, and with one block used at each end
unfoldable pub figures_of_sections : List (List ℕ)
figures_of_sections =
    figures 512 (replicate 64 0) ∷ figures 512 (set (replicate 64 0) 0 1) ∷ figures 512 (set (replicate 64 0) 63 128) ∷ figures 512 (replicate 64 255)
    ∷ figures 128 (replicate 16 0) ∷ []

unfoldable pub expected_of_sections : List (List ℕ)
expected_of_sections = (256 ∷ 256 ∷ []) ∷ (128 ∷ 256 ∷ []) ∷ (256 ∷ 128 ∷ []) ∷ (0 ∷ 0 ∷ []) ∷ (128 ∷ []) ∷ []

-- ---- request U12

-- "16,384 to 65,536 blocks are now accepted and 131,072 is refused 1", as every number that is no such power of two
unfoldable pub sizes_of_heaps : List (ℕ × Bool)
sizes_of_heaps =
    (4, false) ∷ (8, true) ∷ (8192, true) ∷ (16384, true) ∷ (24576, false) ∷ (32768, true) ∷ (65536, true) ∷ (131072, false) ∷ []
