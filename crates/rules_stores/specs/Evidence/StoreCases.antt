-- Cases of the definitions of Store.antt and Collection.antt, each on the definition itself: each tells a rule from a wrong one. The wrong
-- rules are the edits of must-fail/. That each case gives what it says is one lemma a list, in proofs/.
use Rattle.std.specs.Prelude.{ℕ, Bool, true, false, List, [], ◌∷◌, set, replicate}
use Rattle.rules.specs.Heap.{Memory, with_d}
use Rattle.rules_stores.specs.Store.{formatted, change_root, change_cell, placed, allocate_in, sticks, birth_sticks, chosen_below}
use Rattle.rules_stores.specs.Collection.{collected}
use Rattle.rules.specs.Evidence.SmallHeaps.{eight_blocks, cell_holding, root_holding}

-- what is told of a heap: the bytes of the A-map, the B-map and the counts, the roots, and the byte of the D-map
unfoldable pub told_of : Memory → List (List ℕ)
told_of h = h.a ∷ h.b ∷ h.counts ∷ h.roots ∷ h.d ∷ []

abbrev pub telling : (a b low high : ℕ) → (roots : List ℕ) → (d : ℕ) → List (List ℕ)
telling a b low high roots d = (a ∷ []) ∷ (b ∷ []) ∷ (low ∷ high ∷ []) ∷ roots ∷ (d ∷ []) ∷ []

-- X at 0, in root 0, with these cells; Y at 1
unfoldable pub pair : (low high : ℕ) → (cells : List ℕ) → Memory
pair low high cells = eight_blocks 3 252 low high cells (root_holding 0 1)

-- heaps of 8 blocks and width 2
unfoldable pub store_cases : List (List (List ℕ) × List (List ℕ))
store_cases =
    -- "only its first n blocks become allocated"; the count becomes 1; request U6: data has its D bit, and else none
    (told_of (placed 8 2 false (formatted 8 2 4) 0 3), telling 7 251 1 0 (replicate 4 0) 0)
    ∷ (told_of (placed 8 2 true (formatted 8 2 4) 4 1), telling 16 239 16 0 (replicate 4 0) 16)
    -- "Then the reference is stored in root r as below": what the root named is let go
    ∷ (told_of (allocate_in 8 2 false (eight_blocks 1 254 1 0 (replicate 32 0) (root_holding 0 1)) 1 0 1), telling 2 253 2 0 (root_holding 0 2) 0)
    -- "First the object named by v .. is counted up": the new object may be held by the old one alone, in a root and in a cell
    ∷ (told_of (change_root 8 2 (pair 3 0 (cell_holding 0 2)) 0 2), telling 2 253 2 0 (root_holding 0 2) 0)
    ∷ (told_of (change_cell 8 2 (eight_blocks 7 248 7 0 (set (cell_holding 0 2) 4 3) (root_holding 0 1)) 0 3), telling 5 250 5 0 (root_holding 0 1) 0)
    -- "then the old object, if any, is counted down" in a cell too
    ∷ (told_of (change_cell 8 2 (pair 3 0 (cell_holding 3 2)) 3 0), telling 1 254 1 0 (root_holding 0 1) 0)
    -- "A count at capacity is stuck"
    ∷ (told_of (change_root 8 2 (eight_blocks 1 254 1 1 (replicate 32 0) (root_holding 0 1)) 0 0), telling 1 254 1 1 (replicate 4 0) 0)
    -- "each object its cells named is counted down likewise, once for each cell"
    ∷ (told_of (change_root 8 2 (pair 1 2 (set (cell_holding 0 2) 3 2)) 0 0), telling 0 255 0 0 (replicate 4 0) 0)
    -- the cells of data, "with its D bit, are cleared when it is freed", and let nothing go
    ∷ (told_of (change_root 8 2 (with_d (1 ∷ []) (pair 3 0 (cell_holding 0 2))) 0 0), telling 2 253 2 0 (replicate 4 0) 0)
    ∷ []

-- the full collection
unfoldable pub collection_cases : List (List (List ℕ) × List (List ℕ))
collection_cases =
    -- "An object is reached if a root names it or a cell of a reached object does"
    (told_of (collected 8 2 (eight_blocks 7 248 7 0 (set (cell_holding 0 2) 4 3) (root_holding 0 1))), telling 7 248 7 0 (root_holding 0 1) 0)
    -- request U6: a number is not followed: Y is stuck, and goes
    ∷ (told_of (collected 8 2 (with_d (1 ∷ []) (pair 3 2 (cell_holding 0 2)))), telling 1 254 1 0 (root_holding 0 1) 1)
    -- "the smaller of the capacity and the number of roots and cells of reached objects that name it": two; five; not by Y, which is not reached
    ∷ (told_of (collected 8 2 (eight_blocks 1 254 1 1 (replicate 32 0) (1 ∷ 1 ∷ 0 ∷ 0 ∷ []))), telling 1 254 0 1 (1 ∷ 1 ∷ 0 ∷ 0 ∷ []) 0)
    ∷ (told_of (collected 8 2 (eight_blocks 1 254 1 1 (cell_holding 0 1) (replicate 4 1))), telling 1 254 1 1 (replicate 4 1) 0)
    ∷ (told_of (collected 8 2 (pair 2 3 (cell_holding 4 1))), telling 1 254 1 0 (root_holding 0 1) 0)
    ∷ []

-- counts of 1, 2 and 3: "this very step brought the count to the capacity"; "a birth at width 1 included"; a set of four roots, and one bit more
unfoldable pub test_cases : List (Bool × Bool)
test_cases =
    (sticks 8 2 (1 ∷ 0 ∷ []) 1, false) ∷ (sticks 8 2 (0 ∷ 1 ∷ []) 1, true) ∷ (sticks 8 2 (1 ∷ 1 ∷ []) 1, false)
    ∷ (birth_sticks 1, true) ∷ (birth_sticks 2, false) ∷ (birth_sticks 4, false)
    ∷ (chosen_below 15 4, true) ∷ (chosen_below 16 4, false) ∷ []

-- "every accepted call, format too, leaves the list true"
unfoldable pub formatted_list : List ℕ
formatted_list = (formatted 8 2 4).sections
