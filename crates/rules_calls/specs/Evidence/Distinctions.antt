-- Cases beside those of Cases.antt, in document 01's order: each tells a rule from a wrong one that every case there would pass. The wrong
-- rules are the edits of must-fail/. That each case gives what it says is one lemma, in proofs/.
use Rattle.std.specs.Prelude.{List, [], ◌∷◌, set, replicate}
use Rattle.rules.specs.Heap.{with_roots, with_d}
use Rattle.rules_calls.specs.Calls.{format, check, collect, free_blocks, allocate, store_root, store_cell, look}
use Rattle.rules_calls.specs.Evidence.Forms.{Case, case, fresh, fresh_but, gives, sticking, shows, refuses, damaged}
use Rattle.rules.specs.Evidence.SmallHeaps.{eight_blocks, cell_holding, root_holding}

unfoldable pub distinctions : List Case
distinctions =
    -- "Format. A-map 0, B-map all ones, everything else 0."; "A heap that a call formats isn't tested for more than 1."
    case 2 (fresh 2) 0 255
    ((allocate 1 0, gives 0) ∷ (store_cell 0 0 1, gives 0) ∷ (format, gives 0) ∷ (check, gives 0) ∷ (free_blocks, gives 8) ∷ [])
    ∷ case 2 (fresh_but 1 255) 0 255 ((check, damaged 2) ∷ (format, gives 0) ∷ (check, gives 0) ∷ [])
    -- "Then the reference is stored in root r as below": what the root named is let go
    ∷ case 2 (fresh 2) 2 253 ((allocate 1 0, gives 0) ∷ (allocate 1 0, gives 1) ∷ (look 0, refuses 6) ∷ (free_blocks, gives 7) ∷ [])
    -- "The search happens before the old root reference is let go, so what that frees is not used by this call."
    ∷ case 2 (fresh 2) 255 127 ((allocate 8 0, gives 0) ∷ (allocate 8 0, refuses 5) ∷ (look 0, shows 8 1) ∷ [])
    -- "First the object named by v .. is counted up" in a cell too: the new object may be held by the old one alone
    ∷ case 2 (fresh 2) 5 250
    ((allocate 1 0, gives 0) ∷ (allocate 1 1, gives 1) ∷ (allocate 1 2, gives 2) ∷ (store_cell 0 0 2, gives 0) ∷ (store_cell 1 0 3, gives 0)
    ∷ (store_root 1 0, gives 0) ∷ (store_root 2 0, gives 0) ∷ (store_cell 0 0 3, gives 1) ∷ (look 2, shows 1 1) ∷ [])
    -- "then the old object, if any, is counted down" in a cell too
    ∷ case 2 (fresh 2) 1 254
    ((allocate 1 0, gives 0) ∷ (allocate 1 1, gives 1) ∷ (store_cell 0 3 2, gives 0) ∷ (store_root 1 0, gives 0) ∷ (store_cell 0 3 0, gives 1)
    ∷ [])
    -- the old object at the last block, which is named by N: by a root, then by a cell of what is freed
    ∷ case 2 (fresh 2) 0 255
    ((allocate 7 0, gives 0) ∷ (allocate 1 1, gives 7) ∷ (store_cell 0 27 8, gives 0) ∷ (store_root 1 0, gives 0) ∷ (look 7, shows 1 1)
    ∷ (store_root 0 0, gives 8) ∷ [])
    -- "An object is reached if a root names it or a cell of a reached object does."
    ∷ case 2 (fresh 2) 7 248
    ((allocate 1 0, gives 0) ∷ (allocate 1 1, gives 1) ∷ (allocate 1 2, gives 2) ∷ (store_cell 0 0 2, gives 0) ∷ (store_cell 1 0 3, gives 0)
    ∷ (store_root 1 0, gives 0) ∷ (store_root 2 0, gives 0) ∷ (collect, gives 0) ∷ (look 2, shows 1 1) ∷ [])
    -- "Each reached object's count becomes the smaller of the capacity and the number of roots and cells .. that name it."
    ∷ case 1 (fresh 1) 1 254 ((allocate 1 0, sticking 0) ∷ (store_root 1 1, gives 0) ∷ (collect, gives 0) ∷ (look 0, shows 1 1) ∷ [])
    -- "Each list is in order, and the first number that applies is given": 3, 4, 5; 4, 8; 6, 7, 8
    ∷ case 2 (fresh 2) 255 127
    ((allocate 8 0, gives 0) ∷ (allocate 9 4, refuses 3) ∷ (allocate 8 4, refuses 4) ∷ (store_root 4 9, refuses 4) ∷ (store_root 3 9, refuses 8)
    ∷ (store_cell 1 32 9, refuses 6) ∷ (store_cell 0 32 9, refuses 7) ∷ (store_cell 0 31 9, refuses 8) ∷ [])
    -- Damage 2, ".. whose next block is free or past the end": the last block, held by a root
    ∷ case 2 (eight_blocks 128 255 128 0 (replicate 32 0) (root_holding 3 8)) 128 255 ((check, damaged 2) ∷ [])
    -- Damage 4, "A cell of a free block that isn't 0", though it names an object, which has count 2 for the root and this cell
    ∷ case 2 (eight_blocks 1 254 0 1 (cell_holding 31 1) (root_holding 0 1)) 1 254 ((check, damaged 4) ∷ [])
    -- ".. or a cell .. that is neither 0 nor 1 + a first block": of an object
    ∷ case 2 (eight_blocks 1 254 1 0 (cell_holding 3 2) (root_holding 0 1)) 1 254 ((check, damaged 4) ∷ [])
    -- ".. or root": the last one; a free block, and past the end
    ∷ case 2 (with_roots (root_holding 3 8) (fresh 2)) 0 255 ((check, damaged 4) ∷ [])
    ∷ case 2 (with_roots (root_holding 3 9) (fresh 2)) 0 255 ((check, damaged 4) ∷ [])
    -- Damage 5, "A count other than 0 where no object starts"
    ∷ case 2 (eight_blocks 0 255 0 128 (replicate 32 0) (replicate 4 0)) 0 255 ((check, damaged 5) ∷ [])
    -- "an object with count 0", which no reference names
    ∷ case 2 (fresh_but 1 254) 1 254 ((check, damaged 5) ∷ [])
    -- "a count below capacity that differs from the number of all cells and roots naming the object": 2 with one reference
    ∷ case 2 (eight_blocks 1 254 0 1 (replicate 32 0) (root_holding 0 1)) 1 254 ((check, damaged 5) ∷ [])
    -- Request U6: numbers in the cells of data, in its last block too, are neither checked nor counted: 9
    -- names no block, 1 the data itself
    ∷ case 2 (with_d (1 ∷ []) (eight_blocks 3 253 1 0 (set (cell_holding 7 9) 0 1) (root_holding 0 1))) 3 253 ((check, gives 0) ∷ [])
    -- kinds 4 and 5 read the rest as before: the object behind the data; the D-map is read at first blocks
    -- alone
    ∷ case 2 (with_d (1 ∷ []) (eight_blocks 3 252 3 0 (cell_holding 4 9) (1 ∷ 2 ∷ 0 ∷ 0 ∷ []))) 3 252 ((check, damaged 4) ∷ [])
    ∷ case 2 (with_d (1 ∷ []) (eight_blocks 3 252 3 0 (cell_holding 4 1) (1 ∷ 2 ∷ 0 ∷ 0 ∷ []))) 3 252 ((check, damaged 5) ∷ [])
    ∷ case 2 (with_d (2 ∷ []) (eight_blocks 3 253 1 0 (cell_holding 4 9) (root_holding 0 1))) 3 253 ((check, damaged 4) ∷ [])
    -- "7 is a D bit where no object starts": on the second block of one; after 5
    ∷ case 2 (with_d (2 ∷ []) (eight_blocks 3 253 1 0 (replicate 32 0) (root_holding 0 1))) 3 253 ((check, damaged 7) ∷ [])
    ∷ case 2 (with_d (2 ∷ []) (eight_blocks 3 253 2 0 (replicate 32 0) (root_holding 0 1))) 3 253 ((check, damaged 5) ∷ [])
    -- a cell of a free block behind data
    ∷ case 2 (with_d (1 ∷ []) (eight_blocks 1 254 1 0 (cell_holding 4 1) (root_holding 0 1))) 1 254 ((check, damaged 4) ∷ [])
    ∷ []
