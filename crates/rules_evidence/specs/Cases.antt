-- Document 01, "Small heaps on paper": the cases marked P, as one list. "N is 8, w is 2 and there are 4 roots unless said; bytes in
-- decimal." That each case gives what it says is one lemma, in proofs/.
use Rattle.std.specs.Prelude.{List, [], ◌∷◌}
use Rattle.rules.specs.Heap.{with_d}
use Rattle.rules_calls.specs.Calls.{check, collect, free_blocks, allocate, store_root, store_cell, look, return_roots}
use Rattle.rules_calls.specs.Calls.{allocate_data, write_number, read_number}
use Rattle.rules_calls.specs.Evidence.Forms.{Case, case, fresh, fresh_but, gives, sticking, shows, refuses, damaged}

unfoldable pub cases : List Case
cases =
    -- P1
    case 2 (fresh 2) 119 185
    ((allocate 2 0, gives 0) ∷ (allocate 1 1, gives 2) ∷ (allocate 3 2, gives 4) ∷ (look 4, shows 3 1) ∷ [])
    -- P2
    ∷ case 2 (fresh 2) 127 177
    ((allocate 2 0, gives 0) ∷ (allocate 1 1, gives 2) ∷ (allocate 3 2, gives 4)
    ∷ (allocate 2 3, refuses 5) ∷ (free_blocks, gives 2) ∷ (look 3, refuses 6) ∷ (look 7, refuses 6) ∷ (allocate 1 3, gives 3) ∷ [])
    -- P3
    ∷ case 2 (fresh 2) 223 111 ((allocate 5 0, gives 0) ∷ (allocate 3 1, refuses 5) ∷ (allocate 2 1, gives 6) ∷ [])
    -- P4
    ∷ case 2 (fresh 2) 0 255
    ((allocate 1 0, gives 0) ∷ (store_root 1 1, gives 0) ∷ (store_root 2 1, sticking 0) ∷ (look 0, shows 1 3)
    ∷ (store_root 0 0, gives 0) ∷ (store_root 1 0, gives 0) ∷ (store_root 2 0, gives 0) ∷ (look 0, shows 1 3) ∷ (collect, gives 1) ∷ [])
    -- P5
    ∷ case 2 (fresh 2) 0 255
    ((allocate 1 0, gives 0) ∷ (store_root 1 1, gives 0) ∷ (store_root 0 0, gives 0) ∷ (look 0, shows 1 1)
    ∷ (store_root 1 0, gives 1) ∷ (look 0, refuses 6) ∷ [])
    -- P6
    ∷ case 1 (fresh 1) 0 255 ((allocate 1 0, sticking 0) ∷ (store_root 0 0, gives 0) ∷ (look 0, shows 1 1) ∷ (collect, gives 1) ∷ [])
    -- P7
    ∷ case 2 (fresh 2) 0 255
    ((allocate 1 0, gives 0) ∷ (allocate 1 1, gives 1) ∷ (store_cell 0 0 2, gives 0) ∷ (store_cell 1 0 1, gives 0)
    ∷ (store_root 0 0, gives 0) ∷ (store_root 1 0, gives 0) ∷ (look 0, shows 1 1) ∷ (look 1, shows 1 1) ∷ (collect, gives 2) ∷ [])
    -- P8
    ∷ case 2 (fresh 2) 0 255
    ((allocate 2 0, gives 0) ∷ (allocate 1 1, gives 2) ∷ (store_cell 0 7 3, gives 0) ∷ (store_root 1 0, gives 0)
    ∷ (store_cell 0 8 3, refuses 7) ∷ (store_root 0 0, gives 3) ∷ [])
    -- P9, both halves; the second ends at 2 (request U2), so what is let go is counted down
    ∷ case 2 (fresh 2) 1 254
    ((allocate 1 0, gives 0) ∷ (store_root 0 1, gives 0) ∷ (look 0, shows 1 1)
    ∷ (store_root 1 1, gives 0) ∷ (look 0, shows 1 2) ∷ (store_root 0 1, gives 0) ∷ (look 0, shows 1 2)
    ∷ (store_root 0 0, gives 0) ∷ (look 0, shows 1 1) ∷ [])
    -- P9's second half in a cell
    ∷ case 2 (fresh 2) 1 254
    ((allocate 1 0, gives 0) ∷ (store_cell 0 0 1, gives 0) ∷ (look 0, shows 1 2) ∷ (store_cell 0 0 1, gives 0) ∷ (look 0, shows 1 2) ∷ [])
    -- P10
    ∷ case 2 (fresh 2) 255 127
    ((allocate 0 0, refuses 3) ∷ (allocate 9 0, refuses 3) ∷ (allocate 0 4, refuses 3) ∷ (allocate 9 4, refuses 3)
    ∷ (allocate 8 0, gives 0) ∷ [])
    -- P11
    ∷ case 2 (fresh_but 0 254) 0 254 ((check, damaged 1) ∷ [])
    ∷ case 2 (fresh_but 1 255) 1 255 ((check, damaged 2) ∷ [])
    ∷ case 2 (fresh_but 6 251) 6 251 ((check, damaged 3) ∷ [])
    ∷ []

-- "Plausible readings that are wrong", in the document's order: each case tells the right reading from the wrong one
unfoldable pub readings : List Case
readings =
    -- "Taking the lowest run of n free blocks wherever it starts, or flipping all s."
    case 2 (fresh 2) 127 180
    ((allocate 1 0, gives 0) ∷ (allocate 2 1, gives 2) ∷ (allocate 3 2, gives 4) ∷ (allocate 1 3, gives 1) ∷ (free_blocks, gives 1) ∷ [])
    -- "Document 004 counts down first": the new object may be held by the old one alone
    ∷ case 2 (fresh 2) 2 253
    ((allocate 1 0, gives 0) ∷ (allocate 1 1, gives 1) ∷ (store_cell 0 0 2, gives 0) ∷ (store_root 1 0, gives 0)
    ∷ (store_root 0 2, gives 1) ∷ (look 1, shows 1 1) ∷ [])
    -- "Leaving the B bit at 0 after a free: a later, longer object would seem to end there."
    ∷ case 2 (fresh 2) 3 253 ((allocate 1 0, gives 0) ∷ (store_root 0 0, gives 1) ∷ (allocate 2 0, gives 0) ∷ (look 0, shows 2 1) ∷ [])
    -- "Counting a stuck object down, or treating 2^w as the capacity."
    ∷ case 1 (fresh 1) 1 254
    ((allocate 1 0, sticking 0) ∷ (store_root 1 1, gives 0) ∷ (look 0, shows 1 1) ∷ (store_root 0 0, gives 0) ∷ (store_root 1 0, gives 0)
    ∷ (look 0, shows 1 1) ∷ [])
    -- "Counting references from unreached objects in a collection."
    ∷ case 2 (fresh 2) 1 254
    ((allocate 1 0, gives 0) ∷ (allocate 1 1, gives 1) ∷ (store_cell 1 0 1, gives 0) ∷ (store_cell 1 1 2, gives 0) ∷ (store_root 1 0, gives 0)
    ∷ (look 0, shows 1 2) ∷ (look 1, shows 1 1) ∷ (collect, gives 1) ∷ (look 0, shows 1 1) ∷ [])
    -- "Freeing the dropped object without letting go of what its cells name, or letting go once for two equal cells."
    ∷ case 2 (fresh 2) 0 255
    ((allocate 1 0, gives 0) ∷ (allocate 1 1, gives 1) ∷ (store_cell 0 0 2, gives 0) ∷ (store_root 1 0, gives 0) ∷ (store_cell 0 3 2, gives 0)
    ∷ (look 1, shows 1 2) ∷ (store_root 0 0, gives 2) ∷ [])
    -- "Clearing counts before marking and losing one when an object is met a second time."
    ∷ case 2 (fresh 2) 1 254 ((allocate 1 0, gives 0) ∷ (store_root 1 1, gives 0) ∷ (collect, gives 0) ∷ (look 0, shows 1 2) ∷ [])
    ∷ []

-- Request U10, "A method returns"
unfoldable pub returns : List Case
returns =
    -- "refused with 4 if any bit is at or past the number of roots"; a set of empty roots
    case 2 (fresh 2) 0 255 ((return_roots 16, refuses 4) ∷ (return_roots 0, gives 0) ∷ (return_roots 15, gives 0) ∷ [])
    -- "Its value is the blocks freed in all": two objects, one of which held a third; the object in the root that is not in the set stays
    ∷ case 2 (fresh 2) 16 239
    ((allocate 2 0, gives 0) ∷ (allocate 1 1, gives 2) ∷ (allocate 1 2, gives 3) ∷ (allocate 1 3, gives 4) ∷ (store_cell 0 7 3, gives 0)
    ∷ (store_root 1 0, gives 0) ∷ (return_roots 7, gives 4) ∷ (look 4, shows 1 1) ∷ [])
    -- one object in two roots
    ∷ case 2 (fresh 2) 0 255 ((allocate 2 0, gives 0) ∷ (store_root 1 1, gives 0) ∷ (return_roots 3, gives 2) ∷ [])
    -- one object in three roots: its count is at capacity
    ∷ case 2 (fresh 2) 1 254
    ((allocate 1 0, gives 0) ∷ (store_root 1 1, gives 0) ∷ (store_root 2 1, sticking 0) ∷ (return_roots 7, gives 0) ∷ (look 0, shows 1 3) ∷ [])
    -- two objects that name each other
    ∷ case 2 (fresh 2) 3 252
    ((allocate 1 0, gives 0) ∷ (allocate 1 1, gives 1) ∷ (store_cell 0 0 2, gives 0) ∷ (store_cell 1 0 1, gives 0) ∷ (return_roots 3, gives 0)
    ∷ (look 0, shows 1 1) ∷ (look 1, shows 1 1) ∷ [])
    ∷ []

-- Request U5, "When objects become stuck": "this very step brought the count to the capacity"
unfoldable pub moments : List Case
moments =
    -- "a birth at width 1 included": into a root that is in use, too
    case 1 (fresh 1) 13 246 ((allocate 1 0, sticking 0) ∷ (allocate 2 0, sticking 2) ∷ (look 0, shows 1 1) ∷ [])
    -- the third reference, in a cell; a fourth; one of them stored over itself
    ∷ case 2 (fresh 2) 1 254
    ((allocate 1 0, gives 0) ∷ (store_root 1 1, gives 0) ∷ (store_cell 0 0 1, sticking 0) ∷ (store_cell 0 1 1, gives 0)
    ∷ (store_root 2 1, gives 0) ∷ (store_root 1 1, gives 0) ∷ [])
    -- a reference stored over itself, one below the capacity: in a root, in a cell
    ∷ case 2 (fresh 2) 1 254
    ((allocate 1 0, gives 0) ∷ (store_cell 0 3 1, gives 0) ∷ (store_root 0 1, gives 0) ∷ (store_cell 0 3 1, gives 0) ∷ [])
    -- a collection sticks none; the object comes to the capacity again
    ∷ case 2 (fresh 2) 1 254
    ((allocate 1 0, gives 0) ∷ (store_root 1 1, gives 0) ∷ (store_root 2 1, sticking 0) ∷ (collect, gives 0) ∷ (store_root 2 0, gives 0)
    ∷ (collect, gives 0) ∷ (look 0, shows 1 2) ∷ (store_root 3 1, sticking 0) ∷ [])
    -- the object that is let go is one below the capacity, the new one is not
    ∷ case 2 (fresh 2) 3 252
    ((allocate 1 0, gives 0) ∷ (store_root 1 1, gives 0) ∷ (allocate 1 2, gives 1) ∷ (store_root 1 2, gives 0) ∷ (store_cell 0 0 1, gives 0)
    ∷ (store_cell 0 0 2, sticking 0) ∷ [])
    -- the new object comes to the capacity and the old one is freed
    ∷ case 2 (fresh 2) 2 253
    ((allocate 1 0, gives 0) ∷ (allocate 1 1, gives 1) ∷ (store_root 2 2, gives 0) ∷ (store_root 0 2, sticking 1) ∷ [])
    -- "any further value of a reply is 0, or no, in every refusal"
    ∷ case 2 (fresh 2) 1 254
    ((allocate 1 0, gives 0) ∷ (store_root 1 1, gives 0) ∷ (store_root 4 1, refuses 4) ∷ (store_cell 1 0 1, refuses 6)
    ∷ (store_cell 0 4 1, refuses 7) ∷ (store_root 2 2, refuses 8) ∷ [])
    ∷ case 1 (fresh 1) 0 255 ((allocate 9 0, refuses 3) ∷ (allocate 1 4, refuses 4) ∷ [])
    ∷ []

-- Request U6, "Arrays of numbers"
unfoldable pub numbers : List Case
numbers =
    -- "Its cells hold any .. number", of 32 bits with request U12: written, read, kept by a collection, and cleared with the D bit
    -- when the object is freed: then an ordinary object at the same block has references in its cells
    case 2 (fresh 2) 1 254
    ((allocate_data 2 0, gives 0) ∷ (read_number 0 7, gives 0) ∷ (write_number 0 7 4294967295, gives 0) ∷ (write_number 0 4 2, gives 0)
    ∷ (read_number 0 7, gives 4294967295) ∷ (check, gives 0) ∷ (look 0, shows 2 1) ∷ (collect, gives 0) ∷ (read_number 0 4, gives 2)
    ∷ (store_root 0 0, gives 2) ∷ (check, gives 0) ∷ (allocate 1 0, gives 0) ∷ (store_cell 0 0 1, gives 0) ∷ (look 0, shows 1 2) ∷ [])
    -- ".. are never followed, counted": a number that would name the object at block 1, by which it is not
    -- kept
    ∷ case 2 (fresh 2) 1 254
    ((allocate_data 1 0, gives 0) ∷ (allocate 1 1, gives 1) ∷ (write_number 0 0 2, gives 0) ∷ (look 1, shows 1 1) ∷ (store_root 1 0, gives 1)
    ∷ (check, gives 0) ∷ (read_number 0 0, gives 2) ∷ [])
    -- .. nor let go when the data is freed
    ∷ case 2 (fresh 2) 2 253
    ((allocate_data 1 0, gives 0) ∷ (allocate 1 1, gives 1) ∷ (write_number 0 0 2, gives 0) ∷ (store_root 0 0, gives 1) ∷ (look 1, shows 1 1) ∷ [])
    -- .. nor does a collection reach by it, or count it
    ∷ case 2 (fresh 2) 5 250
    ((allocate_data 1 0, gives 0) ∷ (allocate 1 1, gives 1) ∷ (allocate 1 2, gives 2) ∷ (store_cell 1 0 2, gives 0) ∷ (store_root 1 0, gives 0)
    ∷ (write_number 0 0 2, gives 0) ∷ (write_number 0 1 3, gives 0) ∷ (collect, gives 1) ∷ (look 1, refuses 6) ∷ (look 2, shows 1 1) ∷ [])
    -- a collection frees data, with its numbers and its D bit
    ∷ case 1 (fresh 1) 1 254
    ((allocate_data 1 0, sticking 0) ∷ (write_number 0 0 9, gives 0) ∷ (store_root 0 0, gives 0) ∷ (collect, gives 1) ∷ (check, gives 0)
    ∷ (allocate 1 0, sticking 0) ∷ (read_number 0 0, refuses 12) ∷ (store_cell 0 0 1, gives 0) ∷ [])
    -- data is named by roots and cells as any object is
    ∷ case 2 (fresh 2) 0 255
    ((allocate 1 0, gives 0) ∷ (allocate_data 1 1, gives 1) ∷ (store_cell 0 0 2, gives 0) ∷ (look 1, shows 1 2) ∷ (store_root 1 0, gives 0)
    ∷ (collect, gives 0) ∷ (look 1, shows 1 1) ∷ (store_root 0 0, gives 2) ∷ [])
    -- "12 .. placed after 7": a reference store on data, a number on an ordinary object
    ∷ case 2 (fresh 2) 3 252
    ((allocate_data 1 0, gives 0) ∷ (allocate 1 1, gives 1) ∷ (store_cell 2 4 9, refuses 6) ∷ (store_cell 0 4 9, refuses 7)
    ∷ (store_cell 0 3 9, refuses 12) ∷ (store_cell 0 0 0, refuses 12) ∷ (store_cell 1 0 9, refuses 8)
    ∷ (write_number 2 4 9, refuses 6) ∷ (write_number 1 4 9, refuses 7) ∷ (write_number 1 3 9, refuses 12)
    ∷ (read_number 2 4, refuses 6) ∷ (read_number 1 4, refuses 7) ∷ (read_number 1 3, refuses 12) ∷ (read_number 0 4, refuses 7) ∷ [])
    -- "allocate data into d as 1 does": 3, 4, 5; the second value
    ∷ case 2 (fresh 2) 255 127
    ((allocate_data 0 4, refuses 3) ∷ (allocate_data 9 0, refuses 3) ∷ (allocate_data 8 4, refuses 4) ∷ (allocate_data 8 0, gives 0)
    ∷ (allocate_data 1 1, refuses 5) ∷ [])
    -- "damage kind 7 is a D bit where no object starts"
    ∷ case 2 (with_d (128 ∷ []) (fresh 2)) 0 255 ((check, damaged 7) ∷ [])
    ∷ []
