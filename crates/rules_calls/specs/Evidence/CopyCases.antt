-- Request U14, "Copy into a second heap": copies into small heaps, each with its right answer and wrong ones (`Question`, WrongAnswers.antt), and
-- lists of calls with a copy in them. The call is made on the second heap.
use Rattle.std.specs.Prelude.{ℕ, List, [], ◌∷◌, set, replicate}
use Rattle.rules.specs.Heap.{Memory, lent_memory, with_a, with_b, with_counts, with_roots, with_waiting, with_sections, with_d, with_marks, with_list}
use Rattle.rules.specs.Sections.{figures}
use Rattle.rules_stores.specs.Store.{formatted}
use Rattle.rules_calls.specs.Calls.{Call, check, collect, allocate, store_root, look, open_collection, take_steps, copy_from, copy_into, Answer}
use Rattle.rules_calls.specs.Evidence.Forms.{Case, case, fresh, fresh_but, gives, refuses, damaged, shows}
use Rattle.rules.specs.Evidence.SmallHeaps.{eight_blocks, cell_holding, root_holding}
use Rattle.rules_calls.specs.Evidence.WrongAnswers.{Question, question, used, listed, collecting, chained, stale}

-- ---- second heaps, of 8 blocks and width 2

-- nothing in it is as it has to be but the lengths
unfoldable pub junk : (roots : List ℕ) → Memory
junk roots =
    lent_memory (101 ∷ []) (165 ∷ []) (51 ∷ 31 ∷ []) (replicate 32 9) roots (replicate 8 5) (77 ∷ []) (213 ∷ []) (133 ∷ []) (replicate 9 6)

-- with the 4 roots of most first heaps
unfoldable pub junk_four : Memory
junk_four = junk (7 ∷ 8 ∷ 9 ∷ 3 ∷ [])

-- ---- first heaps, of 8 blocks and width 2 unless said

-- X at 2 in root 0, Z at 1 in root 1; X names Y at 0 in its cell 0; 3 roots
unfoldable pub three_roots : Memory
three_roots = eight_blocks 7 248 7 0 (cell_holding 8 1) (3 ∷ 2 ∷ 0 ∷ [])

-- one object at 0 that is stuck by its history: one reference is left
unfoldable pub stuck_one : Memory
stuck_one = eight_blocks 1 254 1 1 (replicate 32 0) (root_holding 0 1)

-- the same with count 1, and with three references
unfoldable pub plain_one : Memory
plain_one = eight_blocks 1 254 1 0 (replicate 32 0) (root_holding 0 1)

unfoldable pub threefold : Memory
threefold = eight_blocks 1 254 1 1 (replicate 32 0) (1 ∷ 1 ∷ 1 ∷ 0 ∷ [])

-- 5 blocks at 0 in root 1, 1 at 5 in root 0, 2 at 6 in root 2: full
unfoldable pub full : Memory
full = eight_blocks 255 79 97 0 (replicate 32 0) (6 ∷ 1 ∷ 7 ∷ 0 ∷ [])

-- the same with a collection open
unfoldable pub full_open : Memory
full_open = with_marks (97 ∷ []) (with_list (1 ∷ 6 ∷ 7 ∷ 0 ∷ 0 ∷ 0 ∷ 0 ∷ 0 ∷ 1 ∷ []) full)

-- 3 blocks at 0 in root 0, 1 at 4 in root 1
unfoldable pub three_and_one : Memory
three_and_one = eight_blocks 23 235 17 0 (replicate 32 0) (1 ∷ 5 ∷ 0 ∷ 0 ∷ [])

-- single blocks at 0, 1, 3 and 6: those at 1 and 3 in roots 1 and 3, the others named by the one at 3
unfoldable pub fragmented : Memory
fragmented = eight_blocks 75 180 75 0 (set (cell_holding 12 1) 13 7) (0 ∷ 2 ∷ 0 ∷ 4 ∷ [])

-- data at 0 in root 1, with the number 2 in its cell 2; an object at 1 in root 0
unfoldable pub with_data : Memory
with_data = with_d (1 ∷ []) (eight_blocks 3 252 3 0 (cell_holding 2 2) (2 ∷ 1 ∷ 0 ∷ 0 ∷ []))

-- X at 0 in root 0 names itself, and Y at 1 twice; P and Q, at 2 and 3, name each other
unfoldable pub tangled : Memory
tangled = eight_blocks 15 240 12 3 (set (set (set (set (cell_holding 0 1) 1 2) 2 2) 8 4) 12 3) (root_holding 0 1)

-- of 16 blocks and width 1, with one root: one object of 9 blocks
unfoldable pub nine : Memory
nine =
    lent_memory (255 ∷ 1 ∷ []) (255 ∷ 254 ∷ []) (1 ∷ 0 ∷ []) (replicate 64 0) (1 ∷ []) (replicate 16 0) (figures 16 (255 ∷ 1 ∷ []))
    (0 ∷ 0 ∷ []) (0 ∷ 0 ∷ []) (replicate 17 0)

-- ---- what full becomes in a heap of 16 blocks

unfoldable pub full_in_sixteen : Memory
full_in_sixteen =
    lent_memory (13 ∷ 31 ∷ []) (246 ∷ 239 ∷ []) (5 ∷ 1 ∷ 0 ∷ 0 ∷ []) (replicate 64 0) (1 ∷ 9 ∷ 3 ∷ 0 ∷ []) (replicate 16 0) (4 ∷ [])
    (0 ∷ 0 ∷ []) (0 ∷ 0 ∷ []) (replicate 17 0)

-- a question on a heap of 16 blocks
abbrev pub question_in_sixteen : ℕ → Memory → Call → Answer → List Answer → Question
question_in_sixteen width before call right wrong =
    record { blocks = 16; width = width; before = before; call = call; right = right; wrong = wrong }

unfoldable pub copy_answers : List Question
copy_answers =
    -- "in U13's order": X, Z, Y. Whatever stood in the second heap, damaged and with a collection open, all ten lists are written.
    question 2 (junk (7 ∷ 8 ∷ 9 ∷ [])) (copy_from 8 2 three_roots) (gives 3, eight_blocks 7 248 7 0 (cell_holding 0 3) (1 ∷ 2 ∷ 0 ∷ []))
    -- depth first; by block number
    ((gives 3, eight_blocks 7 248 7 0 (cell_holding 0 2) (1 ∷ 3 ∷ 0 ∷ [])) ∷ (gives 3, eight_blocks 7 248 7 0 (cell_holding 8 1) (3 ∷ 2 ∷ 0 ∷ []))
    -- refuses everything; never writes; formats only; tests the second heap
    ∷ (refuses 1, junk (7 ∷ 8 ∷ 9 ∷ [])) ∷ (gives 3, junk (7 ∷ 8 ∷ 9 ∷ [])) ∷ (gives 0, formatted 8 2 3) ∷ (damaged 1, junk (7 ∷ 8 ∷ 9 ∷ []))
    ∷ (refuses 14, junk (7 ∷ 8 ∷ 9 ∷ []))
    -- the free blocks for the value, or the highest one in use
    ∷ (gives 5, eight_blocks 7 248 7 0 (cell_holding 0 3) (1 ∷ 2 ∷ 0 ∷ [])) ∷ (gives 2, eight_blocks 7 248 7 0 (cell_holding 0 3) (1 ∷ 2 ∷ 0 ∷ []))
    -- counts left stuck; the waiting list, the list of sections, the D-map, the mark map or the second list left
    ∷ (gives 3, eight_blocks 7 248 7 7 (cell_holding 0 3) (1 ∷ 2 ∷ 0 ∷ []))
    ∷ (gives 3, with_waiting (replicate 8 5) (eight_blocks 7 248 7 0 (cell_holding 0 3) (1 ∷ 2 ∷ 0 ∷ [])))
    ∷ (gives 3, listed 77 (eight_blocks 7 248 7 0 (cell_holding 0 3) (1 ∷ 2 ∷ 0 ∷ [])))
    ∷ (gives 3, listed 8 (eight_blocks 7 248 7 0 (cell_holding 0 3) (1 ∷ 2 ∷ 0 ∷ [])))
    ∷ (gives 3, with_d (213 ∷ []) (eight_blocks 7 248 7 0 (cell_holding 0 3) (1 ∷ 2 ∷ 0 ∷ [])))
    ∷ (gives 3, with_marks (133 ∷ []) (eight_blocks 7 248 7 0 (cell_holding 0 3) (1 ∷ 2 ∷ 0 ∷ [])))
    ∷ (gives 3, with_list (replicate 9 6) (eight_blocks 7 248 7 0 (cell_holding 0 3) (1 ∷ 2 ∷ 0 ∷ []))) ∷ [])
    -- "Counts are those a collection gives at the new width": 1, where the first heap's is stuck
    ∷ question 2 junk_four (copy_from 8 2 stuck_one) (gives 1, plain_one) ((gives 1, stuck_one) ∷ (gives 1, eight_blocks 1 254 0 0 (replicate 32 0) (root_holding 0 1)) ∷ [])
    ∷ question 1 (with_counts (9 ∷ []) junk_four) (copy_from 8 2 stuck_one) (gives 1, with_counts (1 ∷ []) plain_one)
    ((gives 1, with_counts (0 ∷ []) plain_one) ∷ (gives 1, plain_one) ∷ [])
    ∷ question 4 (with_counts (9 ∷ 9 ∷ 9 ∷ 9 ∷ []) junk_four) (copy_from 8 2 threefold) (gives 1, with_counts (1 ∷ 1 ∷ 0 ∷ 0 ∷ []) threefold)
    ((gives 1, with_counts (1 ∷ 1 ∷ 1 ∷ 1 ∷ []) threefold) ∷ [])
    -- "nothing that stood there lives on": the object at 0 is new, with three references
    ∷ question 2 (with_roots (root_holding 3 1) plain_one) (copy_from 8 2 threefold) (gives 1, threefold)
    ((gives 1, with_roots (1 ∷ 1 ∷ 1 ∷ 0 ∷ []) plain_one) ∷ (gives 1, with_roots (root_holding 3 1) plain_one) ∷ (gives 0, threefold) ∷ [])
    -- "17, an object finds no chunk at its turn": the single block comes first and takes block 0. Nothing is written.
    ∷ question 2 junk_four (copy_from 8 2 full) (refuses 17, junk_four)
    -- as it lies; the largest first; formatted, or begun, before the number is known; allocation's number; a value
    ((gives 8, full) ∷ (refuses 17, fresh 2) ∷ (refuses 17, eight_blocks 1 254 1 0 (replicate 32 0) (root_holding 0 1)) ∷ (refuses 5, junk_four)
    ∷ (gives 0, junk_four) ∷ (gives 1, eight_blocks 1 254 1 0 (replicate 32 0) (root_holding 0 1)) ∷ [])
    -- "its N and w may differ"
    ∷ question_in_sixteen 2 (formatted 16 2 4) (copy_from 8 2 full) (gives 8, full_in_sixteen)
    -- each in the next free run, wherever it starts; refused
    ((
      gives 8,
      with_a (255 ∷ 0 ∷ []) (with_b (94 ∷ 255 ∷ []) (with_counts (67 ∷ 0 ∷ 0 ∷ 0 ∷ []) (with_roots (1 ∷ 2 ∷ 7 ∷ 0 ∷ []) (with_sections (8 ∷ []) full_in_sixteen)))),
    ) ∷ (refuses 17, formatted 16 2 4) ∷ (refuses 1, formatted 16 2 4) ∷ [])
    ∷ question 1 (with_counts (9 ∷ []) (junk (7 ∷ []))) (copy_from 16 1 nine) (refuses 17, with_counts (9 ∷ []) (junk (7 ∷ [])))
    ((refuses 3, with_counts (9 ∷ []) (junk (7 ∷ []))) ∷ (refuses 1, with_counts (9 ∷ []) (junk (7 ∷ []))) ∷ (gives 0, formatted 8 1 1) ∷ [])
    -- "only its first n blocks become allocated": block 3 is left for the second object
    ∷ question 2 junk_four (copy_from 8 2 three_and_one) (gives 4, eight_blocks 15 243 9 0 (replicate 32 0) (1 ∷ 4 ∷ 0 ∷ 0 ∷ [])) ((gives 4, three_and_one) ∷ [])
    -- single blocks put together
    ∷ question 2 junk_four (copy_from 8 2 fragmented) (gives 4, eight_blocks 15 240 15 0 (set (cell_holding 4 3) 5 4) (0 ∷ 1 ∷ 0 ∷ 2 ∷ []))
    -- references as they stand; cells at their old places; as it lies
    ((gives 4, eight_blocks 15 240 15 0 (set (cell_holding 4 1) 5 7) (0 ∷ 2 ∷ 0 ∷ 4 ∷ [])) ∷ (gives 4, eight_blocks 15 240 15 0 (set (cell_holding 12 3) 13 4) (0 ∷ 1 ∷ 0 ∷ 2 ∷ []))
    ∷ (gives 4, fragmented) ∷ [])
    -- data: its numbers are no references
    ∷ question 2 junk_four (copy_from 8 2 with_data) (gives 2, with_d (2 ∷ []) (eight_blocks 3 252 3 0 (cell_holding 6 2) (1 ∷ 2 ∷ 0 ∷ 0 ∷ [])))
    -- moved as a reference; the D bit lost, or left at its place; its cells lost
    ((gives 2, with_d (2 ∷ []) (eight_blocks 3 252 3 0 (cell_holding 6 1) (1 ∷ 2 ∷ 0 ∷ 0 ∷ []))) ∷ (gives 2, eight_blocks 3 252 3 0 (cell_holding 6 2) (1 ∷ 2 ∷ 0 ∷ 0 ∷ []))
    ∷ (gives 2, with_d (1 ∷ []) (eight_blocks 3 252 3 0 (cell_holding 6 2) (1 ∷ 2 ∷ 0 ∷ 0 ∷ [])))
    ∷ (gives 2, with_d (2 ∷ []) (eight_blocks 3 252 3 0 (replicate 32 0) (1 ∷ 2 ∷ 0 ∷ 0 ∷ []))) ∷ [])
    -- what no root leads to is not copied; an object is copied once
    ∷ question 2 junk_four (copy_from 8 2 tangled) (gives 2, eight_blocks 3 252 0 3 (set (set (cell_holding 0 1) 1 2) 2 2) (root_holding 0 1))
    ((gives 4, tangled) ∷ (gives 3, eight_blocks 7 248 5 1 (set (set (cell_holding 0 1) 1 2) 2 3) (root_holding 0 1)) ∷ [])
    -- the value: blocks, not objects
    ∷ question 2 junk_four (copy_from 8 2 chained) (gives 3, chained) ((gives 2, chained) ∷ (gives 5, chained) ∷ (gives 0, chained) ∷ [])
    -- nothing is reached
    ∷ question 2 junk_four (copy_from 8 2 (fresh 2)) (gives 0, fresh 2) ((gives 0, junk_four) ∷ (refuses 17, junk_four) ∷ (refuses 6, junk_four) ∷ [])
    -- "its roots are as many", before 2, 13 and 14; the shape of either heap
    ∷ question 2 junk_four (copy_from 8 2 three_roots) (refuses 1, junk_four) ((gives 3, eight_blocks 7 248 7 0 (cell_holding 0 3) (1 ∷ 2 ∷ 0 ∷ 0 ∷ [])) ∷ [])
    ∷ question 2 (junk (7 ∷ 8 ∷ [])) (copy_from 8 2 (collecting 1 1 three_roots)) (refuses 1, junk (7 ∷ 8 ∷ [])) ((refuses 13, junk (7 ∷ 8 ∷ [])) ∷ (refuses 14, junk (7 ∷ 8 ∷ [])) ∷ [])
    ∷ question 2 junk_four (copy_from 8 2 (with_d (0 ∷ 0 ∷ []) chained)) (refuses 1, junk_four) ((gives 3, chained) ∷ [])
    ∷ question 2 (with_d (0 ∷ 0 ∷ []) junk_four) (copy_from 8 2 (fresh_but 1 255)) (refuses 1, with_d (0 ∷ 0 ∷ []) junk_four) ((damaged 2, with_d (0 ∷ 0 ∷ []) junk_four) ∷ [])
    -- 2, with the first heap's kind, before 11, 13 and 14
    ∷ question 2 junk_four (copy_from 8 2 (collecting 0 0 (listed 3 (fresh_but 1 255)))) (damaged 2, junk_four)
    -- no kind told; the second heap's; the other numbers; formatted all the same
    ((refuses 2, junk_four) ∷ (damaged 1, junk_four) ∷ (refuses 11, junk_four) ∷ (refuses 13, junk_four) ∷ (refuses 14, junk_four) ∷ (damaged 2, fresh 2) ∷ [])
    -- 11 before 13 and 14; 13 before 14; 14 before 17
    ∷ question 2 junk_four (copy_from 8 2 (collecting 1 0 stale)) (refuses 11, junk_four) ((refuses 13, junk_four) ∷ (refuses 14, junk_four) ∷ (gives 3, chained) ∷ [])
    ∷ question 2 junk_four (copy_from 8 2 (collecting 1 0 chained)) (refuses 13, junk_four) ((refuses 14, junk_four) ∷ (gives 3, chained) ∷ [])
    ∷ question 2 junk_four (copy_from 8 2 full_open) (refuses 14, junk_four) ((refuses 17, junk_four) ∷ (gives 8, full_open) ∷ [])
    ∷ question 2 junk_four (copy_from 8 2 (collecting 1 1 chained)) (refuses 14, junk_four) ((gives 3, chained) ∷ (gives 3, collecting 1 1 chained) ∷ [])
    -- as a call on the first heap: the reply is the copy's, and nothing changes, the waiting list neither
    ∷ question 2 (used chained) (copy_into 8 2 junk_four) (gives 3, used chained)
    ((gives 3, chained) ∷ (gives 3, junk_four) ∷ (gives 2, used chained) ∷ (gives 0, used chained) ∷ (gives 3, fresh 2) ∷ (damaged 1, used chained) ∷ [])
    ∷ question 2 (used full) (copy_into 8 2 junk_four) (refuses 17, used full) ((gives 8, used full) ∷ (refuses 17, full) ∷ [])
    ∷ question 2 (used full) (copy_into 16 2 (formatted 16 2 4)) (gives 8, used full) ((refuses 17, used full) ∷ (refuses 1, used full) ∷ [])
    ∷ question 2 tangled (copy_into 8 2 junk_four) (gives 2, tangled) ((gives 4, tangled) ∷ [])
    -- the second heap's shape and number of roots before 2; 13 before 14; 14 before 17
    ∷ question 2 (fresh_but 1 255) (copy_into 8 2 (with_d (0 ∷ 0 ∷ []) junk_four)) (refuses 1, fresh_but 1 255) ((damaged 2, fresh_but 1 255) ∷ [])
    ∷ question 2 (fresh_but 1 255) (copy_into 8 2 (junk (7 ∷ []))) (refuses 1, fresh_but 1 255) ((damaged 2, fresh_but 1 255) ∷ [])
    ∷ question 2 (collecting 1 0 chained) (copy_into 8 2 junk_four) (refuses 13, collecting 1 0 chained) ((refuses 14, collecting 1 0 chained) ∷ [])
    ∷ question 2 (used full_open) (copy_into 8 2 junk_four) (refuses 14, used full_open) ((refuses 17, used full_open) ∷ [])
    ∷ []

-- lists of calls with a copy in them
unfoldable pub copies : List Case
copies =
    -- "Fragmented heaps refuse large objects though much is free"
    case 2 fragmented 75 180 ((allocate 4 0, refuses 5) ∷ [])
    ∷ case 2 (fresh 2) 255 112 ((allocate 8 0, gives 0) ∷ (copy_from 8 2 fragmented, gives 4) ∷ (allocate 4 0, gives 4) ∷ [])
    -- the list goes on in the copy; a refused copy changes nothing
    ∷ case 2 (fresh 2) 0 255
    ((allocate 3 0, gives 0) ∷ (copy_from 8 2 full, refuses 17) ∷ (look 0, shows 3 1) ∷ (copy_from 8 2 chained, gives 3) ∷ (look 0, shows 2 1)
    ∷ (store_root 0 0, gives 3) ∷ [])
    -- a copy ends an open collection
    ∷ case 2 (fresh 2) 1 254
    ((allocate 1 0, gives 0) ∷ (open_collection, gives 0) ∷ (copy_from 8 2 stuck_one, gives 1) ∷ (take_steps 1, refuses 14) ∷ (collect, gives 0)
    ∷ (look 0, shows 1 1) ∷ (check, gives 0) ∷ [])
    ∷ []
