-- Calls on a heap of 8 blocks, each with its right answer and wrong ones: what a heap would answer that refuses everything, replies 0 always,
-- never writes or frees everything at a drop, that reckons its figure otherwise than off the A-map, or says "no chunk" without a search; and
-- other mistakes, each named. `Promise` is an equation, so what differs from the rules' answer is not promised: one lemma, in proofs/.
use Rattle.std.specs.Prelude.{ℕ, List, [], ◌∷◌, set, replicate}
use Rattle.rules.specs.Heap.{Memory, with_a, with_b, with_counts, with_cells, with_roots, with_waiting, with_sections, with_d, with_marks, with_list}
use Rattle.rules_calls.specs.Calls.{Call, format, check, collect, free_blocks, allocate, store_root, store_cell, look, return_roots, open_collection, take_steps}
use Rattle.rules_calls.specs.Calls.{Answer, reply, allocate_data, write_number, read_number}
use Rattle.rules_calls.specs.Promise.{Promise}
use Rattle.rules_calls.specs.Evidence.Forms.{fresh, fresh_but, gives, sticking, shows, refuses, damaged}
use Rattle.rules.specs.Evidence.SmallHeaps.{eight_blocks, cell_holding, root_holding}

-- a call with its right answer, that is the reply and the memory after it, and wrong ones
pub record Question : Type 0 where
  pub blocks : ℕ
  pub width : ℕ
  pub before : Memory
  pub call : Call
  pub right : Answer
  pub wrong : List Answer

abbrev pub question : ℕ → Memory → Call → Answer → List Answer → Question
question width before call right wrong = record { blocks = 8; width = width; before = before; call = call; right = right; wrong = wrong }

-- the answer keeps the promise of a public call
abbrev pub PromisedTo : Question → Answer → Type 0
PromisedTo q x = Promise q.blocks q.width q.call q.before x.0 x.1

-- ---- the heaps, of width 2

-- "The waiting list may hold anything on entry."
unfoldable pub used : Memory → Memory
used h = with_waiting (set (replicate 8 0) 0 7) h

-- with another figure in the list of sections, which has one number
unfoldable pub listed : ℕ → Memory → Memory
listed figure h = with_sections (figure ∷ []) h

-- P8's: X of 2 blocks at 0, in root 0; its cell 7 alone names Y of 1 block at 2
unfoldable pub chained : Memory
chained = eight_blocks 7 249 5 0 (cell_holding 7 3) (root_holding 0 1)

-- the same with a figure that is wrong by one: blocks 4 to 7 are the largest free chunk
unfoldable pub stale : Memory
stale = listed 3 chained

-- the same with Y in root 1 too
unfoldable pub shared : Memory
shared = eight_blocks 7 249 1 4 (cell_holding 7 3) (1 ∷ 3 ∷ 0 ∷ 0 ∷ [])

-- the same with Y in root 2 too: Y is stuck
unfoldable pub stuck : Memory
stuck = eight_blocks 7 249 5 4 (cell_holding 7 3) (1 ∷ 3 ∷ 3 ∷ 0 ∷ [])

-- the same with Y let go by X: X alone
unfoldable pub alone : Memory
alone = eight_blocks 3 253 1 0 (replicate 32 0) (root_holding 0 1)

-- X of 2 blocks at 0 and Y at 2 name each other, and no root names them; Z at 3, in root 0, is named by X too
unfoldable pub cyclic : Memory
cyclic = eight_blocks 15 241 5 8 (set (set (cell_holding 0 3) 7 4) 8 1) (root_holding 0 4)

-- Z alone
unfoldable pub collected_cyclic : Memory
collected_cyclic = eight_blocks 8 247 8 0 (replicate 32 0) (root_holding 0 4)

-- request U8: with the byte of the mark map and the first place of the second list, a collection being open
unfoldable pub collecting : (marks first : ℕ) → Memory → Memory
collecting marks first h = with_marks (marks ∷ []) (with_list (first ∷ 0 ∷ 0 ∷ 0 ∷ 0 ∷ 0 ∷ 0 ∷ 0 ∷ 1 ∷ []) h)

-- chained, with 2 blocks more at 4 in root 1
unfoldable pub allocated_two : Memory
allocated_two = eight_blocks 55 217 21 0 (cell_holding 7 3) (1 ∷ 5 ∷ 0 ∷ 0 ∷ [])

-- chained, with 3 blocks more at 4 in root 1
unfoldable pub allocated_three : Memory
allocated_three = eight_blocks 119 185 21 0 (cell_holding 7 3) (1 ∷ 5 ∷ 0 ∷ 0 ∷ [])

-- what is left of chained when 2 blocks are allocated into root 0
unfoldable pub allocated_over : Memory
allocated_over = eight_blocks 48 223 16 0 (replicate 32 0) (root_holding 0 5)

-- an object of 5 blocks at 0 that is stuck, and no root names it
unfoldable pub unreached : Memory
unreached = eight_blocks 31 239 1 1 (replicate 32 0) (replicate 4 0)

-- data of 2 blocks at 0, in root 0, whose cell 7 holds the number 9 (request U6)
unfoldable pub numeric : Memory
numeric = with_d (1 ∷ []) (eight_blocks 3 253 1 0 (cell_holding 7 9) (root_holding 0 1))

-- the same with two numbers
unfoldable pub numeric_cells : (j x : ℕ) → Memory
numeric_cells j x = with_cells (set (cell_holding 7 9) j x) numeric

-- ---- the questions, call by call

unfoldable pub wrong_answers : List Question
wrong_answers =
    question 2 (used chained) format (gives 0, fresh 2)
    -- refuses everything; and writes all the same
    ((refuses 1, used chained) ∷ (refuses 1, fresh 2)
    -- never writes
    ∷ (gives 0, used chained)
    -- the free blocks, or the blocks freed, for the value
    ∷ (gives 8, fresh 2) ∷ (gives 3, fresh 2)
    -- a buffer forgotten, or the B-map made 0
    ∷ (gives 0, with_a (7 ∷ []) (fresh 2)) ∷ (gives 0, with_b (249 ∷ []) (fresh 2)) ∷ (gives 0, with_b (0 ∷ []) (fresh 2))
    ∷ (gives 0, with_cells (cell_holding 7 3) (fresh 2)) ∷ (gives 0, with_roots (root_holding 0 1) (fresh 2)) ∷ (gives 0, used (fresh 2))
    -- the list of sections 0, or left as it was
    ∷ (gives 0, listed 0 (fresh 2)) ∷ (gives 0, listed 4 (fresh 2)) ∷ [])
    -- a count width that is not 1 to 4
    ∷ question 5 (used chained) format (refuses 1, used chained)
    -- replies 0 always; another number; writes in a refusal
    ((gives 0, used chained) ∷ (gives 0, fresh 2) ∷ (refuses 2, used chained) ∷ (refuses 1, fresh 2) ∷ [])
    ∷ question 2 (used chained) check (gives 0, used chained)
    -- refuses everything; finds damage; answers the free blocks; writes
    ((refuses 1, used chained) ∷ (refuses 2, used chained) ∷ (damaged 5, used chained) ∷ (gives 5, used chained) ∷ (gives 0, chained) ∷ [])
    -- kinds 3 and 5: an object at block 1 of 2 blocks, with count 0
    ∷ question 2 (fresh_but 6 251) check (damaged 3, fresh_but 6 251)
    -- replies 0 always; no kind; number and kind exchanged; the later kind; repairs the heap
    ((gives 0, fresh_but 6 251) ∷ (gives 3, fresh_but 6 251) ∷ (refuses 2, fresh_but 6 251) ∷ (reply 3 2 0, fresh_but 6 251)
    ∷ (damaged 5, fresh_but 6 251) ∷ (damaged 3, fresh 2) ∷ [])
    ∷ question 2 (used chained) (allocate 2 1) (gives 4, allocated_two)
    -- refuses everything; no chunk without a search; and writes all the same
    ((refuses 1, used chained) ∷ (refuses 3, used chained) ∷ (refuses 5, used chained) ∷ (refuses 5, allocated_two)
    -- replies 0 always; never writes; the size for the value
    ∷ (gives 0, allocated_two) ∷ (gives 4, used chained) ∷ (gives 2, allocated_two)
    -- two free blocks wherever they start; a chunk that is not the lowest
    ∷ (gives 3, eight_blocks 31 233 13 0 (cell_holding 7 3) (1 ∷ 4 ∷ 0 ∷ 0 ∷ []))
    ∷ (gives 6, eight_blocks 199 121 69 0 (cell_holding 7 3) (1 ∷ 7 ∷ 0 ∷ 0 ∷ []))
    -- size and root exchanged; into root 0
    ∷ (gives 3, eight_blocks 15 241 13 0 (cell_holding 7 3) (1 ∷ 0 ∷ 4 ∷ 0 ∷ [])) ∷ (gives 4, allocated_over)
    -- counted up again; the root not written, or another; the block without 1 added; the waiting list left
    ∷ (gives 4, eight_blocks 55 217 5 16 (cell_holding 7 3) (1 ∷ 5 ∷ 0 ∷ 0 ∷ []))
    ∷ (gives 4, with_roots (root_holding 0 1) allocated_two) ∷ (gives 4, with_roots (1 ∷ 0 ∷ 5 ∷ 0 ∷ []) allocated_two)
    ∷ (gives 4, with_roots (1 ∷ 4 ∷ 0 ∷ 0 ∷ []) allocated_two) ∷ (gives 4, used allocated_two)
    -- a birth at width 2 told as one that sticks
    ∷ (sticking 4, allocated_two)
    -- made as data
    ∷ (gives 4, with_d (16 ∷ []) allocated_two)
    -- the list of sections left as it was, or a figure one too large, or unknown
    ∷ (gives 4, listed 4 allocated_two) ∷ (gives 4, listed 3 allocated_two) ∷ (gives 4, listed 65535 allocated_two) ∷ [])
    -- a birth at width 1
    ∷ question 1 (fresh 1) (allocate 1 0) (sticking 0, with_counts (1 ∷ []) (eight_blocks 1 254 0 0 (replicate 32 0) (root_holding 0 1)))
    -- not told; told in the value
    ((gives 0, with_counts (1 ∷ []) (eight_blocks 1 254 0 0 (replicate 32 0) (root_holding 0 1)))
    ∷ (gives 1, with_counts (1 ∷ []) (eight_blocks 1 254 0 0 (replicate 32 0) (root_holding 0 1))) ∷ [])
    ∷ question 2 (used chained) (allocate 3 1) (gives 4, allocated_three)
    -- the whole chunk flipped, with the object's end at its last block or at the chunk's
    ((gives 4, with_a (247 ∷ []) allocated_three) ∷ (gives 4, eight_blocks 247 121 21 0 (cell_holding 7 3) (1 ∷ 5 ∷ 0 ∷ 0 ∷ []))
    -- the last block's B bit not cleared
    ∷ (gives 4, with_b (249 ∷ []) allocated_three) ∷ [])
    -- a root that is in use
    ∷ question 2 (used chained) (allocate 2 0) (gives 4, allocated_over)
    -- the search after the old object is let go; the old object not let go; the blocks freed for the value
    ((gives 0, eight_blocks 3 253 1 0 (replicate 32 0) (root_holding 0 1))
    ∷ (gives 4, eight_blocks 55 217 21 0 (cell_holding 7 3) (root_holding 0 5)) ∷ (gives 3, allocated_over) ∷ [])
    -- the whole heap
    ∷ question 2 (fresh 2) (allocate 8 0) (gives 0, eight_blocks 255 127 1 0 (replicate 32 0) (root_holding 0 1))
    -- taken for too much; no chunk without a search; half of it
    ((refuses 3, fresh 2) ∷ (refuses 5, fresh 2) ∷ (gives 0, eight_blocks 15 247 1 0 (replicate 32 0) (root_holding 0 1)) ∷ [])
    -- no chunk is free
    ∷ question 2 (used chained) (allocate 8 1) (refuses 5, used chained)
    -- replies 0 always; another number; the number of blocks for "none"; writes in a refusal
    ((gives 0, used chained) ∷ (refuses 3, used chained) ∷ (gives 8, used chained) ∷ (reply 5 8 0, used chained) ∷ (refuses 5, chained)
    -- a refusal that tells of a birth
    ∷ (reply 5 0 1, used chained) ∷ [])
    -- everything is let go
    ∷ question 2 (used chained) (store_root 0 0) (gives 3, fresh 2)
    -- refuses everything; never writes
    ((refuses 1, used chained) ∷ (gives 3, used chained) ∷ (gives 0, used chained)
    -- the figure not read off the A-map: 0 always, objects, the object dropped alone, all free blocks
    ∷ (gives 0, fresh 2) ∷ (gives 2, fresh 2) ∷ (gives 1, fresh 2) ∷ (gives 8, fresh 2)
    -- only reports: the root is cleared and nothing freed
    ∷ (gives 3, with_roots (replicate 4 0) chained)
    -- what the freed object named is not let go
    ∷ (gives 2, eight_blocks 4 251 4 0 (replicate 32 0) (replicate 4 0))
    -- last B bits, counts or cells left; the root not written; the waiting list left
    ∷ (gives 3, with_b (249 ∷ []) (fresh 2)) ∷ (gives 3, eight_blocks 0 255 5 0 (replicate 32 0) (replicate 4 0))
    ∷ (gives 3, with_cells (cell_holding 7 3) (fresh 2)) ∷ (gives 3, with_roots (root_holding 0 1) (fresh 2)) ∷ (gives 3, used (fresh 2)) ∷ [])
    -- nothing is let go but one of two references
    ∷ question 2 (used shared) (store_root 1 0) (gives 0, chained)
    -- frees everything at a drop; frees the object though a cell names it; doesn't count down
    ((gives 3, fresh 2) ∷ (gives 0, fresh 2) ∷ (gives 1, alone) ∷ (gives 1, eight_blocks 3 253 1 0 (cell_holding 7 3) (root_holding 0 1))
    ∷ (gives 0, with_roots (root_holding 0 1) shared) ∷ [])
    -- a reference more
    ∷ question 2 (used chained) (store_root 1 3) (gives 0, shared)
    -- clears the root; stores in root 0, and lets X go
    ((gives 0, chained) ∷ (gives 2, eight_blocks 4 251 4 0 (replicate 32 0) (root_holding 0 3))
    -- doesn't count up; stores in another root; stores the block without 1 added
    ∷ (gives 0, with_roots (1 ∷ 3 ∷ 0 ∷ 0 ∷ []) chained) ∷ (gives 0, with_roots (1 ∷ 0 ∷ 3 ∷ 0 ∷ []) shared)
    ∷ (gives 0, with_roots (1 ∷ 2 ∷ 0 ∷ 0 ∷ []) shared)
    -- tells one early that Y sticks
    ∷ (sticking 0, shared) ∷ [])
    -- the reference that sticks Y
    ∷ question 2 (used shared) (store_root 2 3) (sticking 0, stuck)
    -- not told; told in the value; the count, or the room below it, for the fact; counted past the capacity
    ((gives 0, stuck) ∷ (gives 1, stuck) ∷ (reply 0 0 3, stuck) ∷ (reply 0 0 2, stuck)
    ∷ (sticking 0, eight_blocks 7 249 1 0 (cell_holding 7 3) (1 ∷ 3 ∷ 3 ∷ 0 ∷ [])) ∷ [])
    -- one more: Y is stuck already
    ∷ question 2 (used stuck) (store_root 3 3) (gives 0, with_roots (1 ∷ 3 ∷ 3 ∷ 3 ∷ []) stuck)
    -- told once more
    ((sticking 0, with_roots (1 ∷ 3 ∷ 3 ∷ 3 ∷ []) stuck) ∷ [])
    -- X over Y: Y, one below the capacity, is let go
    ∷ question 2 (used shared) (store_root 1 1) (gives 0, eight_blocks 7 249 4 1 (cell_holding 7 3) (1 ∷ 1 ∷ 0 ∷ 0 ∷ []))
    -- told of the old object
    ((sticking 0, eight_blocks 7 249 4 1 (cell_holding 7 3) (1 ∷ 1 ∷ 0 ∷ 0 ∷ [])) ∷ [])
    -- the value present, one below the capacity
    ∷ question 2 (used shared) (store_root 1 3) (gives 0, shared)
    -- told though nothing is counted up; counted up
    ((sticking 0, shared) ∷ (sticking 0, with_roots (1 ∷ 3 ∷ 0 ∷ 0 ∷ []) stuck) ∷ [])
    -- the value present
    ∷ question 2 (used chained) (store_root 0 1) (gives 0, chained)
    -- counts up and not down; counts down first; leaves the waiting list
    ((gives 0, eight_blocks 7 249 4 1 (cell_holding 7 3) (root_holding 0 1)) ∷ (gives 3, with_roots (root_holding 0 1) (fresh 2)) ∷ (gives 0, used chained) ∷ [])
    -- block 1 is no first block
    ∷ question 2 (used chained) (store_root 1 2) (refuses 8, used chained)
    -- replies 0 always; stores, and counts block 1 up or not; another number; writes in a refusal
    ((gives 0, used chained) ∷ (gives 0, eight_blocks 7 249 7 0 (cell_holding 7 3) (1 ∷ 2 ∷ 0 ∷ 0 ∷ []))
    ∷ (gives 0, with_roots (1 ∷ 2 ∷ 0 ∷ 0 ∷ []) chained) ∷ (refuses 4, used chained) ∷ (refuses 8, chained) ∷ [])
    -- there are 4 roots
    ∷ question 2 (used chained) (store_root 4 3) (refuses 4, used chained)
    -- replies 0 always; counts up; another number; writes in a refusal
    ((gives 0, used chained) ∷ (gives 0, eight_blocks 7 249 1 4 (cell_holding 7 3) (root_holding 0 1)) ∷ (refuses 8, used chained)
    ∷ (refuses 4, chained) ∷ [])
    ∷ question 2 (used shared) (store_root 4 3) (refuses 4, used shared)
    -- a refusal that tells of what the store would stick
    ((reply 4 0 1, used shared) ∷ [])
    -- X lets go of Y
    ∷ question 2 (used chained) (store_cell 0 7 0) (gives 1, alone)
    -- refuses everything, or takes the cell for the block; never writes
    ((refuses 1, used chained) ∷ (refuses 6, used chained) ∷ (gives 1, used chained) ∷ (gives 0, used chained)
    -- the figure not read off the A-map: 0 always, the cell number, all free blocks
    ∷ (gives 0, alone) ∷ (gives 7, alone) ∷ (gives 6, alone)
    -- the old object not let go; everything freed; the owner freed with it
    ∷ (gives 0, with_cells (replicate 32 0) chained) ∷ (gives 3, fresh 2) ∷ (gives 3, with_roots (root_holding 0 1) (fresh 2))
    -- the last B bit left; the cell not written; the waiting list left
    ∷ (gives 1, with_b (249 ∷ []) alone) ∷ (gives 1, with_cells (cell_holding 7 3) alone) ∷ (gives 1, used alone) ∷ [])
    -- X names Y twice
    ∷ question 2 (used chained) (store_cell 0 0 3) (gives 0, eight_blocks 7 249 1 4 (set (cell_holding 7 3) 0 3) (root_holding 0 1))
    -- clears the cell; doesn't count up; doesn't write; stores in the next cell
    ((gives 0, chained) ∷ (gives 0, eight_blocks 7 249 5 0 (set (cell_holding 7 3) 0 3) (root_holding 0 1))
    ∷ (gives 0, eight_blocks 7 249 1 4 (cell_holding 7 3) (root_holding 0 1)) ∷ (gives 0, eight_blocks 7 249 1 4 (set (cell_holding 7 3) 1 3) (root_holding 0 1)) ∷ [])
    -- the reference that sticks Y, in a cell
    ∷ question 2 (used shared) (store_cell 0 0 3) (sticking 0, eight_blocks 7 249 5 4 (set (cell_holding 7 3) 0 3) (1 ∷ 3 ∷ 0 ∷ 0 ∷ []))
    -- not told; told in the value
    ((gives 0, eight_blocks 7 249 5 4 (set (cell_holding 7 3) 0 3) (1 ∷ 3 ∷ 0 ∷ 0 ∷ []))
    ∷ (gives 1, eight_blocks 7 249 5 4 (set (cell_holding 7 3) 0 3) (1 ∷ 3 ∷ 0 ∷ 0 ∷ [])) ∷ [])
    -- the value present, one below the capacity
    ∷ question 2 (used shared) (store_cell 0 7 3) (gives 0, shared)
    -- told though nothing is counted up
    ((sticking 0, shared) ∷ [])
    -- a cell past the object
    ∷ question 2 (used chained) (store_cell 0 8 1) (refuses 7, used chained)
    -- replies 0 always; stores in the next object; another number; writes in a refusal
    ((gives 0, used chained) ∷ (gives 0, eight_blocks 7 249 4 1 (set (cell_holding 7 3) 8 1) (root_holding 0 1)) ∷ (refuses 8, used chained)
    ∷ (refuses 6, used chained) ∷ (refuses 7, chained) ∷ [])
    -- a return lets go of X alone
    ∷ question 2 (used shared) (return_roots 1) (gives 2, eight_blocks 4 251 4 0 (replicate 32 0) (root_holding 1 3))
    -- refuses everything; never writes; the figure not read off the A-map: 0 always, objects
    ((refuses 1, used shared) ∷ (gives 2, used shared) ∷ (gives 0, eight_blocks 4 251 4 0 (replicate 32 0) (root_holding 1 3))
    ∷ (gives 1, eight_blocks 4 251 4 0 (replicate 32 0) (root_holding 1 3))
    -- root 1 for bit 0; the roots that are not in the set; all roots; the waiting list left
    ∷ (gives 0, chained) ∷ (gives 3, fresh 2) ∷ (gives 2, used (eight_blocks 4 251 4 0 (replicate 32 0) (root_holding 1 3))) ∷ [])
    -- .. of X and Y
    ∷ question 2 (used shared) (return_roots 3) (gives 3, fresh 2)
    -- the value of the first clearing, or of the last; the last root forgotten
    ((gives 2, fresh 2) ∷ (gives 1, fresh 2) ∷ (gives 2, eight_blocks 4 251 4 0 (replicate 32 0) (root_holding 1 3)) ∷ [])
    -- of a stuck object
    ∷ question 2 (used stuck) (return_roots 6) (gives 0, with_roots (root_holding 0 1) stuck)
    -- tells that it is stuck
    ((sticking 0, with_roots (root_holding 0 1) stuck) ∷ [])
    -- there is no root 4
    ∷ question 2 (used shared) (return_roots 17) (refuses 4, used shared)
    -- replies 0 always; clears those there are; writes in a refusal
    ((gives 0, used shared) ∷ (gives 2, eight_blocks 4 251 4 0 (replicate 32 0) (root_holding 1 3)) ∷ (refuses 4, shared) ∷ [])
    ∷ question 2 (used cyclic) collect (gives 3, collected_cyclic)
    -- refuses everything, or for the maps exchanged; never writes; never collects
    ((refuses 1, used cyclic) ∷ (damaged 2, used cyclic) ∷ (gives 3, used cyclic) ∷ (gives 0, used cyclic) ∷ (gives 0, cyclic)
    -- the figure not read off the A-map: 0 always, objects, all free blocks, N
    ∷ (gives 0, collected_cyclic) ∷ (gives 2, collected_cyclic) ∷ (gives 7, collected_cyclic) ∷ (gives 8, collected_cyclic)
    -- the reference from an unreached object counted; counts left at 0; frees everything
    ∷ (gives 3, eight_blocks 8 247 0 8 (replicate 32 0) (root_holding 0 4)) ∷ (gives 3, eight_blocks 8 247 0 0 (replicate 32 0) (root_holding 0 4)) ∷ (gives 4, fresh 2)
    -- last B bits left; cells left; the waiting list left
    ∷ (gives 3, with_b (241 ∷ []) collected_cyclic) ∷ (gives 3, with_cells (set (set (cell_holding 0 3) 7 4) 8 1) collected_cyclic)
    ∷ (gives 3, used collected_cyclic) ∷ [])
    -- all is reached
    ∷ question 2 (used chained) collect (gives 0, chained)
    -- formats; reached by roots alone; a count lost, or one too many; the waiting list left
    ((gives 0, fresh 2) ∷ (gives 1, alone)
    ∷ (gives 0, eight_blocks 7 249 1 0 (cell_holding 7 3) (root_holding 0 1)) ∷ (gives 0, eight_blocks 7 249 1 4 (cell_holding 7 3) (root_holding 0 1))
    ∷ (gives 0, used chained) ∷ [])
    -- a stuck object stays so while three references name it
    ∷ question 2 (used stuck) collect (gives 0, stuck)
    -- tells that it is stuck
    ((sticking 0, stuck) ∷ [])
    -- a damaged heap
    ∷ question 2 (fresh_but 6 251) collect (damaged 3, fresh_but 6 251)
    -- replies 0 always; not tested; no kind; collects in a refusal
    ((gives 0, fresh_but 6 251) ∷ (gives 2, fresh 2) ∷ (refuses 2, fresh_but 6 251) ∷ (damaged 3, fresh 2) ∷ [])
    ∷ question 2 (used chained) (look 0) (shows 2 1, used chained)
    -- refuses everything; replies 0 always; count and size; no count; a block too many; the maps exchanged; block 2; writes
    ((refuses 1, used chained) ∷ (refuses 6, used chained) ∷ (shows 0 0, used chained) ∷ (shows 1 2, used chained) ∷ (gives 2, used chained)
    ∷ (shows 3 1, used chained) ∷ (shows 4 1, used chained) ∷ (shows 1 1, used chained) ∷ (shows 2 1, chained) ∷ [])
    -- Y, with count 2
    ∷ question 2 (used shared) (look 2) (shows 1 2, used shared)
    -- the count of block 0, or 1 always; X for Y
    ((shows 1 1, used shared) ∷ (shows 2 1, used shared) ∷ [])
    -- block 1 is no first block
    ∷ question 2 (used chained) (look 1) (refuses 6, used chained)
    -- replies 0 always; the rest of the object; the object's figures in a refusal
    ((gives 0, used chained) ∷ (shows 1 0, used chained) ∷ (shows 2 1, used chained) ∷ (reply 6 2 1, used chained) ∷ [])
    -- a damaged heap
    ∷ question 2 (fresh_but 6 251) (look 1) (damaged 3, fresh_but 6 251)
    -- replies 0 always; not tested; no kind
    ((gives 0, fresh_but 6 251) ∷ (shows 2 0, fresh_but 6 251) ∷ (refuses 2, fresh_but 6 251) ∷ [])
    ∷ question 2 (used chained) free_blocks (gives 5, used chained)
    -- refuses everything, or for the maps exchanged; replies 0 always; the blocks in use; the 0 bits of the B-map; N; writes
    ((refuses 1, used chained) ∷ (damaged 2, used chained) ∷ (gives 0, used chained) ∷ (gives 3, used chained) ∷ (gives 2, used chained)
    ∷ (gives 8, used chained) ∷ (gives 5, chained) ∷ [])
    -- a damaged heap
    ∷ question 2 (fresh_but 6 251) free_blocks (damaged 3, fresh_but 6 251)
    -- replies 0 always; not tested; no kind
    ((gives 0, fresh_but 6 251) ∷ (gives 6, fresh_but 6 251) ∷ (refuses 2, fresh_but 6 251) ∷ [])
    -- request U4: a collection that leaves the list as it was
    ∷ question 2 unreached collect (gives 5, fresh 2) ((gives 5, listed 2 (fresh 2)) ∷ (gives 5, unreached) ∷ (gives 0, unreached) ∷ [])
    -- "11, the list doesn't match the maps, next after 2": passed over; another number; the list repaired
    ∷ question 2 stale check (refuses 11, stale)
    ((gives 0, stale) ∷ (gives 0, chained) ∷ (refuses 11, chained) ∷ (refuses 1, stale) ∷ (refuses 2, stale) ∷ (damaged 4, stale)
    ∷ (reply 11 3 0, stale) ∷ [])
    -- before all refusals of a call's own, and in every call but format
    ∷ question 2 stale free_blocks (refuses 11, stale) ((gives 5, stale) ∷ [])
    ∷ question 2 stale (look 1) (refuses 11, stale) ((refuses 6, stale) ∷ [])
    ∷ question 2 stale collect (refuses 11, stale) ((gives 0, chained) ∷ [])
    ∷ question 2 stale (allocate 2 1) (refuses 11, stale) ((gives 4, allocated_two) ∷ [])
    ∷ question 2 stale (allocate 0 9) (refuses 11, stale) ((refuses 3, stale) ∷ (refuses 4, stale) ∷ [])
    ∷ question 2 stale (store_root 9 9) (refuses 11, stale) ((refuses 4, stale) ∷ (refuses 8, stale) ∷ [])
    ∷ question 2 stale (store_cell 1 9 9) (refuses 11, stale) ((refuses 6, stale) ∷ (refuses 7, stale) ∷ (refuses 8, stale) ∷ [])
    ∷ question 2 stale (return_roots 16) (refuses 11, stale) ((refuses 4, stale) ∷ [])
    ∷ question 2 stale format (gives 0, fresh 2) ((refuses 11, stale) ∷ (gives 0, listed 3 (fresh 2)) ∷ [])
    -- a damaged heap with a wrong list, and a list of another length
    ∷ question 2 (listed 7 (fresh_but 6 251)) check (damaged 3, listed 7 (fresh_but 6 251)) ((refuses 11, listed 7 (fresh_but 6 251)) ∷ [])
    ∷ question 2 (with_sections (4 ∷ 4 ∷ []) chained) check (refuses 1, with_sections (4 ∷ 4 ∷ []) chained)
    ((gives 0, with_sections (4 ∷ 4 ∷ []) chained) ∷ (refuses 11, with_sections (4 ∷ 4 ∷ []) chained) ∷ [])
    -- request U6: data of 2 blocks
    ∷ question 2 (used chained) (allocate_data 2 1) (gives 4, with_d (16 ∷ []) allocated_two)
    -- the D bit forgotten, on both blocks, on the last; an ordinary object's number; no chunk without a
    -- search; the waiting list left
    ((gives 4, allocated_two) ∷ (gives 4, with_d (48 ∷ []) allocated_two) ∷ (gives 4, with_d (32 ∷ []) allocated_two) ∷ (refuses 12, used chained)
    ∷ (refuses 5, used chained) ∷ (gives 4, used (with_d (16 ∷ []) allocated_two)) ∷ (sticking 4, with_d (16 ∷ []) allocated_two) ∷ [])
    -- a number written: one cell, and nothing else
    ∷ question 2 (used numeric) (write_number 0 0 5) (gives 0, used (numeric_cells 0 5))
    -- never writes; the waiting list cleared; the number for the value; the next cell; the block; taken for a
    -- reference; refused
    ((gives 0, used numeric) ∷ (gives 0, numeric_cells 0 5) ∷ (gives 5, used (numeric_cells 0 5)) ∷ (gives 0, used (numeric_cells 1 5))
    ∷ (gives 0, used (numeric_cells 5 0)) ∷ (refuses 8, used numeric) ∷ (refuses 12, used numeric)
    ∷ (gives 0, used (with_d (0 ∷ []) (numeric_cells 0 5))) ∷ [])
    -- a number that would name the data itself
    ∷ question 2 (used numeric) (write_number 0 0 1) (gives 0, used (numeric_cells 0 1))
    -- counted up; told as one that sticks
    ((gives 0, used (with_counts (0 ∷ 1 ∷ []) (numeric_cells 0 1))) ∷ (sticking 0, used (numeric_cells 0 1)) ∷ [])
    -- a number read
    ∷ question 2 (used numeric) (read_number 0 7) (gives 9, used numeric)
    -- 0 always; the block that it would name; another cell's; as a second value; cleared; the waiting list
    -- cleared; refused
    ((gives 0, used numeric) ∷ (gives 8, used numeric) ∷ (gives 1, used numeric) ∷ (reply 0 0 9, used numeric)
    ∷ (gives 9, used (with_cells (replicate 32 0) numeric)) ∷ (gives 9, numeric) ∷ (refuses 8, used numeric) ∷ (refuses 12, used numeric) ∷ [])
    -- a reference store on data
    ∷ question 2 (used numeric) (store_cell 0 0 1) (refuses 12, used numeric)
    -- stores it, and counts; writes it as a number; other numbers; writes in a refusal
    ((gives 0, with_counts (0 ∷ 1 ∷ []) (numeric_cells 0 1)) ∷ (gives 0, used (numeric_cells 0 1)) ∷ (refuses 8, used numeric)
    ∷ (refuses 7, used numeric) ∷ (refuses 12, numeric) ∷ (reply 12 0 1, used numeric) ∷ [])
    -- numbers on an ordinary object
    ∷ question 2 (used chained) (write_number 0 7 3) (refuses 12, used chained)
    -- replies 0 always; writes; makes it data; another number
    ((gives 0, used chained) ∷ (gives 0, used (with_cells (cell_holding 7 5) chained)) ∷ (gives 0, used (with_d (1 ∷ []) chained)) ∷ (refuses 7, used chained) ∷ [])
    ∷ question 2 (used chained) (read_number 0 7) (refuses 12, used chained)
    -- reads the reference; in a refusal
    ((gives 3, used chained) ∷ (reply 12 3 0, used chained) ∷ [])
    -- data is let go
    ∷ question 2 (used numeric) (store_root 0 0) (gives 2, fresh 2)
    -- the D bit left; the numbers left; not freed
    ((gives 2, with_d (1 ∷ []) (fresh 2)) ∷ (gives 2, with_cells (cell_holding 7 9) (fresh 2)) ∷ (gives 0, with_roots (replicate 4 0) numeric) ∷ [])
    -- and reached by a collection
    ∷ question 2 (used numeric) collect (gives 0, numeric)
    -- freed; its numbers, or its D bit, cleared; refused for its number
    ((gives 2, fresh 2) ∷ (gives 0, with_cells (replicate 32 0) numeric) ∷ (gives 0, with_d (0 ∷ []) numeric) ∷ (damaged 4, used numeric) ∷ [])
    -- a D bit where no object starts: passed over; other kinds; repaired
    ∷ question 2 (with_d (128 ∷ []) chained) check (damaged 7, with_d (128 ∷ []) chained)
    ((gives 0, with_d (128 ∷ []) chained) ∷ (damaged 6, with_d (128 ∷ []) chained) ∷ (damaged 4, with_d (128 ∷ []) chained) ∷ (refuses 11, with_d (128 ∷ []) chained)
    ∷ (damaged 7, chained) ∷ [])
    -- before the list of sections; a D-map of another length; and a format clears it
    ∷ question 2 (with_d (128 ∷ []) stale) check (damaged 7, with_d (128 ∷ []) stale) ((refuses 11, with_d (128 ∷ []) stale) ∷ [])
    ∷ question 2 (with_d (0 ∷ 0 ∷ []) chained) check (refuses 1, with_d (0 ∷ 0 ∷ []) chained) ((gives 0, with_d (0 ∷ 0 ∷ []) chained) ∷ [])
    ∷ question 2 (used numeric) format (gives 0, fresh 2) ((gives 0, with_d (1 ∷ []) (fresh 2)) ∷ [])
    -- the heap's numbers before a call's own
    ∷ question 2 stale (allocate_data 0 9) (refuses 11, stale) ((refuses 3, stale) ∷ (refuses 4, stale) ∷ [])
    ∷ question 2 stale (write_number 1 9 9) (refuses 11, stale) ((refuses 6, stale) ∷ (refuses 7, stale) ∷ (refuses 12, stale) ∷ [])
    ∷ question 2 stale (read_number 1 9) (refuses 11, stale) ((refuses 6, stale) ∷ (refuses 7, stale) ∷ (refuses 12, stale) ∷ [])
    -- request U8: X is marked and listed, and the waiting list kept
    ∷ question 2 (used chained) open_collection (gives 0, used (collecting 1 1 chained))
    -- refuses everything; never writes; doesn't mark; doesn't list; marks Y too; not open; clears the waiting
    -- list; tells how many
    ((refuses 14, used chained) ∷ (gives 0, used chained) ∷ (gives 0, used (collecting 0 1 chained)) ∷ (gives 0, used (collecting 1 0 chained))
    ∷ (gives 0, used (collecting 5 1 chained)) ∷ (gives 0, used (with_marks (1 ∷ []) chained)) ∷ (gives 0, collecting 1 1 chained)
    ∷ (gives 1, used (collecting 1 1 chained)) ∷ [])
    -- one step: X is taken off, and Y marked and listed
    ∷ question 2 (used (collecting 1 1 chained)) (take_steps 1) (reply 0 1 0, collecting 5 3 chained)
    -- refuses everything; never writes; doesn't mark Y; doesn't list it; leaves X; goes on; no steps told;
    -- waiting list left
    ((refuses 14, used (collecting 1 1 chained)) ∷ (reply 0 1 0, used (collecting 1 1 chained)) ∷ (reply 0 1 0, collecting 1 0 chained)
    ∷ (reply 0 1 0, collecting 5 0 chained) ∷ (reply 0 1 0, collecting 5 1 chained) ∷ (reply 0 2 0, chained) ∷ (reply 0 0 0, collecting 5 3 chained)
    ∷ (reply 0 1 0, used (collecting 5 3 chained)) ∷ [])
    -- more steps than there are objects: the close
    ∷ question 2 (used (collecting 1 1 chained)) (take_steps 9) (reply 0 2 0, chained)
    -- the budget for the steps; not closed; marks left; everything freed; Y freed
    ((reply 0 9 0, chained) ∷ (reply 0 2 0, collecting 5 0 chained) ∷ (reply 0 2 0, with_marks (5 ∷ []) chained) ∷ (reply 0 2 3, fresh 2)
    ∷ (reply 0 2 1, alone) ∷ [])
    -- no step
    ∷ question 2 (used (collecting 5 0 shared)) (take_steps 0) (reply 0 0 0, collecting 5 0 shared) ((reply 0 0 0, shared) ∷ [])
    -- the close frees X and Y, and counts Z down, which X named
    ∷ question 2 (used (collecting 8 4 cyclic)) (take_steps 1) (reply 0 1 3, collected_cyclic)
    -- frees nothing; figures exchanged, left out, not read off the A-map; Z not counted down; not closed
    ((reply 0 1 0, cyclic) ∷ (reply 0 3 1, collected_cyclic) ∷ (reply 0 1 0, collected_cyclic) ∷ (reply 0 1 2, collected_cyclic)
    ∷ (reply 0 1 3, eight_blocks 8 247 0 8 (replicate 32 0) (root_holding 0 4)) ∷ (reply 0 1 3, collecting 8 0 collected_cyclic) ∷ [])
    -- X lets go of Y, which is freed: it leaves map and list
    ∷ question 2 (used (collecting 5 3 chained)) (store_cell 0 7 0) (gives 1, collecting 1 0 (eight_blocks 3 253 1 0 (replicate 32 0) (root_holding 0 1)))
    -- its mark left; its place left; both; none open any more
    ((gives 1, collecting 5 0 alone) ∷ (gives 1, collecting 1 3 alone) ∷ (gives 1, collecting 5 3 alone) ∷ (gives 1, alone) ∷ [])
    -- data allocated while one is open: marked, and not listed
    ∷ question 2 (used (collecting 5 0 chained)) (allocate_data 2 1) (gives 4, collecting 21 0 (with_d (16 ∷ []) allocated_two))
    -- not marked; on both blocks; listed; no data; none open any more
    ((gives 4, collecting 5 0 (with_d (16 ∷ []) allocated_two)) ∷ (gives 4, collecting 53 0 (with_d (16 ∷ []) allocated_two))
    ∷ (gives 4, collecting 21 5 (with_d (16 ∷ []) allocated_two)) ∷ (gives 4, collecting 21 0 allocated_two) ∷ (gives 4, with_d (16 ∷ []) allocated_two)
    ∷ (refuses 14, used (collecting 5 0 chained)) ∷ [])
    -- a number written while one is open
    ∷ question 2 (used (collecting 1 1 numeric)) (write_number 0 0 1) (gives 0, used (collecting 1 1 (numeric_cells 0 1)))
    -- refused; the waiting list cleared; taken off the list; none open any more
    ((refuses 14, used (collecting 1 1 numeric)) ∷ (gives 0, collecting 1 1 (numeric_cells 0 1)) ∷ (gives 0, used (collecting 1 0 (numeric_cells 0 1)))
    ∷ (gives 0, used (numeric_cells 0 1)) ∷ [])
    -- a step on data, whose number 9 names nothing: the close
    ∷ question 2 (used (collecting 1 1 numeric)) (take_steps 2) (reply 0 1 0, numeric)
    -- data costs no step; the budget for the steps; freed; its numbers, or its D bit, cleared; the number
    -- taken for a block
    ((reply 0 0 0, numeric) ∷ (reply 0 2 0, numeric) ∷ (reply 0 1 2, fresh 2) ∷ (reply 0 1 0, with_cells (replicate 32 0) numeric)
    ∷ (reply 0 1 0, with_d (0 ∷ []) numeric) ∷ (refuses 13, used (collecting 1 1 numeric)) ∷ [])
    -- "14": with one open, with none open
    ∷ question 2 (used (collecting 8 4 cyclic)) collect (refuses 14, used (collecting 8 4 cyclic))
    ((gives 3, collected_cyclic) ∷ (gives 3, collecting 8 4 collected_cyclic) ∷ (refuses 13, used (collecting 8 4 cyclic)) ∷ (gives 0, used (collecting 8 4 cyclic)) ∷ [])
    ∷ question 2 (used (collecting 8 0 cyclic)) open_collection (refuses 14, used (collecting 8 0 cyclic)) ((gives 0, used (collecting 8 4 cyclic)) ∷ [])
    ∷ question 2 (used chained) (take_steps 1) (refuses 14, used chained) ((reply 0 0 0, chained) ∷ (reply 0 1 0, chained) ∷ [])
    -- "13": X, marked and not listed, names Y, which is not marked; in every call but format
    ∷ question 2 (collecting 1 0 chained) check (refuses 13, collecting 1 0 chained)
    ((gives 0, collecting 1 0 chained) ∷ (refuses 11, collecting 1 0 chained) ∷ (refuses 14, collecting 1 0 chained) ∷ (refuses 13, chained) ∷ [])
    ∷ question 2 (collecting 1 0 chained) (look 1) (refuses 13, collecting 1 0 chained) ((refuses 6, collecting 1 0 chained) ∷ [])
    ∷ question 2 (collecting 1 0 chained) collect (refuses 13, collecting 1 0 chained) ((refuses 14, collecting 1 0 chained) ∷ [])
    ∷ question 2 (collecting 1 0 chained) (take_steps 1) (refuses 13, collecting 1 0 chained) ((reply 0 0 1, alone) ∷ [])
    ∷ question 2 (collecting 1 0 chained) format (gives 0, fresh 2) ((refuses 13, collecting 1 0 chained) ∷ (gives 0, collecting 0 0 (fresh 2)) ∷ [])
    ∷ []
