-- Requests U11 and U13: cases on small heaps, each of which tells a rule from a wrong one. That each case
-- gives what it says is one lemma, in proofs/.
use Rattle.std.specs.Prelude.{ℕ, List, [], ◌∷◌, ◌++◌, length, replicate}
use Rattle.rules.specs.Heap.{Memory, with_sections, with_marks}
use Rattle.rules_stores.specs.Store.{formatted}
use Rattle.rules_output.specs.Reason.{Reason, kept_by, no_chain}
use Rattle.rules_output.specs.Sentence.{sentence}
use Rattle.rules_calls.specs.Calls.{Call, allocate, store_root, store_cell, allocate_data, write_number, open_collection, take_steps}
use Rattle.rules_calls.specs.Calls.{answer, run, last_memory}
use Rattle.rules_calls.specs.Promise.{output_after}
use Rattle.rules_calls.specs.Evidence.Forms.{fresh, fresh_but, gives, refuses, damaged}
use Rattle.types.specs.declared.Reply.{Reply}
use Rattle.rules_calls.specs.Evidence.Outputs.{Asked, reason_for, the_shape, call_of, text_of, room}

-- calls that make a heap of width 2, then the call asked and the output that it is lent; the reply, and what
-- the output holds then
pub record OutputCase : Type 0 where
  pub blocks : ℕ
  pub before : Memory
  pub made : List Call
  pub asked : Asked
  pub out : List ℕ
  pub reply : Reply
  pub left : List ℕ

abbrev pub output_case : ℕ → Memory → List Call → Asked → (out : List ℕ) → Reply → (left : List ℕ) → OutputCase
output_case blocks before made asked out reply left =
    record { blocks = blocks; before = before; made = made; asked = asked; out = out; reply = reply; left = left }

unfoldable pub made_of : OutputCase → Memory
made_of c = last_memory c.before (run c.blocks 2 c.before c.made)

unfoldable pub asking : ℕ → Memory → Asked → (out : List ℕ) → Reply × List ℕ
asking N h asked out = let x = (answer N 2 h (call_of asked (length out))).0 in (x, output_after x (text_of N h asked) out)

unfoldable pub given_output : OutputCase → Reply × List ℕ
given_output c = asking c.blocks (made_of c) c.asked c.out

abbrev pub expected_output : OutputCase → Reply × List ℕ
expected_output c = (c.reply, c.left)

-- the sentence for a block, in an output that has room for three bytes more
unfoldable pub saying : ℕ → Memory → List Call → (at : ℕ) → Reason → OutputCase
saying blocks before made at reason =
    let text = sentence reason at in
    output_case blocks before made (reason_for at) (room (length text) ++ room 3) (gives (length text)) (text ++ room 3)

-- the list, in an output that has room for two numbers more
unfoldable pub shaping : ℕ → Memory → List Call → List ℕ → OutputCase
shaping blocks before made list =
    output_case blocks before made the_shape (room (length list) ++ room 2) (gives (length list)) (list ++ room 2)

-- X at 0 in root 0
abbrev one : List Call
one = allocate 1 0 ∷ []

-- X at 0 in root 0 and Y at 1 in root 1
abbrev two : List Call
two = allocate 1 0 ∷ allocate 1 1 ∷ []

-- .. and Z at 2 in root 2
abbrev three : List Call
three = allocate 1 0 ∷ allocate 1 1 ∷ allocate 1 2 ∷ []

unfoldable pub reason_cases : List OutputCase
reason_cases =
    -- "as `root 1 cell 2 block 4`", byte by byte: X of 4 blocks at 0 in root 1, whose cell 2 alone names the
    -- object at 4; "a line end closes"
    output_case 8 (fresh 2) (allocate 4 1 ∷ allocate 1 0 ∷ store_cell 0 2 5 ∷ store_root 0 0 ∷ []) (reason_for 4) (room 22) (gives 22)
    (114 ∷ 111 ∷ 111 ∷ 116 ∷ 32 ∷ 49 ∷ 32 ∷ 99 ∷ 101 ∷ 108 ∷ 108 ∷ 32 ∷ 50 ∷ 32 ∷ 98 ∷ 108 ∷ 111 ∷ 99 ∷ 107 ∷ 32 ∷ 52 ∷ 10 ∷ [])
    -- "`no root reaches block 4`": an object that only names itself
    ∷ output_case 8 (fresh 2) (allocate 4 1 ∷ allocate 1 0 ∷ store_cell 4 0 5 ∷ store_root 0 0 ∷ []) (reason_for 4) (room 24) (gives 24)
    (110 ∷ 111 ∷ 32 ∷ 114 ∷ 111 ∷ 111 ∷ 116 ∷ 32 ∷ 114 ∷ 101 ∷ 97 ∷ 99 ∷ 104 ∷ 101 ∷ 115 ∷ 32 ∷ 98 ∷ 108 ∷ 111 ∷ 99 ∷ 107 ∷ 32 ∷ 52 ∷ 10 ∷ [])
    -- "The value is the length in bytes; later bytes of the output keep their values."
    ∷ output_case 8 (fresh 2) one (reason_for 0) (room 20) (gives 15)
    (114 ∷ 111 ∷ 111 ∷ 116 ∷ 32 ∷ 48 ∷ 32 ∷ 98 ∷ 108 ∷ 111 ∷ 99 ∷ 107 ∷ 32 ∷ 48 ∷ 10 ∷ [] ++ room 5)
    -- "15, the lent output is shorter than the sentence": by one; nothing is written
    ∷ output_case 8 (fresh 2) one (reason_for 0) (room 14) (refuses 15) (room 14)
    ∷ output_case 8 (fresh 2) one (reason_for 0) [] (refuses 15) []
    ∷ output_case 8 (fresh 2) (store_root 0 0 ∷ allocate 1 0 ∷ store_cell 0 0 1 ∷ store_root 0 0 ∷ []) (reason_for 0) (room 23) (refuses 15) (room 23)
    -- ".. after 6": a free block, one past the end, the second block of an object
    ∷ output_case 8 (fresh 2) one (reason_for 1) [] (refuses 6) []
    ∷ output_case 8 (fresh 2) one (reason_for 8) [] (refuses 6) []
    ∷ output_case 8 (fresh 2) (allocate 2 0 ∷ []) (reason_for 1) (room 30) (refuses 6) (room 30)
    -- the check's refusals before these
    ∷ output_case 8 (fresh_but 1 255) [] (reason_for 9) [] (damaged 2) []
    ∷ output_case 8 (with_sections (7 ∷ []) (fresh 2)) [] (reason_for 9) [] (refuses 11) []
    ∷ output_case 8 (with_marks (1 ∷ []) (fresh 2)) [] (reason_for 9) [] (refuses 13) []
    ∷ output_case 4 (fresh 2) [] (reason_for 9) [] (refuses 1) []
    -- "The chain has the fewest links": root 3 itself, and not root 0 by a cell
    ∷ saying 8 (fresh 2) (allocate 1 0 ∷ allocate 1 3 ∷ store_cell 0 0 2 ∷ []) 1 (kept_by 3 [])
    -- .. and not of those that come back to the object
    ∷ saying 8 (fresh 2) (allocate 1 0 ∷ store_cell 0 0 1 ∷ []) 0 (kept_by 0 [])
    -- "among those the lowest root": whatever blocks and cells come then
    ∷ saying 8 (fresh 2)
    (allocate 1 1 ∷ allocate 1 0 ∷ allocate 1 2 ∷ store_cell 1 3 3 ∷ store_cell 0 0 3 ∷ store_root 2 0 ∷ []) 2 (kept_by 0 (3 ∷ []))
    -- "then the lowest cell at the first difference": not at the last. "root 0 cell 2 cell 3 block 4", the
    -- root's cell first
    ∷ output_case 8 (fresh 2)
    (allocate 2 0 ∷ allocate 1 1 ∷ allocate 1 2 ∷ allocate 1 3 ∷ store_cell 0 5 3 ∷ store_cell 0 2 4 ∷ store_cell 2 0 5 ∷ store_cell 3 3 5
    ∷ store_root 1 0 ∷ store_root 2 0 ∷ store_root 3 0 ∷ []) (reason_for 4) (room 29) (gives 29)
    (114 ∷ 111 ∷ 111 ∷ 116 ∷ 32 ∷ 48 ∷ 32 ∷ 99 ∷ 101 ∷ 108 ∷ 108 ∷ 32 ∷ 50 ∷ 32 ∷ 99 ∷ 101 ∷ 108 ∷ 108 ∷ 32 ∷ 51 ∷ 32 ∷ 98 ∷ 108 ∷ 111 ∷ 99 ∷ 107 ∷ 32 ∷ 52 ∷ 10 ∷ [])
    -- .. of two cells of one owner
    ∷ saying 8 (fresh 2) (two ++ (store_cell 0 2 2 ∷ store_cell 0 1 2 ∷ store_root 1 0 ∷ [])) 1 (kept_by 0 (1 ∷ []))
    -- as many links as there can be
    ∷ saying 8 (formatted 8 2 2)
    (allocate 1 0 ∷ allocate 1 1 ∷ store_cell 1 3 1 ∷ allocate 1 0 ∷ store_cell 2 3 2 ∷ allocate 1 1 ∷ store_cell 3 3 3 ∷ allocate 1 0 ∷ store_cell 4 3 4
    ∷ allocate 1 1 ∷ store_cell 5 3 5 ∷ allocate 1 0 ∷ store_cell 6 3 6 ∷ allocate 1 1 ∷ store_cell 7 3 7 ∷ store_root 0 0 ∷ []) 0
    (kept_by 1 (3 ∷ 3 ∷ 3 ∷ 3 ∷ 3 ∷ 3 ∷ 3 ∷ []))
    -- "numbers carry no leading zeros": "root 12 cell 30 block 10", and 10 has its own
    ∷ output_case 16 (formatted 16 2 13) (allocate 8 12 ∷ allocate 2 0 ∷ allocate 1 1 ∷ store_cell 0 30 11 ∷ store_root 1 0 ∷ []) (reason_for 10) (room 25)
    (gives 25) (114 ∷ 111 ∷ 111 ∷ 116 ∷ 32 ∷ 49 ∷ 50 ∷ 32 ∷ 99 ∷ 101 ∷ 108 ∷ 108 ∷ 32 ∷ 51 ∷ 48 ∷ 32 ∷ 98 ∷ 108 ∷ 111 ∷ 99 ∷ 107 ∷ 32 ∷ 49 ∷ 48 ∷ 10 ∷ [])
    -- data is "never followed": its number 2 would name Y, which else only names itself
    ∷ saying 8 (fresh 2) (allocate_data 1 0 ∷ allocate 1 1 ∷ write_number 0 0 2 ∷ store_cell 1 0 2 ∷ store_root 1 0 ∷ []) 1 no_chain
    -- .. and is itself kept as any object
    ∷ saying 8 (fresh 2) (allocate 1 0 ∷ allocate_data 1 1 ∷ store_cell 0 3 2 ∷ store_root 1 0 ∷ []) 1 (kept_by 0 (3 ∷ []))
    -- with a collection open: what is marked does not matter
    ∷ saying 8 (fresh 2) (two ++ (store_cell 0 1 2 ∷ store_root 1 0 ∷ open_collection ∷ [])) 1 (kept_by 0 (1 ∷ []))
    ∷ saying 8 (fresh 2) (two ++ (open_collection ∷ store_cell 1 0 2 ∷ store_root 1 0 ∷ [])) 1 no_chain
    ∷ []

unfoldable pub shape_cases : List OutputCase
shape_cases =
    -- "First comes the number of roots, then each root's object number or 0": no object
    shaping 8 (fresh 2) [] (4 ∷ 0 ∷ 0 ∷ 0 ∷ 0 ∷ [])
    -- "then, for each object, size, D bit and cells"
    ∷ shaping 8 (formatted 8 2 1) (allocate 3 0 ∷ []) (1 ∷ 1 ∷ 3 ∷ 0 ∷ replicate 12 0)
    -- "Objects are numbered from 1 as first met, breadth first": root 1's before what X names
    ∷ shaping 8 (fresh 2) (three ++ (store_cell 0 0 3 ∷ store_root 2 0 ∷ []))
    (4 ∷ 1 ∷ 2 ∷ 0 ∷ 0 ∷ 1 ∷ 0 ∷ 3 ∷ 0 ∷ 0 ∷ 0 ∷ 1 ∷ 0 ∷ 0 ∷ 0 ∷ 0 ∷ 0 ∷ 1 ∷ 0 ∷ 0 ∷ 0 ∷ 0 ∷ 0 ∷ [])
    -- .. and what X names before what that names
    ∷ shaping 8 (formatted 8 2 3) (three ++ (store_cell 0 0 2 ∷ store_cell 0 3 3 ∷ allocate 1 1 ∷ store_cell 1 1 4 ∷ store_root 1 0 ∷ store_root 2 0 ∷ []))
    (3 ∷ 1 ∷ 0 ∷ 0 ∷ 1 ∷ 0 ∷ 2 ∷ 0 ∷ 0 ∷ 3 ∷ 1 ∷ 0 ∷ 0 ∷ 4 ∷ 0 ∷ 0 ∷ 1 ∷ 0 ∷ 0 ∷ 0 ∷ 0 ∷ 0 ∷ 1 ∷ 0 ∷ 0 ∷ 0 ∷ 0 ∷ 0 ∷ [])
    -- "from root 0 upwards and cell 0 upwards": wherever the objects lie
    ∷ shaping 8 (formatted 8 2 2) (allocate 1 1 ∷ allocate 2 0 ∷ []) (2 ∷ 1 ∷ 2 ∷ 2 ∷ 0 ∷ replicate 8 0 ++ (1 ∷ 0 ∷ 0 ∷ 0 ∷ 0 ∷ 0 ∷ []))
    ∷ shaping 8 (formatted 8 2 3) (allocate 1 1 ∷ allocate 1 2 ∷ allocate 2 0 ∷ store_cell 2 1 2 ∷ store_cell 2 6 1 ∷ store_root 1 0 ∷ store_root 2 0 ∷ [])
    (3 ∷ 1 ∷ 0 ∷ 0 ∷ 2 ∷ 0 ∷ 0 ∷ 2 ∷ 0 ∷ 0 ∷ 0 ∷ 0 ∷ 3 ∷ 0 ∷ 1 ∷ 0 ∷ 0 ∷ 0 ∷ 0 ∷ 0 ∷ 1 ∷ 0 ∷ 0 ∷ 0 ∷ 0 ∷ 0 ∷ [])
    -- an object met again keeps its number; one may name itself, and come back
    ∷ shaping 8 (formatted 8 2 2) (two ++ (store_cell 0 1 2 ∷ store_cell 0 2 2 ∷ store_cell 0 3 1 ∷ store_cell 1 0 1 ∷ store_root 1 1 ∷ []))
    (2 ∷ 1 ∷ 1 ∷ 1 ∷ 0 ∷ 0 ∷ 2 ∷ 2 ∷ 1 ∷ 1 ∷ 0 ∷ 1 ∷ 0 ∷ 0 ∷ 0 ∷ [])
    -- what no root leads to is not there
    ∷ shaping 8 (formatted 8 2 2) (two ++ (store_cell 0 0 1 ∷ store_cell 0 1 2 ∷ store_root 0 0 ∷ [])) (2 ∷ 0 ∷ 1 ∷ 1 ∷ 0 ∷ 0 ∷ 0 ∷ 0 ∷ 0 ∷ [])
    -- "D bit and cells, references as object numbers": numbers as they stand, even where they look like
    -- references, and never followed
    ∷ shaping 8 (formatted 8 2 2) (allocate_data 1 0 ∷ allocate 1 1 ∷ write_number 0 0 2 ∷ write_number 0 3 999 ∷ store_cell 1 0 2 ∷ store_root 1 0 ∷ [])
    (2 ∷ 1 ∷ 0 ∷ 1 ∷ 1 ∷ 2 ∷ 0 ∷ 0 ∷ 999 ∷ [])
    -- .. an ordinary object and data of zeros differ
    ∷ shaping 8 (formatted 8 2 2) (allocate 1 1 ∷ []) (2 ∷ 0 ∷ 1 ∷ 1 ∷ 0 ∷ 0 ∷ 0 ∷ 0 ∷ 0 ∷ [])
    ∷ shaping 8 (formatted 8 2 2) (allocate_data 1 1 ∷ []) (2 ∷ 0 ∷ 1 ∷ 1 ∷ 1 ∷ 0 ∷ 0 ∷ 0 ∷ 0 ∷ [])
    -- one shape, wherever objects lie: another order of allocations, other counts, more blocks
    ∷ shaping 16 (formatted 16 2 2) (allocate 1 1 ∷ allocate 1 0 ∷ allocate 2 0 ∷ store_cell 2 3 1 ∷ store_root 1 0 ∷ [])
    (2 ∷ 1 ∷ 0 ∷ 2 ∷ 0 ∷ 0 ∷ 0 ∷ 0 ∷ 2 ∷ 0 ∷ 0 ∷ 0 ∷ 0 ∷ 1 ∷ 0 ∷ 0 ∷ 0 ∷ 0 ∷ 0 ∷ [])
    ∷ shaping 8 (formatted 8 2 2) (allocate 2 0 ∷ allocate 1 1 ∷ store_cell 0 3 3 ∷ store_root 1 0 ∷ [])
    (2 ∷ 1 ∷ 0 ∷ 2 ∷ 0 ∷ 0 ∷ 0 ∷ 0 ∷ 2 ∷ 0 ∷ 0 ∷ 0 ∷ 0 ∷ 1 ∷ 0 ∷ 0 ∷ 0 ∷ 0 ∷ 0 ∷ [])
    -- with a collection open
    ∷ shaping 8 (formatted 8 2 1) (allocate 1 0 ∷ open_collection ∷ store_cell 0 0 1 ∷ take_steps 0 ∷ []) (1 ∷ 1 ∷ 1 ∷ 0 ∷ 1 ∷ 0 ∷ 0 ∷ 0 ∷ [])
    -- "16, the lent list is too short": by one; nothing is written
    ∷ output_case 8 (fresh 2) [] the_shape (room 4) (refuses 16) (room 4)
    ∷ output_case 8 (fresh 2) [] the_shape (room 5) (gives 5) (4 ∷ 0 ∷ 0 ∷ 0 ∷ 0 ∷ [])
    ∷ output_case 8 (fresh 2) one the_shape (room 10) (refuses 16) (room 10)
    -- ".. after the check's refusals"
    ∷ output_case 8 (fresh_but 1 255) [] the_shape [] (damaged 2) []
    ∷ output_case 8 (with_sections (7 ∷ []) (fresh 2)) [] the_shape [] (refuses 11) []
    ∷ output_case 8 (with_marks (1 ∷ []) (fresh 2)) [] the_shape [] (refuses 13) []
    ∷ output_case 4 (fresh 2) [] the_shape [] (refuses 1) []
    ∷ []
