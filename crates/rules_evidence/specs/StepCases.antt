-- Request U8, "Collection in small steps": cases on a heap of 8 blocks, each of which tells a rule from a
-- wrong one. That each case gives what it says is one lemma, in proofs/.
use Rattle.std.specs.Prelude.{ℕ, List, [], ◌∷◌, map, get_or, replicate}
use Rattle.rules.specs.Heap.{Memory, with_sections}
use Rattle.rules_stores.specs.Store.{formatted}
use Rattle.rules_calls.specs.Calls.{Call, format, check, collect, free_blocks, allocate, store_root, store_cell, look, return_roots, open_collection, take_steps}
use Rattle.rules_calls.specs.Calls.{allocate_data, write_number, read_number, reply, run, last_memory}
use Rattle.rules_calls.specs.Evidence.Forms.{gives, sticking, shows, refuses}
use Rattle.types.specs.declared.Reply.{Reply}
use Rattle.rules_steps.specs.Evidence.MarkCases.{open_list, no_list, half}

-- calls with the reply that each is to get, and what stands after the last: the byte of the A-map, that of
-- the mark map, and the second list
pub record StepCase : Type 0 where
  pub width : ℕ
  pub before : Memory
  pub a : ℕ
  pub marks : ℕ
  pub list : List ℕ
  pub calls : List (Call × Reply)

abbrev pub step_case : ℕ → Memory → (a marks : ℕ) → List ℕ → List (Call × Reply) → StepCase
step_case width before a marks list calls = record { width = width; before = before; a = a; marks = marks; list = list; calls = calls }

-- a fresh heap with that many roots
unfoldable pub with_roots_of : (w roots : ℕ) → Memory
with_roots_of w roots = formatted 8 w roots

-- steps taken, and blocks freed
abbrev pub steps : ℕ → ℕ → Reply
steps taken freed = reply 0 taken freed

unfoldable pub step_cases : List StepCase
step_cases =
    -- "Opening marks every object a root names .. and puts it on a second list": not what cells name
    step_case 2 (with_roots_of 2 2) 3 1 (open_list (1 ∷ []) 7)
    ((allocate 1 0, gives 0) ∷ (allocate 1 1, gives 1) ∷ (store_cell 0 0 2, gives 0) ∷ (store_root 1 0, gives 0) ∷ (open_collection, gives 0) ∷ [])
    -- "A step takes the lowest."
    ∷ step_case 1 (with_roots_of 1 2) 3 3 (open_list (2 ∷ []) 7)
    ((allocate 1 1, sticking 0) ∷ (allocate 1 0, sticking 1) ∷ (open_collection, gives 0) ∷ (take_steps 1, steps 1 0) ∷ [])
    -- "Steps mark and list what they first meet": X at 1 names Y at 0, which is then the lowest and comes
    -- before Z at 2
    ∷ step_case 3 (with_roots_of 3 4) 7 7 (open_list (1 ∷ 3 ∷ []) 6)
    ((allocate 1 0, gives 0) ∷ (allocate 1 1, gives 1) ∷ (allocate 1 2, gives 2) ∷ (store_cell 1 3 1, gives 0) ∷ (store_root 0 0, gives 0)
    ∷ (open_collection, gives 0) ∷ (take_steps 1, steps 1 0) ∷ [])
    -- .. and what it has met is not listed again
    ∷ step_case 3 (with_roots_of 3 4) 7 7 (open_list (3 ∷ []) 7)
    ((allocate 1 0, gives 0) ∷ (allocate 1 1, gives 1) ∷ (allocate 1 2, gives 2) ∷ (store_cell 1 3 1, gives 0) ∷ (store_cell 0 0 2, gives 0)
    ∷ (store_root 0 0, gives 0) ∷ (open_collection, gives 0) ∷ (take_steps 2, steps 2 0) ∷ [])
    -- "It replies with the steps taken, all of them unless the list ran out"
    ∷ step_case 3 (with_roots_of 3 4) 7 0 no_list
    ((allocate 1 0, gives 0) ∷ (allocate 1 1, gives 1) ∷ (allocate 1 2, gives 2) ∷ (store_cell 1 3 1, gives 0) ∷ (store_root 0 0, gives 0)
    ∷ (open_collection, gives 0) ∷ (take_steps 99, steps 3 0) ∷ [])
    -- "When a call with a budget above 0 leaves the list empty": the one that took the last
    ∷ step_case 1 (with_roots_of 1 1) 3 0 no_list ((allocate 2 0, sticking 0) ∷ (open_collection, gives 0) ∷ (take_steps 1, steps 1 0) ∷ [])
    -- .. one that found it empty; a budget of 0 never does
    ∷ step_case 2 (with_roots_of 2 1) 0 0 (open_list [] 8) ((open_collection, gives 0) ∷ (take_steps 0, steps 0 0) ∷ [])
    ∷ step_case 2 (with_roots_of 2 1) 0 0 no_list ((open_collection, gives 0) ∷ (take_steps 0, steps 0 0) ∷ (take_steps 1, steps 0 0) ∷ [])
    -- "it frees all objects then unmarked": a stuck one
    ∷ step_case 1 (with_roots_of 1 1) 4 0 no_list
    ((allocate 2 0, sticking 0) ∷ (allocate 1 0, sticking 2) ∷ (open_collection, gives 0) ∷ (take_steps 1, steps 1 2) ∷ [])
    -- .. and only those: what no root leads to any more stays, if it is marked
    ∷ step_case 1 (with_roots_of 1 1) 13 0 no_list
    ((open_collection, gives 0) ∷ (allocate 1 0, sticking 0) ∷ (allocate 2 0, sticking 2) ∷ (take_steps 9, steps 0 0) ∷ [])
    -- "counts down the survivors that these named"
    ∷ step_case 3 (with_roots_of 3 1) 2 0 no_list
    ((allocate 1 0, gives 0) ∷ (store_cell 0 1 1, gives 0) ∷ (allocate 1 0, gives 1) ∷ (store_cell 0 0 2, gives 0) ∷ (open_collection, gives 0)
    ∷ (take_steps 99, steps 1 1) ∷ (look 1, shows 1 1) ∷ [])
    -- "once for each cell"
    ∷ step_case 3 (with_roots_of 3 2) 4 0 no_list
    ((allocate 2 1, gives 0) ∷ (store_cell 0 2 1, gives 0) ∷ (allocate 1 1, gives 2) ∷ (store_cell 0 1 3, gives 0) ∷ (store_cell 0 3 3, gives 0)
    ∷ (open_collection, gives 0) ∷ (take_steps 3, steps 1 2) ∷ (look 2, shows 1 1) ∷ [])
    -- "(one that reaches 0 is freed as in a store)"
    ∷ step_case 3 (with_roots_of 3 4) 0 0 no_list
    ((allocate 2 3, gives 0) ∷ (store_cell 0 1 1, gives 0) ∷ (allocate 2 0, gives 2) ∷ (store_cell 0 3 3, gives 0) ∷ (store_root 3 0, gives 0)
    ∷ (open_collection, gives 0) ∷ (store_root 0 0, gives 0) ∷ (take_steps 1, steps 1 4) ∷ (free_blocks, gives 8) ∷ [])
    -- it counts down and doesn't count anew: stuck stays stuck
    ∷ step_case 1 (with_roots_of 1 2) 247 0 no_list
    ((allocate 3 1, sticking 0) ∷ (open_collection, gives 0) ∷ (allocate 4 1, sticking 4) ∷ (take_steps 9, steps 1 0) ∷ (look 0, shows 3 1) ∷ [])
    -- "While open, objects are born marked", and not listed
    ∷ step_case 3 (with_roots_of 3 3) 1 1 (open_list [] 8) ((open_collection, gives 0) ∷ (allocate 1 2, gives 0) ∷ [])
    -- "marks and lists what is unmarked among its owner"
    ∷ step_case 1 (with_roots_of 1 2) 7 5 (open_list (1 ∷ 3 ∷ []) 6)
    ((allocate 2 1, sticking 0) ∷ (allocate 1 1, sticking 2) ∷ (open_collection, gives 0) ∷ (store_cell 0 6 3, gives 0) ∷ [])
    -- ".. old ..": in a cell, in a root, in the root of an allocation
    ∷ step_case 3 (with_roots_of 3 4) 15 7 (open_list (1 ∷ 2 ∷ 3 ∷ []) 5)
    ((allocate 1 3, gives 0) ∷ (allocate 1 0, gives 1) ∷ (store_cell 1 0 2, gives 0) ∷ (allocate 2 0, gives 2) ∷ (store_cell 0 2 2, gives 0)
    ∷ (open_collection, gives 0) ∷ (store_cell 0 2 0, gives 0) ∷ [])
    -- ".. and new objects": in a root, in a cell
    ∷ step_case 1 (with_roots_of 1 3) 3 1 (open_list (1 ∷ []) 7)
    ((allocate 2 1, sticking 0) ∷ (store_root 1 0, gives 0) ∷ (open_collection, gives 0) ∷ (store_root 0 1, gives 0) ∷ [])
    ∷ step_case 1 (with_roots_of 1 3) 7 5 (open_list (1 ∷ 3 ∷ []) 6)
    ((allocate 2 1, sticking 0) ∷ (store_root 1 0, gives 0) ∷ (allocate 1 1, sticking 2) ∷ (open_collection, gives 0) ∷ (store_cell 2 3 1, gives 0) ∷ [])
    -- "each reference store that changes a value": a store of the value present marks nothing
    ∷ step_case 1 (with_roots_of 1 2) 31 16 (open_list (5 ∷ []) 7)
    ((allocate 4 0, sticking 0) ∷ (allocate 1 1, sticking 4) ∷ (store_root 0 5, gives 0) ∷ (open_collection, gives 0) ∷ (store_cell 0 0 0, gives 0) ∷ [])
    -- "clearing a freed object's cells marks and lists the unmarked ones they named"
    ∷ step_case 2 (with_roots_of 2 1) 7 1 (open_list (1 ∷ []) 7)
    ((allocate 3 0, gives 0) ∷ (store_cell 0 1 1, gives 0) ∷ (allocate 2 0, gives 4) ∷ (store_cell 4 1 1, gives 0) ∷ (open_collection, gives 0)
    ∷ (store_root 0 0, gives 2) ∷ [])
    -- "a freed object leaves map and list": the map, the list
    ∷ step_case 3 (with_roots_of 3 3) 2 2 (open_list [] 8)
    ((open_collection, gives 0) ∷ (allocate 1 2, gives 0) ∷ (allocate 1 2, gives 1) ∷ [])
    ∷ step_case 2 (with_roots_of 2 2) 8 8 (open_list [] 8)
    ((allocate 3 1, gives 0) ∷ (open_collection, gives 0) ∷ (allocate 1 1, gives 3) ∷ [])
    -- a return while open marks as single stores do
    ∷ step_case 3 (with_roots_of 3 4) 12 12 (open_list (3 ∷ 4 ∷ []) 6)
    ((allocate 2 0, gives 0) ∷ (allocate 1 1, gives 2) ∷ (store_cell 0 7 3, gives 0) ∷ (allocate 1 2, gives 3) ∷ (store_cell 3 0 3, gives 0)
    ∷ (store_root 1 0, gives 0) ∷ (open_collection, gives 0) ∷ (return_roots 1, gives 2) ∷ [])
    -- format while open leaves none open
    ∷ step_case 2 (with_roots_of 2 2) 0 0 no_list ((open_collection, gives 0) ∷ (format, gives 0) ∷ (check, gives 0) ∷ [])
    -- "14, a step with none open, or an opening or full collection with one open"
    ∷ step_case 2 (with_roots_of 2 2) 0 0 no_list
    ((take_steps 1, refuses 14) ∷ (take_steps 0, refuses 14) ∷ (open_collection, gives 0) ∷ (open_collection, refuses 14) ∷ (collect, refuses 14)
    ∷ (take_steps 1, steps 0 0) ∷ (take_steps 1, refuses 14) ∷ (collect, gives 0) ∷ [])
    -- request U6: "one for each object taken off the list, data too"; its numbers are not followed, nor read
    -- by 13: 2 would name an object at 1
    ∷ step_case 1 (with_roots_of 1 3) 7 5 (open_list (3 ∷ []) 7)
    ((allocate_data 1 0, sticking 0) ∷ (allocate 1 1, sticking 1) ∷ (allocate 1 2, sticking 2) ∷ (write_number 0 0 2, gives 0) ∷ (store_root 1 0, gives 0)
    ∷ (open_collection, gives 0) ∷ (take_steps 1, steps 1 0) ∷ (check, gives 0) ∷ [])
    -- .. and the object at 1 is gone at the close
    ∷ step_case 1 (with_roots_of 1 3) 5 0 no_list
    ((allocate_data 1 0, sticking 0) ∷ (allocate 1 1, sticking 1) ∷ (allocate 1 2, sticking 2) ∷ (write_number 0 0 2, gives 0) ∷ (store_root 1 0, gives 0)
    ∷ (open_collection, gives 0) ∷ (take_steps 9, steps 2 1) ∷ (read_number 0 0, gives 2) ∷ [])
    -- data is marked and listed as any object: by the opening, by a step
    ∷ step_case 2 (with_roots_of 2 2) 3 3 (open_list (2 ∷ []) 7)
    ((allocate 1 0, gives 0) ∷ (allocate_data 1 1, gives 1) ∷ (store_cell 0 3 2, gives 0) ∷ (store_root 1 0, gives 0) ∷ (open_collection, gives 0)
    ∷ (take_steps 1, steps 1 0) ∷ [])
    -- the close frees data, with its numbers and its D bit, and lets go of none of its cells: 3 would name
    -- the object at 2
    ∷ step_case 3 (with_roots_of 3 3) 4 0 no_list
    ((allocate 1 0, gives 0) ∷ (store_cell 0 0 1, gives 0) ∷ (allocate_data 1 1, gives 1) ∷ (store_cell 0 1 2, gives 0) ∷ (allocate 1 2, gives 2)
    ∷ (write_number 1 0 3, gives 0) ∷ (store_root 0 0, gives 0) ∷ (store_root 1 0, gives 0) ∷ (open_collection, gives 0) ∷ (take_steps 9, steps 1 2)
    ∷ (look 2, shows 1 1) ∷ (check, gives 0) ∷ [])
    -- data is born marked, and not listed; what its root let go of names is marked and listed
    ∷ step_case 3 (with_roots_of 3 3) 1 1 (open_list [] 8) ((open_collection, gives 0) ∷ (allocate_data 1 2, gives 0) ∷ [])
    ∷ step_case 2 (with_roots_of 2 1) 15 9 (open_list (1 ∷ []) 7)
    ((allocate 3 0, gives 0) ∷ (store_cell 0 1 1, gives 0) ∷ (allocate 2 0, gives 4) ∷ (store_cell 4 1 1, gives 0) ∷ (open_collection, gives 0)
    ∷ (allocate_data 1 0, gives 3) ∷ [])
    -- a number write is no reference store: it marks neither the data nor what the number would name
    ∷ step_case 1 (with_roots_of 1 2) 3 0 (open_list [] 8)
    ((allocate_data 1 0, sticking 0) ∷ (allocate 1 1, sticking 1) ∷ (store_root 0 0, gives 0) ∷ (store_root 1 0, gives 0) ∷ (open_collection, gives 0)
    ∷ (write_number 0 0 2, gives 0) ∷ (write_number 0 0 0, gives 0) ∷ [])
    -- clearing the cells of freed data marks nothing; it leaves map and list
    ∷ step_case 2 (with_roots_of 2 2) 2 0 (open_list [] 8)
    ((allocate_data 1 0, gives 0) ∷ (allocate 1 1, gives 1) ∷ (store_cell 1 0 2, gives 0) ∷ (store_root 1 0, gives 0) ∷ (write_number 0 0 2, gives 0)
    ∷ (open_collection, gives 0) ∷ (store_root 0 0, gives 1) ∷ [])
    -- "13": as it has to be; X unmarked though a root names it; X, unlisted, names Y, which is unmarked
    ∷ step_case 2 (half 1 (open_list (1 ∷ []) 7)) 3 1 (open_list (1 ∷ []) 7) ((check, gives 0) ∷ [])
    ∷ step_case 2 (half 0 (open_list [] 8)) 3 0 (open_list [] 8) ((check, refuses 13) ∷ (look 9, refuses 13) ∷ [])
    ∷ step_case 2 (half 1 (open_list [] 8)) 3 1 (open_list [] 8) ((check, refuses 13) ∷ (take_steps 1, refuses 13) ∷ [])
    -- the last place is neither 0 nor 1; an unmarked object listed; a mark on a free block
    ∷ step_case 2 (half 1 (1 ∷ 0 ∷ 0 ∷ 0 ∷ 0 ∷ 0 ∷ 0 ∷ 0 ∷ 2 ∷ [])) 3 1 (1 ∷ 0 ∷ 0 ∷ 0 ∷ 0 ∷ 0 ∷ 0 ∷ 0 ∷ 2 ∷ []) ((check, refuses 13) ∷ [])
    ∷ step_case 2 (half 1 (open_list (1 ∷ 2 ∷ []) 6)) 3 1 (open_list (1 ∷ 2 ∷ []) 6) ((check, refuses 13) ∷ [])
    ∷ step_case 2 (half 17 (open_list (1 ∷ []) 7)) 3 17 (open_list (1 ∷ []) 7) ((free_blocks, refuses 13) ∷ [])
    -- not rising; twice the same; a 0 before the end; no first block
    ∷ step_case 2 (half 3 (open_list (2 ∷ 1 ∷ []) 6)) 3 3 (open_list (2 ∷ 1 ∷ []) 6) ((check, refuses 13) ∷ [])
    ∷ step_case 2 (half 3 (open_list (1 ∷ 1 ∷ []) 6)) 3 3 (open_list (1 ∷ 1 ∷ []) 6) ((check, refuses 13) ∷ [])
    ∷ step_case 2 (half 1 (open_list (0 ∷ 1 ∷ []) 6)) 3 1 (open_list (0 ∷ 1 ∷ []) 6) ((check, refuses 13) ∷ [])
    ∷ step_case 2 (half 1 (open_list (1 ∷ 6 ∷ []) 6)) 3 1 (open_list (1 ∷ 6 ∷ []) 6) ((check, refuses 13) ∷ [])
    -- after 11
    ∷ step_case 2 (with_sections (9 ∷ []) (half 1 no_list)) 3 1 no_list ((check, refuses 11) ∷ [])
    -- none open: a mark; a place of the list; format tests for neither
    ∷ step_case 2 (half 1 no_list) 3 1 no_list ((check, refuses 13) ∷ [])
    ∷ step_case 2 (half 0 (1 ∷ replicate 8 0)) 3 0 (1 ∷ replicate 8 0) ((store_root 9 9, refuses 13) ∷ [])
    ∷ step_case 2 (half 1 no_list) 0 0 no_list ((check, refuses 13) ∷ (format, gives 0) ∷ (check, gives 0) ∷ [])
    ∷ []

-- what the rules give for a case
unfoldable pub given_steps : StepCase → List Reply × ℕ × ℕ × List ℕ
given_steps c =
    let answers = run 8 c.width c.before (map (λ s. s.0) c.calls) in
    let h = last_memory c.before answers in
    (map (λ x. x.0) answers, get_or h.a 0 0, get_or h.marks 0 0, h.list)

-- what the case says
unfoldable pub expected_steps : StepCase → List Reply × ℕ × ℕ × List ℕ
expected_steps c = (map (λ s. s.1) c.calls, c.a, c.marks, c.list)
