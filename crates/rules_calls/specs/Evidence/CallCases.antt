-- Calls that are refused: which number each is given. That it is so is one lemma a list, in proofs/.
use Rattle.std.specs.Prelude.{ℕ, List, [], ◌∷◌, replicate}
use Rattle.rules.specs.Heap.{Memory, with_d}
use Rattle.rules.specs.Evidence.SmallHeaps.{eight_blocks}
use Rattle.rules_calls.specs.Calls.{Call, check, collect, free_blocks, allocate, store_root, store_cell, look, return_roots, open_collection, take_steps}
use Rattle.rules_calls.specs.Calls.{allocate_data, write_number, read_number, write_reason, write_shape}

-- "2 if the heap is damaged": each call but those that format a heap
unfoldable pub testing_calls : List Call
testing_calls =
    check ∷ collect ∷ free_blocks ∷ allocate 1 0 ∷ store_root 0 0 ∷ store_cell 0 0 0 ∷ look 0 ∷ return_roots 0 ∷ allocate_data 1 0 ∷ write_number 0 0 0
    ∷ read_number 0 0 ∷ open_collection ∷ take_steps 1 ∷ write_reason 0 99 ∷ write_shape 99 ∷ []

-- data at 0 and an ordinary object at 1, each of one block, in roots 0 and 1
unfoldable pub mixed : Memory
mixed = with_d (1 ∷ []) (eight_blocks 3 252 3 0 (replicate 32 0) (1 ∷ 2 ∷ 0 ∷ 0 ∷ []))

-- "Each list is in order, and the first number that applies is given": calls on that heap, each with its number
unfoldable pub order_cases : List (Call × ℕ)
order_cases =
    -- 3, 4, 5; 4, 8
    (allocate 9 4, 3) ∷ (allocate 8 4, 4) ∷ (allocate 8 0, 5) ∷ (allocate_data 0 4, 3) ∷ (allocate_data 8 4, 4) ∷ (store_root 4 9, 4) ∷ (store_root 3 9, 8)
    -- 6, 7, 12, 8
    ∷ (store_cell 2 4 9, 6) ∷ (store_cell 0 4 9, 7) ∷ (store_cell 0 3 9, 12) ∷ (store_cell 1 3 9, 8)
    ∷ (write_number 2 4 9, 6) ∷ (write_number 1 4 9, 7) ∷ (write_number 1 3 9, 12) ∷ (read_number 2 4, 6) ∷ (read_number 1 4, 7) ∷ (read_number 1 3, 12)
    -- 6, 15; 16
    ∷ (write_reason 2 0, 6) ∷ (write_reason 1 0, 15) ∷ (write_shape 0, 16) ∷ []
