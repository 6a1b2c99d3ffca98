-- Cases of the definitions of Steps.antt (request U8), each on the definition itself: each tells a rule from a wrong one. The wrong rules are
-- the edits of must-fail/. That each case gives what it says is one lemma a list, in proofs/.
use Rattle.std.specs.Prelude.{ℕ, Bool, true, false, List, [], ◌∷◌, ◌++◌, set, replicate}
use Rattle.rules.specs.Heap.{Memory, with_counts, with_d, with_marks, with_list}
use Rattle.rules_steps.specs.Steps.{opened, progress_of, steps_from, stepped, closed, store_root_shading, store_cell_shading, allocate_shading, return_shading}
use Rattle.rules.specs.Evidence.SmallHeaps.{eight_blocks, cell_holding, root_holding}

-- the second list of an open collection that has n empty places before the last
unfoldable pub open_list : List ℕ → (n : ℕ) → List ℕ
open_list front n = front ++ replicate n 0 ++ (1 ∷ [])

unfoldable pub no_list : List ℕ
no_list = replicate 9 0

-- X at 0, in root 0, names Y at 1; a collection is open, X marked and listed
unfoldable pub half : (marks : ℕ) → (list : List ℕ) → Memory
half marks list = with_marks (marks ∷ []) (with_list list (eight_blocks 3 252 3 0 (cell_holding 0 2) (root_holding 0 1)))

-- ---- number 13

-- X at 0, in root 0, names Y at 1: whether mark map and list are not as they have to be
unfoldable pub untidy_cases : List (Memory × Bool)
untidy_cases =
    (half 1 (open_list (1 ∷ []) 7), false) ∷ (half 0 no_list, false)
    -- X unmarked though a root names it; X, unlisted, names Y, which is unmarked
    ∷ (half 0 (open_list [] 8), true) ∷ (half 1 (open_list [] 8), true)
    -- the last place is neither 0 nor 1; an unmarked object listed; a mark on a free block
    ∷ (half 1 (1 ∷ 0 ∷ 0 ∷ 0 ∷ 0 ∷ 0 ∷ 0 ∷ 0 ∷ 2 ∷ []), true) ∷ (half 1 (open_list (1 ∷ 2 ∷ []) 6), true) ∷ (half 17 (open_list (1 ∷ []) 7), true)
    -- not rising; twice the same; a 0 before the end; no first block
    ∷ (half 3 (open_list (2 ∷ 1 ∷ []) 6), true) ∷ (half 3 (open_list (1 ∷ 1 ∷ []) 6), true) ∷ (half 1 (open_list (0 ∷ 1 ∷ []) 6), true)
    ∷ (half 1 (open_list (1 ∷ 6 ∷ []) 6), true)
    -- none open: a mark; a place of the list
    ∷ (half 1 no_list, true) ∷ (half 0 (1 ∷ replicate 8 0), true) ∷ []

-- ---- the opening, steps and the close

-- what is told of a heap: the byte of the A-map, the counts, the byte of the mark map, and the second list
unfoldable pub progress_told : Memory → List (List ℕ)
progress_told h = h.a ∷ h.counts ∷ h.marks ∷ h.list ∷ []

abbrev pub standing : (a : ℕ) → (counts : List ℕ) → (marks : ℕ) → (list : List ℕ) → List (List ℕ)
standing a counts marks list = (a ∷ []) ∷ counts ∷ (marks ∷ []) ∷ list ∷ []

-- a collection open, these blocks marked and those listed
unfoldable pub opening : (marks : ℕ) → (list : List ℕ) → Memory → Memory
opening marks list h = with_marks (marks ∷ []) (with_list list h)

-- X at 0, Y at 1 and Z at 2, each of one block, in three roots
unfoldable pub three : (low high : ℕ) → (cells : List ℕ) → Memory
three low high cells = eight_blocks 7 248 low high cells (1 ∷ 2 ∷ 3 ∷ 0 ∷ [])

-- after so many steps at most: the steps taken, and the heap
unfoldable pub stepping : (budget : ℕ) → Memory → ℕ × List (List ℕ)
stepping budget h =
    let t = steps_from budget 8 h (progress_of 8 h) in
    (t.steps, progress_told (stepped 8 2 h budget t.reached))

unfoldable pub progress_cases : List ((ℕ × List (List ℕ)) × (ℕ × List (List ℕ)))
progress_cases =
    -- "Opening marks every object a root names .. and puts it on a second list": not what cells name
    ((0, progress_told (opened 8 (half 0 no_list))), (0, standing 3 (3 ∷ 0 ∷ []) 1 (open_list (1 ∷ []) 7)))
    -- "A step takes the lowest."
    ∷ (stepping 1 (opening 7 (open_list (1 ∷ 2 ∷ []) 6) (three 7 0 (replicate 32 0))), (1, standing 7 (7 ∷ 0 ∷ []) 7 (open_list (2 ∷ []) 7)))
    -- "Steps mark and list what they first meet", and what is marked is not listed again
    ∷ (stepping 1 (half 1 (open_list (1 ∷ []) 7)), (1, standing 3 (3 ∷ 0 ∷ []) 3 (open_list (2 ∷ []) 7)))
    ∷ (stepping 1 (opening 7 (open_list (1 ∷ 3 ∷ []) 6) (three 5 2 (cell_holding 0 2))), (1, standing 7 (5 ∷ 2 ∷ []) 7 (open_list (3 ∷ []) 7)))
    -- "one for each object taken off the list, data too", whose numbers are not followed
    ∷ (stepping 1 (opening 5 (open_list (1 ∷ 3 ∷ []) 6) (with_d (1 ∷ []) (three 7 0 (cell_holding 0 2)))), (1, standing 7 (7 ∷ 0 ∷ []) 5 (open_list (3 ∷ []) 7)))
    -- "When a call with a budget above 0 leaves the list empty": a budget of 0 never does; the close "clears the mark map and the list"
    ∷ (stepping 0 (half 3 (open_list [] 8)), (0, standing 3 (3 ∷ 0 ∷ []) 3 (open_list [] 8)))
    ∷ (stepping 9 (half 1 (open_list (1 ∷ []) 7)), (2, standing 3 (3 ∷ 0 ∷ []) 0 no_list))
    ∷ []

-- the close, at width 3: S at 0 is marked, G at 1 is not
unfoldable pub closing : (roots low middle : ℕ) → (cells : List ℕ) → List (List ℕ)
closing root low middle cells =
    progress_told (closed 8 3 (true ∷ []) (opening 1 (open_list [] 8) (with_counts (low ∷ middle ∷ 0 ∷ []) (eight_blocks 3 252 0 0 cells (root_holding 0 root)))))

unfoldable pub close_cases : List (List (List ℕ) × List (List ℕ))
close_cases =
    -- "counts down the survivors that these named, once for each cell"
    (closing 1 3 1 (set (cell_holding 5 1) 7 1), standing 1 (1 ∷ 0 ∷ 0 ∷ []) 0 no_list)
    -- "(one that reaches 0 is freed as in a store)"
    ∷ (closing 0 3 0 (cell_holding 5 1), standing 0 (0 ∷ 0 ∷ 0 ∷ []) 0 no_list)
    -- "it frees all objects then unmarked, marking none of them": G names itself
    ∷ (closing 1 3 0 (cell_holding 5 2), standing 1 (1 ∷ 0 ∷ 0 ∷ []) 0 no_list)
    ∷ []

-- ---- what the other calls mark

unfoldable pub shading_cases : List (List (List ℕ) × List (List ℕ))
shading_cases =
    -- "objects are born marked", and not listed
    (progress_told (allocate_shading 8 2 false (opening 0 (open_list [] 8) (eight_blocks 0 255 0 0 (replicate 32 0) (replicate 4 0))) 1 2 0), standing 1 (1 ∷ 0 ∷ []) 1 (open_list [] 8))
    -- "marks and lists what is unmarked among its owner, old and new objects": the owner X, which is stuck, and the new Y; the old Y
    ∷ (progress_told (store_cell_shading 8 2 (opening 0 (open_list [] 8) (eight_blocks 3 252 3 1 (replicate 32 0) (replicate 4 0))) 0 2 2), standing 3 (1 ∷ 3 ∷ []) 3 (open_list (1 ∷ 2 ∷ []) 6))
    ∷ (progress_told (store_root_shading 8 2 (opening 0 (open_list [] 8) (three 5 2 (cell_holding 0 2))) 1 0), standing 7 (7 ∷ 0 ∷ []) 2 (open_list (2 ∷ []) 7))
    -- "a freed object leaves map and list"; "clearing a freed object's cells marks and lists the unmarked ones they named": Y, which is stuck
    ∷ (progress_told (store_root_shading 8 2 (opening 1 (open_list (1 ∷ []) 7) (eight_blocks 3 252 3 2 (cell_holding 0 2) (root_holding 0 1))) 0 0), standing 2 (2 ∷ 2 ∷ []) 2 (open_list (2 ∷ []) 7))
    -- a store of the value present marks nothing
    ∷ (progress_told (store_root_shading 8 2 (opening 0 (open_list [] 8) (three 7 0 (replicate 32 0))) 1 2), standing 7 (7 ∷ 0 ∷ []) 0 (open_list [] 8))
    -- a return clears each root of the set, root 0 too
    ∷ (progress_told (return_shading 8 2 (three 7 0 (replicate 32 0)) 5 4), standing 2 (2 ∷ 0 ∷ []) 0 no_list)
    ∷ []
