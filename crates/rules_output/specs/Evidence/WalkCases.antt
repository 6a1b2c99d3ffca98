-- Cases of the definitions of Walk.antt, Shape.antt, Reason.antt and Sentence.antt (requests U13 and U11), each on the definition itself: each
-- tells a rule from a wrong one. The wrong rules are the edits of must-fail/. That each case gives what it says is one lemma a list, in proofs/.
use Rattle.std.specs.Prelude.{ℕ, List, [], ◌∷◌, set, replicate}
use Rattle.std.proofs.Math.Option.{Option, none, some}
use Rattle.rules.specs.Heap.{Memory, with_d}
use Rattle.rules_output.specs.Reason.{Reason, kept_by, no_chain}
use Rattle.rules.specs.Evidence.SmallHeaps.{eight_blocks, cell_holding, root_holding}

-- X at 0, in root 1, names Y at 1 and Z at 2 in its cells 0 and 2; Y names V at 3; Z names V too, and itself
unfoldable pub crossed : Memory
crossed = eight_blocks 15 240 15 0 (set (set (set (set (cell_holding 0 2) 2 3) 7 4) 8 4) 9 3) (root_holding 1 1)

-- the same with Z naming nothing
unfoldable pub forked : Memory
forked = eight_blocks 15 240 15 0 (set (set (cell_holding 0 2) 2 3) 7 4) (root_holding 1 1)

-- data at 0, in root 0, whose number 2 would name the object at 1
unfoldable pub numbers_only : Memory
numbers_only = with_d (1 ∷ []) (eight_blocks 3 252 3 0 (cell_holding 0 2) (root_holding 0 1))

-- eight objects of one block, each naming the next in its cell 0; root 2 names the first
unfoldable pub in_line : Memory
in_line =
    eight_blocks 255 0 255 0 (set (set (set (set (set (set (cell_holding 0 2) 4 3) 8 4) 12 5) 16 6) 20 7) 24 8) (root_holding 2 1)

-- "breadth first, from root 0 upwards and cell 0 upwards", the last met first
unfoldable pub walk_cases : List (Memory × List ℕ)
walk_cases = (crossed, 4 ∷ 3 ∷ 2 ∷ 1 ∷ []) ∷ (forked, 4 ∷ 3 ∷ 2 ∷ 1 ∷ []) ∷ (numbers_only, 1 ∷ []) ∷ []

-- "First comes the number of roots, then each root's object number or 0; then, for each object, size, D bit and cells"
unfoldable pub shapes_of_heaps : List (Memory × List ℕ)
shapes_of_heaps =
    (crossed, 4 ∷ 0 ∷ 1 ∷ 0 ∷ 0 ∷ 1 ∷ 0 ∷ 2 ∷ 0 ∷ 3 ∷ 0 ∷ 1 ∷ 0 ∷ 0 ∷ 0 ∷ 0 ∷ 4 ∷ 1 ∷ 0 ∷ 4 ∷ 3 ∷ 0 ∷ 0 ∷ 1 ∷ 0 ∷ 0 ∷ 0 ∷ 0 ∷ 0 ∷ [])
    ∷ (numbers_only, 4 ∷ 1 ∷ 0 ∷ 0 ∷ 0 ∷ 1 ∷ 1 ∷ 2 ∷ 0 ∷ 0 ∷ 0 ∷ []) ∷ []

-- a block, and why its object is kept: "The chain has the fewest links; among those .. the lowest root, then the lowest cell at the first
-- difference"; none
unfoldable pub chain_cases : List ((Memory × ℕ) × Reason)
chain_cases =
    ((crossed, 3), kept_by 1 (0 ∷ 3 ∷ [])) ∷ ((crossed, 2), kept_by 1 (2 ∷ [])) ∷ ((crossed, 0), kept_by 1 [])
    ∷ ((eight_blocks 1 254 0 1 (replicate 32 0) (0 ∷ 1 ∷ 1 ∷ 0 ∷ []), 0), kept_by 1 [])
    ∷ ((numbers_only, 1), no_chain)
    -- seven links, of eight objects
    ∷ ((in_line, 7), kept_by 2 (replicate 7 0)) ∷ []

-- `root 1 cell 2 block 2`, `no root reaches block 1`, each with a line end
unfoldable pub sentence_cases : List ((Memory × ℕ) × List ℕ)
sentence_cases =
    ((crossed, 2), 114 ∷ 111 ∷ 111 ∷ 116 ∷ 32 ∷ 49 ∷ 32 ∷ 99 ∷ 101 ∷ 108 ∷ 108 ∷ 32 ∷ 50 ∷ 32 ∷ 98 ∷ 108 ∷ 111 ∷ 99 ∷ 107 ∷ 32 ∷ 50 ∷ 10 ∷ [])
    ∷ ((numbers_only, 1), 110 ∷ 111 ∷ 32 ∷ 114 ∷ 111 ∷ 111 ∷ 116 ∷ 32 ∷ 114 ∷ 101 ∷ 97 ∷ 99 ∷ 104 ∷ 101 ∷ 115 ∷ 32 ∷ 98 ∷ 108 ∷ 111 ∷ 99 ∷ 107 ∷ 32 ∷ 49 ∷ 10 ∷ [])
    ∷ []

-- "Each sentence can be read back in only one way": texts, and what is read back
unfoldable pub read_cases : List (List ℕ × Option (Reason × ℕ))
read_cases =
    -- `root 1 cell 2 block 4`, `no root reaches block 4`; two cells, and numbers of more digits
    ((114 ∷ 111 ∷ 111 ∷ 116 ∷ 32 ∷ 49 ∷ 32 ∷ 99 ∷ 101 ∷ 108 ∷ 108 ∷ 32 ∷ 50 ∷ 32 ∷ 98 ∷ 108 ∷ 111 ∷ 99 ∷ 107 ∷ 32 ∷ 52 ∷ 10 ∷ []), some (kept_by 1 (2 ∷ []), 4))
    ∷ ((110 ∷ 111 ∷ 32 ∷ 114 ∷ 111 ∷ 111 ∷ 116 ∷ 32 ∷ 114 ∷ 101 ∷ 97 ∷ 99 ∷ 104 ∷ 101 ∷ 115 ∷ 32 ∷ 98 ∷ 108 ∷ 111 ∷ 99 ∷ 107 ∷ 32 ∷ 52 ∷ 10 ∷ []), some (no_chain, 4))
    ∷ ((114 ∷ 111 ∷ 111 ∷ 116 ∷ 32 ∷ 49 ∷ 48 ∷ 32 ∷ 99 ∷ 101 ∷ 108 ∷ 108 ∷ 32 ∷ 48 ∷ 32 ∷ 99 ∷ 101 ∷ 108 ∷ 108 ∷ 32 ∷ 51 ∷ 48 ∷ 32 ∷ 98 ∷ 108 ∷ 111 ∷ 99 ∷ 107 ∷ 32 ∷ 49 ∷ 48 ∷ 53 ∷ 10 ∷ []), some (kept_by 10 (0 ∷ 30 ∷ []), 105))
    -- no line end; two; something behind it
    ∷ ((114 ∷ 111 ∷ 111 ∷ 116 ∷ 32 ∷ 49 ∷ 32 ∷ 98 ∷ 108 ∷ 111 ∷ 99 ∷ 107 ∷ 32 ∷ 52 ∷ []), none)
    ∷ ((114 ∷ 111 ∷ 111 ∷ 116 ∷ 32 ∷ 49 ∷ 32 ∷ 98 ∷ 108 ∷ 111 ∷ 99 ∷ 107 ∷ 32 ∷ 52 ∷ 10 ∷ 10 ∷ []), none)
    ∷ ((114 ∷ 111 ∷ 111 ∷ 116 ∷ 32 ∷ 49 ∷ 32 ∷ 98 ∷ 108 ∷ 111 ∷ 99 ∷ 107 ∷ 32 ∷ 52 ∷ 32 ∷ []), none)
    -- a leading zero; no number; two spaces; none
    ∷ ((114 ∷ 111 ∷ 111 ∷ 116 ∷ 32 ∷ 48 ∷ 49 ∷ 32 ∷ 98 ∷ 108 ∷ 111 ∷ 99 ∷ 107 ∷ 32 ∷ 52 ∷ 10 ∷ []), none)
    ∷ ((114 ∷ 111 ∷ 111 ∷ 116 ∷ 32 ∷ 32 ∷ 98 ∷ 108 ∷ 111 ∷ 99 ∷ 107 ∷ 32 ∷ 52 ∷ 10 ∷ []), none)
    ∷ ((114 ∷ 111 ∷ 111 ∷ 116 ∷ 32 ∷ 49 ∷ 32 ∷ 32 ∷ 98 ∷ 108 ∷ 111 ∷ 99 ∷ 107 ∷ 32 ∷ 52 ∷ 10 ∷ []), none)
    ∷ ((114 ∷ 111 ∷ 111 ∷ 116 ∷ 32 ∷ 49 ∷ 98 ∷ 108 ∷ 111 ∷ 99 ∷ 107 ∷ 32 ∷ 52 ∷ 10 ∷ []), none)
    -- no block; a cell behind it; a block where no root is
    ∷ ((114 ∷ 111 ∷ 111 ∷ 116 ∷ 32 ∷ 49 ∷ 32 ∷ 99 ∷ 101 ∷ 108 ∷ 108 ∷ 32 ∷ 50 ∷ 10 ∷ []), none)
    ∷ ((114 ∷ 111 ∷ 111 ∷ 116 ∷ 32 ∷ 49 ∷ 32 ∷ 98 ∷ 108 ∷ 111 ∷ 99 ∷ 107 ∷ 32 ∷ 52 ∷ 32 ∷ 99 ∷ 101 ∷ 108 ∷ 108 ∷ 32 ∷ 50 ∷ 10 ∷ []), none)
    ∷ ((98 ∷ 108 ∷ 111 ∷ 99 ∷ 107 ∷ 32 ∷ 52 ∷ 10 ∷ []), none)
    ∷ ([], none)
    ∷ []
