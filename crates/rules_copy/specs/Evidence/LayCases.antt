-- Cases of the definitions of Copy.antt (request U14), each on the definition itself: each tells a rule from a wrong one. The wrong rules are
-- the edits of must-fail/. That each case gives what it says is one lemma a list, in proofs/.
use Rattle.std.specs.Prelude.{ℕ, List, [], ◌∷◌, set, replicate}
use Rattle.std.proofs.Math.Option.{Option, none, some}
use Rattle.rules.specs.Heap.{Memory}
use Rattle.rules_copy.specs.Copy.{Laid, laid, copied}
use Rattle.rules.specs.Evidence.SmallHeaps.{eight_blocks, cell_holding, root_holding}

-- X of 2 blocks at 4, in root 1, whose cells 0 and 7 name Y of 1 block at 2; Y names X
unfoldable pub apart : Memory
apart = eight_blocks 52 219 0 20 (set (set (cell_holding 16 3) 23 3) 9 5) (root_holding 1 5)

-- Z of 3 blocks at 0 in root 0, and X and Y of 1 block at 3 and 4 in roots 1 and 2
unfoldable pub close_by : Memory
close_by = eight_blocks 31 227 25 0 (replicate 32 0) (1 ∷ 4 ∷ 5 ∷ 0 ∷ [])

-- the map that the second heap will have, and where each object goes, in U13's order: X at 0, then Y; in 8 blocks no place for four more
unfoldable pub lay_cases : List (Memory × Option Laid)
lay_cases = (apart, some (laid (7 ∷ []) (0 ∷ 2 ∷ []))) ∷ (close_by, some (laid (31 ∷ []) (0 ∷ 3 ∷ 4 ∷ []))) ∷ []

-- the second heap: the bytes of the A-map, the B-map and the counts, the roots, and the cells of the first three blocks
unfoldable pub copy_told : Memory → List (List ℕ)
copy_told h = h.a ∷ h.b ∷ h.counts ∷ h.roots ∷ h.cells ∷ []

unfoldable pub copied_cases : List (List (List ℕ) × List (List ℕ))
copied_cases =
    (copy_told (copied 8 apart 8 2), (7 ∷ []) ∷ (249 ∷ []) ∷ (0 ∷ 5 ∷ []) ∷ root_holding 1 1 ∷ set (set (cell_holding 0 3) 7 3) 9 1 ∷ [])
    ∷ (copy_told (copied 8 close_by 8 2), (31 ∷ []) ∷ (227 ∷ []) ∷ (25 ∷ 0 ∷ []) ∷ (1 ∷ 4 ∷ 5 ∷ 0 ∷ []) ∷ replicate 32 0 ∷ [])
    ∷ []
