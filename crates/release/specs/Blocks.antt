-- The number of blocks that a release frees, counted as it goes. That this is the growth of the A-map's zeros, as the rules have it, is
-- shown on undamaged heaps in crate `refinement_stores` (FreedBlocks).
use Rattle.std.specs.Prelude.{ℕ, zero, suc, ◌+◌, List, [], ◌∷◌}
use Rattle.rules.specs.Heap.{Memory, with_counts, size_at}
use Rattle.rules_stores.specs.Store.{work, count_down, work_after, memory_after}
use Rattle.count_up.specs.Ready.{part_memory}

-- what code that lets go knows of a memory
abbrev pub part : Memory → Memory
part h = part_memory h.a h.b h.counts h.cells h.waiting h.d

-- the blocks of the objects that `release` frees
unfoldable pub released_blocks : (steps : ℕ) → ℕ → ℕ → Memory → List ℕ → ℕ
released_blocks zero N w h stack = 0
released_blocks (suc f) N w h [] = 0
released_blocks (suc f) N w h (i ∷ rest) =
    size_at N h i + released_blocks f N w (memory_after N w h i rest) (work_after N w h i rest).stack

-- those that `let_go` frees
unfoldable pub let_go_blocks : ℕ → ℕ → Memory → ℕ → ℕ
let_go_blocks N w h v =
    let s = count_down N w (work h.counts []) v in
    released_blocks N N w (with_counts s.counts h) s.stack
