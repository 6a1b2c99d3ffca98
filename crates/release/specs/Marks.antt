-- The mark map along a release, written as it goes: where a collection is open (`shade`) each freed object leaves it, and its cells mark
-- what they named. That this is the rules' map is shown on undamaged heaps in crate `refinement_stores` (ReleasedMap).
use Rattle.std.specs.Prelude.{ℕ, zero, suc, Bool, List, [], ◌∷◌}
use Rattle.rules.specs.Heap.{Memory, with_counts, size_at}
use Rattle.rules_stores.specs.Store.{work, count_down, naming_cells, work_after, memory_after}
use Rattle.step_marks.specs.Marks.{freed_marks}

-- along `release`
unfoldable pub released_marks : (shade : Bool) → (steps : ℕ) → ℕ → ℕ → Memory → (stack marks : List ℕ) → List ℕ
released_marks shade zero N w h stack marks = marks
released_marks shade (suc f) N w h [] marks = marks
released_marks shade (suc f) N w h (i ∷ rest) marks =
    released_marks shade f N w (memory_after N w h i rest) (work_after N w h i rest).stack
    (freed_marks shade N marks h.cells i (naming_cells h.d i (size_at N h i)))

-- along `let_go`
unfoldable pub let_go_marks : (shade : Bool) → ℕ → ℕ → Memory → (v : ℕ) → (marks : List ℕ) → List ℕ
let_go_marks shade N w h v marks =
    let s = count_down N w (work h.counts []) v in
    released_marks shade N N w (with_counts s.counts h) s.stack marks
