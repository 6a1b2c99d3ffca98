-- `count_down::drop_cells` meets its contract: the cells of the first i blocks of the run are 0, and what they named is counted down.
use mathlib.Core.Path.{◌≡◌}
use Prim.Native.Nat.{◌*◌}
use Rattle.rules_stores.specs.Store.{work, count_down_each, clear_cells}
use Rattle.count_up.specs.Stack.{top_first, counted, remaining, Worked}
use Rattle.count_down.proofs.drop_cells.Given as goal

abbrev pub invariant-loop-i : goal.invariant-loop-i
invariant-loop-i l =
    (l.cells ≡ clear_cells l.initial.cells l.j (4 * l.i))
    × Worked counted l.blocks l.width (count_down_each l.blocks l.width (work l.initial.counts (top_first l.initial.waiting l.initial.top)) l.initial.cells l.j (4 * l.i))
    (remaining counted l.blocks l.width l.initial.counts l.initial.top) l.counts l.waiting l.top
