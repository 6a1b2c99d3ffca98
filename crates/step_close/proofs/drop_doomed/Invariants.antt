-- `step_close::drop_doomed` meets its contract: the survivors that the first cells of the run named are counted down.
use Prim.Native.Nat.{◌*◌}
use Rattle.rules_stores.specs.Store.{work}
use Rattle.count_up.specs.Stack.{top_first, counted, remaining, Worked}
use Rattle.step_close.specs.Close.{count_down_survivors}
use Rattle.step_close.proofs.drop_doomed.Given as goal

abbrev pub invariant-loop-v : goal.invariant-loop-v
invariant-loop-v l =
    Worked counted l.blocks l.width (count_down_survivors l.blocks l.width l.marks (work l.initial.counts (top_first l.initial.waiting l.initial.top)) l.fn.cells (4 * l.i) l.v-index)
    (remaining counted l.blocks l.width l.initial.counts l.initial.top) l.counts l.waiting l.top
