-- `count_down::drop_four` meets its contract: what the first cells of the run named is counted down.
use Rattle.rules_stores.specs.Store.{work, count_down_each}
use Rattle.count_up.specs.Stack.{top_first, counted, remaining, Worked}
use Rattle.count_down.proofs.drop_four.Given as goal

abbrev pub invariant-loop-v : goal.invariant-loop-v
invariant-loop-v l =
    Worked counted l.blocks l.width (count_down_each l.blocks l.width (work l.initial.counts (top_first l.initial.waiting l.initial.top)) l.fn.cells l.j l.v-index)
    (remaining counted l.blocks l.width l.initial.counts l.initial.top) l.counts l.waiting l.top
