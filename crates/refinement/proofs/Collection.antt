-- What the whole collection computes, a marking and then a sweep, and the number of blocks that it frees.
use Prim.Native.Nat.{ℕ}
use Rattle.rules.specs.Heap.{Memory, with_counts}
use Rattle.collect_mark.specs.Mark.{mark_counts}
use Rattle.collect_sweep.specs.Sweep.{sweep, sweep_blocks}

unfoldable pub collect_by : ℕ → ℕ → Memory → Memory
collect_by N w h = sweep N w (with_counts (mark_counts N w h) h) N

unfoldable pub collect_blocks : ℕ → ℕ → Memory → ℕ
collect_blocks N w h = sweep_blocks N w (with_counts (mark_counts N w h) h) N
