-- `step_close::close_pass` meets its contract.
use mathlib.Core.Path.{◌≡◌}
use Prim.Native.Nat.{◌*◌, ◌≤◌}
use mathlib.Core.List.{[]}
use Rattle.rules.specs.Heap.{max_blocks}
use Rattle.count_up.specs.Ready.{part_memory}
use Rattle.step_close.specs.Close.{closing, close_below, close_blocks, held, Standing}
use Rattle.step_close.proofs.close_pass.Given as goal

abbrev pub invariant-loop-i : goal.invariant-loop-i
invariant-loop-i l =
    (held l.a l.b l.counts l.cells l.waiting l.d l.top ≡ close_below l.blocks l.width l.marks (closing (part_memory l.initial.a l.initial.b l.initial.counts l.initial.cells [] l.initial.d) []) l.i)
    × (l.freed ≡ close_blocks l.blocks l.width l.marks (closing (part_memory l.initial.a l.initial.b l.initial.counts l.initial.cells [] l.initial.d) []) l.i) × (l.freed ≤ max_blocks * l.i)
    × Standing l.blocks l.width l.a l.b l.counts l.cells l.waiting l.sections l.d l.top
