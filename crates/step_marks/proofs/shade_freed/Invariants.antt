-- `step_marks::shade_freed` meets its contract: after some turns what the first cells of the run name is marked.
use mathlib.Core.Path.{◌≡◌}
use Prim.Native.Nat.{◌*◌}
use Rattle.step_marks.specs.Marks.{mark_named}
use Rattle.step_marks.proofs.shade_freed.Given as goal

abbrev pub invariant-loop-v : goal.invariant-loop-v
invariant-loop-v l = l.marks ≡ mark_named l.blocks l.initial.marks l.cells (4 * l.i) l.v-index
