-- `step_list::mix` meets its contract.
use mathlib.Core.Path.{◌≡◌}
use Prim.Native.Nat.{◌-◌}
use lib.ListN.{length}
use Rattle.step_list.proofs.Mixing.{Mixing}
use Rattle.step_list.proofs.mix.Given as goal

abbrev pub invariant-loop-i : goal.invariant-loop-i
invariant-loop-i l = Mixing l.blocks l.old l.marks l.initial.map l.i l.map × (length l.map ≡ length l.initial.map)

abbrev pub decreases-loop-i : goal.decreases-loop-i
decreases-loop-i l = l.blocks - l.i
