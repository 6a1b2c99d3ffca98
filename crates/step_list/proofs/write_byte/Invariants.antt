-- `step_list::write_byte` meets its contract: what is left of the byte is still to be written. The measure is that, as a number.
use mathlib.Core.Path.{◌≡◌}
use Prim.Native.Nat.{◌+◌}
use lib.ListN.{length}
use Rattle.step_list.proofs.Rising.{Writing}
use Rattle.step_list.proofs.write_byte.Given as goal

abbrev pub invariant-loop-left : goal.invariant-loop-left
invariant-loop-left l = Writing l.blocks l.map l.j l.place l.left l.list × (length l.list ≡ l.blocks + 1)

abbrev pub decreases-loop-left : goal.decreases-loop-left
decreases-loop-left l = l.left
