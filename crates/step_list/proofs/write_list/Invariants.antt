-- `step_list::write_list` meets its contract: the blocks of the bytes so far are written.
use mathlib.Core.Path.{◌≡◌}
use Prim.Native.Nat.{◌+◌, ◌*◌}
use lib.ListN.{length}
use Rattle.step_list.specs.Lists.{Written}
use Rattle.step_list.proofs.write_list.Given as goal

abbrev pub invariant-loop-j : goal.invariant-loop-j
invariant-loop-j l = Written l.blocks l.map (8 * l.j) l.place l.list × (length l.list ≡ l.blocks + 1)
