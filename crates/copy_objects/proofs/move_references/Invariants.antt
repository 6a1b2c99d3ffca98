-- `move_references` meets its contract.
use mathlib.Core.Path.{◌≡◌}
use Prim.Native.Nat.{◌+◌}
use lib.ListN.{get_or}
use Rattle.rules_copy.specs.Copy.{fill_cells}
use Rattle.copy_objects.specs.Copying.{moved_to}
use Rattle.copy_objects.proofs.move_references.Given as goal

abbrev pub invariant-loop-i : goal.invariant-loop-i
invariant-loop-i l = l.refs2 ≡ fill_cells (λ k. moved_to l.moved (get_or l.refs (l.j + k) 0)) l.initial.refs2 l.j2 l.i
