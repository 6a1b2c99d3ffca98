-- `map_objects::objects::object_size` meets its contract: every B bit from i to before `at` is 1. The measure is what is left.
use Prim.Native.Nat.{◌-◌, ◌≤◌}
use Rattle.map_objects.proofs.Sizes.{Inner}
use Rattle.map_objects.proofs.objects.object_size.Given as goal

abbrev pub invariant-loop-at : goal.invariant-loop-at
invariant-loop-at l = (l.i ≤ l.at) × (l.at ≤ l.blocks) × Inner l.b l.i l.at

abbrev pub decreases-loop-at : goal.decreases-loop-at
decreases-loop-at l = l.blocks - l.at
