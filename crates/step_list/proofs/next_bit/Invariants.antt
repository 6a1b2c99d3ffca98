-- `step_list::next_bit` meets its contract.
use Prim.Native.Nat.{◌-◌}
use Rattle.step_list.specs.Lists.{Passed}
use Rattle.step_list.proofs.next_bit.Given as goal

abbrev pub invariant-loop-i : goal.invariant-loop-i
invariant-loop-i l = Passed l.map l.from l.end l.i

abbrev pub decreases-loop-i : goal.decreases-loop-i
decreases-loop-i l = l.end - l.i
