-- `step_list::pass_zeros` meets its contract.
use Prim.Native.Nat.{◌-◌, ◌*◌}
use Rattle.step_list.specs.Lists.{Passed}
use Rattle.step_list.proofs.pass_zeros.Given as goal

abbrev pub invariant-loop-k : goal.invariant-loop-k
invariant-loop-k l = Passed l.map (8 * l.from) (8 * l.end) (8 * l.k)

abbrev pub decreases-loop-k : goal.decreases-loop-k
decreases-loop-k l = l.end - l.k
