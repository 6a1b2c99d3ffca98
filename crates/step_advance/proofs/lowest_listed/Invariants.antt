-- `step_advance::lowest_listed` meets its contract.
use mathlib.Core.Path.{◌≡◌}
use Prim.Native.Nat.{◌-◌}
use lib.ListN.{length}
use Rattle.step_advance.proofs.Flags.{Sought}
use Rattle.step_advance.proofs.lowest_listed.Given as goal

abbrev pub invariant-loop-from : goal.invariant-loop-from
invariant-loop-from l = Sought l.blocks l.listed l.flags l.from × (length l.flags ≡ length l.initial.flags)

abbrev pub decreases-loop-from : goal.decreases-loop-from
decreases-loop-from l = l.blocks - l.from
