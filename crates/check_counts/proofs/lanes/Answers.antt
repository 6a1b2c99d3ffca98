-- `check_counts::lanes` meets its contract.
use Prim.Native.Nat.{◌*◌, ◌+◌, ◌/◌, ◌^◌}
use native.Mathlib.Omega.{arith}
use lib.Bits.{bit_and, and_le_r}
use Rattle.check_counts.proofs.Packs.{spread_is}
use Rattle.check_counts.proofs.lanes.Goals as goal

pub overflow_add-result : goal.overflow_add-result
overflow_add-result c =
    omega (arith, and_le_r (c.args.x * 72340172838076673) 9241421688590303745)

pub returns : goal.returns
returns c = (
  spread_is c.args.x (omega arith),
  and_le_r ((bit_and (c.args.x * 72340172838076673) 9241421688590303745 + 9187201950435737471) / 2 ^ 7) 72340172838076673,
)
