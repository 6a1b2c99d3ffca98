-- `check_counts::count_lanes` meets its contract.
use native.Mathlib.Omega.{arith}
use Rattle.check_counts.proofs.Eights.{count_pack}
use Rattle.check_counts.proofs.count_lanes.Goals as goal

pub returns : goal.returns
returns c =
    omega (
      arith,
      c.lanes-ones.ensures.0,
      c.lanes-twos.ensures.0,
      c.lanes-fours.ensures.0,
      c.lanes-eights.ensures.0,
      count_pack c.args.counts.now c.args.bytes c.args.width c.args.k c.plane_byte.result c.plane_byte-2.result
          c.plane_byte-3.result c.plane_byte-4.result (omega arith) (omega arith) c.plane_byte.ensures c.plane_byte-2.ensures
          c.plane_byte-3.ensures c.plane_byte-4.ensures,
    )
