-- `check_counts::plane_byte` meets its contract.
use native.Mathlib.Omega.{arith}
use Rattle.planes.proofs.PlaneBits.{plane_inside}
use Rattle.check_counts.proofs.plane_byte.Goals as goal

pub overflow_mul-result : goal.overflow_mul-result
overflow_mul-result c =
    omega (arith, plane_inside c.args.bytes c.args.p c.args.width c.if-p-width.true)

pub overflow_add-result : goal.overflow_add-result
overflow_add-result c =
    omega (arith, plane_inside c.args.bytes c.args.p c.args.width c.if-p-width.true)

pub bounds-counts-p : goal.bounds-counts-p
bounds-counts-p c =
    omega (arith, plane_inside c.args.bytes c.args.p c.args.width c.if-p-width.true)
