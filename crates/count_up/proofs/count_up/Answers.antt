-- `count_up::count_up` meets its contract: each way out is one of the laws of counting up.
use mathlib.Core.Path.{refl}
use native.Mathlib.Omega.{arith}
use Rattle.count_up.proofs.CountUp.{up_none, up_stuck, up_more}
use Rattle.count_up.proofs.count_up.Goals as goal

pub returns-in_default : goal.returns-in_default
returns-in_default c = up_none _ _ _ (grind (arith, c.in_default.ensures.none refl))

pub returns-then-count-most : goal.returns-then-count-most
returns-then-count-most c =
    up_stuck _ _ _ _ c.in-Some.ensures.some.0 c.get_count-count.ensures.0
    c.capacity_of-most.ensures.0 c.if-count-most.true

pub returns : goal.returns
returns c =
    up_more _ _ _ _ c.in-Some.ensures.some.0 c.get_count-count.ensures.0
    c.capacity_of-most.ensures.0 c.if-count-most.false c.set_count.ensures
