-- `count_down::count_down` meets its contract: each way out is one of the laws of counting down.
use mathlib.Core.Path.{refl}
use native.Mathlib.Omega.{arith}
use Rattle.count_down.proofs.CountDown.{down_unnamed, down_zero, down_stuck, lowered}
use Rattle.count_down.proofs.count_down.Goals as goal
use Rattle.count_down.proofs.count_down.Goals.{then-count-eq0-via-then-count-eq0, then-count-eq0-via-else-count-eq0+then-count-capacity_of}

pub returns-in_default : goal.returns-in_default
returns-in_default c = down_unnamed c.requires.0 c.requires.1 (c.in_default.ensures.none refl)

pub returns-then-count-eq0 : goal.returns-then-count-eq0
returns-then-count-eq0 c = elim c.then-count-eq0.branch [
  | then-count-eq0-via-then-count-eq0 w ↦
      down_zero c.requires.0 c.requires.1 _ c.in-Some.ensures.some.0 (omega (arith, c.in-Some.ensures.some.1)) c.get_count-count.ensures.0 refl w.if-count-eq0.true
  | then-count-eq0-via-else-count-eq0+then-count-capacity_of w ↦
      down_stuck c.requires.0 c.requires.1 _ c.in-Some.ensures.some.0 (omega (arith, c.in-Some.ensures.some.1)) c.get_count-count.ensures.0 w.capacity_of.ensures.0 w.if-count-capacity_of.true
]

pub bounds-waiting-top : goal.bounds-waiting-top
bounds-waiting-top c =
    (lowered c.requires.0 c.requires.1 _ c.in-Some.ensures.some.0 (omega (arith, c.in-Some.ensures.some.1)) c.get_count-count.ensures.0 c.capacity_of.ensures.0
    c.set_count.ensures c.if-count-eq0.false c.if-count-capacity_of.false).place c.if-count-eq1.true

pub returns-then-count-eq1 : goal.returns-then-count-eq1
returns-then-count-eq1 c =
    (lowered c.requires.0 c.requires.1 _ c.in-Some.ensures.some.0 (omega (arith, c.in-Some.ensures.some.1)) c.get_count-count.ensures.0 c.capacity_of.ensures.0
    c.set_count.ensures c.if-count-eq0.false c.if-count-capacity_of.false).last c.if-count-eq1.true

pub returns-else-count-eq1 : goal.returns-else-count-eq1
returns-else-count-eq1 c =
    (lowered c.requires.0 c.requires.1 _ c.in-Some.ensures.some.0 (omega (arith, c.in-Some.ensures.some.1)) c.get_count-count.ensures.0 c.capacity_of.ensures.0
    c.set_count.ensures c.if-count-eq0.false c.if-count-capacity_of.false).more c.if-count-eq1.false
