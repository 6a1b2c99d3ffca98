-- `step_marks::mark_one` meets its contract: one law for each way out.
use mathlib.Core.Path.{refl}
use native.Mathlib.Omega.{arith}
use Rattle.step_marks.proofs.Marked.{mark_unnamed, mark_block}
use Rattle.step_marks.proofs.mark_one.Goals as goal

pub returns-in-Some : goal.returns-in-Some
returns-in-Some c = mark_block _ _ c.in-Some.ensures.some.0 (omega (arith, c.in-Some.ensures.some.1)) c.set_mark.ensures

pub returns-in_default : goal.returns-in_default
returns-in_default c = mark_unnamed _ _ (c.in_default.ensures.none refl)
