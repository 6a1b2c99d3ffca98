-- `history_plans::plan_clear` meets its contract.
use mathlib.Core.Path.{sym}
use Rattle.history_plans.proofs.Plans.{clear_target, clear_asked}
use Rattle.history_plans.proofs.plan_clear.Goals as goal

pub returns-then-roots-f : goal.returns-then-roots-f
returns-then-roots-f c = sym (clear_target _ _ c.if-roots-f.true)

pub returns-else-roots-f : goal.returns-else-roots-f
returns-else-roots-f c = sym (clear_asked _ _ c.if-roots-f.false)
