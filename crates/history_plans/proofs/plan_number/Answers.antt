-- `history_plans::plan_number` meets its contract.
use mathlib.Core.Path.{sym}
use Rattle.history_plans.proofs.Plans.{number_target, number_empty, number_asked}
use Rattle.history_plans.proofs.plan_number.Goals as goal

pub returns-then-roots-f : goal.returns-then-roots-f
returns-then-roots-f c = sym (number_target _ _ c.if-roots-f.true)

pub returns-then-owner-eq0 : goal.returns-then-owner-eq0
returns-then-owner-eq0 c =
    sym (number_empty _ _ c.if-roots-f.false c.if-owner-eq0.true)

pub returns : goal.returns
returns c =
    sym (number_asked _ _ c.if-roots-f.false c.if-owner-eq0.false)
