-- `history_plans::plan_copy` meets its contract.
use mathlib.Core.Path.{sym, ◌∙◌}
use native.Mathlib.Omega.{arith}
use Rattle.history_plans.proofs.Plans.{roots_in, copy_out, copy_asked}
use Rattle.history_plans.proofs.plan_copy.Goals as goal

pub returns-then-not-both_roots : goal.returns-then-not-both_roots
returns-then-not-both_roots c = sym (copy_out _ _ (sym c.both_roots.ensures ∙ c.if-not-both_roots.true))

pub offset_bounds-roots-f : goal.offset_bounds-roots-f
offset_bounds-roots-f c = omega (arith, (roots_in _ _ (sym c.both_roots.ensures ∙ c.if-not-both_roots.false)).1)

pub bounds-roots-f : goal.bounds-roots-f
bounds-roots-f c = (roots_in _ _ (sym c.both_roots.ensures ∙ c.if-not-both_roots.false)).1

pub returns : goal.returns
returns c = sym (copy_asked _ _ (sym c.both_roots.ensures ∙ c.if-not-both_roots.false))
