-- `history_plans::plan_write` meets its contract.
use mathlib.Core.Path.{sym, ◌∙◌}
use native.Mathlib.Omega.{arith}
use Rattle.history_plans.proofs.Plans.{roots_in, write_out, write_empty, write_asked}
use Rattle.history_plans.proofs.plan_write.Goals as goal

pub returns-then-not-both_roots : goal.returns-then-not-both_roots
returns-then-not-both_roots c = sym (write_out _ _ (sym c.both_roots.ensures ∙ c.if-not-both_roots.true))

pub offset_bounds-roots-f : goal.offset_bounds-roots-f
offset_bounds-roots-f c = omega (arith, (roots_in _ _ (sym c.both_roots.ensures ∙ c.if-not-both_roots.false)).0)

pub bounds-roots-f : goal.bounds-roots-f
bounds-roots-f c = (roots_in _ _ (sym c.both_roots.ensures ∙ c.if-not-both_roots.false)).0

pub returns-then-owner-eq0 : goal.returns-then-owner-eq0
returns-then-owner-eq0 c = sym (write_empty _ _ (sym c.both_roots.ensures ∙ c.if-not-both_roots.false) c.if-owner-eq0.true)

pub offset_bounds-roots-f-2 : goal.offset_bounds-roots-f-2
offset_bounds-roots-f-2 c = omega (arith, (roots_in _ _ (sym c.both_roots.ensures ∙ c.if-not-both_roots.false)).1)

pub bounds-roots-f-2 : goal.bounds-roots-f-2
bounds-roots-f-2 c = (roots_in _ _ (sym c.both_roots.ensures ∙ c.if-not-both_roots.false)).1

pub returns : goal.returns
returns c =
    sym (write_asked _ _ (sym c.both_roots.ensures ∙ c.if-not-both_roots.false) c.if-owner-eq0.false)
