-- `history_plans::plan_read` meets its contract.
use mathlib.Core.Path.{sym, ◌∙◌}
use native.Mathlib.Omega.{arith}
use Rattle.history_plans.proofs.Plans.{roots_in, read_out, read_empty, read_past, read_number_lem, read_asked}
use Rattle.history_plans.proofs.plan_read.Goals as goal

pub returns-then-not-both_roots : goal.returns-then-not-both_roots
returns-then-not-both_roots c = sym (read_out _ _ (sym c.both_roots.ensures ∙ c.if-not-both_roots.true) _)

pub offset_bounds-roots-f : goal.offset_bounds-roots-f
offset_bounds-roots-f c = omega (arith, (roots_in _ _ (sym c.both_roots.ensures ∙ c.if-not-both_roots.false)).1)

pub bounds-roots-f : goal.bounds-roots-f
bounds-roots-f c = (roots_in _ _ (sym c.both_roots.ensures ∙ c.if-not-both_roots.false)).1

pub returns-then-owner-eq0 : goal.returns-then-owner-eq0
returns-then-owner-eq0 c = sym (read_empty _ _ (sym c.both_roots.ensures ∙ c.if-not-both_roots.false) _ c.if-owner-eq0.true)

pub object_size-requires : goal.object_size-requires
object_size-requires c =
    (c.requires.b_length, omega (arith, c.requires.named c.args.f.s))

pub returns-then-object_size-f : goal.returns-then-object_size-f
returns-then-object_size-f c =
    sym
    (read_past _ _ (sym c.both_roots.ensures ∙ c.if-not-both_roots.false) _ c.if-owner-eq0.false (omega (arith, c.object_size.ensures.0, c.if-object_size-f.true)))

pub get_bit-requires : goal.get_bit-requires
get_bit-requires c =
    omega (arith, c.requires.d_length, c.requires.named c.args.f.s)

pub returns-then-get_bit-eq1 : goal.returns-then-get_bit-eq1
returns-then-get_bit-eq1 c =
    sym
    (read_number_lem _ _ (sym c.both_roots.ensures ∙ c.if-not-both_roots.false) _ c.if-owner-eq0.false
    (omega (arith, c.object_size.ensures.0, c.if-object_size-f.false)) (sym c.get_bit.ensures.0 ∙ c.if-get_bit-eq1.true))

pub returns : goal.returns
returns c =
    sym
    (read_asked _ _ (sym c.both_roots.ensures ∙ c.if-not-both_roots.false) _ c.if-owner-eq0.false
    (omega (arith, c.object_size.ensures.0, c.if-object_size-f.false)) (λ e. c.if-get_bit-eq1.false (c.get_bit.ensures.0 ∙ e)))
