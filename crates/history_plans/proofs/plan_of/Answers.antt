-- `history_plans::plan_of` meets its contract: each operation's plan is the one of its number.
use mathlib.Core.Path.{sym, ◌∙◌}
use native.Mathlib.Omega.{arith}
use Rattle.history_plans.specs.Asked.{on_roots, allocating, copying, writing, clearing, allocating_data, writing_number}
use Rattle.history_plans.proofs.Plans.{nonzero_asked, known_asked, unknown_asked}
use Rattle.history_plans.proofs.plan_of.Goals as goal

pub returns-then-not-unnamed_are_zero : goal.returns-then-not-unnamed_are_zero
returns-then-not-unnamed_are_zero c = sym (nonzero_asked _ _ _ (sym c.unnamed_are_zero.ensures ∙ c.if-not-unnamed_are_zero.true))

pub returns-in-1 : goal.returns-in-1
unfolding allocating
returns-in-1 c = sym (known_asked _ _ _ (sym c.unnamed_are_zero.ensures ∙ c.if-not-unnamed_are_zero.false) 1 c.in-1.is)

pub returns-in-2 : goal.returns-in-2
unfolding copying on_roots
returns-in-2 c = c.plan_copy.ensures ∙ sym (known_asked _ _ _ (sym c.unnamed_are_zero.ensures ∙ c.if-not-unnamed_are_zero.false) 2 c.in-2.is)

pub returns-in-3 : goal.returns-in-3
unfolding writing on_roots
returns-in-3 c = c.plan_write.ensures ∙ sym (known_asked _ _ _ (sym c.unnamed_are_zero.ensures ∙ c.if-not-unnamed_are_zero.false) 3 c.in-3.is)

pub returns-in-4 : goal.returns-in-4
returns-in-4 c = c.plan_read.ensures ∙ sym (known_asked _ _ _ (sym c.unnamed_are_zero.ensures ∙ c.if-not-unnamed_are_zero.false) 4 c.in-4.is)

pub returns-in-5 : goal.returns-in-5
unfolding clearing
returns-in-5 c = c.plan_clear.ensures ∙ sym (known_asked _ _ _ (sym c.unnamed_are_zero.ensures ∙ c.if-not-unnamed_are_zero.false) 5 c.in-5.is)

pub returns-in-6 : goal.returns-in-6
returns-in-6 c = sym (known_asked _ _ _ (sym c.unnamed_are_zero.ensures ∙ c.if-not-unnamed_are_zero.false) 6 c.in-6.is)

pub returns-in-7 : goal.returns-in-7
unfolding allocating_data
returns-in-7 c = sym (known_asked _ _ _ (sym c.unnamed_are_zero.ensures ∙ c.if-not-unnamed_are_zero.false) 7 c.in-7.is)

pub returns-in-8 : goal.returns-in-8
unfolding writing_number
returns-in-8 c = c.plan_number.ensures ∙ sym (known_asked _ _ _ (sym c.unnamed_are_zero.ensures ∙ c.if-not-unnamed_are_zero.false) 8 c.in-8.is)

pub returns-in_default : goal.returns-in_default
returns-in_default c =
    sym
    (unknown_asked _ (omega arith) (omega arith) (omega arith) (omega arith) (omega arith) (omega arith) (omega arith) (omega arith)
    _ _ (sym c.unnamed_are_zero.ensures ∙ c.if-not-unnamed_are_zero.false))
