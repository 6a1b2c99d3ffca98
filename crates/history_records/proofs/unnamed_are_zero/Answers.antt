-- `history_records::unnamed_are_zero` meets its contract.
use mathlib.Core.Path.{sym, ◌∙◌}
use native.Mathlib.Omega.{arith}
use Rattle.rules.specs.Tools.{all}
use Rattle.history_records.proofs.Unnamed.{unused_set, unnamed_zero, unknown_zero}
use Rattle.history_records.proofs.unnamed_are_zero.Goals as goal

pub returns-then-f-ne0 : goal.returns-then-f-ne0
returns-then-f-ne0 c = sym (unused_set _ c.if-f-ne0.true)

pub returns-in-1 : goal.returns-in-1
unfolding all
returns-in-1 c = c.are_zero.ensures ∙ sym (unnamed_zero _ 1 c.if-f-ne0.false c.in-1.is)

pub returns-in-2 : goal.returns-in-2
unfolding all
returns-in-2 c = c.are_zero-in-2.ensures ∙ sym (unnamed_zero _ 2 c.if-f-ne0.false c.in-2.is)

pub returns-in-3 : goal.returns-in-3
unfolding all
returns-in-3 c = c.are_zero-in-3.ensures ∙ sym (unnamed_zero _ 3 c.if-f-ne0.false c.in-3.is)

pub returns-in-4 : goal.returns-in-4
unfolding all
returns-in-4 c = c.are_zero-in-4.ensures ∙ sym (unnamed_zero _ 4 c.if-f-ne0.false c.in-4.is)

pub returns-in-5 : goal.returns-in-5
unfolding all
returns-in-5 c = c.are_zero-in-5.ensures ∙ sym (unnamed_zero _ 5 c.if-f-ne0.false c.in-5.is)

pub returns-in-6 : goal.returns-in-6
unfolding all
returns-in-6 c = c.are_zero-in-6.ensures ∙ sym (unnamed_zero _ 6 c.if-f-ne0.false c.in-6.is)

pub returns-in-7 : goal.returns-in-7
unfolding all
returns-in-7 c = c.are_zero-in-7.ensures ∙ sym (unnamed_zero _ 7 c.if-f-ne0.false c.in-7.is)

pub returns-in-8 : goal.returns-in-8
unfolding all
returns-in-8 c = c.are_zero-in-8.ensures ∙ sym (unnamed_zero _ 8 c.if-f-ne0.false c.in-8.is)

pub returns-in_default : goal.returns-in_default
returns-in_default c =
    sym
    (unknown_zero _ (omega arith) (omega arith) (omega arith) (omega arith) (omega arith) (omega arith) (omega arith) (omega arith)
    c.if-f-ne0.false)
