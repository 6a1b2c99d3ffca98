-- `walk_reader::number_at` meets its contract.
use mathlib.Core.Path.{sym, ◌∙◌}
use native.Mathlib.Omega.{arith}
use Rattle.walk_reader.proofs.Laws.{number_empty, number_zero, number_digits, number_other}
use Rattle.walk_reader.proofs.number_at.Goals as goal

pub returns-in_default : goal.returns-in_default
returns-in_default c = sym (number_empty c.args.text.now (omega arith))

pub returns-then-first-eq48 : goal.returns-then-first-eq48
returns-then-first-eq48 c = sym (number_zero c.args.text.now (omega arith) c.if-first-eq48.true)

pub returns-then-is_ascii_digit : goal.returns-then-is_ascii_digit
returns-then-is_ascii_digit c =
    c.digits_at.ensures
    ∙ sym (number_digits c.args.text.now (omega arith) c.if-first-eq48.false (omega (arith, c.if-is_ascii_digit.ensures.cases)) (omega (arith, c.if-is_ascii_digit.ensures.cases)))

pub returns-else-is_ascii_digit : goal.returns-else-is_ascii_digit
returns-else-is_ascii_digit c = sym (number_other c.args.text.now (omega arith) (λ low high. omega (arith, c.if-is_ascii_digit.ensures.cases)))
