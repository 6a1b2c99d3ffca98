-- `walk_reader::ending_at` meets its contract.
use mathlib.Core.Path.{sym, ap, ◌∙◌}
use native.Mathlib.Omega.{arith}
use Rattle.rules_output.specs.Sentence.{ended}
use Rattle.walk_reader.specs.Reader.{seen}
use Rattle.walk_reader.proofs.Told.{ended_nothing, ended_line, ended_other}
use Rattle.walk_reader.proofs.ending_at.Goals as goal

pub returns-in_err-number_at : goal.returns-in_err-number_at
returns-in_err-number_at c = let h = c.in_err-number_at.was in let k = c.in_err-number_at.ensures in ap seen c.from_residual.ensures ∙ sym (ended_nothing _ (sym k))

pub returns-in_default-eq10 : goal.returns-in_default-eq10
returns-in_default-eq10 c = let k = c.in_ok-number_at.ensures in
    sym (ap ended (sym k) ∙ ended_line c.in_ok-number_at.field-0.0 c.in_ok-number_at.field-0.1.now (omega arith) (omega arith))

pub returns-in_default : goal.returns-in_default
returns-in_default c = let k = c.in_ok-number_at.ensures in
    sym (ap ended (sym k) ∙ ended_other c.in_ok-number_at.field-0.0 c.in_ok-number_at.field-0.1.now (λ one ten. absurd (omega arith)))

pub returns-in_default-2 : goal.returns-in_default-2
returns-in_default-2 c = let k = c.in_ok-number_at.ensures in
    sym (ap ended (sym k) ∙ ended_other c.in_ok-number_at.field-0.0 c.in_ok-number_at.field-0.1.now (λ one ten. absurd (omega arith)))

pub returns-in_default-3 : goal.returns-in_default-3
returns-in_default-3 c = let k = c.in_ok-number_at.ensures in
    sym (ap ended (sym k) ∙ ended_other c.in_ok-number_at.field-0.0 c.in_ok-number_at.field-0.1.now (λ one ten. absurd (omega arith)))
