-- `test` meets its contract.
use mathlib.Core.Path.{refl, ◌∙◌, sym}
use Rattle.public_copy.proofs.CopyGates.{gate_misshapen, gate_other_roots, gate_tested}
use Rattle.public_copy.proofs.test.Goals as goal

pub returns-then-not-is_shaped : goal.returns-then-not-is_shaped
returns-then-not-is_shaped c =
    gate_misshapen (sym c.is_shaped.ensures ∙ c.if-not-is_shaped.true) refl

pub returns-then-roots-roots2 : goal.returns-then-roots-roots2
returns-then-roots-roots2 c =
    gate_other_roots c.if-roots-roots2.true refl

pub returns : goal.returns
returns c =
    gate_tested (sym c.is_shaped.ensures ∙ c.if-not-is_shaped.false) c.if-roots-roots2.false c.none_open.ensures.0
