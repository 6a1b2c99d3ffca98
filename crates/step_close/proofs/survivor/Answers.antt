-- `step_close::survivor` meets its contract.
use mathlib.Core.Path.{refl, sym, ◌∙◌}
use Rattle.step_close.proofs.Survivors.{survivor_unnamed, survivor_marked, survivor_unmarked}
use Rattle.step_close.proofs.survivor.Goals as goal

pub returns-in-Some : goal.returns-in-Some
returns-in-Some c = survivor_marked _ _ _ c.in-Some.ensures.some.0 (sym c.get_bit.ensures.0 ∙ c.if-get_bit-eq1.true)

pub returns-in_default : goal.returns-in_default
returns-in_default c = survivor_unmarked _ _ _ c.in-Some.ensures.some.0 (λ e. c.if-get_bit-eq1.false (c.get_bit.ensures.0 ∙ e))

pub returns-in_default-2 : goal.returns-in_default-2
returns-in_default-2 c = survivor_unnamed _ _ c.requires (c.in_default.ensures.none refl)
