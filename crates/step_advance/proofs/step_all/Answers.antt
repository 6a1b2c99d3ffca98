use mathlib.Core.Path.{refl, ◌∙◌}
use Rattle.step_advance.proofs.Goings.{going_start, going_next, going_empty, going_spent}
use native.Mathlib.Omega.{arith}
use Rattle.step_advance.proofs.step_all.Goals as goal

pub loop-taken-init : goal.loop-taken-init
loop-taken-init c =
    (going_start, refl, refl, refl, c.requires.8, (λ i l. absurd (omega arith)), omega arith)

pub lowest_listed-requires : goal.lowest_listed-requires
lowest_listed-requires c =
    (c.requires.0, c.requires.1, omega (arith, c.requires.6, c.loop-taken.invariant.2), omega (arith, c.requires.7, c.loop-taken.invariant.3), c.loop-taken.invariant.4, c.loop-taken.invariant.5, c.loop-taken.invariant.6)

pub returns-in_default : goal.returns-in_default
returns-in_default c = going_empty c.loop-taken.invariant.0 c.in_default.ensures.next

pub loop-taken-preserved : goal.loop-taken-preserved
loop-taken-preserved c =
    let found = c.in-Some.ensures in
    let step = c.take_one-low in (
      going_next c.loop-taken.invariant.0 c.loop-taken-test.true found.next step.ensures.stepped,
      step.auto.marks ∙ c.loop-taken.invariant.1,
      step.auto.listed ∙ c.loop-taken.invariant.2,
      step.auto.flags ∙ c.lowest_listed.auto.flags ∙ c.loop-taken.invariant.3,
      step.ensures.flagged found.flagged,
      step.ensures.cleared (λ i u. found.next.clear i (omega arith) u),
      omega (arith, step.ensures.lowered, found.next.below),
    )

pub returns : goal.returns
returns c = going_spent c.loop-taken.invariant.0 (omega arith)
