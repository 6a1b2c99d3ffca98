use Rattle.std.proofs.Common.{◌≡◌, ℕ, ◌+◌, ◌-◌, get_or, take, drop, ap, arith}
use Rattle.std.proofs.lemmas.Grind.{common_steps}
use native.Mathlib.Decide.{ℕ_discrete}
use lib.Bits.{and_le_l, and_le_r, or_add_and}
use Rattle.section_figures.proofs.group_bound.Goals as goal

pub loop-figure-preserved : goal.loop-figure-preserved
loop-figure-preserved c =
    let k : ℕ = c.loop-figure.figure-index in
    let at : ℕ = c.args.from + k in
    let more = get_or c.args.sections.now at 0 in
    let item : get_or (take (c.args.from + 16 - c.args.from) (drop c.args.from c.args.sections.now)) k 0 ≡ more = grind (arith, common_steps) in
    let sum = or_add_and c.loop-figure.any more in
    λ s p q. rw item (elim (ℕ_discrete s at) [
      | yes here ↦ omega (arith, and_le_l c.loop-figure.any more, ap (λ (k : ℕ). get_or c.args.sections.now k 0) here)
      | no other ↦ omega (arith, and_le_r c.loop-figure.any more, c.loop-figure.invariant s p (omega arith))
    ])
