use Rattle.std.proofs.Common.{◌≡◌, ◌≤◌, ℕ, ◌+◌, ◌-◌, length, take, drop, replicate, refl, ap, ◌∙◌, arith}
use Rattle.std.proofs.lemmas.Grind.{common_steps}
use Rattle.rules.proofs.Shape.{blocks_le}
use Rattle.section_extents.proofs.UnknownFigures.{sections_of, forgetting_filled, forgotten}
use Rattle.section_extents.proofs.forget.Goals as goal

pub overflow_add-i : goal.overflow_add-i
overflow_add-i c = omega (arith, c.requires.3, blocks_le c.args.blocks c.requires.0)

pub section_of-first-requires : goal.section_of-first-requires
section_of-first-requires c = omega (arith, c.requires.2, c.requires.3)

pub section_of-last-requires : goal.section_of-last-requires
section_of-last-requires c = omega (arith, c.requires.2, c.requires.3)

pub slice_bounds-fill-end : goal.slice_bounds-fill-end
slice_bounds-fill-end c =
    let at = sections_of c.requires.0 c.requires.2 c.requires.3 c.section_of-first.ensures c.section_of-last.ensures in
    omega (arith, at.below, c.requires.1)

pub returns : goal.returns
returns c =
    let at = sections_of c.requires.0 c.requires.2 c.requires.3 c.section_of-first.ensures c.section_of-last.ensures in
    let first : ℕ = c.section_of-first.result in
    let end : ℕ = c.section_of-last.result + 1 in
    let inside : end ≤ length c.args.sections.now = omega (arith, at.below, c.requires.1) in
    let low : first ≤ end = omega (arith, at.upward) in
    let all : length (take (end - first) (drop first c.args.sections.now)) ≡ end - first = grind (arith, common_steps) in
    forgotten at (forgetting_filled low inside (c.fill.ensures.after (λ y e. e) ∙ ap (λ (k : ℕ). replicate k 65535) all)) refl
