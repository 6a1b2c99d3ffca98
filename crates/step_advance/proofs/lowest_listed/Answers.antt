use mathlib.Core.Path.{refl, sym, ◌∙◌}
use Rattle.step_advance.proofs.Flags.{sought_start, sought_found, sought_next, sought_all}
use native.Mathlib.Omega.{arith}
use Rattle.step_advance.proofs.lowest_listed.Goals as goal

pub loop-from-init : goal.loop-from-init
loop-from-init c =
    (sought_start c.requires.6 c.requires.5 c.requires.4, refl)

pub section_end-end-requires : goal.section_end-end-requires
section_end-end-requires c = (c.loop-from-test.true, c.requires.0, c.requires.1)

pub look_in-found-requires : goal.look_in-found-requires
look_in-found-requires c =
    (c.section_end-end.ensures.0, c.section_end-end.ensures.1, c.requires.1, c.requires.2, omega (arith, c.requires.3, c.loop-from.invariant.1), c.loop-from.invariant.0.flagged, c.loop-from.invariant.0.clear)

pub returns-then-is_some : goal.returns-then-is_some
returns-then-is_some c =
    sought_found c.loop-from.invariant.0 c.section_end-end.ensures.0 _ c.look_in-found.ensures (sym c.is_some.ensures ∙ c.if-is_some.true)

pub loop-from-smaller : goal.loop-from-smaller
loop-from-smaller c = omega (arith, c.section_end-end.ensures.0.some, c.section_end-end.ensures.0.within)

pub loop-from-preserved : goal.loop-from-preserved
loop-from-preserved c = (
  sought_next c.loop-from.invariant.0 c.section_end-end.ensures.0 _ c.look_in-found.ensures (sym c.is_some.ensures ∙ c.if-is_some.false),
  c.look_in-found.auto.flags ∙ c.loop-from.invariant.1,
)

pub returns : goal.returns
returns c = sought_all c.loop-from.invariant.0 (omega arith)
