use mathlib.Core.Path.{refl, sym, ap, ◌∙◌}
use Prim.Native.Nat.{ℕ, ◌+◌}
use native.Mathlib.Omega.{arith}
use lib.ListN.{length}
use Rattle.search_walk.specs.Search.{answered}
use Rattle.section_search.proofs.BySections.{suffices_start, suffices_here, suffices_next, suffices_past, suffices_none}
use Rattle.section_search.proofs.lowest_section.Goals as goal

pub loop-s-init : goal.loop-s-init
loop-s-init c =
    (omega arith, suffices_start c.args.sections.now c.args.size (length c.args.sections.now))

pub loop-s-preserved : goal.loop-s-preserved
loop-s-preserved c =
    let n : ℕ = length c.args.sections.now in (
      omega arith,
      sym (suffices_past c.args.sections.now c.args.size n 16 c.loop-s.s (c.loop-s.s + 16) refl (omega arith)
          (λ j p q. omega (arith, c.group_bound.ensures j p q)))
          ∙ c.loop-s.invariant.1,
    )

pub returns-then-size-sections : goal.returns-then-size-sections
returns-then-size-sections c =
    ap answered (sym (suffices_here _ _ _ c.loop-t.t (omega arith) c.if-size-sections.true) ∙ c.loop-t.invariant)

pub loop-t-preserved : goal.loop-t-preserved
loop-t-preserved c = sym (suffices_next _ _ _ c.loop-t.t (omega arith) c.if-size-sections.false) ∙ c.loop-t.invariant

pub returns : goal.returns
returns c = ap answered (sym (suffices_none _ _ _ c.loop-t.t (omega arith)) ∙ c.loop-t.invariant)
