use mathlib.Core.Path.{refl, ◌∙◌}
use native.Mathlib.Omega.{arith}
use Rattle.collect_sweep.specs.Sweep.{sweep, sweep_blocks}
use Rattle.collect_sweep.proofs.Sweeps.{sweep_to_next, sweep_to_end, sweep_next, sweep_blocks_next}
use Rattle.collect_sweep.proofs.sweep.Goals as goal

pub loop-i-init : goal.loop-i-init
unfolding sweep sweep_blocks
loop-i-init c = (omega arith, c.requires.1, refl, refl, omega arith, c.requires.2)

pub loop-i-preserved : goal.loop-i-preserved
loop-i-preserved c =
    let found = c.in-Some.ensures in
    let to = sweep_to_next _ _ _ c.loop-i.invariant.2 found in (
      omega (arith, found.inside),
      record {
        a_length = c.sweep_one-freed.auto.a ∙ c.loop-i.invariant.1.a_length;
        b_length = c.sweep_one-freed.auto.b ∙ c.loop-i.invariant.1.b_length;
        cells_length = c.sweep_one-freed.auto.cells ∙ c.loop-i.invariant.1.cells_length;
        d_length = c.sweep_one-freed.auto.d ∙ c.loop-i.invariant.1.d_length;
      },
      sweep_next _ _ _ _ to.0 c.sweep_one-freed.ensures.0,
      sweep_blocks_next _ _ _ _ to.0 (c.loop-i.invariant.3 ∙ to.1) c.sweep_one-freed.ensures.1,
      omega (arith, c.loop-i.invariant.4, found.from, c.sweep_one-freed.ensures.2, c.requires.0.most),
      c.sweep_one-freed.ensures.3,
    )

pub returns : goal.returns
returns c =
    let to = sweep_to_end _ _ _ c.loop-i.invariant.2 c.loop-i.invariant.0 c.in_default.ensures in
    (to.0, c.loop-i.invariant.3 ∙ to.1, c.loop-i.invariant.5)
