use mathlib.Core.Path.{◌≡◌, refl, ap, ◌∙◌}
use mathlib.Core.List.{[]}
use Rattle.count_up.specs.Stack.{top_first}
use Rattle.count_up.proofs.Stack.{stack_empty}
use Rattle.count_up.specs.Ready.{part_memory}
use Rattle.step_close.specs.Close.{closing, close_below, close_blocks}
use Rattle.step_close.proofs.Closes.{close_next, close_blocks_next}
use native.Mathlib.Omega.{arith}
use Rattle.step_close.proofs.close_pass.Goals as goal

pub loop-i-init : goal.loop-i-init
unfolding close_below close_blocks top_first
loop-i-init c =
    (refl, refl, omega arith, record { planes = c.requires.0; extents = c.requires.1; stack = stack_empty c.requires.2; coherent = c.requires.3 })

pub close_one-one-requires : goal.close_one-one-requires
close_one-one-requires c =
    (c.loop-i.invariant.3, c.requires.4, c.loop-i-test.true)

pub overflow_add-freed : goal.overflow_add-freed
overflow_add-freed c =
    omega (arith, c.loop-i.invariant.2, c.close_one-one.ensures.2, c.loop-i.invariant.3.planes.most, c.loop-i-test.true)

pub loop-i-preserved : goal.loop-i-preserved
loop-i-preserved c = (
  close_next c.args.blocks c.args.width c.args.marks.now (closing (part_memory c.args.a.now c.args.b.now c.args.counts.now c.args.cells.now [] c.args.d.now) []) c.loop-i.i c.loop-i.invariant.0 c.close_one-one.ensures.0,
  close_blocks_next c.args.blocks c.args.width c.args.marks.now (closing (part_memory c.args.a.now c.args.b.now c.args.counts.now c.args.cells.now [] c.args.d.now) []) c.loop-i.i c.loop-i.invariant.0
      c.loop-i.invariant.1 c.close_one-one.ensures.1,
  omega (arith, c.loop-i.invariant.2, c.close_one-one.ensures.2, c.loop-i.invariant.3.planes.most),
  c.close_one-one.ensures.3,
)

pub returns : goal.returns
returns c =
    let done : c.loop-i.i ≡ c.args.blocks = omega arith in (
      c.loop-i.invariant.0 ∙ ap (close_below c.args.blocks c.args.width c.args.marks.now (closing (part_memory c.args.a.now c.args.b.now c.args.counts.now c.args.cells.now [] c.args.d.now) [])) done,
      c.loop-i.invariant.1 ∙ ap (close_blocks c.args.blocks c.args.width c.args.marks.now (closing (part_memory c.args.a.now c.args.b.now c.args.counts.now c.args.cells.now [] c.args.d.now) [])) done,
      omega (arith, c.loop-i.invariant.2),
      c.loop-i.invariant.3,
    )
