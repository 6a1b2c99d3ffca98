-- `step_marks::shade_freed` meets its contract: where nothing is open nothing is written.
use mathlib.Core.Path.{refl}
use native.Mathlib.Omega.{arith}
use Rattle.std.proofs.lemmas.Grind.{common_steps}
use Rattle.step_marks.specs.Marks.{mark_named}
use Rattle.step_marks.proofs.Marked.{freed_open, freed_shut, mark_more}
use Rattle.step_marks.proofs.shade_freed.Goals as goal

pub loop-v-init : goal.loop-v-init
unfolding mark_named
loop-v-init c = refl

pub loop-v-preserved : goal.loop-v-preserved
loop-v-preserved c = grind (arith, common_steps, mark_more)

pub returns-after-loop-v : goal.returns-after-loop-v
returns-after-loop-v c =
    freed_open _ _ _ _ _ c.if-shade.true c.set_bit.ensures (grind (arith, common_steps, c.loop-v.invariant))

pub returns-else-shade : goal.returns-else-shade
returns-else-shade c = freed_shut _ _ _ _ _ c.if-shade.false
