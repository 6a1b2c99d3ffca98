-- `step_close::drop_doomed` meets its contract.
use mathlib.Core.Path.{◌≡◌, refl, ap, ◌∙◌}
use native.Mathlib.Omega.{arith}
use Rattle.std.proofs.lemmas.Grind.{common_steps}
use Rattle.step_close.specs.Close.{to_survivor, count_down_survivors}
use Rattle.step_close.proofs.Survivors.{survivors_more}
use Rattle.step_close.proofs.drop_doomed.Goals as goal

pub loop-v-init : goal.loop-v-init
unfolding count_down_survivors
loop-v-init c = record { result = refl; planes = c.requires.0; stack = c.requires.1; left_is = refl }

pub count_down-top-requires : goal.count_down-top-requires
count_down-top-requires c = (c.loop-v.invariant.planes, c.loop-v.invariant.stack)

pub loop-v-preserved : goal.loop-v-preserved
loop-v-preserved c =
    survivors_more _ _ _ _ _ (c.survivor-v.ensures ∙ ap (to_survivor c.args.marks.now) (grind (arith, common_steps))) c.loop-v.invariant c.count_down-top.ensures

pub returns : goal.returns
returns c =
    let done : c.loop-v.v-index ≡ c.naming_cells-named.result = grind (arith, common_steps) in
    (rw (← c.naming_cells-named.ensures.0) (rw done at c.loop-v.invariant), c.clear_cells.ensures, c.set_bit.ensures)
