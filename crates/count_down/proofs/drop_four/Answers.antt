-- Cells that are 0 stay as they are, and name nothing.
use mathlib.Core.Path.{◌≡◌, refl, sym}
use native.Mathlib.Omega.{arith}
use Rattle.std.proofs.lemmas.Grind.{common_steps}
use Rattle.rules_stores.specs.Store.{count_down_each}
use Rattle.count_down.proofs.CountDown.{passed_each, clear_none, each_more}
use Rattle.count_down.proofs.drop_four.Goals as goal

pub returns-then-any_of_four-eq0 : goal.returns-then-any_of_four-eq0
returns-then-any_of_four-eq0 c =
    let zeros = c.any_of_four.ensures c.if-any_of_four-eq0.true in
    (passed_each c.args.cells.now c.args.j 4 zeros c.requires.0 c.requires.1, sym (clear_none c.args.cells.now c.args.j 4 zeros))

pub loop-v-init : goal.loop-v-init
unfolding count_down_each
loop-v-init c = record { result = refl; planes = c.requires.0; stack = c.requires.1; left_is = refl }

pub count_down-top-requires : goal.count_down-top-requires
count_down-top-requires c = (c.loop-v.invariant.planes, c.loop-v.invariant.stack)

pub loop-v-preserved : goal.loop-v-preserved
loop-v-preserved c = each_more _ _ _ _ (grind (arith, common_steps)) c.loop-v.invariant c.count_down-top.ensures

pub returns : goal.returns
returns c =
    let done : c.loop-v.v-index ≡ 4 = grind (arith, common_steps) in
    (rw done at c.loop-v.invariant, c.clear_cells.ensures)
