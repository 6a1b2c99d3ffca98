use mathlib.Core.Path.{refl, ap, ◌∙◌}
use Prim.Native.Nat.{◌+◌}
use native.Mathlib.Omega.{arith}
use lib.ListN.{get_or}
use Rattle.std.proofs.lemmas.List.Edits.{get_or-between}
use Rattle.rules_copy.specs.Copy.{fill_cells}
use Rattle.copy_objects.specs.Copying.{moved_to}
use Rattle.copy_objects.proofs.Filling.{fill_more}
use Rattle.copy_objects.proofs.move_references.Goals as goal

pub loop-i-init : goal.loop-i-init
unfolding fill_cells
loop-i-init c = refl

pub loop-i-preserved : goal.loop-i-preserved
loop-i-preserved c =
    let place = get_or-between c.args.refs.now c.args.j (c.args.j + c.args.n) c.loop-i.i 0 (omega arith) in
    fill_more (λ k. moved_to c.args.moved.now (get_or c.args.refs.now (c.args.j + k) 0)) c.args.refs2.now c.args.j2 c.loop-i.invariant
    (c.moved_to.ensures ∙ ap (moved_to c.args.moved.now) place)
