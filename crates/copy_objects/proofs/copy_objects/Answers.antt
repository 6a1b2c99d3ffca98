use mathlib.Core.Path.{◌∙◌}
use native.Mathlib.Omega.{arith}
use Rattle.std.proofs.Common.{ℕ, get_or-take, length-take}
use Rattle.count_up.proofs.Shapes.{planes_same}
use Rattle.copy_objects.proofs.Objects.{objects_start, objects_more}
use Rattle.copy_objects.proofs.copy_objects.Goals as goal

pub loop-reference-init : goal.loop-reference-init
loop-reference-init c =
    (c.requires.3, c.requires.4, objects_start _ _ _ _ _ _ _ _ _)

pub loop-reference-preserved : goal.loop-reference-preserved
loop-reference-preserved c =
    let place = get_or-take c.args.met c.args.order.now c.loop-reference.reference-index 0 (omega (arith, length-take {A = ℕ})) in (
      planes_same c.loop-reference.invariant.0 c.copy_object.auto.counts2,
      record {
        a_length = c.copy_object.auto.a2 ∙ c.loop-reference.invariant.1.a_length;
        b_length = c.copy_object.auto.b2 ∙ c.loop-reference.invariant.1.b_length;
        cells_length = c.copy_object.auto.cells2 ∙ c.loop-reference.invariant.1.cells_length;
        d_length = c.copy_object.auto.d2 ∙ c.loop-reference.invariant.1.d_length;
      },
      objects_more _ _ _ _ _ _ _ _ _ c.loop-reference.reference-index c.loop-reference.invariant.2 (rw place at c.copy_object.ensures),
    )
