use mathlib.Core.Path.{refl}
use Prim.Native.Nat.{ℕ, ◌+◌, ◌≤◌}
use mathlib.Core.List.{List}
use native.Mathlib.Omega.{arith}
use lib.ListN.{length, length-set}
use Rattle.walk_shape.specs.Listing.{shape_up_to}
use Rattle.walk_shape.proofs.Laws.{length_start, shape_upto, put_start, object_room, put_next}
use Rattle.walk_shape.proofs.write_shape.Goals as goal

-- there is room for the roots
roots_room : (blocks met long : ℕ) (b d cells roots order numbers : List ℕ)
    → length (shape_up_to blocks b d cells roots order numbers met) ≤ long → 1 + length roots ≤ long
roots_room blocks met long b d cells roots order numbers fits =
    omega (arith, fits, shape_upto blocks b d cells roots order numbers 0 met (omega arith), length_start blocks b d cells roots order numbers)

pub bounds-out-0 : goal.bounds-out-0
bounds-out-0 c = omega (arith, roots_room _ _ _ _ _ _ _ _ _ c.requires.1)

pub slice_bounds-put_numbers-end : goal.slice_bounds-put_numbers-end
slice_bounds-put_numbers-end c = omega (arith, roots_room _ _ _ _ _ _ _ _ _ c.requires.1, length-set c.args.out.now 0 (length c.args.roots.now))

pub loop-reference-init : goal.loop-reference-init
loop-reference-init c =
    put_start c.args.blocks c.args.b.now c.args.d.now c.args.cells.now c.args.roots.now c.args.order.now c.args.numbers.now _ _ _ _ refl
    (omega (arith, roots_room _ _ _ _ _ _ _ _ _ c.requires.1)) (omega arith) c.put_numbers.ensures

pub write_object-to-requires : goal.write_object-to-requires
write_object-to-requires c = (
  object_room c.args.blocks c.args.b.now c.args.d.now c.args.cells.now c.args.roots.now c.args.order.now c.args.numbers.now c.requires.1
      c.loop-reference-test.true c.loop-reference.invariant,
  omega (arith, c.requires.0.ordered.some _ c.loop-reference-test.true, c.requires.0.ordered.below _ c.loop-reference-test.true),
  c.requires.0.ordered.small,
  c.requires.0.ordered.long_b,
  c.requires.0.long_d,
  c.requires.0.long_cells,
  c.requires.0.of_cells _ c.loop-reference-test.true,
)

pub loop-reference-preserved : goal.loop-reference-preserved
loop-reference-preserved c =
    put_next c.args.blocks c.args.b.now c.args.d.now c.args.cells.now c.args.roots.now c.args.order.now c.args.numbers.now c.requires.1
    c.loop-reference-test.true c.loop-reference.invariant c.write_object-to.ensures
