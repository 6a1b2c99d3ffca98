-- `fill_lists` meets its contract: five lists are cleared, the objects are written into them, and the roots over what they were.
use mathlib.Core.Path.{ap, ◌∙◌}
use native.Mathlib.Nat.{le_trans}
use native.Mathlib.Omega.{arith}
use Prim.Native.Nat.{ℕ}
use lib.ListN.{replicate}
use Rattle.count_up.proofs.Shapes.{planes_same}
use Rattle.walk_objects.proofs.Numbering.{roots_fit}
use Rattle.refinement_copy.proofs.Routes.{some_object, movable}
use Rattle.refinement_copy.proofs.Filled.{lists_written}
use Rattle.copy_lists.proofs.fill_lists.Goals as goal

pub copy_objects-requires : goal.copy_objects-requires
copy_objects-requires c = (
  c.requires.1.long_order,
  some_object _ _ _ _ _ _ c.requires.0 c.requires.1,
  movable _ _ _ _ _ _ c.requires.0 c.requires.1,
  planes_same c.requires.2.planes c.fill_bytes-3.auto.map,
  record {
    a_length = c.fill_bytes.auto.map ∙ c.requires.2.extents.a_length;
    b_length = c.fill_bytes-2.auto.map ∙ c.requires.2.extents.b_length;
    cells_length = c.clear_all.auto.refs ∙ c.requires.2.extents.cells_length;
    d_length = c.fill_bytes-4.auto.map ∙ c.requires.2.extents.d_length;
  },
)

pub move_references-requires : goal.move_references-requires
move_references-requires c = (
  omega arith,
  omega (arith, c.requires.2.as_many),
  λ i l. le_trans (roots_fit _ _ _ _ _ _ c.requires.0.named i l) c.requires.1.long_moved,
)

pub returns : goal.returns
returns c =
    lists_written _ _ _ _ _ _ c.requires.0 c.requires.1 _ c.args.roots2.now
    (c.fill_bytes.ensures ∙ ap (λ (z : ℕ). replicate z 0) c.requires.2.extents.a_length)
    (c.fill_bytes-2.ensures ∙ ap (λ (z : ℕ). replicate z 255) c.requires.2.extents.b_length)
    (c.fill_bytes-3.ensures ∙ ap (λ (z : ℕ). replicate z 0) c.requires.2.planes.length_is)
    (c.clear_all.ensures ∙ ap (λ (z : ℕ). replicate z 0) c.requires.2.extents.cells_length)
    (c.fill_bytes-4.ensures ∙ ap (λ (z : ℕ). replicate z 0) c.requires.2.extents.d_length)
    c.requires.2.as_many c.copy_objects.ensures c.move_references.ensures
