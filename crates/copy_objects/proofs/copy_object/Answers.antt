-- `copy_object` meets its contract.
use mathlib.Core.Path.{◌∙◌}
use native.Mathlib.Nat.{le_trans}
use native.Mathlib.Omega.{arith}
use Rattle.copy_objects.proofs.Objects.{object_copied}
use Rattle.copy_objects.proofs.copy_object.Goals as goal

pub copy_cells-requires : goal.copy_cells-requires
copy_cells-requires c =
    let size = c.object_size-n in
    let m = c.requires.0 in (
      omega (arith, m.long_cells, size.ensures.2),
      omega (arith, m.inside, c.requires.2.cells_length),
      λ other i l. le_trans (m.of_cells (λ e. other (c.get_bit-bit.ensures.0 ∙ e)) i (omega (arith, size.ensures.0))) m.long_moved,
    )

pub set_bit-requires : goal.set_bit-requires
set_bit-requires c =
    let size = c.object_size-n in
    (omega (arith, c.requires.0.inside, size.ensures.0, size.ensures.1, c.requires.2.d_length, c.requires.1.eighths), c.get_bit-bit.ensures.1)

pub returns : goal.returns
returns c =
    object_copied _ _ _ _ _ _ _ _ _ _ _ _ _ c.object_size-n.ensures.0 c.get_bit-bit.ensures.0 c.capacity_of.ensures.0
    c.write_extent.ensures.0 c.write_extent.ensures.1 c.set_count.ensures c.copy_cells.ensures c.set_bit.ensures
