-- `copy_cells` meets its contract.
use Rattle.copy_objects.proofs.Filling.{part_copied, filled_data, filled_other}
use Rattle.copy_objects.proofs.copy_cells.Goals as goal

pub returns-then-bit-eq1 : goal.returns-then-bit-eq1
returns-then-bit-eq1 c =
    filled_data c.args.bit c.args.moved.now c.args.cells.now c.args.j c.args.cells2.now c.args.j2 c.args.n c.if-bit-eq1.true
    (part_copied c.args.cells.now c.args.j c.args.cells2.now c.args.j2 c.args.n c.requires.0 c.requires.1 c.copy_from_slice.ensures.after)

pub returns-else-bit-eq1 : goal.returns-else-bit-eq1
returns-else-bit-eq1 c =
    filled_other c.args.bit c.args.moved.now c.args.cells.now c.args.j c.args.cells2.now c.args.j2 c.args.n c.if-bit-eq1.false
    c.move_references.ensures
