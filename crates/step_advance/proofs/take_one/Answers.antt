-- `step_advance::take_one` meets its contract.
use Rattle.step_advance.proofs.Flags.{flown_at}
use Rattle.step_advance.proofs.take_one.Goals as goal

pub returns : goal.returns
returns c =
    flown_at c.args.blocks c.args.x c.args.b.now c.args.d.now c.args.cells.now c.requires.7 c.requires.5
    c.object_size-n.ensures.0 c.naming_cells-named.ensures.0 c.set_bit.ensures c.shade_cells.ensures
