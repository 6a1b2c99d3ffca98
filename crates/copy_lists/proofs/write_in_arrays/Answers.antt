-- `write_in_arrays` meets its contract.
use Rattle.walk_objects.proofs.Beginning.{trace_begins}
use Rattle.copy_lists.proofs.write_in_arrays.Goals as goal

pub write_in-requires : goal.write_in-requires
write_in-requires g c =
    (c.requires.0, c.requires.1, trace_begins c.args.blocks _ c.requires.0.small c.requires.2)
