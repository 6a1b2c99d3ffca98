-- `check_counts::kind_in_array` meets its contract.
use Rattle.check_counts.proofs.Late.{all_cleared}
use Rattle.check_counts.proofs.kind_in_array.Goals as goal

pub kind_in-requires : goal.kind_in-requires
kind_in-requires g c = (c.requires.0, all_cleared _ c.args.blocks c.requires.1)
