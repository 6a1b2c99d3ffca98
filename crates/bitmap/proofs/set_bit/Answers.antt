-- `bitmap::set_bit` meets its contract: a run of one bit is `put_bit`'s.
use mathlib.Core.Path.{ap, ◌∙◌}
use Prim.Native.Nat.{◌/◌, ◌%◌}
use lib.ListN.{get_or, set}
use Rattle.bitmap.specs.Bit.{set_bit}
use Rattle.bitmap.proofs.Masks.{run_one}
use Rattle.bitmap.proofs.set_bit.Goals as goal

pub returns : goal.returns
unfolding set_bit
returns c =
    ap (set c.args.map.now (c.args.i / 8)) (c.fill_byte.ensures ∙ run_one (get_or c.args.map.now (c.args.i / 8) 0) (c.args.i % 8) c.args.v)
