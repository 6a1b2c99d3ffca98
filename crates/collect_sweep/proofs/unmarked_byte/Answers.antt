-- `collect_sweep::unmarked_byte` meets its contract.
use native.Mathlib.Omega.{arith}
use Rattle.collect_sweep.proofs.Unmarked.{eight_unmarked}
use Rattle.collect_sweep.proofs.unmarked_byte.Goals as goal

pub returns : goal.returns
returns c =
    eight_unmarked c.args.blocks c.args.width _ c.args.k c.first_byte-first.result c.some_byte.result (omega arith)
    (c.first_byte-first.ensures c.args.blocks (omega (arith, c.requires.0.eighths))) c.some_byte.ensures
