-- `bitmap::fill_byte` meets its contract: the byte made by the mask is `putRun`'s.
use native.Mathlib.Omega.{arith}
use Rattle.bitmap.proofs.Masks.{mask_of, mask_lt, times_le, machine_run}
use Rattle.bitmap.proofs.fill_byte.Goals as goal

pub overflow_mul-result : goal.overflow_mul-result
overflow_mul-result c =
    omega (arith, times_le (mask_of c.args.from c.args.count) c.args.v c.requires.2, mask_lt c.args.from c.args.count c.requires.0 c.requires.1)

pub returns : goal.returns
returns c =
    machine_run c.args.byte c.args.from c.args.count c.args.v (omega arith) c.requires.0 c.requires.1 c.requires.2
