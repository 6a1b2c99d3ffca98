-- `bitmap::get_bit` meets its contract: the shift and the remainder are `bit_at`'s own.
use mathlib.Core.Path.{refl}
use native.Mathlib.Omega.{arith}
use Rattle.bitmap.specs.Bit.{bit_at}
use Rattle.bitmap.proofs.get_bit.Goals as goal

pub returns : goal.returns
unfolding bit_at
returns c = (refl, omega arith)
