-- `search_size::chunk_size` meets its contract: the least power of two is that of the exponent.
use mathlib.Core.Path.{◌∙◌}
use Prim.Native.Nat.{◌≤◌, ◌^◌}
use native.Mathlib.Omega.{arith}
use lib.Pow.{pow_mono}
use Rattle.rules.specs.Heap.{exponent, max_blocks}
use Rattle.rules.proofs.Chunks.{exponent_least}
use Rattle.search_size.proofs.Powers.{power_least}
use Rattle.search_size.proofs.chunk_size.Goals as goal

pub returns : goal.returns
returns c =
    let n = c.args.n in
    let power = c.next_power_of_two.ensures.power in
    let size = power.1 ∙ power_least n power.0 (omega arith) (omega arith) in
    let most : 2 ^ exponent n ≤ max_blocks = pow_mono {j = 16} (exponent_least n 16 c.requires) in
    (size, omega arith)
