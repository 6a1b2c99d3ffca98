-- `test_allocation::find_place` meets its contract: a chunk of the object's size is sought.
use native.Mathlib.Omega.{arith}
use lib.Pow.{pow_mono}
use Rattle.rules.specs.Heap.{exponent}
use Rattle.rules.proofs.Shape.{blocks_le, blocks_power}
use Rattle.rules.proofs.Chunks.{exponent_least}
use Rattle.test_allocation.proofs.find_place.Goals as goal

pub chunk_size-size-requires : goal.chunk_size-size-requires
chunk_size-size-requires c = omega (arith, blocks_le c.args.blocks c.requires.0)

pub find_chunk-requires : goal.find_chunk-requires
find_chunk-requires c =
    let k = exponent c.args.n in
    let power = blocks_power c.args.blocks c.requires.0 in
    let least = pow_mono {i = k} {j = power.0} (exponent_least c.args.n power.0 (omega (arith, power.1))) in
    record {
      by_index = (k, c.chunk_size-size.ensures.0);
      blocks_value = (c.requires.0, c.requires.1, omega (arith, c.chunk_size-size.ensures.0, power.1), c.requires.2);
    }

pub returns : goal.returns
returns c = c.find_chunk.ensures (exponent c.args.n) c.chunk_size-size.ensures.0
