-- `planes::full_byte` meets its contract: after p turns the bits are those of the counts by the first p maps with every bit 1.
use Rattle.planes.proofs.Eights.{FullEight}
use Rattle.planes.proofs.full_byte.Given as goal

abbrev pub invariant-loop-p : goal.invariant-loop-p
invariant-loop-p l = FullEight l.counts l.bytes l.k l.p l.full
