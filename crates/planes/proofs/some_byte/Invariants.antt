-- `planes::some_byte` meets its contract: after p turns the bits are those of the counts by the first p maps that are not 0.
use Rattle.planes.proofs.Eights.{SomeEight}
use Rattle.planes.proofs.some_byte.Given as goal

abbrev pub invariant-loop-p : goal.invariant-loop-p
invariant-loop-p l = SomeEight l.counts l.bytes l.k l.p l.some
