-- The parts that are lent are within their buffers, and come back as long as they were. The measure is what is left of all entries.
use Prim.Native.Nat.{◌-◌}
use Rattle.calls.proofs.Held.{Held}
use Rattle.calls.proofs.run.run.Given as goal

abbrev pub invariant-loop-k : goal.invariant-loop-k
invariant-loop-k g l =
    Held l.a l.b l.counts l.cells l.roots l.waiting l.sections l.d l.marks l.list l.lengths

abbrev pub decreases-loop-k : goal.decreases-loop-k
decreases-loop-k g l =
    1152921504606846976 - l.k
