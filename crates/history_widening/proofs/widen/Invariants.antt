-- `widen` meets its contract: records are written one behind the other, then the tail.
use Rattle.history_widening.proofs.Output.{Written}
use Rattle.history_widening.proofs.widen.Given as goal

abbrev pub invariant-loop-i : goal.invariant-loop-i
invariant-loop-i l = Written l.bytes l.initial.out l.i l.out
