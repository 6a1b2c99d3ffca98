-- `check_marks::misses_of` meets its contract: the test can pass at bits that are left alone. The measure is their number as a byte.
use Prim.Native.Nat.{◌<◌}
use Rattle.rules.proofs.Stretches.{ToVisit}
use Rattle.check_marks.specs.Tidy.{missed_of}
use Rattle.check_marks.proofs.misses_of.Given as goal

abbrev pub invariant-loop-left : goal.invariant-loop-left
invariant-loop-left l = (l.left < 256) × ToVisit (missed_of l.these l.k l.blocks l.b l.d l.cells l.marks) l.these l.left

abbrev pub decreases-loop-left : goal.decreases-loop-left
decreases-loop-left l = l.left
