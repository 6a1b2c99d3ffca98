-- `check_references::tally_among` meets its contract: the cells before the lowest bit that is left are tallied. The measure is the bits as
-- a word.
use Prim.Native.Nat.{◌<◌, ◌^◌}
use Rattle.check_references.proofs.Visited.{Visited}
use Rattle.check_references.proofs.tally_among.Given as goal

abbrev pub invariant-loop-left : goal.invariant-loop-left
invariant-loop-left l = (l.left < 2 ^ 32) × Visited l.blocks l.used l.made l.cells l.k l.these l.initial.at l.left l.at

abbrev pub decreases-loop-left : goal.decreases-loop-left
decreases-loop-left l = l.left
