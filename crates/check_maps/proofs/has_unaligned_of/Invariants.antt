-- `check_maps::has_unaligned_of` meets its contract: the test can pass at bits that are left alone. The measure is their number as a byte.
use Prim.Native.Nat.{◌<◌}
use Rattle.rules.proofs.Stretches.{ToVisit}
use Rattle.check_maps.specs.Chunks.{off_chunk}
use Rattle.check_maps.proofs.has_unaligned_of.Given as goal

abbrev pub invariant-loop-left : goal.invariant-loop-left
invariant-loop-left l = (l.left < 256) × ToVisit (off_chunk l.these l.k l.blocks l.b) l.these l.left

abbrev pub decreases-loop-left : goal.decreases-loop-left
decreases-loop-left l = l.left
