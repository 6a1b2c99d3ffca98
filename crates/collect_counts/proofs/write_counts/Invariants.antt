-- `collect_counts::write_counts` meets its contract: the first p maps are written.
use Prim.Native.Nat.{◌/◌}
use Rattle.bitmap.specs.Bit.{Bytes}
use Rattle.collect_counts.proofs.Counts.{MapsWritten}
use Rattle.collect_counts.proofs.write_counts.Given as goal

abbrev pub invariant-loop-p : goal.invariant-loop-p
invariant-loop-p l = MapsWritten l.at (l.blocks / 8) l.p l.counts × Bytes l.counts
