-- `collect_counts::write_map` meets its contract: the first k bytes of the map are written.
use Rattle.collect_counts.specs.Counts.{MapWritten}
use Rattle.collect_counts.proofs.write_map.Given as goal

abbrev pub invariant-loop-k : goal.invariant-loop-k
invariant-loop-k l = MapWritten l.at l.p l.k l.map
