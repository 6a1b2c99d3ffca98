-- `planes::get_count` meets its contract: after k turns `count` is the count by the first k maps.
use mathlib.Core.Path.{◌≡◌}
use Rattle.planes.specs.Plane.{count_at}
use Rattle.planes.proofs.get_count.Given as goal

abbrev pub invariant-loop-k : goal.invariant-loop-k
invariant-loop-k l = l.count ≡ count_at l.bytes l.k l.counts l.block
