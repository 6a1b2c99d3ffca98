-- `planes::set_count` meets its contract: after k turns the bits of the first k maps are written. A turn lends map k on as a middle part.
use mathlib.Core.Path.{◌≡◌}
use Rattle.planes.specs.Plane.{set_count}
use Rattle.planes.proofs.set_count.Given as goal

abbrev pub invariant-loop-k : goal.invariant-loop-k
invariant-loop-k l = l.counts ≡ set_count l.bytes l.k l.initial.counts l.block l.value
