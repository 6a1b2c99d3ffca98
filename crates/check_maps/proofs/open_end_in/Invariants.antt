-- `check_maps::open_end_in` meets its contract: the byte so far is not 0 where the test passes in the bytes so far.
use mathlib.Core.List.{[]}
use Rattle.rules.specs.Heap.{memory}
use Rattle.rules.proofs.Stretches.{Gathered}
use Rattle.rules.specs.Damage.{open_end}
use Rattle.check_maps.proofs.open_end_in.Given as goal

abbrev pub invariant-loop-k : goal.invariant-loop-k
invariant-loop-k l = Gathered (open_end l.blocks (memory l.a l.b [] [] [] [])) l.k l.found
