-- `check_maps::has_stray_data` meets its contract: the byte so far is not 0 where the test passes in the bytes so far.
use mathlib.Core.List.{[]}
use Rattle.rules.specs.Heap.{lent_memory}
use Rattle.rules.specs.Damage.{stray_data}
use Rattle.rules.proofs.Stretches.{Gathered}
use Rattle.check_maps.proofs.has_stray_data.Given as goal

abbrev pub invariant-loop-k : goal.invariant-loop-k
invariant-loop-k l =
    Gathered (stray_data l.blocks (lent_memory l.a l.b [] [] [] [] [] l.d [] [])) l.k l.found
