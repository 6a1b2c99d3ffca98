-- `check_maps::end_on_free_in` meets its contract: the byte so far is not 0 where the test passes in the bytes so far.
use mathlib.Core.List.{[]}
use lib.ListN.{length}
use Rattle.rules.specs.Heap.{memory}
use Rattle.rules.proofs.Stretches.{Gathered}
use Rattle.rules.specs.Damage.{end_on_free}
use Rattle.check_maps.proofs.end_on_free_in.Given as goal

abbrev pub invariant-loop-x : goal.invariant-loop-x
invariant-loop-x l = Gathered (end_on_free (memory l.a l.b [] [] [] [])) (length l.yielded) l.found
