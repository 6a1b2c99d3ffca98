-- `check_marks::has_unmarked` meets its contract: the byte so far is not 0 where the test passes in the bytes so far.
use mathlib.Core.Bool.{not, ◌&&◌}
use lib.ListN.{length}
use Rattle.rules.proofs.Stretches.{Gathered}
use Rattle.step_list.specs.Lists.{is_set}
use Rattle.check_marks.proofs.has_unmarked.Given as goal

abbrev pub invariant-loop-x : goal.invariant-loop-x
invariant-loop-x l = Gathered (λ i. is_set l.map i && not (is_set l.marks i)) (length l.yielded) l.found
