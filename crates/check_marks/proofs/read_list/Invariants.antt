-- `check_marks::read_list` meets its contract.
use Rattle.check_marks.proofs.Reading.{Reading}
use Rattle.check_marks.proofs.read_list.Given as goal

abbrev pub invariant-loop-k : goal.invariant-loop-k
invariant-loop-k l = Reading l.blocks l.list l.before l.k l.map
