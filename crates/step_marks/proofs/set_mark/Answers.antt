-- `step_marks::set_mark` meets its contract.
use Rattle.step_marks.proofs.Marked.{set_or}
use Rattle.step_marks.proofs.set_mark.Goals as goal

pub returns : goal.returns
returns c = set_or _ _
