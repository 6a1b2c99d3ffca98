-- `collect_visit::visit_block` meets its contract.
use Rattle.collect_visit.proofs.Visits.{to_nothing}
use Rattle.collect_visit.proofs.visit_block.Goals as goal

pub returns-then-any_of_four-eq0 : goal.returns-then-any_of_four-eq0
returns-then-any_of_four-eq0 c =
    to_nothing _ _ 4 c.requires.0 (c.any_of_four.ensures c.if-any_of_four-eq0.true)
