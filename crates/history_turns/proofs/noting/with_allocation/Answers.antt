-- `noting::with_allocation` meets its contract.
use borrow.Author.Tests.{eq-eqb, ne_eqb}
use Rattle.history_turns.specs.Outcomes.{with_allocation}
use Rattle.history_turns.proofs.noting.with_allocation.Goals as goal

pub returns-then-done-eq0 : goal.returns-then-done-eq0
unfolding with_allocation
returns-then-done-eq0 c = rw (eq-eqb _ 0 c.if-done-eq0.true, with_allocation)

pub returns-else-done-eq0 : goal.returns-else-done-eq0
unfolding with_allocation
returns-else-done-eq0 c = rw (ne_eqb _ 0 c.if-done-eq0.false, with_allocation) c.allocated.ensures
