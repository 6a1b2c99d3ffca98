-- `noting::with_collection` meets its contract.
use Rattle.history_turns.specs.Outcomes.{with_collection}
use Rattle.history_turns.proofs.noting.with_collection.Goals as goal

pub returns-then-done : goal.returns-then-done
unfolding with_collection
returns-then-done c = rw (c.if-done.true, with_collection) c.collected.ensures

pub returns-else-done : goal.returns-else-done
unfolding with_collection
returns-else-done c = rw (c.if-done.false, with_collection)
