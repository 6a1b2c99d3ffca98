-- `history_plans::both_roots` meets its contract: its tests are the definition's.
use borrow.Author.Tests.{lt-ltb, le-ltb}
use Rattle.history_plans.specs.Readable.{are_roots}
use Rattle.history_plans.proofs.both_roots.Goals as goal

pub returns-then-f-roots : goal.returns-then-f-roots
unfolding are_roots
returns-then-f-roots c = rw (lt-ltb _ _ c.if-f-roots.true, are_roots)

pub returns-else-f-roots : goal.returns-else-f-roots
unfolding are_roots
returns-else-f-roots c = rw (le-ltb _ _ c.if-f-roots.false, are_roots)
