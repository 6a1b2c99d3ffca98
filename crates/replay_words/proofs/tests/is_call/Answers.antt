-- `tests::is_call` meets its contract.
use borrow.Author.Tests.{eq-eqb, ne_eqb}
use Rattle.replay_words.specs.Encoding.{is_call}
use Rattle.replay_words.proofs.tests.is_call.Goals as goal

pub returns-then-code-eq10 : goal.returns-then-code-eq10
unfolding is_call
returns-then-code-eq10 c = rw (eq-eqb _ 10 c.if-code-eq10.true, is_call)

pub returns-else-code-eq10 : goal.returns-else-code-eq10
unfolding is_call
returns-else-code-eq10 c = rw (ne_eqb _ 10 c.if-code-eq10.false, is_call)
