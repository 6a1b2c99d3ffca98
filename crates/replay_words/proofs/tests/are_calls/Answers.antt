-- `tests::are_calls` meets its contract.
use Rattle.std.proofs.Common.{rules}
use Rattle.replay_words.proofs.Calls.{all_calls}
use Rattle.replay_words.proofs.tests.are_calls.Goals as goal

pub returns : goal.returns
returns c = all_calls c.args.calls.now c.args.n _ _ c.all.result c.all.ensures.ran (λ x b q k. search rules)
