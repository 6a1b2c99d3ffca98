-- `words::put_reply` meets its contract.
use mathlib.Core.Path.{refl}
use native.Mathlib.Omega.{arith}
use lib.ListN.{length-set}
use Rattle.replay_words.specs.Words.{with_reply}
use Rattle.replay_words.proofs.words.put_reply.Goals as goal

pub bounds-replies-to-2 : goal.bounds-replies-to-2
bounds-replies-to-2 c = simp length-set (omega arith)

pub returns : goal.returns
unfolding with_reply
returns c = refl
