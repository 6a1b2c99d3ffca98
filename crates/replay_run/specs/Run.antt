-- What the whole run does: for the contract of an inner function.
use Rattle.std.specs.Prelude.{ℕ, ◌*◌, ◌/◌, ◌≡◌, List, ◌++◌, length, drop}
use Rattle.rules.specs.Heap.{Memory}
use Rattle.rules_calls.specs.Calls.{run, last_memory}
use Rattle.theory_memories.specs.Heaps.{Usable}
use Rattle.replay_words.specs.Encoding.{calls_in, reply_words}

-- all calls were made: the buffers and the replies are the plain machine's, behind the replies nothing is changed, and the heap can be
-- worked on further
pub record AsRun (N w : ℕ) (start : Memory) (words replies : List ℕ) (after : Memory) (replies' : List ℕ) : Type 0 where
  pub after_is : after ≡ last_memory start (run N w start (calls_in words))
  pub replies_are : replies' ≡ reply_words (run N w start (calls_in words)) ++ drop (3 * (length words / 4)) replies
  pub usable : Usable N w after
