-- What replaying a list of calls promises: its reply, and that demand 3 holds of the calls it made, of which its replies and buffers are.
use Rattle.std.specs.Prelude.{ℕ, ◌*◌, ◌/◌, ◌≡◌, List, ◌∷◌, ◌++◌, length, drop}
use Rattle.rules.specs.Heap.{Memory, shaped}
use Rattle.rules_stores.specs.Store.{formatted}
use Rattle.rules_calls.specs.Calls.{format, run, last_memory}
use Rattle.theory.specs.CallWords.{Made, calls_of, answers_of, left_by}
use Rattle.theory.specs.Demand.{Finds, Chain, Claim}
use Rattle.types.specs.declared.Reply.{Reply}
use Rattle.replay_words.specs.Encoding.{calls_in, reply_words}
use Rattle.replay_words.specs.Refusals.{reply_on}

-- the reply, from the lent memory
abbrev pub replay_reply : ℕ → ℕ → Memory → List ℕ → (room : ℕ) → Reply
replay_reply N w h words room = reply_on (shaped N w h) words room

-- An accepted replay. Calls were made: those of the list, each on the heap that the one before it left, the first on `start`. The buffers and
-- the replies are those of these calls, and behind the replies nothing is changed. Every lent number, the waiting list and the list of
-- sections too, is the plain machine's. Demand 3 holds of these calls, and they form a chain, so that the calls of a caller's list go on
-- behind them.
pub record Ran (N w : ℕ) (start : Memory) (words replies : List ℕ) (after : Memory) (replies' : List ℕ) : Type 0 where
  pub made : List Made
  pub calls_are : calls_of made ≡ calls_in words
  pub chain : Chain N w start made
  pub left_is : after ≡ left_by start made
  pub after_is : after ≡ last_memory start (run N w start (calls_in words))
  pub replies_are : replies' ≡ reply_words (answers_of made) ++ drop (3 * (length words / 4)) replies
  pub claim : Claim N w start made

-- The reply is the one above. A refusal changes nothing; else the list was run from a heap as format leaves it.
pub record Replayed (N w : ℕ) (h : Memory) (words replies : List ℕ) (reply : Reply) (after : Memory) (replies' : List ℕ) : Type 0 where
  pub reply_is : reply ≡ replay_reply N w h words (length replies)
  pub refused : (reply.number ≡ 0 → ⊥) → (after ≡ h) × (replies' ≡ replies)
  pub ran : reply.number ≡ 0 → Ran N w (formatted N w (length h.roots)) words replies after replies'

-- In a list of public calls an accepted replay counts as a format and the calls it makes: they were made on the heap that was lent, and left
-- what the replay left. (A refused one changes nothing, and counts as no call.)
abbrev pub ReplayIsCalls : Type 0
ReplayIsCalls =
    (N w : ℕ) (left h : Memory) (words replies : List ℕ) (x : Reply) (after : Memory) (replies' : List ℕ) → Finds N left h
    → Replayed N w h words replies x after replies' → x.number ≡ 0
    → (made : List Made) × (calls_of made ≡ format ∷ calls_in words) × Chain N w left made × (after ≡ left_by left made)
