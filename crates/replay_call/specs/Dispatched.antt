-- What one call of the list does: for the contract of an inner function.
use Rattle.std.specs.Prelude.{ℕ, ◌≡◌, true, false}
use Rattle.rules.specs.Heap.{Memory}
use Rattle.rules_calls.specs.Calls.{reply}
use Rattle.rules_calls.specs.Promise.{Promise}
use Rattle.types.specs.declared.Reply.{Reply}
use Rattle.replay_words.specs.Encoding.{decoded, is_call}

-- a call keeps its promise; words that are none are answered 9, and nothing changes
pub record Dispatched (N w code x y z : ℕ) (h : Memory) (answered : Reply) (after : Memory) : Type 0 where
  pub known : is_call code z ≡ true → Promise N w (decoded code x y z) h answered after
  pub unknown : is_call code z ≡ false → (answered ≡ reply 9 0 0) × (after ≡ h)
