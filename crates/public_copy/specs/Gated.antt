-- What the tests of a copy answer, but the last: for contracts of inner functions. The first heap is h; of the second it is known whether its
-- shape is right, and how many roots it has.
use Rattle.std.specs.Prelude.{ℕ, ◌≡◌, Bool, true, false, length}
use Rattle.types.specs.declared.Reply.{Reply}
use Rattle.rules.specs.Heap.{Memory, shaped}
use Rattle.rules_steps.specs.Steps.{is_open}
use Rattle.rules_calls.specs.Calls.{copy_from}
use Rattle.rules_calls.specs.Promise.{Promise}
use Rattle.theory_memories.specs.Heaps.{Undamaged}

-- A refusal is the copy's, with nothing written. Else both heaps are as the work of a copy asks.
pub record CopyGated (N w : ℕ) (h : Memory) (M v : ℕ) (rightShape : Bool) (rootCount : ℕ) (reply : Reply) : Type 0 where
  pub refused : (reply.number ≡ 0 → ⊥) → (g : Memory) → shaped M v g ≡ rightShape → length g.roots ≡ rootCount
      → Promise M v (copy_from N w h) g reply g
  pub fit : reply.number ≡ 0 → Undamaged N w h
  pub shut : reply.number ≡ 0 → is_open N h ≡ false
  pub fits : reply.number ≡ 0 → rightShape ≡ true
  pub as_many : reply.number ≡ 0 → length h.roots ≡ rootCount
