-- What the gate of a call answers: for contracts of inner functions.
use Rattle.std.specs.Prelude.{ℕ, ◌≡◌}
use Rattle.rules.specs.Heap.{Memory}
use Rattle.rules_calls.specs.Calls.{Call}
use Rattle.rules_calls.specs.Promise.{Promise}
use Rattle.types.specs.declared.Reply.{Reply}
use Rattle.theory_memories.specs.Heaps.{Undamaged}

-- A refusal is the call's own, with nothing written. Else the heap is undamaged, and the call's test of its own arguments is passed: `test` is
-- what that one answers.
pub record Gated (N w : ℕ) (call : Call) (h : Memory) (reply test : Reply) : Type 0 where
  pub refused : (reply.number ≡ 0 → ⊥) → Promise N w call h reply h
  pub fit : reply.number ≡ 0 → Undamaged N w h
  pub tested : reply.number ≡ 0 → reply ≡ test
