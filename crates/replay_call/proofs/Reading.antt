-- The calls that only read, on an undamaged heap: their replies are the rules', and the memory is kept.
use mathlib.Core.Path.{◌≡◌, refl}
use mathlib.Core.List.{[]}
use Prim.Native.Nat.{ℕ}
use Rattle.bitmap.specs.Bit.{zeros}
use Rattle.rules.specs.Heap.{Memory, memory, lent_memory}
use Rattle.rules_calls.specs.Calls.{check, look, free_blocks, read_number, reply, accepted, outcome}
use Rattle.rules_calls.specs.Promise.{Promise}
use Rattle.types.specs.declared.Reply.{Reply}
use Rattle.rules_calls.proofs.Replies.{Passed}
use Rattle.rules_calls.proofs.Promised.{promised}
use Rattle.theory_memories.proofs.Memories.Accepted.{fit_accepted}
use Rattle.test_arguments.specs.Replies.{look_reply, read_reply}
use Rattle.test_arguments.proofs.ArgumentTests.{look_answered, read_answered}
use Rattle.theory_memories.specs.Heaps.{Usable}
use Rattle.theory.proofs.Usable.UsableHeap.{usable_fit}

module _ {N w : ℕ} {h : Memory} (usable : Usable N w h) where
  pub check_promise : {r : Reply} → r ≡ reply 0 0 0 → Promise N w check h r h
  unfolding outcome Passed
  check_promise {r} e = promised N w h check (accepted h 0) (fit_accepted N w h (usable_fit usable) check refl tt) r h e refl

  pub free_promise : {r : Reply} → r ≡ reply 0 (zeros h.a) 0 → Promise N w free_blocks h r h
  unfolding outcome Passed
  free_promise {r} e =
      promised N w h free_blocks (accepted h (zeros h.a)) (fit_accepted N w h (usable_fit usable) free_blocks refl tt) r h e refl

  -- a look reads three buffers alone
  pub look_promise :
      {x : ℕ} {r : Reply} → r ≡ look_reply N w (memory h.a h.b h.counts [] [] []) x → Promise N w (look x) h r h
  look_promise {x} {r} e = promised N w h (look x) _ (look_answered N w h (usable_fit usable) x) r h e refl

  -- .. and the read of a number four
  pub read_promise :
      {x y : ℕ} {r : Reply} → r ≡ read_reply N (lent_memory h.a h.b [] h.cells [] [] [] h.d [] []) x y
      → Promise N w (read_number x y) h r h
  read_promise {x} {y} {r} e = promised N w h (read_number x y) _ (read_answered N w h (usable_fit usable) x y) r h e refl
