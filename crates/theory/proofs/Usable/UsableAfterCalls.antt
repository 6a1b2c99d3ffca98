-- Every call leaves a usable heap usable: calls keep a heap undamaged, and an accepted call that writes leaves the waiting list cleared.
use mathlib.Core.Path.{◌≡◌, refl, sym, subst}
use Prim.Native.Nat.{ℕ}
use lib.ListN.{replicate}
use Rattle.rules.specs.Heap.{Memory}
use Rattle.rules_stores.specs.Store.{formatted}
use Rattle.rules_steps.specs.Steps.{opened, with_progress}
use Rattle.rules_calls.specs.Calls.{Call, format, check, collect, free_blocks, allocate, store_root, store_cell, look, return_roots, open_collection, take_steps}
use Rattle.rules_calls.specs.Calls.{allocate_data, write_number, read_number, write_reason, write_shape, copy_from, copy_into, Answer, freeing, outcome, answer}
use Rattle.rules_calls.specs.Promise.{Promise}
use Rattle.types.specs.declared.Reply.{Reply}
use Rattle.rules_calls.proofs.Replies.{answer_either}
use Rattle.theory.proofs.Theorems.{calls_keep_undamaged}
use Rattle.theory_memories.specs.Heaps.{Usable}

module _ {N w : ℕ} {h : Memory} (usable : Usable N w h) where
  abbrev Idle : Answer → Type 0
  Idle x = x.1.waiting ≡ replicate N 0

  outcome_idle : (c : Call) → Idle (outcome N w h c)
  unfolding outcome freeing formatted opened with_progress
  outcome_idle format = refl
  outcome_idle check = usable.idle
  outcome_idle free_blocks = usable.idle
  outcome_idle collect = refl
  outcome_idle (allocate n r) = refl
  outcome_idle (store_root r v) = refl
  outcome_idle (store_cell a j v) = refl
  outcome_idle (look a) = usable.idle
  outcome_idle (return_roots chosen) = refl
  outcome_idle (allocate_data n r) = refl
  outcome_idle (write_number a j x) = usable.idle
  outcome_idle (read_number a j) = usable.idle
  outcome_idle open_collection = usable.idle
  outcome_idle (take_steps budget) = refl
  outcome_idle (write_reason a room) = usable.idle
  outcome_idle (write_shape room) = usable.idle
  outcome_idle (copy_from K u first) = refl
  outcome_idle (copy_into M v second) = usable.idle

  answer_idle : (c : Call) → Idle (answer N w h c)
  answer_idle c = answer_either N w h c Idle (λ number nonzero. usable.idle) (λ _. outcome_idle c)

  pub usable_kept : {c : Call} {x : Reply} {g : Memory} → Promise N w c h x g → Usable N w g
  usable_kept {c} promise =
      subst (λ (k : Memory). Usable N w k) (sym promise.after_is)
      (record { undamaged = calls_keep_undamaged N w h usable.undamaged c; idle = answer_idle c })
