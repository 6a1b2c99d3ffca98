-- A call that writes passes its gate, so that the lent heap is undamaged and its tests are passed; it clears the waiting list and does its
-- work. No answer depends on the waiting list, so that what the call answers on the cleared heap is what it answers on the lent one.
use mathlib.Core.Path.{◌≡◌, refl, sym, ap, ◌∙◌, subst}
use mathlib.Core.List.{List}
use Prim.Native.Nat.{ℕ}
use lib.ListN.{length, length-replicate, replicate}
use Rattle.rules.specs.Heap.{Memory, with_waiting}
use Rattle.rules_calls.specs.Calls.{Call, Answer, Alone, outcome, answer}
use Rattle.rules_calls.specs.Promise.{Promise}
use Rattle.types.specs.declared.Reply.{Reply}
use Rattle.types.specs.Told.{Came}
use Rattle.rules_calls.proofs.Replies.{none_applies}
use Rattle.theory_memories.specs.Words.{heap_of}
use Rattle.theory_memories.specs.Heaps.{Undamaged}
use Rattle.theory_memories.proofs.Memories.Fit.{Fit, undamaged_fit}
use Rattle.theory_memories.proofs.Memories.Accepted.{fit_number}
use Rattle.theory.proofs.EachCall.AnyWaiting.{waiting_unread}
use Rattle.test_arguments.specs.Replies.{own_test}
use Rattle.theory_memories.specs.Heaps.{Usable}
use Rattle.types.specs.Told.{reply_of}
use Rattle.theory.specs.Usable.{Worked}
use Rattle.theory.proofs.Usable.UsableHeap as usable
use Rattle.theory.proofs.Usable.UsableAfterCalls.{usable_kept}

module _ {N w : ℕ} {h : Memory} (undamaged : Undamaged N w h) {waiting : List ℕ} (clear : waiting ≡ replicate (length h.waiting) 0) where
  lent_fit : Fit N w h
  lent_fit = undamaged_fit N w h undamaged

  pub cleared_usable : Usable N w (with_waiting waiting h)
  cleared_usable =
      subst (λ (l : List ℕ). Usable N w (with_waiting l h))
      (ap (λ (n : ℕ). replicate n 0) (sym lent_fit.healthy.shape.length_waiting) ∙ sym clear) (usable.cleared_usable undamaged)

  -- where the call's own test is passed, and it leaves the waiting list cleared
  pub promised_back :
      {c : Call} → Alone c → (own_test N h c).number ≡ 0 → (outcome N w h c).1.waiting ≡ replicate N 0 → {x : Reply} {g : Memory}
      → Promise N w c (with_waiting waiting h) x g → Promise N w c h x g
  unfolding own_test
  promised_back {c} alone passes clears {x} {g} promise =
      let same = waiting_unread N w (with_waiting waiting h) h refl (ap length clear ∙ length-replicate (length h.waiting) 0) c in
      let heap : heap_of g ≡ heap_of (answer N w h c).1 = ap heap_of promise.after_is ∙ same.1 in
      let left : (answer N w h c).1.waiting ≡ replicate N 0 =
      ap (λ (y : Answer). y.1.waiting) (none_applies N w h c (fit_number N w h lent_fit c alone ∙ passes)) ∙ clears in
      record {
        reply_is = promise.reply_is ∙ same.0;
        after_is = λ i.
            with_waiting (((usable_kept cleared_usable promise).idle ∙ sym left) i) (heap i);
      }

  -- .. and the reply tells what came of the work
  pub worked_back :
      {c : Call} → Alone c → (own_test N h c).number ≡ 0 → (outcome N w h c).1.waiting ≡ replicate N 0 → {done : Came} {x : Reply} {g : Memory}
      → Worked N w c (with_waiting waiting h) done g → x ≡ reply_of done → Promise N w c h x g
  worked_back alone passes clears worked replied =
      let promise = worked.promise in
      promised_back alone passes clears (record { reply_is = replied ∙ promise.reply_is; after_is = promise.after_is })
