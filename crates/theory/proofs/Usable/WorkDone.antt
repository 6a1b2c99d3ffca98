-- What came of a call on a usable heap: a refused one, and one that frees.
use mathlib.Core.Path.{◌≡◌, refl, sym, ap, ◌∙◌}
use Rattle.std.specs.Prelude.{Err}
use mathlib.Core.Bool.{Bool, false}
use Prim.Native.Nat.{ℕ, ◌+◌, ◌-◌}
use native.Mathlib.Omega.{arith}
use borrow.Author.Tests.{eq-eqb, ne_eqb}
use Rattle.bitmap.specs.Bit.{one, zeros}
use Rattle.rules.specs.Heap.{Memory}
use Rattle.rules_stores.specs.Collection.{collected}
use Rattle.rules_steps.specs.Steps.{is_open}
use Rattle.rules_calls.specs.Calls.{Call, collect, Answer, reply, Alone, freeing, settled, outcome, answer}
use Rattle.rules_calls.specs.Promise.{Promise}
use Rattle.types.specs.declared.Reply.{Reply}
use Rattle.rules_calls.proofs.Replies.{Passed, outcome_accepts, answer_either}
use Rattle.rules_calls.proofs.Promised.{promised}
use Rattle.theory.specs.Balance.{freed_blocks, allocates, allocated_by, FreedValue}
use Rattle.theory_memories.specs.Words.{in_use}
use Rattle.theory_memories.specs.Heaps.{Usable}
use Rattle.types.specs.declared.refusals.Refusal.{Refusal}
use Rattle.types.specs.Told.{refused, came_of}
use Rattle.types.proofs.Refused.{number_ne0}
use Rattle.theory.specs.Usable.{outcome_of, Worked}
use Rattle.theory_memories.proofs.Memories.Fit.{Fit}
use Rattle.theory_memories.proofs.Memories.Accepted.{fit_accepted, refused_plain}
use Rattle.theory.proofs.EachCall.Balance.{even_alone}
use Rattle.theory.proofs.Usable.UsableHeap.{usable_fit}

-- ---- the blocks that a call allocates

pub accepted_allocates : (c : Call) (x : Reply) → x.number ≡ 0 → allocated_by c x ≡ allocates c x
unfolding allocated_by
accepted_allocates c x e = rw (eq-eqb x.number 0 e, allocated_by)

pub refused_allocates : (c : Call) (x : Reply) → (x.number ≡ 0 → ⊥) → allocated_by c x ≡ 0
unfolding allocated_by
refused_allocates c x refused = rw (ne_eqb x.number 0 refused, allocated_by)

-- ---- a call on one heap

module _ {N w : ℕ} {h : Memory} (usable : Usable N w h) {c : Call} (alone : Alone c) {x : Reply} {g : Memory} (promise : Promise N w c h x g) where
  pub call_balance : in_use N h + allocated_by c x ≡ freed_blocks N h g + in_use N g
  call_balance = rw (promise.reply_is, promise.after_is) (even_alone N w h (usable_fit usable) c alone)

  -- a call that is refused changes no buffer, and its values are 0
  pub refused_keeps : (x.number ≡ 0 → ⊥) → (g ≡ h) × (x.value ≡ 0) × (x.second ≡ 0)
  refused_keeps =
      rw (promise.reply_is, promise.after_is)
      (answer_either N w h c (λ y. (y.0.number ≡ 0 → ⊥) → (y.1 ≡ h) × (y.0.value ≡ 0) × (y.0.second ≡ 0))
      (λ number nonzero _. (refl, ap (λ (y : Answer). y.0.value) (refused_plain N w h (usable_fit usable) c alone number), refl))
      (λ _ refused. absurd (refused (outcome_accepts N w h c))))

module _ {N w : ℕ} {h : Memory} (usable : Usable N w h) {c : Call} (alone : Alone c) where
  pub worked_refused : (refusal : Refusal) → Promise N w c h (refused refusal) h → Worked N w c h (came_of (Err refusal)) h
  worked_refused refusal promise = record {
    promise = promise;
    freed_is = omega (arith, call_balance usable alone promise, refused_allocates c (refused refusal) (number_ne0 refusal));
  }

-- ---- a call that frees: its value is the number of blocks freed

module _ {N w : ℕ} {h : Memory} {c : Call} (frees : let y = answer N w h c in y.0.number ≡ 0 → FreedValue N h y.0 y.1) where
  -- from the memory left and the number of blocks counted
  pub worked_freeing :
      (k : Memory) {stuck : Bool} → answer N w h c ≡ freeing N h k (one stuck) → {freed : ℕ} {g : Memory}
      → freed ≡ zeros k.a - zeros h.a → g ≡ settled N k → Worked N w c h (outcome_of 0 freed freed stuck) g
  unfolding freeing
  worked_freeing k {stuck} answered {freed} {g} counted left =
      let promise : Promise N w c h (reply 0 freed (one stuck)) g =
      promised N w h c (freeing N h k (one stuck)) answered (reply 0 freed (one stuck)) g
      (ap (λ (n : ℕ). reply 0 n (one stuck)) counted) left in
      record {
        promise = promise;
        freed_is =
            ap (λ (y : Reply). y.value) promise.reply_is
            ∙ (frees (ap (λ (y : Reply). y.number) (sym promise.reply_is))).by_objects
            ∙ ap (freed_blocks N h) (sym promise.after_is);
      }

-- ---- a collection

pub collect_answered :
    {N w : ℕ} {h : Memory} → Fit N w h → is_open N h ≡ false → answer N w h collect ≡ freeing N h (collected N w h) 0
unfolding outcome Passed
collect_answered {N} {w} {h} fit shut = fit_accepted N w h fit collect refl shut
