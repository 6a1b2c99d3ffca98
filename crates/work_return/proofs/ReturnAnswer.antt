-- A return (request U10): its answer once its test is passed, and its work root by root.
use mathlib.Core.Path.{◌≡◌, refl, sym, ap, ◌∙◌}
use mathlib.Core.Bool.{false}
use mathlib.Core.List.{[]}
use Prim.Native.Nat.{ℕ, ◌+◌, ◌≤◌, ◌<◌}
use native.Mathlib.Numerals.{add-one}
use native.Mathlib.Omega.{arith}
use lib.ListN.{length, replicate}
use borrow.Author.Tests.{eq-eqb, ne_eqb}
use Rattle.bitmap.specs.Bit.{bit_of, zeros}
use Rattle.rules.specs.Heap.{Memory, with_waiting, with_sections}
use Rattle.rules_stores.specs.Store.{chosen_below}
use Rattle.rules_steps.specs.Steps.{store_root_shading, clear_shading, return_shading}
use Rattle.rules_calls.specs.Calls.{return_roots, store_root, Answer, settled, freeing, outcome, answer}
use Rattle.types.specs.declared.Reply.{Reply}
use Rattle.types.specs.Told.{Came}
use Rattle.rules_calls.proofs.Replies.{Passed, passed_own}
use Rattle.rules.proofs.Tests.{first_not}
use Rattle.rules_calls.proofs.Unread.{store_root_aside}
use Rattle.theory_memories.proofs.Memories.Fit.{Fit}
use Rattle.theory_memories.proofs.Memories.Accepted.{fit_accepted}
use Rattle.theory.proofs.EachCall.Clearing.{none_ref}
use Rattle.test_arguments.specs.Replies.{own_test, store_root_test, return_test}
use Rattle.test_arguments.proofs.ArgumentTests.{root_passed}
use Rattle.theory.specs.Balance.{freed_blocks}
use Rattle.theory_memories.specs.Heaps.{Usable}
use Rattle.theory.specs.Usable.{outcome_of, Worked}
use Rattle.theory.proofs.EachCall.Balance.{blocks_add_up}
use Rattle.theory.proofs.Usable.UsableHeap.{cleared_same, usable_fit, left_settled}
use Rattle.theory.proofs.Usable.UsableAfterCalls.{usable_kept}
use Rattle.theory.proofs.Usable.WorkDone.{worked_freeing}
use Rattle.work_root.proofs.RootAnswer.{root_answered}
use Rattle.work_return.specs.Returns.{ClearedIfChosen}

-- ---- the answer

module _ (N w : ℕ) (h : Memory) (fit : Fit N w h) (chosen : ℕ) where
  abbrev test : Reply
  test = return_test (length h.roots) chosen

  pub return_answered : test.number ≡ 0 → answer N w h (return_roots chosen) ≡ freeing N h (return_shading N w h chosen (length h.roots)) 0
  unfolding outcome Passed return_test
  return_answered passes =
      fit_accepted N w h fit (return_roots chosen) refl (first_not 4 (chosen_below chosen (length h.roots)) [] (omega arith) passes).0

-- ---- one root

pub zero_passes : (N : ℕ) (h : Memory) (r : ℕ) → r < length h.roots → (store_root_test N h r 0).number ≡ 0
unfolding own_test Passed
zero_passes N h r inside = passed_own N h (store_root r 0) (inside, none_ref N h)

module _ {N w : ℕ} {h : Memory} (usable : Usable N w h) {chosen r : ℕ} where
  -- it is not one of the set
  pub not_chosen : (bit_of chosen r ≡ 1 → ⊥) → ClearedIfChosen N w h chosen r h 0
  unfolding clear_shading
  not_chosen n = record { after_is = λ x. rw (ne_eqb (bit_of chosen r) 1 n, clear_shading) refl; usable = usable; blocks = omega arith }

  -- it is, and was cleared; the waiting list was clear and is left so, and the store reads no list of sections
  pub chosen_cleared :
      r < length h.roots → bit_of chosen r ≡ 1 → {done : Came} {g : Memory} → Worked N w (store_root r 0) h done g
      → ClearedIfChosen N w h chosen r g done.freed
  unfolding freeing clear_shading
  chosen_cleared inside e {done} {g} worked =
      let promise = worked.promise in
      let stored = root_answered (root_passed (zero_passes N h r inside)) (usable_fit usable) in
      let is : g ≡ settled N (store_root_shading N w h r 0) = promise.after_is ∙ ap (λ (y : Answer). y.1) stored in
      let value = (blocks_add_up N w h).store_root_lem r 0 (ap (λ (y : Answer). y.0.number) stored) in
      record {
        after_is = λ l.
            ap (with_sections l) is ∙ sym (store_root_aside N w (λ k. with_waiting (replicate N 0) (with_sections l k)) h r 0)
            ∙ ap (λ (k : Memory). store_root_shading N w (with_sections l k) r 0) (cleared_same usable)
            ∙ rw (eq-eqb (bit_of chosen r) 1 e, clear_shading) refl;
        usable = usable_kept usable promise;
        blocks =
            omega (
              arith,
              worked.freed_is,
              ap (freed_blocks N h) promise.after_is,
              value.by_objects,
              value.by_zeros,
              ap (λ (k : Memory). zeros k.a) promise.after_is,
            );
      }

-- ---- the loop's invariant: the roots below r are seen to, and `freed` blocks were freed

pub record Progress (N w : ℕ) (start : Memory) (chosen r : ℕ) (h : Memory) (freed : ℕ) : Type 0 where
  pub usable : Usable N w h
  pub roots_length : length h.roots ≡ length start.roots
  pub made : r ≤ length start.roots
  pub after_is : with_sections start.sections h ≡ return_shading N w start chosen r
  pub blocks : zeros h.a ≡ zeros start.a + freed

module _ {N w : ℕ} {start : Memory} {chosen : ℕ} where
  pub progress_start : Usable N w start → Progress N w start chosen 0 start 0
  unfolding return_shading
  progress_start usable =
      record { usable = usable; roots_length = refl; made = omega arith; after_is = refl; blocks = omega arith }

  pub progress_next :
      {r freed more : ℕ} {h g : Memory} → r < length h.roots → length g.roots ≡ length h.roots → ClearedIfChosen N w h chosen r g more
      → Progress N w start chosen r h freed → Progress N w start chosen (r + 1) g (freed + more)
  unfolding return_shading
  progress_next {r} {freed} {more} {h} {g} l kept cleared p =
      record {
        usable = cleared.usable;
        roots_length = kept ∙ p.roots_length;
        made = omega (arith, p.roots_length);
        after_is =
            cleared.after_is start.sections ∙ ap (λ (k : Memory). clear_shading N w k chosen r) p.after_is
            ∙ ap (return_shading N w start chosen) (sym (add-one r));
        blocks = omega (arith, cleared.blocks, p.blocks);
      }

  pub progress_done :
      {r freed : ℕ} {h : Memory} → Usable N w start → (return_test (length start.roots) chosen).number ≡ 0 → length h.roots ≤ r
      → Progress N w start chosen r h freed → Worked N w (return_roots chosen) start (outcome_of 0 freed freed false) h
  progress_done {r} {freed} {h} usable passes l p =
      let end : Memory = return_shading N w start chosen (length start.roots) in
      let all : r ≡ length start.roots = omega (arith, p.made, p.roots_length) in
      let is : with_sections start.sections h ≡ end = p.after_is ∙ ap (return_shading N w start chosen) all in
      worked_freeing ((blocks_add_up N w start).return_roots_lem chosen) end (return_answered N w start (usable_fit usable) chosen passes)
      (omega (arith, p.blocks, ap (λ (k : Memory). zeros k.a) is))
      (left_settled p.usable {k = h} refl refl (usable_fit p.usable).listed ∙ ap (settled N) is)
