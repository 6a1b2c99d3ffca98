-- The reply of a batch, what an accepted one starts from, and what it then comes to.
use mathlib.Core.Path.{◌≡◌, refl, sym, ap, ◌∙◌, subst}
use mathlib.Core.List.{List}
use Prim.Native.Nat.{ℕ}
use native.Mathlib.Decide.{ℕ_discrete}
use lib.ListN.{length, replicate}
use borrow.Author.Tests.{eq-eqb, ne_eqb}
use Rattle.rules.specs.Heap.{Memory, with_waiting, shaped}
use Rattle.rules_calls.specs.Calls.{check, answer}
use Rattle.rules_calls.specs.Promise.{Promise}
use Rattle.types.specs.declared.Reply.{Reply}
use Rattle.rules.proofs.Shape.{shape_facts}
use Rattle.theory_memories.specs.Heaps.{Undamaged}
use Rattle.theory_memories.specs.Heaps.{Usable}
use Rattle.theory.proofs.Theorems.{theory}
use Rattle.theory.proofs.Usable.UsableHeap.{cleared_usable}
use Rattle.replay_words.proofs.Calls.{Passed, accepted_passed}
use Rattle.replay_run.specs.Run.{AsRun}
use Rattle.replay.specs.Replay.{replay_reply}
use Rattle.replay.proofs.Start.{ran_from_lem}
use Rattle.replay_batch.specs.Batch.{batch_reply, Batch}

-- ---- the reply

-- y is what the check answers
module _ {N w : ℕ} {h : Memory} {y : Reply} (checked : Promise N w check h y h) (words : List ℕ) (room : ℕ) where
  check_number : (answer N w h check).0.number ≡ y.number
  check_number = ap (λ (v : Reply). v.number) (sym checked.reply_is)

  -- it refuses
  pub reply_refused : (y.number ≡ 0 → ⊥) → y ≡ batch_reply N w h words room
  unfolding batch_reply
  reply_refused refused =
      checked.reply_is ∙ sym (rw (ne_eqb (answer N w h check).0.number 0 (λ z. refused (sym check_number ∙ z)), batch_reply))

  -- it accepts
  pub reply_passed : y.number ≡ 0 → {x : Reply} → x ≡ replay_reply N w h words room → x ≡ batch_reply N w h words room
  unfolding batch_reply
  reply_passed accepts e = e ∙ sym (rw (eq-eqb (answer N w h check).0.number 0 (check_number ∙ accepts), batch_reply))

-- what an accepted batch starts from
pub record Accepted (N w : ℕ) (h : Memory) (words : List ℕ) (room : ℕ) : Type 0 where
  pub undamaged : Undamaged N w h
  pub passed : Passed (shaped N w h) words room

pub accepted :
    {N w : ℕ} {h : Memory} {words : List ℕ} {room : ℕ} {x : Reply} → x ≡ batch_reply N w h words room → x.number ≡ 0
    → Accepted N w h words room
unfolding batch_reply
accepted {N} {w} {h} {words} {room} {x} is accepts = elim (ℕ_discrete (answer N w h check).0.number 0) [
  | no refused ↦ absurd (refused (rw (ne_eqb (answer N w h check).0.number 0 refused, batch_reply) at zero))
  | yes passed ↦ record {
    undamaged = theory.accepted_undamaged N w h check refl passed;
    passed = accepted_passed (shaped N w h) words room (rw (eq-eqb (answer N w h check).0.number 0 passed, batch_reply) at zero);
  }
]
  where
    zero : (batch_reply N w h words room).number ≡ 0
    zero = ap (λ (v : Reply). v.number) (sym is) ∙ accepts

-- ---- the heap with its waiting list cleared

module _ {N w : ℕ} {h : Memory} (fine : Undamaged N w h) {waiting : List ℕ} (clear : waiting ≡ replicate (length h.waiting) 0) where
  is_cleared : with_waiting waiting h ≡ with_waiting (replicate N 0) h
  is_cleared =
      ap (λ (l : List ℕ). with_waiting l h)
      (clear ∙ ap (λ (n : ℕ). replicate n 0) (shape_facts N w h fine.intact.right_shape).length_waiting)

  pub start_usable : Usable N w (with_waiting waiting h)
  start_usable = subst (λ (k : Memory). Usable N w k) (sym is_cleared) (cleared_usable fine)

-- ---- the answer

module _ {N w : ℕ} {h : Memory} {words replies : List ℕ} {x : Reply} (is : x ≡ batch_reply N w h words (length replies)) where
  pub batch_refused : (x.number ≡ 0 → ⊥) → Batch N w h words replies x h replies
  batch_refused refused =
      record {
        reply_is = is;
        refused = λ _. (refl, refl);
        undamaged = λ e. absurd (refused e);
        ran = λ e. absurd (refused e);
        usable = λ e. absurd (refused e);
      }

  -- the calls were run
  pub batch_made :
      x.number ≡ 0 → {waiting : List ℕ} → waiting ≡ replicate (length h.waiting) 0 → {after : Memory} {replies' : List ℕ}
      → AsRun N w (with_waiting waiting h) words replies after replies' → Batch N w h words replies x after replies'
  batch_made accepts clear {after} {replies'} as-run =
      let fine = (accepted is accepts).undamaged in
      let run = subst (λ (k : Memory). AsRun N w k words replies after replies') (is_cleared fine clear) as-run in
      record {
        reply_is = is;
        refused = λ n. absurd (n accepts);
        undamaged = λ _. fine;
        ran = λ _. ran_from_lem (cleared_usable fine).undamaged run;
        usable = λ _. run.usable;
      }
