-- The run, turn by turn: what is left of the machine's run after some calls is its run on the calls that are left, from the memory that
-- stands.
use mathlib.Core.Path.{◌≡◌, refl, sym, ap, ◌∙◌, subst}
use mathlib.Core.Bool.{true}
use mathlib.Core.List.{List, [], ◌∷◌, ◌++◌, append_assoc}
use Prim.Native.Nat.{ℕ, suc, ◌+◌, ◌-◌, ◌*◌, ◌/◌, ◌≤◌, ◌<◌}
use native.Mathlib.Omega.{arith}
use lib.ListN.{length, take, drop, take-append-drop}
use Rattle.rules.specs.Heap.{Memory}
use Rattle.rules_calls.specs.Calls.{Call, Answer, answer, run, last_memory}
use Rattle.rules_calls.specs.Promise.{Promise}
use Rattle.types.specs.declared.Reply.{Reply}
use Rattle.theory_memories.specs.Heaps.{Usable}
use Rattle.theory.proofs.Usable.UsableAfterCalls.{usable_kept}
use Rattle.replay_words.specs.Encoding.{call_at, calls_from, calls_in, reply_words, is_call_at}
use Rattle.replay_words.specs.Words.{words_at, with_reply}
use Rattle.replay_words.specs.declared.words.Words.{Words}
use Rattle.replay_words.proofs.Replies.{taken_with_reply, dropped_with_reply, length_with_reply}
use Rattle.replay_call.specs.Dispatched.{Dispatched}
use Rattle.replay_run.specs.Run.{AsRun}

-- ---- the calls left

-- the call that was made is the one of the list
pub call_made :
    (N w : ℕ) (words : List ℕ) (i : ℕ) {v : Words} {h : Memory} {r : Reply} {g : Memory} → v ≡ words_at words i → is_call_at words i ≡ true
    → Dispatched N w v.code v.x v.y v.z h r g → Promise N w (call_at words i) h r g
call_made N w words i {v} {h} {r} {g} read known made =
    (subst (λ (v : Words). Dispatched N w v.code v.x v.y v.z h r g) read made).known known

call_next :
    (words : List ℕ) (n i : ℕ) → i < n → calls_from words i (n - i) ≡ call_at words i ∷ calls_from words (i + 1) (n - (i + 1))
unfolding calls_from
call_next words n i l =
    let one : n - i ≡ suc (n - (i + 1)) = omega arith in
    ap (λ (k : ℕ). calls_from words i k) one

-- ---- the loop's invariant

-- i calls are made, the memory is h and the replies are `replies`; at the start they were `start` and `before`
pub record Progress (N w : ℕ) (start : Memory) (words before : List ℕ) (i : ℕ) (h : Memory) (replies : List ℕ) : Type 0 where
  pub usable : Usable N w h
  pub made : i ≤ length words / 4
  pub room : 3 * (length words / 4) ≤ length before
  pub roots_length : length h.roots ≡ length start.roots
  pub replies_length : length replies ≡ length before
  pub memory_left_lem :
      last_memory start (run N w start (calls_in words)) ≡ last_memory h (run N w h (calls_from words i (length words / 4 - i)))
  pub replies_left :
      reply_words (run N w start (calls_in words)) ++ drop (3 * (length words / 4)) before
      ≡ take (3 * i) replies ++ (reply_words (run N w h (calls_from words i (length words / 4 - i))) ++ drop (3 * (length words / 4)) replies)

module _ {N w : ℕ} {start : Memory} {words before : List ℕ} where
  pub progress_start : Usable N w start → 3 * (length words / 4) ≤ length before → Progress N w start words before 0 start before
  progress_start u room =
      let whole : length words / 4 ≡ length words / 4 - 0 = omega arith in
      record {
        usable = u;
        made = omega arith;
        room = room;
        roots_length = refl;
        replies_length = refl;
        memory_left_lem = ap (λ (k : ℕ). last_memory start (run N w start (calls_from words 0 k))) whole;
        replies_left =
            ap (λ (k : ℕ). reply_words (run N w start (calls_from words 0 k)) ++ drop (3 * (length words / 4)) before) whole;
      }

  pub progress_next :
      {i : ℕ} {h g : Memory} {replies replies' : List ℕ} {made : Reply} → i < length words / 4
      → length g.roots ≡ length h.roots → Promise N w (call_at words i) h made g → replies' ≡ with_reply replies i made
      → Progress N w start words before i h replies → Progress N w start words before (i + 1) g replies'
  unfolding run last_memory reply_words
  progress_next {i} {h} {g} {replies} {replies'} {made} l roots_kept promise put p =
      let n : ℕ = length words / 4 in
      let x : Answer = answer N w h (call_at words i) in
      let rest : List Call = calls_from words (i + 1) (n - (i + 1)) in
      let next : calls_from words i (n - i) ≡ call_at words i ∷ rest = call_next words n i l in
      let left : List ℕ = reply_words (run N w g rest) ++ drop (3 * n) replies' in
      let answered : replies' ≡ with_reply replies i x.0 = put ∙ ap (with_reply replies i) promise.reply_is in
      let kept : drop (3 * n) replies' ≡ drop (3 * n) replies =
      ap (λ (l : List ℕ). drop (3 * n) l) answered ∙ dropped_with_reply replies i x.0 n l in
      let written : take (3 * (i + 1)) replies' ≡ take (3 * i) replies ++ (x.0.number ∷ x.0.value ∷ x.0.second ∷ []) =
      ap (λ (l : List ℕ). take (3 * (i + 1)) l) answered
      ∙ taken_with_reply replies i x.0 (omega (arith, p.room, p.replies_length)) in
      record {
        usable = usable_kept p.usable promise;
        made = omega arith;
        room = p.room;
        roots_length = roots_kept ∙ p.roots_length;
        replies_length = ap length answered ∙ length_with_reply replies i x.0 ∙ p.replies_length;
        memory_left_lem =
            p.memory_left_lem
            ∙ ap (λ (l : List Call). last_memory h (run N w h l)) next
            ∙ ap (λ (m : Memory). last_memory m (run N w m rest)) (sym promise.after_is);
        replies_left =
            p.replies_left
            ∙ ap (λ (l : List Call). take (3 * i) replies ++ (reply_words (run N w h l) ++ drop (3 * n) replies)) next
            ∙ ap (λ (m : Memory). take (3 * i) replies
            ++ (x.0.number ∷ x.0.value ∷ x.0.second ∷ (reply_words (run N w m rest) ++ drop (3 * n) replies)))
            (sym promise.after_is)
            ∙ ap (λ (l : List ℕ). take (3 * i) replies ++ (x.0.number ∷ x.0.value ∷ x.0.second ∷ (reply_words (run N w g rest) ++ l)))
            (sym kept)
            ∙ sym (append_assoc (take (3 * i) replies) (x.0.number ∷ x.0.value ∷ x.0.second ∷ []) left)
            ∙ ap (λ (l : List ℕ). l ++ left) (sym written);
      }

  pub progress_done :
      {i : ℕ} {h : Memory} {replies : List ℕ} → length words / 4 ≤ i → Progress N w start words before i h replies
      → AsRun N w start words before h replies
  unfolding run last_memory reply_words calls_from
  progress_done {i} {h} {replies} l p =
      let n : ℕ = length words / 4 in
      let none : n - i ≡ 0 = omega (arith, p.made) in
      let all : i ≡ n = omega (arith, p.made) in
      record {
        after_is = sym (p.memory_left_lem ∙ ap (λ (k : ℕ). last_memory h (run N w h (calls_from words i k))) none);
        replies_are =
            sym
            (p.replies_left
            ∙ ap (λ (k : ℕ). take (3 * i) replies ++ (reply_words (run N w h (calls_from words i k)) ++ drop (3 * n) replies)) none
            ∙ ap (λ (k : ℕ). take (3 * k) replies ++ drop (3 * n) replies) all
            ∙ take-append-drop (3 * n) replies);
        usable = p.usable;
      }
