-- A run over a piece, from what its whole records come to; and the answer of a run of records.
use mathlib.Core.Path.{◌≡◌, refl, sym, ap, ◌∙◌, subst}
use mathlib.Core.Logic.{inl, inr}
use mathlib.Core.Bool.{true, false}
use mathlib.Core.List.{List}
use Prim.Native.Nat.{ℕ, ◌*◌, ◌≤◌}
use native.Mathlib.Decide.{ℕ_discrete}
use native.Mathlib.Omega.{arith}
use lib.ListN.{length, replicate}
use borrow.Author.Tests.{eq-eqb, ne_eqb}
use Rattle.rules.specs.Heap.{Memory, with_waiting}
use Rattle.rules_calls.specs.Calls.{check, Answer, reply, outcome, answer}
use Rattle.rules_calls.specs.Promise.{Promise}
use Rattle.types.specs.declared.Reply.{Reply}
use Rattle.rules.proofs.Shape.{shape_facts}
use Rattle.rules.proofs.Tests.{test_cases_lem}
use Rattle.rules_calls.proofs.Replies.{accepted_none, Passed, undamaged_passed}
use Rattle.theory_memories.specs.Heaps.{Undamaged}
use Rattle.theory_memories.specs.Words.{in_use}
use Rattle.theory_memories.specs.Heaps.{Usable}
use Rattle.theory_memories.proofs.Memories.Fit.{undamaged_fit}
use Rattle.theory_memories.proofs.Memories.Accepted.{fit_accepted}
use Rattle.theory.proofs.Usable.UsableHeap.{cleared_usable as UsableHeap·cleared_usable, usable_fit}
use Rattle.history_records.specs.Records.{record_length, wide}
use Rattle.history_figures.specs.declared.tally.Run.{Run}
use Rattle.history_figures.specs.Figures.{in_range}
use Rattle.history_figures.proofs.Ranges.{in_range_within}
use Rattle.history_turns.specs.Outcomes.{running}
use Rattle.history_turns.specs.Steps.{Going}
use Rattle.history_runs.specs.declared.Ran.{Ran}
use Rattle.history_runs.specs.Runs.{whole_records, ended, ran_from, ran}
use Rattle.history_runs.specs.RunBy.{RunBy}
use Rattle.history_runs.specs.Promised.{run_reply, refusal, cleared, Promised}
use Rattle.history_runs.proofs.Ends.{ended_range}
use Rattle.history_runs.proofs.CallsMade.{runs_are_calls}

-- ---- a piece

-- the whole records of a piece lie in it
pub whole_room : (bytes : List ℕ) (r : Run) (n : ℕ) → n ≡ whole_records wide bytes r → record_length wide * n ≤ length bytes
whole_room bytes r n whole = omega (arith, whole)

-- a run in range that goes on can take them
pub whole_going :
    (N : ℕ) (h : Memory) (bytes : List ℕ) (r : Run) (n : ℕ) → n ≡ whole_records wide bytes r → r.number ≡ 0 → in_range r ≡ true
    → (used : ℕ) → used ≡ in_use N h → Going N h n (running r used)
whole_going N h bytes r n whole goes_on range used counted =
    record {
      goes_on = goes_on;
      in_range_lem = range;
      more = omega (arith, whole, (in_range_within r range).few);
      used_is = counted;
    }

-- a run that was stopped
pub piece_stopped :
    (bytes : List ℕ) {N w : ℕ} {h : Memory} {r : Run} → Usable N w h → in_range r ≡ true → (r.number ≡ 0 → ⊥) → RunBy N w (ran wide N w bytes h r) r h
unfolding ran
piece_stopped bytes {N} {w} {h} {r} usable range stopped =
    rw (ne_eqb r.number 0 stopped, ran) record { run_is = refl; memory_is = refl; in_range_lem = range; usable = usable }

-- one that goes on
pub piece_ran :
    (bytes : List ℕ) (h : Memory) (r : Run) {N w n : ℕ} → r.number ≡ 0 → n ≡ whole_records wide bytes r → {last is : Run} {g : Memory}
    → RunBy N w (ran_from wide n N w bytes 0 h r) last g → is ≡ ended wide (length bytes) n last → RunBy N w (ran wide N w bytes h r) is g
unfolding ran
piece_ran bytes h r {n = n} goes_on whole {last} {is} {g} by e =
    rw (eq-eqb r.number 0 goes_on, ran, ← whole)
    record {
      run_is = e ∙ ap (ended wide (length bytes) n) by.run_is;
      memory_is = by.memory_is;
      in_range_lem = subst (λ (x : Run). in_range x ≡ true) (sym e) (ended_range (length bytes) n last by.in_range_lem);
      usable = by.usable;
    }

-- ---- the reply

module _ (N w : ℕ) (h : Memory) (r : Run) (passed : (answer N w h check).0.number ≡ 0) where
  -- a run out of range
  reply_out : in_range r ≡ false → run_reply N w h r ≡ reply 19 0 0
  unfolding run_reply
  reply_out out = rw (eq-eqb (answer N w h check).0.number 0 passed, out, run_reply)

  -- all is right
  reply_right : in_range r ≡ true → run_reply N w h r ≡ reply 0 0 0
  unfolding run_reply
  reply_right range = rw (eq-eqb (answer N w h check).0.number 0 passed, range, run_reply)

-- y is what the check answers
module _ {N w : ℕ} {h : Memory} {y : Reply} (checked : Promise N w check h y h) (r : Run) where
  check_number : (answer N w h check).0.number ≡ y.number
  check_number = ap (λ (v : Reply). v.number) (sym checked.reply_is)

  -- it refuses
  pub reply_unsound : (y.number ≡ 0 → ⊥) → y ≡ run_reply N w h r
  unfolding run_reply
  reply_unsound refused =
      checked.reply_is ∙ sym (rw (ne_eqb (answer N w h check).0.number 0 (λ z. refused (sym check_number ∙ z)), run_reply))

  -- it accepts
  module _ (accepts : y.number ≡ 0) where
    pub reply_range : in_range r ≡ false → {x : Reply} → x ≡ reply 19 0 0 → x ≡ run_reply N w h r
    reply_range out e = e ∙ sym (reply_out N w h r (check_number ∙ accepts) out)

    pub reply_passed : in_range r ≡ true → {x : Reply} → x ≡ reply 0 0 0 → x ≡ run_reply N w h r
    reply_passed range e = e ∙ sym (reply_right N w h r (check_number ∙ accepts) range)

-- an undamaged heap and a run in range are accepted
pub undamaged_accepted : {N w : ℕ} {h : Memory} → Undamaged N w h → (r : Run) → in_range r ≡ true → run_reply N w h r ≡ reply 0 0 0
unfolding outcome Passed
undamaged_accepted {N} {w} {h} undamaged r range =
    reply_right N w h r (ap (λ (x : Answer). x.0.number) (fit_accepted N w h (undamaged_fit N w h undamaged) check refl tt)) range

-- what an accepted run of records starts from
pub record Accepted (N w : ℕ) (h : Memory) (r : Run) : Type 0 where
  pub reply_is : run_reply N w h r ≡ reply 0 0 0
  pub undamaged : Undamaged N w h
  pub range : in_range r ≡ true

pub accepted : {N w : ℕ} {h : Memory} {r : Run} {x : Reply} → x ≡ run_reply N w h r → x.number ≡ 0 → Accepted N w h r
unfolding run_reply
accepted {N} {w} {h} {r} is accepts = elim (ℕ_discrete (answer N w h check).0.number 0) [
  | no refused ↦ absurd (refused (rw (ne_eqb (answer N w h check).0.number 0 refused, run_reply) at zero))
  | yes passed ↦ elim (test_cases_lem (in_range r)) [
    | inl range ↦
        let tests = undamaged_passed N w h check refl (accepted_none N w h check passed) in
        record {
          reply_is = reply_right N w h r passed range;
          undamaged = record { intact = record { right_shape = tests.0; no_damage = tests.1 }; true_list = tests.2; tidy = tests.3 };
          range = range;
        }
    | inr out ↦ absurd (nineteen (ap (λ (v : Reply). v.number) (sym (reply_out N w h r passed out)) ∙ zero))
  ]
]
  where
    zero : (run_reply N w h r).number ≡ 0
    zero = ap (λ (v : Reply). v.number) (sym is) ∙ accepts

    nineteen : ◌≡◌ {A = ℕ} 19 0 → ⊥
    nineteen e = omega arith

-- ---- the heap that it starts from, with its waiting list cleared

module _ {N w : ℕ} {h : Memory} {r : Run} (from : Accepted N w h r) {waiting : List ℕ} (clear : waiting ≡ replicate (length h.waiting) 0) where
  is_cleared : cleared N h ≡ with_waiting waiting h
  is_cleared =
      ap (λ (l : List ℕ). with_waiting l h)
      (ap (λ (n : ℕ). replicate n 0) (sym (shape_facts N w h from.undamaged.intact.right_shape).length_waiting) ∙ sym clear)

  pub cleared_usable : Usable N w (with_waiting waiting h)
  cleared_usable = subst (λ (k : Memory). Usable N w k) is_cleared (UsableHeap·cleared_usable from.undamaged)

-- ---- the answer

module _ {N w : ℕ} {bytes : List ℕ} {h : Memory} {r : Run} {x : Reply} (is : x ≡ run_reply N w h r) where
  pub refused_promised : (x.number ≡ 0 → ⊥) → {y : Ran} → y ≡ refusal x → Promised N w bytes h r y h
  refused_promised refused {y} e =
      let stops = ne_eqb (run_reply N w h r).number 0 (λ z. refused (ap (λ (v : Reply). v.number) is ∙ z)) in
      let none : y.reply.number ≡ 0 → ⊥ = λ z. refused (ap (λ (v : Ran). v.reply.number) (sym e) ∙ z) in
      record {
        reply_is = ap (λ (v : Ran). v.reply) e ∙ is;
        run_is = ap (λ (v : Ran). v.run) e ∙ sym (rw stops);
        after_is = sym (rw stops);
        idle = λ z. absurd (none z);
        listed = λ z. absurd (none z);
        again = λ z. absurd (none z);
        calls = λ z. absurd (none z);
      }

  -- the run went on
  pub run_promised :
      x.number ≡ 0 → {waiting : List ℕ} → waiting ≡ replicate (length h.waiting) 0 → {after : Run} {g : Memory}
      → RunBy N w (ran wide N w bytes (with_waiting waiting h) r) after g → Promised N w bytes h r (record { reply = x; run = after }) g
  run_promised accepts clear {after} {g} by =
      let from = accepted is accepts in
      let zero : run_reply N w h r ≡ reply 0 0 0 = from.reply_is in
      let ran-by = subst (λ (k : Memory). RunBy N w (ran wide N w bytes k r) after g) (sym (is_cleared from clear)) by in
      record {
        reply_is = is;
        run_is = ran-by.run_is ∙ sym (rw zero);
        after_is = ran-by.memory_is ∙ sym (rw zero);
        idle = λ _. ran-by.usable.idle;
        listed = λ _. (usable_fit ran-by.usable).listed;
        again = λ _. ran-by.in_range_lem;
        calls = λ _. runs_are_calls N w bytes (cleared N h) r (UsableHeap·cleared_usable from.undamaged).undamaged;
      }
