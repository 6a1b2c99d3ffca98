-- What came of a record whose call is an allocation that was tried once; and, where no chunk was free, from what came of the second try.
use mathlib.Core.Path.{◌≡◌, refl, sym, ap, ap₂, ◌∙◌, subst}
use mathlib.Core.Bool.{Bool, true, false}
use Prim.Native.Nat.{ℕ, ◌+◌, ◌≤◌}
use native.Mathlib.Decide.{ℕ_discrete}
use native.Mathlib.Omega.{arith}
use lib.Dec.{eqb}
use borrow.Author.Tests.{eq-eqb, ne_eqb}
use Rattle.rules.specs.Heap.{Memory}
use Rattle.rules_calls.specs.Calls.{Call, allocate, allocate_data, allocate_as, Alone, answer}
use Rattle.types.specs.declared.Reply.{Reply}
use Rattle.types.specs.Told.{Came}
use Rattle.rules_calls.proofs.Replies.{accepted_none, Passed, passed}
use Rattle.theory_memories.specs.Words.{in_use}
use Rattle.theory.specs.Balance.{allocates, allocated_by}
use Rattle.theory_memories.specs.Heaps.{Usable}
use Rattle.types.specs.Told.{reply_of}
use Rattle.theory.specs.Usable.{Worked}
use Rattle.theory.proofs.Usable.WorkDone.{accepted_allocates, refused_allocates, call_balance, refused_keeps}
use Rattle.history_plans.specs.Asked.{makes}
use Rattle.history_figures.specs.declared.tally.Tally.{Tally}
use Rattle.history_figures.specs.Figures.{allocated, counted_in, told_stuck, moment_in, noted, noted_all}
use Rattle.history_turns.specs.declared.outcome.Done.{Done}
use Rattle.history_turns.specs.Turns.{made_on, Turn, tried_again, turn_of}
use Rattle.history_turns.specs.Outcomes.{done, done_after, with_collection, with_allocation}
use Rattle.history_turns.specs.Steps.{Acted}
use Rattle.history_turns.proofs.Figures.{told_stuck_lem, noted_refused, noted_accepted, with_allocated}
use Rattle.history_turns.proofs.Turns.{acted_as, turn_once, turn_again}

-- a call that allocates n blocks: it is counted, it tells of what became stuck, and what is accepted has a size
-- from 1 to N
pub record Allocation (c : Call) (n : ℕ) : Type 0 where
  pub alone : Alone c
  pub counted : (x : Reply) (t : Tally) → counted_in c x t ≡ allocated n t
  pub told : (x : Reply) → told_stuck c x ≡ eqb x.second 1
  pub new : (x : Reply) → allocates c x ≡ n
  pub sized : (N w : ℕ) (h : Memory) → (answer N w h c).0.number ≡ 0 → (1 ≤ n) × (n ≤ N)

accepted_size : (N w : ℕ) (h : Memory) (n r : ℕ) → (answer N w h (allocate n r)).0.number ≡ 0 → (1 ≤ n) × (n ≤ N)
unfolding Passed
accepted_size N w h n r accepted =
    let all = passed N w h (allocate n r) (accepted_none N w h (allocate n r) accepted) in
    (all.0, all.1)

accepted_data_size :
    (N w : ℕ) (h : Memory) (n r : ℕ) → (answer N w h (allocate_data n r)).0.number ≡ 0 → (1 ≤ n) × (n ≤ N)
unfolding Passed
accepted_data_size N w h n r accepted =
    let all = passed N w h (allocate_data n r) (accepted_none N w h (allocate_data n r) accepted) in
    (all.0, all.1)

pub allocation : (asData : Bool) (n r : ℕ) → Allocation (allocate_as asData n r) n
unfolding counted_in told_stuck allocates
allocation true n r =
    record { alone = refl; counted = λ x t. refl; told = λ x. refl; new = λ x. refl; sized = λ N w h. accepted_data_size N w h n r }
allocation false n r =
    record { alone = refl; counted = λ x t. refl; told = λ x. refl; new = λ x. refl; sized = λ N w h. accepted_size N w h n r }

module _ {N w : ℕ} {h : Memory} (usable : Usable N w h) {c : Call} {n : ℕ} (new : Allocation c n) {done' : Came} {g : Memory}
    (tried : Worked N w c h done' g) where
  pub reply_number : (answer N w h c).0.number ≡ done'.number
  reply_number = ap (λ (y : Reply). y.number) (sym tried.promise.reply_is)

  tried_balance : in_use N h + allocated_by c (reply_of done') ≡ done'.freed + in_use N g
  tried_balance = omega (arith, call_balance usable new.alone tried.promise, tried.freed_is)

  -- it was refused ..
  module _ (refused : done'.number ≡ 0 → ⊥) where
    pub refused_noted : (t : Tally) → noted (made_on N w h c) t ≡ t
    refused_noted t = noted_refused (made_on N w h c) t (λ e. refused (sym reply_number ∙ e))

    pub refused_balance : in_use N h ≡ done'.freed + in_use N g
    refused_balance = omega (arith, tried_balance, refused_allocates c (reply_of done') refused)

  -- .. or accepted
  module _ (accepted : done'.number ≡ 0) where
    pub size_fits : (1 ≤ n) × (n ≤ N)
    size_fits = new.sized N w h (reply_number ∙ accepted)

    pub accepted_noted : (t : Tally) → noted (made_on N w h c) t ≡ moment_in done'.stuck (allocated n t)
    accepted_noted t =
        let told = new.told (answer N w h c).0 ∙ ap (λ (x : Reply). eqb x.second 1) (sym tried.promise.reply_is) in
        noted_accepted (made_on N w h c) t (reply_number ∙ accepted)
        ∙ ap₂ moment_in (told ∙ told_stuck_lem done'.stuck) (new.counted (answer N w h c).0 t)

    pub accepted_balance : in_use N h + n ≡ done'.freed + in_use N g
    accepted_balance = omega (arith, tried_balance, accepted_allocates c (reply_of done') accepted, new.new (reply_of done'))

  once : (done'.number ≡ 5 → ⊥) → (answer N w h c).0.number ≡ 5 → ⊥
  once other e = other (sym reply_number ∙ e)

  acted_refused :
      (done'.number ≡ 0 → ⊥) → (done'.number ≡ 5 → ⊥)
      → Acted N h (turn_of N w h (makes c)) (done done'.number 0 false (0 + done'.freed) false) g
  unfolding noted_all with_collection with_allocation moment_in
  acted_refused refused other =
      acted_as (turn_once N w h c (once other))
      record {
        number_is = sym reply_number;
        after_is = tried.promise.after_is;
        figures_are = λ t. sym (refused_noted refused t);
        balance = omega (arith, refused_balance refused);
        allocated_few = omega arith;
        refused_none = λ _. (refl, refl);
      }

  acted_allocated :
      done'.number ≡ 0 → Acted N h (turn_of N w h (makes c)) (done 0 n false (0 + done'.freed) done'.stuck) g
  unfolding noted_all with_collection
  acted_allocated accepted =
      acted_as (turn_once N w h c (once (λ e. omega arith)))
      record {
        number_is = sym (reply_number ∙ accepted);
        after_is = tried.promise.after_is;
        figures_are = λ t.
            ap (moment_in done'.stuck) (with_allocated n false 0 (0 + done'.freed) done'.stuck t (size_fits accepted).0)
            ∙ sym (accepted_noted accepted t);
        balance = omega (arith, accepted_balance accepted);
        allocated_few = (size_fits accepted).1;
        refused_none = λ some. absurd (some refl);
      }

  -- it was tried once
  pub acted_once :
      (done'.number ≡ 5 → ⊥) → Acted N h (turn_of N w h (makes c)) (done_after done' n false 0) g
  unfolding done_after
  acted_once other = elim (ℕ_discrete done'.number 0) [
    | yes accepted ↦ rw (eq-eqb done'.number 0 accepted, done_after) (acted_allocated accepted)
    | no refused ↦ rw (ne_eqb done'.number 0 refused, done_after) (acted_refused refused other)
  ]

  -- no chunk was free: what came of the second try came of the record
  pub acted_again :
      done'.number ≡ 5 → {d : Done} {k : Memory} → Acted N g (tried_again N w g c) d k
      → Acted N h (turn_of N w h (makes c)) d k
  unfolding noted_all
  acted_again none_free {d} {k} acted =
      let refused : done'.number ≡ 0 → ⊥ = λ z. omega arith in
      let there : tried_again N w g c ≡ tried_again N w (answer N w h c).1 c =
      ap (λ (m : Memory). tried_again N w m c) tried.promise.after_is in
      let second = subst (λ (x : Turn). Acted N g x d k) there acted in
      acted_as (turn_again N w h c (reply_number ∙ none_free))
      record {
        number_is = second.number_is;
        after_is = second.after_is;
        figures_are = λ t.
            second.figures_are t
            ∙ ap (noted_all (tried_again N w (answer N w h c).1 c).made) (sym (refused_noted refused t));
        balance = omega (arith, acted.balance, ap (λ (m : Memory). in_use N m) (refused_keeps usable new.alone tried.promise refused).0);
        allocated_few = acted.allocated_few;
        refused_none = acted.refused_none;
      }
