-- What came of a record that stops the run, and of one whose call is a store or a number write.
use mathlib.Core.Path.{◌≡◌, refl, sym, ap, ap₂, ◌∙◌}
use mathlib.Core.Bool.{Bool, false}
use Prim.Native.Nat.{ℕ}
use native.Mathlib.Decide.{ℕ_discrete}
use native.Mathlib.Omega.{arith}
use lib.Dec.{eqb}
use borrow.Author.Tests.{ne_eqb}
use Rattle.bitmap.specs.Bit.{one}
use Rattle.rules.specs.Heap.{Memory}
use Rattle.rules_calls.specs.Calls.{Call, store_root, store_cell, write_number, Alone, own_refusals, outcome, answer}
use Rattle.rules.proofs.Tests.{also, done as no_more}
use Rattle.rules_calls.proofs.Replies.{answer_either}
use Rattle.types.specs.declared.Reply.{Reply}
use Rattle.types.specs.Told.{Came}
use Rattle.theory.specs.Balance.{allocates, allocated_by}
use Rattle.theory.proofs.EachCall.Five.{not_five, store_root_not_five, store_cell_not_five}
use Rattle.theory_memories.specs.Heaps.{Usable}
use Rattle.types.specs.Told.{reply_of}
use Rattle.theory.specs.Usable.{Worked}
use Rattle.theory.proofs.Usable.WorkDone.{accepted_allocates, refused_allocates, call_balance, refused_keeps}
use Rattle.history_plans.specs.Asked.{makes, stops}
use Rattle.history_figures.specs.declared.tally.Tally.{Tally}
use Rattle.history_figures.specs.Figures.{counted_in, told_stuck, moment_in, noted, noted_all}
use Rattle.history_turns.specs.Turns.{made_on, turn_of}
use Rattle.history_turns.specs.Outcomes.{done, with_collection, with_allocation}
use Rattle.history_turns.specs.Steps.{Acted}
use Rattle.history_turns.proofs.Figures.{told_stuck_lem, noted_refused, noted_accepted}
use Rattle.history_turns.proofs.Turns.{acted_as, turn_once}

pub acted_stop : (w : ℕ) {N : ℕ} {h : Memory} {number : ℕ} → Acted N h (turn_of N w h (stops number)) (done number 0 false 0 false) h
unfolding turn_of noted_all with_collection with_allocation moment_in
acted_stop w =
    record {
      number_is = refl;
      after_is = refl;
      figures_are = λ t. refl;
      balance = omega arith;
      allocated_few = omega arith;
      refused_none = λ _. (refl, refl);
    }

-- a call that allocates nothing and is counted in no figure but the last
record Plain (c : Call) : Type 0 where
  alone : Alone c
  uncounted : (x : Reply) (t : Tally) → counted_in c x t ≡ t
  told : (N w : ℕ) (h : Memory) → told_stuck c (answer N w h c).0 ≡ eqb (answer N w h c).0.second 1
  none_new : (x : Reply) → allocates c x ≡ 0
  not_five : (N w : ℕ) (h : Memory) → (answer N w h c).0.number ≡ 5 → ⊥

store_root_plain : (r v : ℕ) → Plain (store_root r v)
unfolding counted_in told_stuck allocates
store_root_plain r v =
    record { alone = refl; uncounted = λ x t. refl; told = λ N w h. refl; none_new = λ x. refl; not_five = λ N w h. store_root_not_five N w h r v }

store_cell_plain : (a j v : ℕ) → Plain (store_cell a j v)
unfolding counted_in told_stuck allocates
store_cell_plain a j v =
    record { alone = refl; uncounted = λ x t. refl; told = λ N w h. refl; none_new = λ x. refl; not_five = λ N w h. store_cell_not_five N w h a j v }

-- the second value of a number write is 0
number_plain : (a j v : ℕ) → Plain (write_number a j v)
unfolding counted_in told_stuck allocates own_refusals outcome
number_plain a j v =
    record {
      alone = refl;
      uncounted = λ x t. refl;
      told = λ N w h.
          sym
          (answer_either N w h (write_number a j v) (λ x. eqb x.0.second 1 ≡ false) (λ number nonzero. refl) (λ _. refl));
      none_new = λ x. refl;
      not_five = λ N w h.
          not_five N w h (write_number a j v) (also (omega arith) (also (omega arith) (also (omega arith) no_more)));
    }

module _ {N w : ℕ} {h : Memory} (usable : Usable N w h) where
  acted_plain :
      (c : Call) → Plain c → {x : Came} {g : Memory} → Worked N w c h x g
      → Acted N h (turn_of N w h (makes c)) (done x.number 0 false x.freed x.stuck) g
  unfolding noted_all with_collection with_allocation moment_in
  acted_plain c plain {x} {g} worked =
      acted_as (turn_once N w h c (plain.not_five N w h))
      record {
        number_is = number_is;
        after_is = worked.promise.after_is;
        figures_are = λ t. sym (counted t);
        balance = omega (arith, worked.freed_is, call_balance usable plain.alone worked.promise, none_new);
        allocated_few = omega arith;
        refused_none = λ refused. (refl, untold refused);
      }
    where
      number_is : x.number ≡ (answer N w h c).0.number
      number_is = ap (λ (y : Reply). y.number) worked.promise.reply_is

      none_new : allocated_by c (reply_of x) ≡ 0
      none_new = elim (ℕ_discrete x.number 0) [
        | yes e ↦ accepted_allocates c (reply_of x) e ∙ plain.none_new (reply_of x)
        | no e ↦ refused_allocates c (reply_of x) e
      ]

      -- a refused one sticks nothing
      untold : (x.number ≡ 0 → ⊥) → x.stuck ≡ false
      untold refused =
          sym (told_stuck_lem x.stuck)
          ∙ ne_eqb (one x.stuck) 1 (λ e. omega (arith, (refused_keeps usable plain.alone worked.promise refused).2))

      told : told_stuck c (answer N w h c).0 ≡ x.stuck
      told =
          plain.told N w h
          ∙ ap (λ (y : Reply). eqb y.second 1) (sym worked.promise.reply_is)
          ∙ told_stuck_lem x.stuck

      counted : (t : Tally) → noted (made_on N w h c) t ≡ moment_in x.stuck t
      counted t = elim (ℕ_discrete (answer N w h c).0.number 0) [
        | yes e ↦ noted_accepted (made_on N w h c) t e ∙ ap₂ moment_in told (plain.uncounted (answer N w h c).0 t)
        | no e ↦
            noted_refused (made_on N w h c) t e ∙ sym (ap (λ (s : Bool). moment_in s t) (untold (λ z. e (sym number_is ∙ z))))
      ]

  pub acted_root :
      {r v : ℕ} {x : Came} {g : Memory} → Worked N w (store_root r v) h x g
      → Acted N h (turn_of N w h (makes (store_root r v))) (done x.number 0 false x.freed x.stuck) g
  acted_root {r} {v} = acted_plain (store_root r v) (store_root_plain r v)

  pub acted_cell :
      {a j v : ℕ} {x : Came} {g : Memory} → Worked N w (store_cell a j v) h x g
      → Acted N h (turn_of N w h (makes (store_cell a j v))) (done x.number 0 false x.freed x.stuck) g
  acted_cell {a} {j} {v} = acted_plain (store_cell a j v) (store_cell_plain a j v)

  pub acted_number :
      {a j v : ℕ} {x : Came} {g : Memory} → Worked N w (write_number a j v) h x g
      → Acted N h (turn_of N w h (makes (write_number a j v))) (done x.number 0 false x.freed x.stuck) g
  acted_number {a} {j} {v} = acted_plain (write_number a j v) (number_plain a j v)
