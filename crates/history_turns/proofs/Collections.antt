-- What came of a record whose call is a collection: it was accepted, or refused since one was open, and then it is not counted.
use mathlib.Core.Path.{◌≡◌, refl, sym, ap}
use mathlib.Core.Bool.{true, false}
use Prim.Native.Nat.{ℕ, ◌+◌}
use native.Mathlib.Decide.{ℕ_discrete}
use native.Mathlib.Omega.{arith}
use lib.Dec.{eqb}
use Rattle.rules.specs.Heap.{Memory}
use Rattle.rules_calls.specs.Calls.{collect, own_refusals, answer}
use Rattle.rules.proofs.Tests.{also, done as no_more}
use Rattle.types.specs.declared.Reply.{Reply}
use Rattle.types.specs.Told.{Came}
use Rattle.theory_memories.specs.Words.{in_use}
use Rattle.theory.specs.Balance.{allocates, allocated_by}
use Rattle.theory_memories.specs.Heaps.{Usable}
use Rattle.types.specs.Told.{reply_of}
use Rattle.theory.specs.Usable.{Worked}
use Rattle.theory.proofs.EachCall.Five.{not_five}
use Rattle.theory.proofs.Usable.WorkDone.{accepted_allocates, refused_allocates, call_balance}
use Rattle.history_plans.specs.Asked.{makes}
use Rattle.history_figures.specs.declared.tally.Tally.{Tally}
use Rattle.history_figures.specs.Figures.{collected, counted_in, told_stuck, moment_in, noted, noted_all}
use Rattle.history_turns.specs.Turns.{made_on, turn_of}
use Rattle.history_turns.specs.Outcomes.{done, with_collection, with_allocation}
use Rattle.history_turns.specs.Steps.{Acted}
use Rattle.history_turns.proofs.Turns.{acted_as, turn_once}

-- figures with a collection more, where it was accepted
abbrev pub with_accepted : Came → Tally → Tally
with_accepted y t = elim (eqb y.number 0) [ true ↦ collected t | false ↦ t ]

module _ {N w : ℕ} {h : Memory} (usable : Usable N w h) {y : Came} {k : Memory} (worked : Worked N w collect h y k) where
  number_is : y.number ≡ (answer N w h collect).0.number
  number_is = ap (λ (v : Reply). v.number) worked.promise.reply_is

  pub collect_noted : (t : Tally) → noted (made_on N w h collect) t ≡ with_accepted y t
  unfolding noted counted_in told_stuck moment_in
  collect_noted t = ap (λ (number : ℕ). elim (eqb number 0) as (λ _. Tally) [ true ↦ collected t | false ↦ t ]) (sym number_is)

  none_new : allocated_by collect (reply_of y) ≡ 0
  unfolding allocates
  none_new = elim (ℕ_discrete y.number 0) [
    | yes e ↦ accepted_allocates collect (reply_of y) e
    | no e ↦ refused_allocates collect (reply_of y) e
  ]

  pub collect_balance : in_use N h ≡ y.freed + in_use N k
  collect_balance = omega (arith, worked.freed_is, call_balance usable refl worked.promise, none_new)

  pub acted_collect : Acted N h (turn_of N w h (makes collect)) (done y.number 0 (eqb y.number 0) y.freed false) k
  unfolding noted_all with_collection with_allocation moment_in own_refusals
  acted_collect =
      acted_as (turn_once N w h collect (not_five N w h collect (also (omega arith) no_more)))
      record {
        number_is = number_is;
        after_is = worked.promise.after_is;
        figures_are = λ t. sym (collect_noted t);
        balance = omega (arith, collect_balance);
        allocated_few = omega arith;
        refused_none = λ _. (refl, refl);
      }
