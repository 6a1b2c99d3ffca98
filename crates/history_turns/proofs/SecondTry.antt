-- What came of an allocation that was tried twice: first of the collection, accepted or refused, and the second try, then of the whole record.
use mathlib.Core.Path.{◌≡◌, refl, sym, ap, ◌∙◌}
use mathlib.Core.Bool.{false}
use mathlib.Core.List.{[], ◌∷◌}
use Prim.Native.Nat.{ℕ, ◌+◌, ◌^◌, ◌≤◌, ◌<◌}
use native.Mathlib.Decide.{ℕ_discrete}
use native.Mathlib.Omega.{arith}
use lib.Dec.{eqb}
use borrow.Author.Tests.{eq-eqb, ne_eqb}
use Rattle.rules.specs.Heap.{Memory}
use Rattle.rules_calls.specs.Calls.{Call, collect, answer}
use Rattle.types.specs.Told.{Came}
use Rattle.theory_memories.specs.Heaps.{Usable}
use Rattle.theory.specs.Usable.{Worked}
use Rattle.theory.proofs.Usable.UsableHeap.{usable_healthy}
use Rattle.theory.proofs.Usable.UsableAfterCalls.{usable_kept}
use Rattle.history_plans.specs.Asked.{makes}
use Rattle.history_figures.specs.declared.tally.Tally.{Tally}
use Rattle.history_figures.specs.Figures.{moment_in, noted, noted_all}
use Rattle.history_turns.specs.Turns.{made_on, Turn, turn, tried_again, turn_of}
use Rattle.history_turns.specs.Outcomes.{done, done_after, with_collection, with_allocation}
use Rattle.history_turns.specs.Steps.{Acted}
use Rattle.history_turns.proofs.Figures.{with_allocated}
use Rattle.history_turns.proofs.Turns.{acted_as}
use Rattle.history_turns.proofs.Collections.{with_accepted, collect_noted, collect_balance}
use Rattle.history_turns.proofs.FirstTry.{Allocation, reply_number, refused_noted, refused_balance, size_fits, accepted_noted, accepted_balance, acted_again}

module _ {N w : ℕ} {h : Memory} (usable : Usable N w h) {c : Call} {n : ℕ} (new : Allocation c n) {y : Came} {k : Memory}
    (forced : Worked N w collect h y k) {second : Came} {g : Memory} (tried : Worked N w c k second g) where
  forced_usable : Usable N w k
  forced_usable = usable_kept usable forced.promise

  abbrev again : Turn
  again =
      turn (answer N w k c).0.number (made_on N w h collect ∷ made_on N w k c ∷ [])
      (answer N w k c).1

  tried_again_lem : tried_again N w h c ≡ again
  unfolding tried_again
  tried_again_lem =
      ap
      (λ (m : Memory).
      turn (answer N w m c).0.number (made_on N w h collect ∷ made_on N w m c ∷ [])
      (answer N w m c).1)
      (sym forced.promise.after_is)

  -- the two calls noted, one after the other
  both_noted : (t : Tally) → noted_all again.made t ≡ noted (made_on N w k c) (with_accepted y t)
  unfolding noted_all
  both_noted t = ap (noted (made_on N w k c)) (collect_noted usable forced t)

  -- together they free no more blocks than two heaps have
  freed_few : y.freed + second.freed ≤ N + N
  freed_few = elim (ℕ_discrete second.number 0) [
    | yes e ↦
        omega (
          arith,
          collect_balance usable forced,
          accepted_balance forced_usable new tried e,
          (size_fits forced_usable new tried e).1,
        )
    | no e ↦ omega (arith, collect_balance usable forced, refused_balance forced_usable new tried e)
  ]

  again_refused :
      (second.number ≡ 0 → ⊥)
      → Acted N h (tried_again N w h c) (done second.number 0 (eqb y.number 0) (y.freed + second.freed) false) g
  unfolding with_collection with_allocation moment_in
  again_refused refused =
      acted_as tried_again_lem
      record {
        number_is = sym (reply_number forced_usable new tried);
        after_is = tried.promise.after_is;
        figures_are = λ t. sym (both_noted t ∙ refused_noted forced_usable new tried refused (with_accepted y t));
        balance =
            omega (arith, collect_balance usable forced, refused_balance forced_usable new tried refused);
        allocated_few = omega arith;
        refused_none = λ _. (refl, refl);
      }

  again_allocated :
      second.number ≡ 0 → Acted N h (tried_again N w h c) (done 0 n (eqb y.number 0) (y.freed + second.freed) second.stuck) g
  unfolding with_collection
  again_allocated accepted =
      let size = size_fits forced_usable new tried accepted in
      acted_as tried_again_lem
      record {
        number_is = sym (reply_number forced_usable new tried ∙ accepted);
        after_is = tried.promise.after_is;
        figures_are = λ t.
            ap (moment_in second.stuck)
            (with_allocated n (eqb y.number 0) 0 (y.freed + second.freed) second.stuck (with_accepted y t) size.0)
            ∙ sym (both_noted t ∙ accepted_noted forced_usable new tried accepted (with_accepted y t));
        balance =
            omega (arith, collect_balance usable forced, accepted_balance forced_usable new tried accepted);
        allocated_few = size.1;
        refused_none = λ some. absurd (some refl);
      }

  again_acted : Acted N h (tried_again N w h c) (done_after second n (eqb y.number 0) y.freed) g
  unfolding done_after
  again_acted = elim (ℕ_discrete second.number 0) [
    | yes accepted ↦ rw (eq-eqb second.number 0 accepted, done_after) (again_allocated accepted)
    | no refused ↦ rw (ne_eqb second.number 0 refused, done_after) (again_refused refused)
  ]

-- ---- an allocation that was tried twice: the first try left k, the collection l

module _ {N w : ℕ} {h : Memory} (usable : Usable N w h) {c : Call} {n : ℕ} (new : Allocation c n) {first : Came} {k : Memory}
    (tried : Worked N w c h first k) {y : Came} {l : Memory} (forced : Worked N w collect k y l) {second : Came} {g : Memory}
    (retried : Worked N w c l second g) where
  tried_usable : Usable N w k
  tried_usable = usable_kept usable tried.promise

  pub freed_fits : y.freed + second.freed < 2 ^ 64
  freed_fits =
      omega (arith, freed_few tried_usable new forced retried, (usable_healthy usable).shape.blocks_max)

  pub acted_twice : first.number ≡ 5 → Acted N h (turn_of N w h (makes c)) (done_after second n (eqb y.number 0) y.freed) g
  acted_twice none_free =
      acted_again usable new tried none_free (again_acted tried_usable new forced retried)
