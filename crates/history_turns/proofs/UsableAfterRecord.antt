-- What a record keeps: a usable heap stays usable. And the number of the run after it.
use mathlib.Core.Path.{◌≡◌, refl, sym, subst}
use Prim.Native.Nat.{ℕ}
use native.Mathlib.Decide.{ℕ_discrete}
use borrow.Author.Tests.{eq-eqb, ne_eqb}
use Rattle.rules.specs.Heap.{Memory}
use Rattle.rules_calls.specs.Calls.{Call, collect, answer}
use Rattle.theory_memories.specs.Heaps.{Usable}
use Rattle.theory.proofs.Usable.UsableAfterCalls.{usable_kept}
use Rattle.history_plans.specs.Asked.{Asked, makes, stops}
use Rattle.history_figures.specs.declared.tally.Run.{Run}
use Rattle.history_turns.specs.Turns.{Turn, tried_again, turn_of, after_turn}
use Rattle.history_turns.proofs.Turns.{turn_once, turn_again}

call_usable : (N w : ℕ) (h : Memory) → Usable N w h → (c : Call) → Usable N w (answer N w h c).1
call_usable N w h usable c =
    usable_kept usable {c = c} (record { reply_is = refl; after_is = refl })

pub turn_usable : (N w : ℕ) (h : Memory) → Usable N w h → (x : Asked) → Usable N w (turn_of N w h x).after
unfolding turn_of tried_again
turn_usable N w h usable (stops number) = usable
turn_usable N w h usable (makes c) =
    let first = call_usable N w h usable c in
    let second = call_usable N w _ (call_usable N w _ first collect) c in
    elim (ℕ_discrete (answer N w h c).0.number 5) [
      | yes e ↦ subst (λ (x : Turn). Usable N w x.after) (sym (turn_again N w h c e)) second
      | no e ↦ subst (λ (x : Turn). Usable N w x.after) (sym (turn_once N w h c e)) first
    ]

-- the run after a turn has the turn's number
pub after_number : (N : ℕ) (x : Turn) (r : Run) → (after_turn N x r).number ≡ x.number
unfolding after_turn
after_number N x r = elim (ℕ_discrete x.number 0) [
  | yes e ↦ rw (eq-eqb x.number 0 e, after_turn) (sym e)
  | no e ↦ rw (ne_eqb x.number 0 e, after_turn)
]
