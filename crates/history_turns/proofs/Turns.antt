-- A turn of one call, and of three; and what came of a turn that is equal to another.
use mathlib.Core.Path.{◌≡◌, sym, subst}
use mathlib.Core.List.{[], ◌∷◌}
use Prim.Native.Nat.{ℕ}
use borrow.Author.Tests.{eq-eqb, ne_eqb}
use Rattle.rules.specs.Heap.{Memory}
use Rattle.rules_calls.specs.Calls.{Call, answer}
use Rattle.history_plans.specs.declared.Plan.{Plan}
use Rattle.history_plans.specs.Meaning.{meaning}
use Rattle.history_plans.specs.Asked.{makes}
use Rattle.history_turns.specs.declared.outcome.Done.{Done}
use Rattle.history_turns.specs.Turns.{made_on, Turn, turn, tried_again, turn_of}
use Rattle.history_turns.specs.Steps.{Acted}

module _ (N w : ℕ) (h : Memory) (c : Call) where
  pub turn_once : ((answer N w h c).0.number ≡ 5 → ⊥)
      → turn_of N w h (makes c) ≡ turn (answer N w h c).0.number (made_on N w h c ∷ []) (answer N w h c).1
  unfolding turn_of
  turn_once other = rw (ne_eqb (answer N w h c).0.number 5 other, turn_of)

  pub turn_again : (answer N w h c).0.number ≡ 5
      → let again = tried_again N w (answer N w h c).1 c in
      turn_of N w h (makes c) ≡ turn again.number (made_on N w h c ∷ again.made) again.after
  unfolding turn_of
  turn_again none_free = rw (eq-eqb (answer N w h c).0.number 5 none_free, turn_of)

-- one equal to what came of a turn
pub acted_as : {N : ℕ} {h : Memory} {x y : Turn} {d : Done} {g : Memory} → x ≡ y → Acted N h y d g → Acted N h x d g
acted_as {N} {h} {x} {y} {d} {g} e acted = subst (λ (z : Turn). Acted N h z d g) (sym e) acted

-- the plan of a record stands for what the record asks for
pub acted_plan :
    (w : ℕ) {N : ℕ} {h : Memory} {plan q : Plan} {d : Done} {g : Memory} → plan ≡ q → Acted N h (turn_of N w h (meaning q)) d g
    → Acted N h (turn_of N w h (meaning plan)) d g
acted_plan w {N} {h} {plan} {q} {d} {g} e acted = subst (λ (p : Plan). Acted N h (turn_of N w h (meaning p)) d g) (sym e) acted
