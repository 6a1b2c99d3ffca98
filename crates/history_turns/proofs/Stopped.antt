-- A record that stops the run leaves the memory as it was, or as the collection that it forced left it; with a collection open always as it was.
use mathlib.Core.Path.{◌≡◌, refl, sym, ap, ◌∙◌, subst}
use mathlib.Core.Logic.{◌≢◌, ◌⊎◌, inl, inr}
use mathlib.Core.Bool.{true}
use mathlib.Core.List.{[], ◌∷◌}
use Prim.Native.Nat.{ℕ}
use native.Mathlib.Decide.{ℕ_discrete}
use native.Mathlib.Omega.{arith}
use borrow.Author.Tests.{ne_eqb}
use Rattle.rules.specs.Tools.{first_number}
use Rattle.rules.specs.Heap.{Memory}
use Rattle.rules_steps.specs.Steps.{is_open}
use Rattle.rules_calls.specs.Calls.{Call, collect, Answer, reply, own_refusals, answer}
use Rattle.rules.proofs.Tests.{first_found}
use Rattle.rules_calls.proofs.Replies.{answer_either, outcome_accepts}
use Rattle.theory_memories.specs.Heaps.{Undamaged}
use Rattle.theory_memories.proofs.Memories.Fit.{undamaged_fit}
use Rattle.theory_memories.proofs.Memories.Accepted.{fit_refused}
use Rattle.history_plans.specs.Asked.{makes, stops}
use Rattle.history_figures.specs.declared.tally.Tally.{Tally}
use Rattle.history_figures.specs.Figures.{noted, noted_all, run}
use Rattle.history_turns.specs.Turns.{made_on, Turn, turn, tried_again, turn_of, after_turn}
use Rattle.history_turns.specs.Stopped.{Forced, StandsAsBefore, JustStops, StopsWhileOpen}
use Rattle.history_turns.proofs.Figures.{noted_refused}
use Rattle.history_turns.proofs.Turns.{turn_once, turn_again}

-- a refused call changes no buffer
unchanged : (N w : ℕ) (h : Memory) (c : Call) → ((answer N w h c).0.number ≡ 0 → ⊥) → (answer N w h c).1 ≡ h
unchanged N w h c =
    answer_either N w h c (λ x. (x.0.number ≡ 0 → ⊥) → x.1 ≡ h) (λ number nonzero _. refl)
    (λ _ refused. absurd (refused (outcome_accepts N w h c)))

-- ---- on any heap

pub stands_as_before : StandsAsBefore
unfolding turn_of tried_again
stands_as_before N w h (stops number) = λ stopped. inl refl
stands_as_before N w h (makes c) = elim (ℕ_discrete (answer N w h c).0.number 5) [
  | no e ↦
      subst (λ (y : Turn). (y.number ≡ 0 → ⊥) → (y.after ≡ h) ⊎ Forced N w h (makes c) y.after) (sym (turn_once N w h c e))
      (λ stopped. inl (unchanged N w h c stopped))
  | yes e ↦
      subst (λ (y : Turn). (y.number ≡ 0 → ⊥) → (y.after ≡ h) ⊎ Forced N w h (makes c) y.after) (sym (turn_again N w h c e))
      (retried e)
]
  where
    retried : (answer N w h c).0.number ≡ 5 →
        let again = tried_again N w (answer N w h c).1 c in
        (again.number ≡ 0 → ⊥) → (again.after ≡ h) ⊎ Forced N w h (makes c) again.after
    retried e =
        rw (unchanged N w h c (λ z. omega (arith, e, z)))
        (λ stopped.
        let left = unchanged N w (answer N w h collect).1 c stopped in
        elim (ℕ_discrete (answer N w h collect).0.number 0) [
          | yes accepted ↦ inr (record { call = c; asked = refl; none_free = e; accepted = accepted; left = left })
          | no refused ↦ inl (left ∙ unchanged N w h collect refused)
        ])

-- ---- with a collection open

-- a turn that stops, from the memory it left and the figures
just_stops :
    {N : ℕ} {h : Memory} {number : ℕ} (y : Turn) → number ≢ 0 → y.number ≡ number → y.after ≡ h
    → ((t : Tally) → noted_all y.made t ≡ t) → JustStops N h number y
unfolding after_turn
just_stops {N} {h} {number} y nonzero is left none =
    record {
      unchanged = left;
      uncounted = λ r.
          rw (ne_eqb y.number 0 (λ z. nonzero (sym is ∙ z)), after_turn)
          (λ i. run (is i) r.records (none r.tally i));
    }

module _ (N w : ℕ) (h : Memory) (fine : Undamaged N w h) (was_open : is_open N h ≡ true) where
  found : first_number (own_refusals N h collect) ≡ 14
  unfolding own_refusals
  found = first_found 14 (is_open N h) [] was_open

  refused : answer N w h collect ≡ (reply 14 0 0, h)
  refused =
      fit_refused N w h (undamaged_fit N w h fine) collect refl (λ z. omega (arith, found, z))
      ∙ ap {B = Answer} (λ k. (reply k 0 0, h)) found

  number_is : (answer N w h collect).0.number ≡ 14
  number_is = ap (λ (x : Answer). x.0.number) refused

  collection_uncounted : (t : Tally) → noted (made_on N w h collect) t ≡ t
  collection_uncounted t = noted_refused (made_on N w h collect) t (λ z. omega (arith, number_is, z))

  recorded : JustStops N h 14 (turn_of N w h (makes collect))
  unfolding noted_all
  recorded =
      subst (λ (y : Turn). JustStops N h 14 y) (sym (turn_once N w h collect (λ e. omega (arith, number_is, e))))
      (just_stops _ (omega arith) number_is (ap (λ (x : Answer). x.1) refused) collection_uncounted)

  module _ (c : Call) (none_free : (answer N w h c).0.number ≡ 5) where
    stands : (answer N w h c).1 ≡ h
    stands = unchanged N w h c (λ z. omega (arith, none_free, z))

    call_uncounted : (t : Tally) → noted (made_on N w h c) t ≡ t
    call_uncounted t = noted_refused (made_on N w h c) t (λ z. omega (arith, none_free, z))

    -- the second try finds the heap of the first
    twice : tried_again N w (answer N w h c).1 c ≡ turn (answer N w h c).0.number (made_on N w h collect ∷ made_on N w h c ∷ []) (answer N w h c).1
    unfolding tried_again
    twice =
        ap (λ (m : Memory). tried_again N w m c) stands
        ∙ ap (λ (m : Memory). turn (answer N w m c).0.number (made_on N w h collect ∷ made_on N w m c ∷ []) (answer N w m c).1)
        (ap (λ (x : Answer). x.1) refused)

    forced : JustStops N h 5 (turn_of N w h (makes c))
    unfolding noted_all
    forced =
        subst (λ (y : Turn). JustStops N h 5 y)
        (sym (turn_again N w h c none_free ∙ ap (λ (y : Turn). turn y.number (made_on N w h c ∷ y.made) y.after) twice))
        (just_stops _ (omega arith) none_free stands
        (λ t.
        ap (λ (u : Tally). noted (made_on N w h c) (noted (made_on N w h collect) u)) (call_uncounted t)
        ∙ ap (noted (made_on N w h c)) (collection_uncounted t)
        ∙ call_uncounted t))

pub stops_while_open : StopsWhileOpen
stops_while_open N w h fine was_open = record { recorded = recorded N w h fine was_open; forced = forced N w h fine was_open }
