-- The answers on a fit memory, which none of the heap's numbers refuses: the call's own numbers decide.
use mathlib.Core.Path.{◌≡◌, refl, sym, ap, ◌∙◌}
use mathlib.Core.Logic.{◌≢◌}
use mathlib.Core.Bool.{Bool, true, false}
use mathlib.Core.Option.{Option, none, some, some-ne-none}
use Prim.Native.Nat.{ℕ}
use lib.Dec.{eqb}
use Rattle.rules.specs.Tools.{first_number}
use Rattle.rules.specs.Heap.{Memory}
use Rattle.rules.specs.Damage.{damage}
use Rattle.rules_calls.specs.Calls.{Call, Answer, reply, tests_heap, Other, other_heap, Alone, own_refusals, refused_with, damage_told, refused, outcome, answer}
use Rattle.rules_calls.proofs.Replies.{none_applies, one_applies, accepted_none, Passed, passed_own, alone_shaped, own_number, undamaged_passed}
use Rattle.theory_memories.proofs.Memories.Fit.{Fit, undamaged_fit, fit_undamaged}

module _ (N w : ℕ) (h : Memory) where
  -- what is accepted by a call that tests the heap was fit
  pub accepted_fit : (c : Call) → tests_heap c ≡ true → (answer N w h c).0.number ≡ 0 → Fit N w h
  accepted_fit c tests e =
      let all = undamaged_passed N w h c tests (accepted_none N w h c e) in
      undamaged_fit N w h (record { intact = record { right_shape = all.0; no_damage = all.1 }; true_list = all.2; tidy = all.3 })

  -- a call on one heap
  module _ (fit : Fit N w h) where
    pub fit_number : (c : Call) → Alone c → refused_with N w h c ≡ first_number (own_refusals N h c)
    fit_number c alone =
        let u = fit_undamaged N w h fit in
        own_number N w h c (alone_shaped h c alone) u.intact.right_shape u.intact.no_damage u.true_list u.tidy

    pub fit_accepted : (c : Call) → Alone c → Passed N h c → answer N w h c ≡ outcome N w h c
    fit_accepted c alone p = none_applies N w h c (fit_number c alone ∙ passed_own N h c p)

    -- a refusal carries no damage kind here
    pub refused_plain : (c : Call) → Alone c → (number : ℕ) → refused (damage_told N w h c) h number ≡ (reply number 0 0, h)
    refused_plain c alone number = ap {B = Answer} (λ v. (reply number v 0, h)) (none_told (eqb number 2))
      where
        either : (t : Bool) (o : Option Other) → o ≡ none
            → ◌≡◌ {A = ℕ} (elim t [ true ↦ damage N w h | false ↦ elim o [ none ↦ 0 | some x ↦ damage x.blocks x.width x.heap ] ]) 0
        either true o is = (fit_undamaged N w h fit).intact.no_damage
        either false none is = refl
        either false (some x) is = absurd (some-ne-none _ is)

        none_told : (t : Bool) → ◌≡◌ {A = ℕ} (elim t [ true ↦ damage_told N w h c | false ↦ 0 ]) 0
        none_told true = either (tests_heap c) (other_heap c) alone
        none_told false = refl

    pub fit_refused :
        (c : Call) → Alone c → first_number (own_refusals N h c) ≢ 0
        → answer N w h c ≡ (reply (first_number (own_refusals N h c)) 0 0, h)
    fit_refused c alone n =
        one_applies N w h c (λ e. n (sym (fit_number c alone) ∙ e)) ∙ ap (refused (damage_told N w h c) h) (fit_number c alone)
        ∙ refused_plain c alone (first_number (own_refusals N h c))
