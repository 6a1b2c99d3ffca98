-- Which number a copy is refused with.
use mathlib.Core.Path.{◌≡◌, refl, sym, ap, ◌∙◌}
use mathlib.Core.Logic.{◌↔◌}
use mathlib.Core.Bool.{Bool, true, false, not, ◌&&◌, true≢false, false≢true}
use mathlib.Core.List.{[], ◌∷◌}
use mathlib.Core.Option.{Option, none, some}
use Prim.Native.Nat.{ℕ}
use native.Mathlib.Omega.{arith}
use lib.Dec.{eqb}
use lib.ListN.{length}
use borrow.Author.Tests.{eq-eqb, eqb-true}
use Rattle.rules.specs.Tools.{first_number}
use Rattle.rules.specs.Heap.{Memory, shaped}
use Rattle.rules.specs.Damage.{damage}
use Rattle.rules.specs.Sections.{stale_figures}
use Rattle.rules_steps.specs.Steps.{is_open, is_untidy}
use Rattle.rules_output.specs.Walk.{numbered}
use Rattle.rules_copy.specs.Copy.{Laid, lay_all, all_laid}
use Rattle.rules_calls.specs.Calls.{Call, check, copy_from, copy_into, Answer, other_shaped, refusals, refused_with, own_refusals, refused, answer}
use Rattle.rules.proofs.Tests.{done, also, false_unless, and_true, true_and, first_past, first_found, first_other}
use Rattle.rules_calls.proofs.Promised.{copy_in_both}
use Rattle.rules_calls.proofs.Replies.{number_is, one_applies, refused_as_check, passed, copy_number}
use Rattle.theory_memories.specs.Heaps.{Undamaged}
use Rattle.theory_copies.specs.Copies.{sizes_met, CopyShaped, NoChunk, CopyRefusedExactly}
use Rattle.theory_copies.proofs.Copies.Laying.{listed, laid_out}
use Rattle.theory_copies.proofs.Copies.Turns.{none_stops, stops_none, turns_laid, laid_turns}

open_first : (t laid : Bool) → (first_number ((14, t) ∷ (17, not laid) ∷ []) ≡ 14) ↔ (t ≡ true)
unfolding first_number
open_first true laid = (λ e. refl, λ e. refl)
open_first false true = (λ e. absurd (omega arith), λ e. absurd (false≢true e))
open_first false false = (λ e. absurd (omega arith), λ e. absurd (false≢true e))

seventeen_none : (o : Option Laid) → (first_number ((17, not (all_laid o)) ∷ []) ≡ 17) ↔ (o ≡ none)
unfolding first_number all_laid
seventeen_none none = (λ e. refl, λ e. refl)
seventeen_none (some s) = (λ e. absurd (omega arith), λ e. absurd (true≢false (ap all_laid e)))

module _ (N w : ℕ) (h : Memory) (M v : ℕ) (g : Memory) where
  abbrev c : Call
  c = copy_from N w h

  refused_one : (CopyShaped N w h M v g → ⊥) → (answer M v g c).0.number ≡ 1
  unfolding refused_with refusals
  refused_one fails =
      number_is M v g c
      ∙ first_found 1 (not (other_shaped g c && shaped M v g)) _ (ap not (false_unless (other_shaped g c && shaped M v g) (λ e.
      let shapes = and_true (other_shaped g c) (shaped M v g) e in
      let other = and_true (shaped N w h) (eqb (length g.roots) (length h.roots)) shapes.0 in
      fails (record { first = other.0; second = shapes.1; as_many = sym (eqb-true (length g.roots) (length h.roots) other.1) }))))

  module _ (right : CopyShaped N w h M v g) where
    own : (answer M v g c).0.number ≡ first_number (own_refusals M g c)
    own = number_is M v g c ∙ copy_number M v g right.second N w h right.first right.as_many

    not_one : (answer M v g c).0.number ≡ 1 → ⊥
    unfolding own_refusals
    not_one e =
        first_other 1 (own_refusals M g c) (omega arith)
        (also (omega arith) (also (omega arith) (also (omega arith) (also (omega arith) (also (omega arith) done))))) (sym own ∙ e)

    as_check : ((answer N w h check).0.number ≡ 0 → ⊥) → (answer M v g c).0 ≡ (answer N w h check).0
    as_check fails =
        let many = eq-eqb (length h.roots) (length g.roots) right.as_many in
        let other = true_and (shaped M v g) (eqb (length h.roots) (length g.roots)) right.second many in
        ap (λ (x : Answer). x.0) (sym (copy_in_both N w h M v g) ∙ refused_as_check N w h (copy_into M v g) refl other fails)

    module _ (u : Undamaged N w h) where
      -- where the others are passed, 14 and 17 are left
      last_numbers : (answer M v g c).0.number ≡ first_number ((14, is_open N h) ∷ (17, not (all_laid (lay_all N h M))) ∷ [])
      unfolding own_refusals
      last_numbers =
          own
          ∙ first_past 2 (not (eqb (damage N w h) 0)) _ (ap not (eq-eqb (damage N w h) 0 u.intact.no_damage))
          ∙ first_past 11 (stale_figures N h.a h.sections) _ u.true_list
          ∙ first_past 13 (is_untidy N h) _ u.tidy

      fourteen : ((answer M v g c).0.number ≡ 14) ↔ (is_open N h ≡ true)
      fourteen = rw last_numbers (open_first (is_open N h) (all_laid (lay_all N h M)))

      seventeen : is_open N h ≡ false → ((answer M v g c).0.number ≡ 17) ↔ ((k : ℕ) × NoChunk N h M k)
      unfolding lay_all
      seventeen none_open =
          let sizes = sizes_met N h in
          let number = last_numbers ∙ first_past 14 (is_open N h) _ none_open in
          let is_none = seventeen_none (lay_all N h M) in (
            λ e.
                let stops = none_stops M sizes (length (numbered N h)) (is_none.0 (sym number ∙ e)) in
                let out = laid_out M sizes stops.0 stops.2 stops.3 in (
                  stops.0,
                  record {
                    reached = stops.1;
                    places = listed stops.2.places;
                    in_turn_lem = laid_turns M sizes stops.0 stops.2 out;
                    none_free = rw (← out.map_is) stops.4;
                  },
                ),
            λ f.
                let k = f.0 in
                let before = turns_laid M sizes f.1.places k f.1.in_turn_lem in
                number ∙ is_none.1 (stops_none M sizes (length (numbered N h)) (k, f.1.reached, before.0, before.1, rw before.2 f.1.none_free)),
          )

pub copy_refused_exactly : CopyRefusedExactly
copy_refused_exactly N w h M v g = record {
  one = (λ e right. not_one N w h M v g right e, refused_one N w h M v g);
  as_check = as_check N w h M v g;
  fourteen = fourteen N w h M v g;
  seventeen = seventeen N w h M v g;
  unchanged = λ refused.
      let number = number_is M v g (copy_from N w h) in
      ap (λ (x : Answer). x.1) (one_applies M v g (copy_from N w h) (λ z. refused (number ∙ z)));
}
