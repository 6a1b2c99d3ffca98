-- The plan as its loop goes: after k objects the map and the places are the rule's, and the numbers of these objects have become references.
use mathlib.Core.Path.{◌≡◌, refl, sym, ap, ◌∙◌}
use mathlib.Core.Logic.{◌≢◌}
use mathlib.Core.Bool.{true, false, false≢true}
use mathlib.Core.List.{List, [], ◌∷◌, ◌++◌}
use mathlib.Core.Option.{none, some}
use Rattle.std.specs.Prelude.{None, Some}
use Prim.Native.Nat.{ℕ, zero, suc, ◌+◌, ◌-◌, ◌/◌, ◌≤◌, ◌<◌}
use native.Mathlib.Decide.{ℕ_discrete}
use native.Mathlib.Numerals.{add-one}
use native.Mathlib.Omega.{arith}
use lib.ListN.{length, get_or, set, replicate, length-set, length-append, get_or-append}
use lib.Seq.{get_or-set_same, get_or-set_other, get_or-append_seam}
use borrow.Author.Tests.{eq-eqb, ne_eqb}
use Rattle.rules_copy.specs.Copy.{laid, lay_one, lay_next, lay_first, all_laid, places_in, new_reference}
use Rattle.search_walk.proofs.Answered.{answered_none, answered_some}
use Rattle.copy_plan.specs.Laying.{LaidOne}
use Rattle.copy_plan.specs.Plan.{block_in, Numbering, Planned}

pub record PlanTo (M : ℕ) (sizes : ℕ → ℕ) (N : ℕ) (order numbers : List ℕ) (k : ℕ) (moved map : List ℕ) : Type 0 where
  pub places : List ℕ
  pub laid_is : lay_first M sizes k ≡ some (laid map places)
  pub long : length places ≡ k
  pub kept : length moved ≡ length numbers
  pub done : (i : ℕ) → i < k → get_or moved (block_in order i) 0 ≡ 1 + get_or places i 0
  pub free : (b : ℕ) → b < N → get_or numbers b 0 ≡ 0 → get_or moved b 0 ≡ 0

module _ (M : ℕ) (sizes : ℕ → ℕ) (N met : ℕ) (order numbers : List ℕ) (n : Numbering N order numbers met) where
  pub plan_start : (map : List ℕ) → map ≡ replicate (M / 8) 0 → PlanTo M sizes N order numbers 0 numbers map
  unfolding lay_first
  plan_start map e =
      record {
        places = [];
        laid_is = ap (λ (a : List ℕ). some (laid a [])) (sym e);
        long = refl;
        kept = refl;
        done = λ i l. absurd (omega arith);
        free = λ b l z. z;
      }

  module _ (k : ℕ) (moved map : List ℕ) (p : PlanTo M sizes N order numbers k moved map) (l : k < met) (map' from' : List ℕ) (at : ℕ)
      (one : LaidOne M (sizes k) map map' from' (Some at)) where
    place_same : (i : ℕ) → i < k → get_or (p.places ++ (at ∷ [])) i 0 ≡ get_or p.places i 0
    place_same i u = get_or-append p.places (at ∷ []) 0 i (omega (arith, p.long))

    place_last : get_or (p.places ++ (at ∷ [])) k 0 ≡ at
    place_last = ap (λ (x : ℕ). get_or (p.places ++ (at ∷ [])) x 0) (sym p.long) ∙ get_or-append_seam p.places at [] 0

    here : block_in order k < length moved
    here = omega (arith, p.kept, n.long_numbers, n.some k l, n.below k l)

    pub plan_next : PlanTo M sizes N order numbers (k + 1) (set moved (block_in order k) (at + 1)) map'
    unfolding lay_first lay_next lay_one
    plan_next =
        record {
          places = p.places ++ (at ∷ []);
          laid_is =
              ap (lay_first M sizes) (add-one k)
              ∙ ap (lay_next M (sizes k)) p.laid_is
              ∙ rw (answered_some _ at one.lowest, lay_one) (ap (λ (a : List ℕ). some (laid a (p.places ++ (at ∷ [])))) (sym (one.map_is at refl)));
          long = length-append p.places (at ∷ []) ∙ omega (arith, p.long);
          kept = length-set moved (block_in order k) (at + 1) ∙ p.kept;
          done = λ i u. elim (ℕ_discrete i k) [
            | yes e ↦
                ap (λ (x : ℕ). get_or (set moved (block_in order k) (at + 1)) (block_in order x) 0) e
                ∙ get_or-set_same moved (block_in order k) (at + 1) 0 here
                ∙ omega (arith, place_last, ap (λ (x : ℕ). get_or (p.places ++ (at ∷ [])) x 0) e)
            | no o ↦
                get_or-set_other moved (block_in order k) (block_in order i) (at + 1) 0 (apart i (omega arith))
                ∙ p.done i (omega arith)
                ∙ ap (λ (x : ℕ). 1 + x) (sym (place_same i (omega arith)))
          ];
          free = λ b u z.
              get_or-set_other moved (block_in order k) b (at + 1) 0 (λ e. omega (arith, n.number k l, ap (λ (x : ℕ). get_or numbers x 0) e)) ∙ p.free b u z;
        }
      where
        apart : (i : ℕ) → i < k → block_in order i ≢ block_in order k
        apart i u e = omega (arith, n.number i (omega arith), n.number k l, ap (λ (x : ℕ). get_or numbers x 0) e)

  -- where it finds no chunk, there is no plan ..
  module _ (k : ℕ) (moved map : List ℕ) (p : PlanTo M sizes N order numbers k moved map) (l : k < met) (map' from' : List ℕ)
      (one : LaidOne M (sizes k) map map' from' None) where
    none_next : lay_first M sizes (suc k) ≡ none
    unfolding lay_first lay_next lay_one
    none_next = ap (lay_next M (sizes k)) p.laid_is ∙ rw (answered_none _ one.lowest, lay_one) refl

    -- .. whatever follows
    none_later : (j : ℕ) → lay_first M sizes (j + suc k) ≡ none
    unfolding lay_first lay_next
    none_later zero = let same : 0 + suc k ≡ suc k = omega arith in ap (lay_first M sizes) same ∙ none_next
    none_later (suc j) =
        let same : suc j + suc k ≡ suc (j + suc k) = omega arith in
        ap (lay_first M sizes) same ∙ ap (lay_next M (sizes (j + suc k))) (none_later j)

    pub plan_missed : (left : List ℕ) → Planned M sizes met N numbers left false
    unfolding all_laid
    plan_missed left =
        let all : met - suc k + suc k ≡ met = omega arith in
        record {
          laid_all = sym (ap all_laid (ap (lay_first M sizes) (sym all) ∙ none_later (met - suc k)));
          moved_is = λ t. absurd (false≢true t);
        }

  pub plan_done : (k : ℕ) (moved map : List ℕ) → PlanTo M sizes N order numbers k moved map → met ≤ k → k ≤ met → Planned M sizes met N numbers moved true
  unfolding all_laid places_in new_reference
  plan_done k moved map p l u =
      let all : k ≡ met = omega arith in
      let is : lay_first M sizes met ≡ some (laid map p.places) = ap (lay_first M sizes) (sym all) ∙ p.laid_is in
      record {
        laid_all = sym (ap all_laid is);
        moved_is = λ _ b inside.
            moved_at b inside ∙ ap (λ (places : List ℕ). new_reference places (get_or numbers b 0)) (sym (ap places_in is));
      }
    where
      moved_at : (b : ℕ) → b < N → get_or moved b 0 ≡ new_reference p.places (get_or numbers b 0)
      moved_at b inside = elim (ℕ_discrete (get_or numbers b 0) 0) [
        | yes z ↦ p.free b inside z ∙ sym (rw (eq-eqb (get_or numbers b 0) 0 z, new_reference) refl)
        | no s ↦
            let o = n.object b inside s in
            ap (λ (x : ℕ). get_or moved x 0) (sym o.1)
            ∙ p.done (get_or numbers b 0 - 1) (omega (arith, o.0))
            ∙ sym (rw (ne_eqb (get_or numbers b 0) 0 s, new_reference) refl)
      ]
