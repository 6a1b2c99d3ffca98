-- Meeting in the arrays.
use mathlib.Core.Path.{◌≡◌, refl, sym, ap, ◌∙◌}
use mathlib.Core.Logic.{◌≢◌}
use mathlib.Core.List.{List, ◌∷◌}
use Prim.Native.Nat.{ℕ, zero, suc, ◌+◌, ◌-◌, ◌≤◌, ◌<◌}
use native.Mathlib.Numerals.{add-one}
use native.Mathlib.Decide.{ℕ_discrete}
use native.Mathlib.Omega.{arith}
use lib.ListN.{length, get_or, set, length-set}
use lib.Seq.{get_or-set_same, get_or-set_other}
use Rattle.rules_output.specs.Walk.{number_in}
use Rattle.theory_walks.proofs.Walks.Numbers.{more, number_same, number_other}
use Rattle.theory_walks.proofs.Walks.Steps.{cons, distinct_length}
use Rattle.walk_objects.specs.Walking.{Walking, last_first}

kept : (l : List ℕ) (n k v : ℕ) → n ≤ k → last_first (set l k v) n ≡ last_first l n
unfolding last_first
kept l zero k v h = refl
kept l (suc n) k v h = rw (get_or-set_other l k n v 0 (omega arith), kept l n k v (omega arith))

last_first_push : (l : List ℕ) (n v : ℕ) → n < length l → last_first (set l n v) (n + 1) ≡ v ∷ last_first l n
unfolding last_first
last_first_push l n v h = rw (add-one, get_or-set_same, kept l n n v (omega arith))

pub top_length : (order : List ℕ) (n : ℕ) → length (last_first order n) ≡ n
unfolding last_first
top_length order zero = refl
top_length order (suc n) = ap suc (top_length order n)

module _ (N : ℕ) (order numbers : List ℕ) (met v : ℕ) (w : Walking N order numbers met) where
  module _ (s : v ≢ 0) (l : v ≤ N) (unmet : get_or numbers (v - 1) 0 ≡ 0) where
    fresh : number_in (last_first order met) v ≡ 0
    fresh =
        let whole : suc (v - 1) ≡ v = omega arith in
        ap (number_in (last_first order met)) (sym whole) ∙ sym (w.numbers_are (v - 1) (omega arith)) ∙ unmet

    pub room : met < N
    room = omega (arith, distinct_length N (more fresh s w.distinct) (cons l w.below), top_length order met)

    pub walks_on : Walking N (set order met v) (set numbers (v - 1) (met + 1)) (met + 1)
    walks_on =
        let push : last_first (set order met v) (met + 1) ≡ v ∷ last_first order met = last_first_push order met v (omega (arith, room, w.long_order)) in
        record {
          small = w.small;
          long_order = omega (arith, length-set order met v, w.long_order);
          long_numbers = omega (arith, length-set numbers (v - 1) (met + 1), w.long_numbers);
          distinct = rw push (more fresh s w.distinct);
          below = rw push (cons l w.below);
          numbers_are = λ b h. rw push (numbered b h);
        }
      where
        numbered : (b : ℕ) → b < N → get_or (set numbers (v - 1) (met + 1)) b 0 ≡ number_in (v ∷ last_first order met) (suc b)
        numbered b h = elim (ℕ_discrete b (v - 1)) [
          | yes e ↦
              let whole : v ≡ suc b = omega arith in
              let inside : v - 1 < length numbers = omega (arith, w.long_numbers) in
              let one : met + 1 ≡ suc (length (last_first order met)) = omega (arith, top_length order met) in
              rw e (get_or-set_same numbers (v - 1) (met + 1) 0 inside) ∙ one ∙ sym (number_same v (suc b) (last_first order met) whole)
          | no d ↦
              get_or-set_other numbers (v - 1) b (met + 1) 0 d ∙ w.numbers_are b h
              ∙ sym (number_other v (suc b) (last_first order met) (omega arith))
        ]
