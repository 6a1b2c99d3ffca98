-- Whether the fields that an operation doesn't name are 0, one law for each way that the code's test can go.
use mathlib.Core.Path.{◌≡◌, refl, ap, ◌∙◌}
use mathlib.Core.Bool.{true, false}
use mathlib.Core.List.{List, [], ◌∷◌}
use Prim.Native.Nat.{ℕ, ◌≤◌}
use native.Mathlib.Decide.{ℕ_discrete}
use native.Mathlib.Omega.{arith}
use lib.ListN.{length, get_or, get_or-eq_default}
use borrow.Author.Tests.{eq-eqb, ne_eqb}
use Rattle.rules.specs.Tools.{all}
use Rattle.history_records.specs.declared.Fields.{Fields}
use Rattle.history_records.specs.Records.{unnamed_by, unnamed, are_zero}

-- where byte 3 is 0, the fields that operation k doesn't name are looked at
pub unnamed_zero : (f : Fields) (k : ℕ) → f.unused ≡ 0 → f.operation ≡ k → are_zero (unnamed f) ≡ are_zero (get_or (unnamed_by f) k [])
unfolding unnamed all
unnamed_zero f k e at =
    ap (λ (i : ℕ). are_zero (f.unused ∷ get_or (unnamed_by f) i [])) at ∙ rw (eq-eqb f.unused 0 e, all)

pub unused_set : (f : Fields) → (f.unused ≡ 0 → ⊥) → are_zero (unnamed f) ≡ false
unfolding unnamed all
unused_set f some = rw (ne_eqb f.unused 0 some, all)

-- ---- an unknown operation

past_three : (k : ℕ) → (k ≡ 0 → ⊥) → (k ≡ 1 → ⊥) → (k ≡ 2 → ⊥) → (k ≡ 3 → ⊥) → 4 ≤ k
past_three k zero one two three = omega arith

past_six : (k : ℕ) → 4 ≤ k → (k ≡ 4 → ⊥) → (k ≡ 5 → ⊥) → (k ≡ 6 → ⊥) → 7 ≤ k
past_six k low four five six = omega arith

past_eight : (k : ℕ) → 7 ≤ k → (k ≡ 7 → ⊥) → (k ≡ 8 → ⊥) → 9 ≤ k
past_eight k low seven eight = omega arith

-- of a list with places 0 to 8 such a number picks the first, or what stands for the rest
pub picks_other :
    {A : Type 0} (k : ℕ) (l : List A) (d : A) → length l ≡ 9 → get_or l 0 d ≡ d
    → (k ≡ 1 → ⊥) → (k ≡ 2 → ⊥) → (k ≡ 3 → ⊥) → (k ≡ 4 → ⊥) → (k ≡ 5 → ⊥) → (k ≡ 6 → ⊥) → (k ≡ 7 → ⊥) → (k ≡ 8 → ⊥)
    → get_or l k d ≡ d
picks_other k l d places same one two three four five six seven eight = elim (ℕ_discrete k 0) [
  | yes z ↦ ap (λ (i : ℕ). get_or l i d) z ∙ same
  | no z ↦ get_or-eq_default l d {n = k} (enough places (past_eight k (past_six k (past_three k z one two three) four five six) seven eight))
]
  where
    enough : length l ≡ 9 → 9 ≤ k → length l ≤ k
    enough e low = omega arith

module _
    (f : Fields) (one : f.operation ≡ 1 → ⊥) (two : f.operation ≡ 2 → ⊥) (three : f.operation ≡ 3 → ⊥)
    (four : f.operation ≡ 4 → ⊥) (five : f.operation ≡ 5 → ⊥) (six : f.operation ≡ 6 → ⊥) (seven : f.operation ≡ 7 → ⊥)
    (eight : f.operation ≡ 8 → ⊥) where
  pub unknown_zero : f.unused ≡ 0 → are_zero (unnamed f) ≡ true
  unfolding unnamed all
  unknown_zero e =
      ap (λ (l : List ℕ). are_zero (f.unused ∷ l)) (picks_other f.operation (unnamed_by f) [] refl refl one two three four five six seven eight)
      ∙ rw (eq-eqb f.unused 0 e, all)
