-- How often a number occurs in a list. References to an object are counted as occurrences of its name among all slots, and a waiting list
-- is described by the occurrences of each object in it, so these few laws carry most of the arithmetic. With `equals` shut, `omega` takes
-- `equals x v` as an unknown number, and the laws are linear.
use mathlib.Core.Path.{◌≡◌, refl}
use mathlib.Core.Logic.{◌≢◌, ◌⊎◌, inl, inr}
use mathlib.Core.Bool.{true, false}
use mathlib.Core.List.{List, [], ◌∷◌, ◌++◌}
use Prim.Native.Nat.{ℕ, zero, suc, ◌+◌, ◌≤◌, ◌<◌}
use native.Mathlib.Nat.{le_of_suc-le-suc, not-suc-le-zero}
use native.Mathlib.Decide.{ℕ_discrete}
use native.Mathlib.Omega.{arith}
use lib.ListN.{length, get_or, set, replicate}
use lib.Dec.{eqb}
use borrow.Author.Tests.{eq-eqb, ne_eqb}

-- 1 where the two numbers are equal, else 0
pub equals : ℕ → ℕ → ℕ
equals x y = elim (eqb x y) [ true ↦ 1 | false ↦ 0 ]

pub equals_same : (x y : ℕ) → x ≡ y → equals x y ≡ 1
unfolding equals
equals_same x y e = rw (eq-eqb x y e, equals)

pub equals_other : (x y : ℕ) → x ≢ y → equals x y ≡ 0
unfolding equals
equals_other x y n = rw (ne_eqb x y n, equals)

-- 0 is no object's name
pub equals_none : (b : ℕ) → equals 0 (suc b) ≡ 0
equals_none b = equals_other 0 (suc b) (omega arith)

pub equals_cases : (x y : ℕ) → ((x ≡ y) × (equals x y ≡ 1)) ⊎ ((x ≢ y) × (equals x y ≡ 0))
equals_cases x y = elim (ℕ_discrete x y) [ yes e ↦ inl (e, equals_same x y e) | no n ↦ inr (n, equals_other x y n) ]

-- the number of places of a list that hold v
unfoldable pub occurrences : ℕ → List ℕ → ℕ
occurrences v [] = 0
occurrences v (x ∷ l) = equals x v + occurrences v l

pub occurrences_nil : (v : ℕ) → occurrences v [] ≡ 0
unfolding occurrences
occurrences_nil v = refl

pub occurrences_cons : (v x : ℕ) (l : List ℕ) → occurrences v (x ∷ l) ≡ equals x v + occurrences v l
unfolding occurrences
occurrences_cons v x l = refl

pub occurrences_append : (v : ℕ) (l m : List ℕ) → occurrences v (l ++ m) ≡ occurrences v l + occurrences v m
unfolding occurrences
occurrences_append v [] m = omega arith
occurrences_append v (x ∷ l) m = omega (arith, occurrences_append v l m)

-- one place is written: what stood there is counted no longer, and what is written is
pub occurrences_set :
    (v : ℕ) (l : List ℕ) (i x : ℕ) → i < length l → occurrences v (set l i x) + equals (get_or l i 0) v ≡ occurrences v l + equals x v
unfolding occurrences
occurrences_set v [] i x h = absurd (not-suc-le-zero h)
occurrences_set v (y ∷ l) zero x h = omega arith
occurrences_set v (y ∷ l) (suc i) x h = omega (arith, occurrences_set v l i x (le_of_suc-le-suc h))

-- a place is cleared, in the list or past its end
pub occurrences_clear :
    (b : ℕ) (l : List ℕ) (i : ℕ) → occurrences (suc b) (set l i 0) + equals (get_or l i 0) (suc b) ≡ occurrences (suc b) l
unfolding occurrences
occurrences_clear b [] i = omega (arith, equals_none b)
occurrences_clear b (y ∷ l) zero = omega (arith, equals_none b)
occurrences_clear b (y ∷ l) (suc i) = omega (arith, occurrences_clear b l i)

pub occurrences_zeros : (n b : ℕ) → occurrences (suc b) (replicate n 0) ≡ 0
unfolding occurrences
occurrences_zeros zero b = refl
occurrences_zeros (suc n) b = omega (arith, equals_none b, occurrences_zeros n b)

-- what stands in the list is counted
pub occurrences_at : (v : ℕ) (l : List ℕ) (i : ℕ) → i < length l → get_or l i 0 ≡ v → 1 ≤ occurrences v l
unfolding occurrences
occurrences_at v [] i h e = absurd (not-suc-le-zero h)
occurrences_at v (y ∷ l) zero h e = omega (arith, equals_same y v e)
occurrences_at v (y ∷ l) (suc i) h e = omega (arith, occurrences_at v l i (le_of_suc-le-suc h) e)

-- what is counted stands somewhere
pub occurrences_find : (v : ℕ) (l : List ℕ) → 1 ≤ occurrences v l → (i : ℕ) × (i < length l) × (get_or l i 0 ≡ v)
unfolding occurrences
occurrences_find v [] h = absurd (not-suc-le-zero h)
occurrences_find v (y ∷ l) h =
    elim (equals_cases y v) [ inl c ↦ (0, omega arith, c.0) | inr c ↦ later (occurrences_find v l (omega (arith, c.1))) ]
  where
    later : (i : ℕ) × (i < length l) × (get_or l i 0 ≡ v) → (i : ℕ) × (i < suc (length l)) × (get_or (y ∷ l) i 0 ≡ v)
    later r = (suc r.0, omega (arith, r.1), r.2)

pub occurrences_le : (v : ℕ) (l : List ℕ) → occurrences v l ≤ length l
unfolding occurrences
occurrences_le v [] = omega arith
occurrences_le v (x ∷ l) =
    elim (equals_cases x v) [
      | inl c ↦ omega (arith, c.1, occurrences_le v l)
      | inr c ↦ omega (arith, c.1, occurrences_le v l)
    ]

-- a number that is not 0 stands before the end
pub nonzero_inside : (l : List ℕ) (i : ℕ) → get_or l i 0 ≢ 0 → i < length l
nonzero_inside [] i n = absurd (n refl)
nonzero_inside (x ∷ l) zero n = omega arith
nonzero_inside (x ∷ l) (suc i) n = omega (arith, nonzero_inside l i n)

-- a name stands only before the end, so it is counted
pub occurrences_name : (b : ℕ) (l : List ℕ) (s : ℕ) → get_or l s 0 ≡ suc b → 1 ≤ occurrences (suc b) l
occurrences_name b l s e = occurrences_at (suc b) l s (nonzero_inside l s (omega arith)) e
