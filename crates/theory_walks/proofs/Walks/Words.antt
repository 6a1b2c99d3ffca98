-- Chains from their end: fewest links first, then the lowest at the first difference from the root.
use mathlib.Core.Path.{◌≡◌, refl, sym, ap, subst}
use mathlib.Core.Logic.{◌⊎◌, inl, inr}
use mathlib.Core.List.{List, [], ◌∷◌, reverse_aux}
use Prim.Native.Nat.{ℕ, ◌<◌}
use native.Mathlib.Omega.{arith}
use lib.ListN.{length}
use Rattle.theory_walks.specs.Reason.{Lower, differ, agree}

pub data Before : List ℕ → List ℕ → Type 0 where
  empty : {j : ℕ} {w : List ℕ} → Before [] (j ∷ w)
  earlier : {i j : ℕ} {u w : List ℕ} → Before u w → Before (i ∷ u) (j ∷ w)
  lower : {i j : ℕ} {w : List ℕ} → i < j → Before (i ∷ w) (j ∷ w)

pub before_trans : {u v w : List ℕ} → Before u v → Before v w → Before u w
before_trans empty (earlier q) = empty
before_trans empty (lower l) = empty
before_trans (earlier p) (earlier q) = earlier (before_trans p q)
before_trans (earlier p) (lower l) = earlier p
before_trans (lower l) (earlier q) = earlier q
before_trans (lower {i} {j} l) (lower {j = k} m) = lower {i = i} {j = k} (omega arith)

never : (u w : List ℕ) → u ≡ w → Before u w → ⊥
never [] [] e x4 = elim x4 [ ]
never (i ∷ u) [] e x5 = elim x5 [ ]
never [] (j ∷ w) e empty = let z : ◌≡◌ {A = ℕ} 0 1 = cc in absurd (omega arith)
never (i ∷ u) (j ∷ w) e (earlier p) = never u w (cc) p
never (i ∷ u) (j ∷ w) e (lower l) = let z : i ≡ j = cc in absurd (omega arith)

pub never_before : {u : List ℕ} → Before u u → ⊥
never_before {u} p = never u u refl p

abbrev pub AtMost : List ℕ → List ℕ → Type 0
AtMost u w = (u ≡ w) ⊎ Before u w

pub most_trans : {u v w : List ℕ} → AtMost u v → AtMost v w → AtMost u w
most_trans {u} {v} {w} (inl e) q = subst (λ (x : List ℕ). AtMost x w) (sym e) q
most_trans {u} {v} {w} (inr p) (inl e) = inr (subst (λ (x : List ℕ). Before u x) e p)
most_trans (inr p) (inr q) = inr (before_trans p q)

pub most_same : {u w : List ℕ} → AtMost u w → AtMost w u → u ≡ w
most_same (inl e) q = e
most_same (inr p) (inl e) = sym e
most_same {u} {w} (inr p) (inr q) = absurd (never_before (before_trans p q))

pub most_link : {u w : List ℕ} (j : ℕ) → AtMost u w → AtMost (j ∷ u) (j ∷ w)
most_link j (inl e) = inl (ap (λ (x : List ℕ). j ∷ x) e)
most_link j (inr p) = inr (earlier p)

-- ---- from the front

-- what comes behind can't undo what is before
reversed_before : (c d : List ℕ) {u w : List ℕ} → length c ≡ length d → Before u w → Before (reverse_aux c u) (reverse_aux d w)
reversed_before [] [] e p = p
reversed_before [] (j ∷ d) e p = absurd (omega arith)
reversed_before (i ∷ c) [] e p = absurd (omega arith)
reversed_before (i ∷ c) (j ∷ d) e p = reversed_before c d (omega arith) (earlier p)

pub lower_before : {c d : List ℕ} (w : List ℕ) → Lower c d → Before (reverse_aux c w) (reverse_aux d w)
lower_before w (differ {c} {d} l e) = reversed_before c d e (lower l)
lower_before w (agree {i} l) = lower_before (i ∷ w) l

-- the shorter one is before
pub shorter_before : (u w : List ℕ) → length u < length w → Before u w
shorter_before u [] l = absurd (omega arith)
shorter_before [] (j ∷ w) l = empty
shorter_before (i ∷ u) (j ∷ w) l = earlier (shorter_before u w (omega arith))
