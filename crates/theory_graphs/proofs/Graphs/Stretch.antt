-- A function written over a stretch of a list: place j gets the value f j, for the n places from i on, one after another from the lowest.
-- The laws say what stands inside the stretch, outside it, and that the length stays. Clearing the slots of an object is an instance
-- (f is 0), and so is the ghost copy that marking makes of the slots it has looked at (f j is the slot j).
use mathlib.Core.Path.{◌≡◌, refl, ◌∙◌}
use mathlib.Core.Logic.{◌≢◌, ◌⊎◌, inl, inr}
use mathlib.Core.List.{List, [], ◌∷◌}
use Prim.Native.Nat.{ℕ, zero, suc, ◌+◌, ◌≤◌, ◌<◌}
use native.Mathlib.Decide.{ℕ_discrete, dec_lt, dec_le}
use native.Mathlib.Omega.{arith}
use lib.ListN.{length, get_or, set, length-set, get_or-eq_default}
use lib.Seq.{get_or-set_same, get_or-set_other}

unfoldable pub stretch : (ℕ → ℕ) → ℕ → ℕ → List ℕ → List ℕ
stretch f i zero l = l
stretch f i (suc n) l = set (stretch f i n l) (i + n) (f (i + n))

-- place s is one of the n places from i on, or it is not
abbrev pub Inside : ℕ → ℕ → ℕ → Type 0
Inside i n s = (i ≤ s) × (s < i + n)

abbrev pub Outside : ℕ → ℕ → ℕ → Type 0
Outside i n s = (s < i) ⊎ (i + n ≤ s)

pub side : (i n s : ℕ) → Inside i n s ⊎ Outside i n s
side i n s =
    elim (dec_lt s i) [
      | yes l ↦ inr (inl l)
      | no l ↦ elim (dec_le (i + n) s) [ yes u ↦ inr (inr u) | no u ↦ inl (omega arith, omega arith) ]
    ]

pub never_both : (i n s : ℕ) → Inside i n s → Outside i n s → ⊥
never_both i n s p (inl l) = omega (arith, p)
never_both i n s p (inr l) = omega (arith, p)

module _ (f : ℕ → ℕ) (i : ℕ) (l : List ℕ) where
  pub stretch_length : (n : ℕ) → length (stretch f i n l) ≡ length l
  unfolding stretch
  stretch_length zero = refl
  stretch_length (suc n) = length-set (stretch f i n l) (i + n) (f (i + n)) ∙ stretch_length n

  pub stretch_out : (n s : ℕ) → Outside i n s → get_or (stretch f i n l) s 0 ≡ get_or l s 0
  unfolding stretch
  stretch_out zero s o = refl
  stretch_out (suc n) s o = get_or-set_other (stretch f i n l) (i + n) s (f (i + n)) 0 (apart o) ∙ stretch_out n s (fewer o)
    where
      apart : Outside i (suc n) s → s ≢ i + n
      apart (inl p) = omega arith
      apart (inr p) = omega arith

      fewer : Outside i (suc n) s → Outside i n s
      fewer (inl p) = inl p
      fewer (inr p) = inr (omega arith)

  pub stretch_in : (n s : ℕ) → s < length l → Inside i n s → get_or (stretch f i n l) s 0 ≡ f s
  unfolding stretch
  stretch_in zero s b p = absurd (omega (arith, p))
  stretch_in (suc n) s b p =
      elim (ℕ_discrete s (i + n)) [
        | yes e ↦ rw e (get_or-set_same (stretch f i n l) (i + n) (f (i + n)) 0 (omega (arith, stretch_length n)))
        | no d ↦
            get_or-set_other (stretch f i n l) (i + n) s (f (i + n)) 0 d ∙ stretch_in n s b (omega (arith, p), omega (arith, p))
      ]

-- ---- clearing

-- the n places from i on made 0
abbrev pub clear : ℕ → ℕ → List ℕ → List ℕ
clear i n l = stretch (λ j. 0) i n l

-- a cleared place holds 0, past the end of the list too
pub clear_in : (i n : ℕ) (l : List ℕ) (s : ℕ) → Inside i n s → get_or (clear i n l) s 0 ≡ 0
clear_in i n l s p =
    elim (dec_lt s (length l)) [
      | yes b ↦ stretch_in (λ j. 0) i l n s b p
      | no b ↦ get_or-eq_default (clear i n l) 0 (omega (arith, stretch_length (λ j. 0) i l n))
    ]

-- each place is as it was or holds 0
pub clear_or : (i n : ℕ) (l : List ℕ) (s : ℕ) → (get_or (clear i n l) s 0 ≡ get_or l s 0) ⊎ (get_or (clear i n l) s 0 ≡ 0)
clear_or i n l s = elim (side i n s) [ inl p ↦ inr (clear_in i n l s p) | inr o ↦ inl (stretch_out (λ j. 0) i l n s o) ]

-- the same for one place
pub set_zero : (l : List ℕ) (i : ℕ) → get_or (set l i 0) i 0 ≡ 0
set_zero [] i = refl
set_zero (x ∷ l) zero = refl
set_zero (x ∷ l) (suc i) = set_zero l i
