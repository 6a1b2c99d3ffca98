-- Two graphs whose nodes can be paired are walked alike; and two that are written alike can be paired.
use mathlib.Core.Path.{◌≡◌, refl, sym, ap, ◌∙◌}
use mathlib.Core.Logic.{◌≢◌}
use mathlib.Core.List.{List, [], ◌∷◌, map}
use Prim.Native.Nat.{ℕ, zero, suc, ◌≤◌}
use native.Mathlib.Decide.{ℕ_discrete, dec_lt}
use native.Mathlib.Omega.{arith}
use lib.ListN.{length}
use Rattle.rules_output.specs.Walk.{number_in, object_at, meet, meet_each, walk}
use Rattle.theory_walks.proofs.Walks.Numbers.{Distinct, number_same, number_other, number_nil, number_zero, object_past, object_same, object_other}
use Rattle.theory_walks.proofs.Walks.Numbers.{Met, nothing, again, new, meet_cases}

-- ---- paired

-- both 0, or paired
pub data Same (R : ℕ → ℕ → Type 0) : ℕ → ℕ → Type 0 where
  zeros : Same R 0 0
  pair : {v v' : ℕ} → v ≢ 0 → v' ≢ 0 → R v v' → Same R v v'

pub data Both (R : ℕ → ℕ → Type 0) : List ℕ → List ℕ → Type 0 where
  nil : Both R [] []
  cons : {x x' : ℕ} {l l' : List ℕ} → R x x' → Both R l l' → Both R (x ∷ l) (x' ∷ l')

pub both_length : {R : ℕ → ℕ → Type 0} {l l' : List ℕ} → Both R l l' → length l ≡ length l'
both_length nil = refl
both_length (cons r both) = ap suc (both_length both)

pub record OneToOne (R : ℕ → ℕ → Type 0) : Type 0 where
  pub to : {v u v' u' : ℕ} → R v v' → R u u' → v ≡ u → v' ≡ u'
  pub back : {v u v' u' : ℕ} → R v v' → R u u' → v' ≡ u' → v ≡ u

module _ {R : ℕ → ℕ → Type 0} (one : OneToOne R) where
  pub both_number : {l l' : List ℕ} {v v' : ℕ} → Both R l l' → R v v' → number_in l v ≡ number_in l' v'
  both_number {v} {v'} nil r = number_nil v ∙ sym (number_nil v')
  both_number {v} {v'} (cons {x} {x'} {l} {l'} p both) r = elim (ℕ_discrete x v) [
    | yes e ↦ number_same x v l e ∙ ap suc (both_length both) ∙ sym (number_same x' v' l' (one.to p r e))
    | no d ↦ number_other x v l d ∙ both_number both r ∙ sym (number_other x' v' l' (λ e. d (one.back p r e)))
  ]

  met_same : {l l' m m' : List ℕ} {v v' : ℕ} → Both R l l' → Same R v v' → Met l v m → Met l' v' m' → Both R m m'
  met_same both zeros (nothing e) (nothing e') = both
  met_same both zeros (again n d e) met = absurd (d refl)
  met_same both zeros (new d e) met = absurd (d refl)
  met_same both zeros (nothing e) (again n d q) = absurd (d refl)
  met_same both zeros (nothing e) (new d q) = absurd (d refl)
  met_same both (pair s s' r) (nothing e) met = absurd (s e)
  met_same both (pair s s' r) (again n d e) (nothing q) = absurd (s' q)
  met_same both (pair s s' r) (again n d e) (again n' d' e') = both
  met_same both (pair s s' r) (again n d e) (new d' e') = absurd (omega (arith, both_number both r))
  met_same both (pair s s' r) (new d e) (nothing q) = absurd (s' q)
  met_same both (pair s s' r) (new d e) (again n' d' e') = absurd (omega (arith, both_number both r))
  met_same both (pair s s' r) (new d e) (new d' e') = cons r both

  each_same : {l l' vs vs' : List ℕ} → Both R l l' → Both (Same R) vs vs' → Both R (meet_each l vs) (meet_each l' vs')
  unfolding meet_each
  each_same both nil = both
  each_same {l} {l'} both (cons {x} {x'} r rest) = each_same {l = meet l x} {l' = meet l' x'} (met_same both r (meet_cases l x) (meet_cases l' x')) rest

  pub both_object : {l l' : List ℕ} → Both R l l' → (n : ℕ) → 1 ≤ n → n ≤ length l → R (object_at l n) (object_at l' n)
  both_object nil n low high = absurd (omega arith)
  both_object (cons {x} {x'} {l} {l'} r both) n low high =
      let same = both_length both in
      elim (ℕ_discrete n (suc (length l))) [
        | yes e ↦ rw (object_same x n l e, object_same x' n l' (e ∙ ap suc same)) r
        | no d ↦
            rw (object_other x n l d, object_other x' n l' (λ e. d (e ∙ ap suc (sym same))))
            (both_object both n low (omega arith))
      ]

  -- ---- paired graphs are walked alike
  module _ (roots roots' : List ℕ) (out out' : ℕ → List ℕ) (empty : out 0 ≡ []) (empty' : out' 0 ≡ [])
      (roots_same : Both (Same R) roots roots') (cells_same : (v v' : ℕ) → R v v' → Both (Same R) (out v) (out' v')) where
    pub walk_same : (k : ℕ) → Both R (walk roots out k) (walk roots' out' k)
    unfolding walk
    walk_same zero = each_same nil roots_same
    walk_same (suc k) = each_same (walk_same k) (taken (walk_same k))
      where
        taken : {met met' : List ℕ} → Both R met met' → Both (Same R) (out (object_at met (suc k))) (out' (object_at met' (suc k)))
        taken {met} {met'} both = elim (dec_lt k (length met)) [
          | yes h ↦ cells_same _ _ (both_object both (suc k) (omega arith) (omega arith))
          | no h ↦
              rw (object_past met (suc k) (omega arith), object_past met' (suc k) (omega (arith, both_length both)), empty, empty') nil
        ]

  -- so what the references hold is written alike
  pub written_same : {met met' vs vs' : List ℕ} → Distinct met → Distinct met' → Both R met met' → Both (Same R) vs vs' → map (number_in met) vs ≡ map (number_in met') vs'
  written_same d d' both nil = refl
  written_same {met} {met'} d d' both (cons {x} {x'} {l} {l'} zeros rest) =
      ap (λ (n : ℕ). n ∷ map (number_in met) l) (number_zero d ∙ sym (number_zero d'))
      ∙ ap (λ (m : List ℕ). number_in met' 0 ∷ m) (written_same d d' both rest)
  written_same {met} {met'} d d' both (cons {x} {x'} {l} {l'} (pair s s' r) rest) =
      ap (λ (n : ℕ). n ∷ map (number_in met) l) (both_number both r)
      ∙ ap (λ (m : List ℕ). number_in met' x' ∷ m) (written_same d d' both rest)
