-- Laws of the tests that the rules are written with: a test's value to and from facts, `all`, `some_below` and `first_number`.
use mathlib.Core.Path.{◌≡◌, refl, sym, ap, ◌∙◌}
use mathlib.Core.Logic.{◌≢◌, ◌⊎◌, inl, inr}
use mathlib.Core.Bool.{Bool, true, false, not, ◌&&◌, ◌||◌, true≢false, false≢true}
use mathlib.Core.List.{List, [], ◌∷◌}
use Prim.Native.Nat.{ℕ, zero, suc, ◌+◌, ◌<◌}
use native.Mathlib.Numerals.{add-one}
use native.Mathlib.Decide.{ℕ_discrete}
use native.Mathlib.Omega.{arith}
use lib.Dec.{eqb}
use lib.ListN.{get_or}
use borrow.Author.Tests.{eq-eqb, ne_eqb}
use Rattle.rules.specs.Tools.{all, some_below, first_number}

-- ---- one test

pub test_cases_lem : (t : Bool) → (t ≡ true) ⊎ (t ≡ false)
test_cases_lem true = inl refl
test_cases_lem false = inr refl

pub false_unless : (t : Bool) → (t ≡ true → ⊥) → t ≡ false
false_unless true h = absurd (h refl)
false_unless false h = refl

pub eqb_either_way : (x y : ℕ) → eqb x y ≡ eqb y x
eqb_either_way x y = elim (ℕ_discrete x y) [
  | yes e ↦ eq-eqb x y e ∙ sym (eq-eqb y x (sym e))
  | no n ↦ ne_eqb x y n ∙ sym (ne_eqb y x (λ e. n (sym e)))
]

-- what holds of both holds of the one chosen
pub choose : {A : Type 0} (P : A → Type 0) (t : Bool) {x y : A} → P x → P y → P (elim t [ true ↦ x | false ↦ y ])
choose P true p q = p
choose P false p q = q

pub choose_both :
    {A B : Type 0} (f : A → B) (t : Bool) (x y : A) {u v : B} → u ≡ f x → v ≡ f y
    → elim t [ true ↦ u | false ↦ v ] ≡ f (elim t [ true ↦ x | false ↦ y ])
choose_both f true x y p q = p
choose_both f false x y p q = q

-- ---- two tests

pub and_true : (s t : Bool) → s && t ≡ true → (s ≡ true) × (t ≡ true)
and_true true t e = (refl, e)
and_true false t e = absurd (false≢true e)

pub true_and : (s t : Bool) → s ≡ true → t ≡ true → s && t ≡ true
true_and true t p q = q
true_and false t p q = p

pub and_false : (s t : Bool) → s && t ≡ false → s ≡ true → t ≡ false
and_false true t e p = e
and_false false t e p = absurd (false≢true p)

pub false_and : (s t : Bool) → (s ≡ true → t ≡ false) → s && t ≡ false
false_and true t h = h refl
false_and false t h = refl

pub or_true : (s t : Bool) → s || t ≡ true → (s ≡ true) ⊎ (t ≡ true)
or_true true t e = inl refl
or_true false t e = inr e

pub true_or : (s t : Bool) → (s ≡ true) ⊎ (t ≡ true) → s || t ≡ true
true_or true t o = refl
true_or false t (inl p) = absurd (false≢true p)
true_or false t (inr q) = q

pub or_false : (s t : Bool) → s || t ≡ false → (s ≡ false) × (t ≡ false)
or_false true t e = absurd (true≢false e)
or_false false t e = (refl, e)

pub false_or : (s t : Bool) → s ≡ false → t ≡ false → s || t ≡ false
false_or true t p q = p
false_or false t p q = q

-- ---- a list of tests

-- P holds of each in the list
pub data Each {A : Type 0} (P : A → Type 0) : List A → Type 0 where
  done : Each P []
  also : {x : A} {l : List A} → P x → Each P l → Each P (x ∷ l)

-- where all pass, each does ..
pub all_at : (ts : List Bool) → all ts ≡ true → (i : ℕ) → get_or ts i true ≡ true
unfolding all
all_at [] e i = refl
all_at (true ∷ ts) e zero = refl
all_at (true ∷ ts) e (suc i) = all_at ts e i
all_at (false ∷ ts) e i = absurd (false≢true e)

-- where one fails, not all pass
pub all_failed : (ts : List Bool) (i : ℕ) → get_or ts i true ≡ false → all ts ≡ false
unfolding all
all_failed [] i e = absurd (true≢false e)
all_failed (t ∷ ts) zero e = rw (e, all)
all_failed (true ∷ ts) (suc i) e = all_failed ts i e
all_failed (false ∷ ts) (suc i) e = refl

pub all_one : (t : Bool) → all (t ∷ []) ≡ t
unfolding all
all_one true = refl
all_one false = refl

-- .. and where each does, all pass
pub all_passed : (ts : List Bool) → Each (λ t. t ≡ true) ts → all ts ≡ true
unfolding all
all_passed [] done = refl
all_passed (t ∷ ts) (also e rest) = rw (e, all) (all_passed ts rest)

-- ---- the numbers below n

-- where the test passes at some, there is one ..
pub some_true : (test : ℕ → Bool) (n : ℕ) → some_below test n ≡ true → (i : ℕ) × (i < n) × (test i ≡ true)
unfolding some_below
some_true test zero e = absurd (false≢true e)
some_true test (suc n) e = elim (test_cases_lem (some_below test n)) [
  | inl q ↦ let found = some_true test n q in (found.0, omega (arith, found.1), found.2)
  | inr q ↦ (n, omega arith, rw (q, some_below) at e)
]

pub true_some : (test : ℕ → Bool) (n i : ℕ) → i < n → test i ≡ true → some_below test n ≡ true
unfolding some_below
true_some test zero i l h = absurd (omega arith)
true_some test (suc n) i l h = elim (test_cases_lem (some_below test n)) [
  | inl q ↦ rw (q, some_below)
  | inr q ↦ elim (ℕ_discrete i n) [
    | yes p ↦ rw (q, some_below) (ap test (sym p) ∙ h)
    | no p ↦ absurd (false≢true (sym q ∙ true_some test n i (omega arith) h))
  ]
]

-- .. and where at none, it fails at each
pub some_false : (test : ℕ → Bool) (n : ℕ) → some_below test n ≡ false → (i : ℕ) → i < n → test i ≡ false
some_false test n e i l = false_unless (test i) (λ h. true≢false (sym (true_some test n i l h) ∙ e))

pub false_some : (test : ℕ → Bool) (n : ℕ) → ((i : ℕ) → i < n → test i ≡ false) → some_below test n ≡ false
false_some test n h =
    false_unless (some_below test n) (λ e. let found = some_true test n e in true≢false (sym found.2 ∙ h found.0 found.1))

-- a search that has found nothing yet goes one further
pub some_next : (test : ℕ → Bool) (n : ℕ) → some_below test n ≡ false → some_below test (n + 1) ≡ test n
unfolding some_below
some_next test n e = rw (add-one, e, some_below)

-- ---- the first number whose test passes

pub first_past : (k : ℕ) (t : Bool) (ks : List (ℕ × Bool)) → t ≡ false → first_number ((k, t) ∷ ks) ≡ first_number ks
unfolding first_number
first_past k t ks e = rw e

pub first_found : (k : ℕ) (t : Bool) (ks : List (ℕ × Bool)) → t ≡ true → first_number ((k, t) ∷ ks) ≡ k
unfolding first_number
first_found k t ks e = rw e

-- where none is found, no test passes; the numbers are not 0 ..
pub first_at_lem : (ks : List (ℕ × Bool)) → Each (λ k. k.0 ≢ 0) ks → first_number ks ≡ 0 → (i : ℕ) → (get_or ks i (0, false)).1 ≡ false
first_at_lem [] n e i = refl
first_at_lem ((k, true) ∷ ks) (also n rest) e i = absurd (n (sym (first_found k true ks refl) ∙ e))
first_at_lem ((k, false) ∷ ks) (also n rest) e zero = refl
first_at_lem ((k, false) ∷ ks) (also n rest) e (suc i) = first_at_lem ks rest (sym (first_past k false ks refl) ∙ e) i

-- .. and the other way
pub first_none : (ks : List (ℕ × Bool)) → Each (λ k. k.1 ≡ false) ks → first_number ks ≡ 0
unfolding first_number
first_none [] done = refl
first_none ((k, t) ∷ ks) (also e rest) = first_past k t ks e ∙ first_none ks rest

-- a number that no test has is not found
pub first_other : (n : ℕ) (ks : List (ℕ × Bool)) → n ≢ 0 → Each (λ k. k.0 ≢ n) ks → first_number ks ≢ n
first_other n [] nonzero done e = nonzero (sym e ∙ first_none [] done)
first_other n ((k, true) ∷ ks) nonzero (also m rest) e = m (sym (first_found k true ks refl) ∙ e)
first_other n ((k, false) ∷ ks) nonzero (also m rest) e = first_other n ks nonzero rest (sym (first_past k false ks refl) ∙ e)

-- where another number than the first is found, or none, the first test does not pass, and the others find it
pub first_after : (n k : ℕ) (t : Bool) (ks : List (ℕ × Bool)) → k ≢ n → first_number ((k, t) ∷ ks) ≡ n → (t ≡ false) × (first_number ks ≡ n)
unfolding first_number
first_after n k true ks other e = absurd (other e)
first_after n k false ks other e = (refl, e)

pub first_no : (k : ℕ) (t : Bool) (ks : List (ℕ × Bool)) → k ≢ 0 → first_number ((k, t) ∷ ks) ≡ 0 → (t ≡ false) × (first_number ks ≡ 0)
first_no k t ks nonzero e = first_after 0 k t ks nonzero e

pub first_not : (k : ℕ) (t : Bool) (ks : List (ℕ × Bool)) → k ≢ 0 → first_number ((k, not t) ∷ ks) ≡ 0 → (t ≡ true) × (first_number ks ≡ 0)
unfolding first_number
first_not k true ks nonzero e = (refl, e)
first_not k false ks nonzero e = absurd (nonzero e)
