-- Laws of `count_below` for sets of numbers: what is counted is there, a larger set counts more, and n of the numbers below n are all; and
-- of one test after another.
use mathlib.Core.Path.{◌≡◌, refl, sym, ap, ◌∙◌}
use mathlib.Core.Logic.{inl, inr}
use mathlib.Core.Bool.{Bool, true, false, false≢true}
use Prim.Native.Nat.{ℕ, zero, suc, ◌≤◌, ◌<◌}
use native.Mathlib.Decide.{ℕ_discrete}
use native.Mathlib.Omega.{arith}
use Rattle.bitmap.specs.Bit.{one, count_below}
use Rattle.bitmap.proofs.Zeros.{count_le}
use Rattle.rules.proofs.Tests.{test_cases_lem}

-- ---- numbers below n that pass a test

-- where some are counted, there is one ..
pub count_found : (test : ℕ → Bool) (n : ℕ) → 1 ≤ count_below test n → (i : ℕ) × (i < n) × (test i ≡ true)
unfolding count_below
count_found test zero l = absurd (omega arith)
count_found test (suc n) l =
    elim (test_cases_lem (test n)) [
      | inl e ↦ (n, omega arith, e)
      | inr e ↦ let found = count_found test n (omega (arith, ap one e)) in (found.0, omega (arith, found.1), found.2)
    ]

-- .. and the other way
pub found_count : (test : ℕ → Bool) (n i : ℕ) → i < n → test i ≡ true → 1 ≤ count_below test n
unfolding count_below
found_count test zero i l e = absurd (omega arith)
found_count test (suc n) i l e =
    elim (ℕ_discrete i n) [
      | yes q ↦ omega (arith, ap (λ (j : ℕ). one (test j)) (sym q), ap one e)
      | no q ↦ omega (arith, found_count test n i (omega arith) e)
    ]

one_le : (s t : Bool) → (s ≡ true → t ≡ true) → one s ≤ one t
one_le true t h = omega (arith, ap one (h refl))
one_le false t h = omega arith

-- a test that passes wherever another does counts as many ..
count_more : (test other : ℕ → Bool) (n : ℕ) → ((i : ℕ) → test i ≡ true → other i ≡ true) → count_below test n ≤ count_below other n
unfolding count_below
count_more test other zero h = omega arith
count_more test other (suc n) h = omega (arith, count_more test other n h, one_le (test n) (other n) (h n))

-- .. and more, where it passes at a number at which the other fails
pub count_grows :
    (test other : ℕ → Bool) (n i : ℕ) → ((j : ℕ) → test j ≡ true → other j ≡ true) → i < n → test i ≡ false → other i ≡ true
    → count_below test n < count_below other n
unfolding count_below
count_grows test other zero i h l f t = absurd (omega arith)
count_grows test other (suc n) i h l f t =
    elim (ℕ_discrete i n) [
      | yes q ↦
          omega (
            arith,
            count_more test other n h,
            ap (λ (j : ℕ). one (test j)) (sym q),
            ap (λ (j : ℕ). one (other j)) (sym q),
            ap one f,
            ap one t,
          )
      | no q ↦ omega (arith, count_grows test other n i h (omega arith) f t, one_le (test n) (other n) (h n))
    ]

-- where all are counted, the test passes at each
pub count_all : (test : ℕ → Bool) (n i : ℕ) → n ≤ count_below test n → i < n → test i ≡ true
unfolding count_below
count_all test zero i l u = absurd (omega arith)
count_all test (suc n) i l u =
    elim (test_cases_lem (test n)) [
      | inr e ↦ absurd (omega (arith, count_le test n, ap one e))
      | inl e ↦
          elim (ℕ_discrete i n) [
            | yes q ↦ ap test q ∙ e
            | no q ↦ count_all test n i (omega (arith, ap one e)) (omega arith)
          ]
    ]

-- ---- one test after another, as the rules write it where they count

pub then_true : (s t : Bool) → elim s [ true ↦ t | false ↦ false ] ≡ true → (s ≡ true) × (t ≡ true)
then_true true t e = (refl, e)
then_true false t e = absurd (false≢true e)

pub true_then : (s t : Bool) → s ≡ true → t ≡ true → elim s [ true ↦ t | false ↦ false ] ≡ true
true_then true t p q = q
true_then false t p q = p

pub then_all : (s t : Bool) → t ≡ true → elim s [ true ↦ t | false ↦ false ] ≡ s
then_all true t e = e
then_all false t e = refl

pub then_none : (s t : Bool) → t ≡ false → elim s [ true ↦ t | false ↦ false ] ≡ false
then_none true t e = e
then_none false t e = refl
