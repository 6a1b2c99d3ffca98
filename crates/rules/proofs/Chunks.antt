-- The least power of two that is n or more, and chunks that are free.
use mathlib.Core.Path.{◌≡◌, sym, ap, ◌∙◌}
use mathlib.Core.Logic.{◌≢◌, inl, inr}
use mathlib.Core.Bool.{true, false, true≢false}
use mathlib.Core.List.{List}
use Prim.Native.Nat.{ℕ, zero, suc, ◌+◌, ◌^◌, ◌≤◌, ◌<◌}
use native.Mathlib.Nat.{pow-suc}
use native.Mathlib.Decide.{dec_lt}
use native.Mathlib.Omega.{arith}
use lib.Pow.{pow_pos}
use lib.Dec.{leb}
use borrow.Author.Tests.{leb-true, leb-false, eqb-true, eqb-false}
use Rattle.bitmap.specs.Bit.{bit_at}
use Rattle.rules.specs.Heap.{exponent_from, exponent, chunk_free}
use Rattle.rules.proofs.Tests.{test_cases_lem}
use Rattle.rules.proofs.Objects.{bit_cases}

-- ---- "the least power of two that is n or more"

pow_above : (n : ℕ) → n ≤ 2 ^ n
pow_above zero = omega arith
pow_above (suc n) = omega (arith, pow_above n, pow-suc 2 n, pow_pos n)

covers_from : (f k n : ℕ) → n ≤ 2 ^ (k + f) → n ≤ 2 ^ exponent_from f k n
unfolding exponent_from
covers_from zero k n h = let e : k + 0 ≡ k = omega arith in rw e at h
covers_from (suc f) k n h = elim (test_cases_lem (leb n (2 ^ k))) [
  | inl t ↦ rw (t, exponent_from) (leb-true n (2 ^ k) t)
  | inr t ↦ let e : k + suc f ≡ k + 1 + f = omega arith in rw (t, exponent_from) (covers_from f (k + 1) n (rw e at h))
]

least_from : (f k n j : ℕ) → k ≤ j → n ≤ 2 ^ j → exponent_from f k n ≤ j
unfolding exponent_from
least_from zero k n j l h = l
least_from (suc f) k n j l h = elim (test_cases_lem (leb n (2 ^ k))) [
  | inl t ↦ rw (t, exponent_from) l
  | inr t ↦
      let m : k ≢ j = λ e. omega (arith, leb-false n (2 ^ k) t, ap (λ (x : ℕ). 2 ^ x) e) in
      rw (t, exponent_from) (least_from f (k + 1) n j (omega arith) h)
]

pub exponent_covers : (n : ℕ) → n ≤ 2 ^ exponent n
unfolding exponent
exponent_covers n = let e : 0 + n ≡ n = omega arith in covers_from n 0 n (rw e (pow_above n))

pub exponent_least : (n k : ℕ) → n ≤ 2 ^ k → exponent n ≤ k
unfolding exponent
exponent_least n k h = least_from n 0 n k (omega arith) h

-- ---- one chunk

-- the n blocks from block i on are free
abbrev pub Free : List ℕ → ℕ → ℕ → Type 0
Free a i n = (j : ℕ) → i ≤ j → j < i + n → bit_at a j ≡ 0

-- some of the n blocks from block i on is used
abbrev pub Used : List ℕ → ℕ → ℕ → Type 0
Used a i n = (j : ℕ) × (i ≤ j) × (j < i + n) × (bit_at a j ≡ 1)

pub chunk_free_lem : (k : ℕ) (a : List ℕ) (i : ℕ) → chunk_free k a i ≡ true → Free a i (2 ^ k)
unfolding chunk_free
chunk_free_lem zero a i e j l u = let here : j ≡ i = omega arith in ap (λ (x : ℕ). bit_at a x) here ∙ eqb-true (bit_at a i) 0 e
chunk_free_lem (suc k) a i e j l u = elim (test_cases_lem (chunk_free k a i)) [
  | inr t ↦ absurd (true≢false (sym e ∙ rw (t, chunk_free)))
  | inl t ↦ elim (dec_lt j (i + 2 ^ k)) [
    | yes v ↦ chunk_free_lem k a i t j l v
    | no v ↦ chunk_free_lem k a (i + 2 ^ k) (rw (t, chunk_free) at e) j (omega arith) (omega (arith, pow-suc 2 k))
  ]
]

pub chunk_used : (k : ℕ) (a : List ℕ) (i : ℕ) → chunk_free k a i ≡ false → Used a i (2 ^ k)
unfolding chunk_free
chunk_used zero a i e = elim (bit_cases a i) [
  | inl z ↦ absurd (eqb-false (bit_at a i) 0 e z)
  | inr o ↦ (i, omega arith, omega arith, o)
]
chunk_used (suc k) a i e = elim (test_cases_lem (chunk_free k a i)) [
  | inr t ↦ let u = chunk_used k a i t in (u.0, u.1, omega (arith, u.2, pow-suc 2 k), u.3)
  | inl t ↦
      let u = chunk_used k a (i + 2 ^ k) (rw (t, chunk_free) at e) in
      (u.0, omega (arith, u.1), omega (arith, u.2, pow-suc 2 k), u.3)
]

-- a chunk is not both
pub free_not_used : (a : List ℕ) (i n : ℕ) → Free a i n → Used a i n → ⊥
free_not_used a i n free (j, l, u, e) = omega (arith, free j l u)

pub free_chunk : (k : ℕ) (a : List ℕ) (i : ℕ) → Free a i (2 ^ k) → chunk_free k a i ≡ true
free_chunk k a i free = elim (test_cases_lem (chunk_free k a i)) [
  | inl t ↦ t
  | inr t ↦ absurd (free_not_used a i (2 ^ k) free (chunk_used k a i t))
]
