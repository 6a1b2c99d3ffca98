-- Laws of powers of two, which chunks have as sizes, and of `exponent`, the exponent of the least power that is n or more.
use mathlib.Core.Path.{◌≡◌, refl, ap, ◌∙◌}
use Prim.Native.Nat.{ℕ, zero, suc, ◌+◌, ◌-◌, ◌/◌, ◌^◌, ◌≤◌, ◌<◌, max}
use native.Mathlib.Nat.{pow-suc, sub-zero}
use native.Mathlib.Decide.{dec_lt}
use native.Mathlib.Omega.{arith}
use lib.Pow.{pow_mono, pow_pos}
use borrow.Author.Tests.{le-leb, lt-leb}
use Rattle.rules.proofs.Chunks.{exponent_covers, exponent_least}
use Rattle.rules.specs.Heap.{exponent, exponent_from}

-- ---- powers

pub below_power : (k : ℕ) → k < 2 ^ k
below_power zero = omega arith
below_power (suc k) = omega (arith, below_power k, pow-suc 2 k)

-- an exponent is below another where the power is
pub exponent_lt : (k j : ℕ) → 2 ^ k < 2 ^ j → k < j
exponent_lt k j h = elim (dec_lt k j) [ yes l ↦ l | no l ↦ absurd (omega (arith, pow_mono {i = j} {j = k} (omega arith))) ]

-- ---- the exponent, as its search goes: k is tried, and n - k more

pub exponent_start : (n : ℕ) → exponent_from (n - 0) 0 n ≡ exponent n
unfolding exponent
exponent_start n = ap (λ (f : ℕ). exponent_from f 0 n) (sub-zero n)

pub exponent_next : (n k : ℕ) → 2 ^ k < n → exponent_from (n - k) k n ≡ exponent_from (n - (k + 1)) (k + 1) n
unfolding exponent_from
exponent_next n k h =
    let more : n - k ≡ suc (n - (k + 1)) = omega (arith, below_power k) in
    ap (λ (f : ℕ). exponent_from f k n) more ∙ rw (lt-leb n (2 ^ k) h, exponent_from)

pub exponent_here : (n k : ℕ) → n ≤ 2 ^ k → exponent_from (n - k) k n ≡ k
unfolding exponent_from
exponent_here n k h = go (n - k)
  where
    go : (f : ℕ) → exponent_from f k n ≡ k
    go zero = refl
    go (suc f) = rw (le-leb n (2 ^ k) h, exponent_from)

-- a power of two that is n or more, and whose half is not, is the least one
pub power_least : (n k : ℕ) → n ≤ 2 ^ k → 2 ^ k / 2 < max 1 n → 2 ^ k ≡ 2 ^ exponent n
power_least n zero covers half =
    let same : 0 ≡ exponent n = omega (arith, exponent_least n 0 covers) in
    ap (λ (j : ℕ). 2 ^ j) same
power_least n (suc k) covers half = elim (dec_lt (exponent n) (suc k)) [
  | yes l ↦
      let less : 2 ^ exponent n ≤ 2 ^ k = pow_mono {i = exponent n} {j = k} (omega arith) in
      absurd (omega (arith, pow-suc 2 k, exponent_covers n, less, pow_pos k))
  | no l ↦
      let same : suc k ≡ exponent n = omega (arith, exponent_least n (suc k) covers) in
      ap (λ (j : ℕ). 2 ^ j) same
]
