-- Laws of decimal numbers: the digits that the kit writes are those of `decimal`, and how many there are.
use mathlib.Core.Path.{◌≡◌}
use Prim.Native.Nat.{ℕ, zero, suc, ◌-◌, ◌*◌, ◌/◌, ◌%◌, ◌^◌, ◌≤◌, ◌<◌}
use native.Mathlib.Nat.{pow-suc, mod-eq_of_lt, one-le-pow}
use native.Mathlib.Decide.{dec_lt}
use native.Mathlib.Omega.{arith}
use lib.ListN.{length, length-append}
use borrow.Author.Tests.{lt-ltb, le-ltb}
use Rattle.io.specs.Digits.{last_digits, IsDigitCount}
use Rattle.text.specs.Text.{decimal_in, decimal}

-- the fewest digits are those of `decimal`
fewest_digits : (k f n : ℕ) → n < f → IsDigitCount 10 1 n k → last_digits 10 k n ≡ decimal_in f n
unfolding decimal_in
fewest_digits zero f n l few = absurd (omega (arith, few.0))
fewest_digits (suc zero) zero n l few = absurd (omega arith)
fewest_digits (suc (suc k)) zero n l few = absurd (omega arith)
fewest_digits (suc zero) (suc f) n l few =
    let below : n < 10 = few.1 in
    let same : n % 10 ≡ n = mod-eq_of_lt below in
    rw (same, lt-ltb n 10 below, decimal_in)
fewest_digits (suc (suc k)) (suc f) n l few =
    let pow : 10 ^ suc (suc k) ≡ 10 ^ suc k * 10 = pow-suc 10 (suc k) in
    let last : suc (suc k) - 1 ≡ suc k = omega arith in
    let most : 10 ^ suc k ≤ n = rw last at (few.2 (omega arith)) in
    let one : 10 ≤ 10 ^ suc k = omega (arith, pow-suc 10 k, one-le-pow k 10 (omega arith)) in
    let below : n % 10 < 10 = omega arith in
    let before : last_digits 10 (suc k) (n / 10) ≡ decimal_in f (n / 10) =
    fewest_digits (suc k) f (n / 10) (omega arith) (
      omega arith,
      omega (arith, few.1, pow),
      λ more.
          let less : suc k - 1 ≡ k = omega arith in
          rw less (omega (arith, most, pow-suc 10 k)),
    ) in
    rw (le-ltb n 10 (omega arith), lt-ltb (n % 10) 10 below, before, decimal_in)

pub decimal_is : (k n : ℕ) → IsDigitCount 10 1 n k → last_digits 10 k n ≡ decimal n
unfolding decimal
decimal_is k n few = fewest_digits k (suc n) n (omega arith) few

-- a number below 10 ^ k has at most k digits
decimal_in_length : (k f n : ℕ) → 1 ≤ k → n < 10 ^ k → length (decimal_in f n) ≤ k
unfolding decimal_in
decimal_in_length zero f n some below = absurd (omega arith)
decimal_in_length (suc k) zero n some below = omega arith
decimal_in_length (suc k) (suc f) n some below = elim (dec_lt n 10) [
  | yes l ↦ rw (lt-ltb n 10 l, decimal_in) (omega arith)
  | no l ↦
      let one : 1 ≤ k = more k (omega arith) below in
      let rest = decimal_in_length k f (n / 10) one (omega (arith, pow-suc 10 k)) in
      rw (le-ltb n 10 (omega arith), decimal_in, length-append) (omega arith)
]
  where
    more : (k : ℕ) → 10 ≤ n → n < 10 ^ suc k → 1 ≤ k
    more zero many few = absurd (omega arith)
    more (suc j) many few = omega arith

pub decimal_length : (k n : ℕ) → 1 ≤ k → n < 10 ^ k → length (decimal n) ≤ k
unfolding decimal
decimal_length k n some below = decimal_in_length k (suc n) n some below

-- a number of 64 bits has at most 20 digits
pub decimal_short : (n : ℕ) → n < 2 ^ 64 → length (decimal n) ≤ 20
decimal_short n below = decimal_length 20 n (omega arith) (omega arith)
