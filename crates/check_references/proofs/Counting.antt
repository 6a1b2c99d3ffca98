-- Laws of counting: one number more, and some more: `count_below`.
use mathlib.Core.Path.{◌≡◌}
use mathlib.Core.Bool.{Bool, true, false}
use Prim.Native.Nat.{ℕ, zero, suc, ◌+◌}
use native.Mathlib.Nat.{add-zero, add-suc}
use native.Mathlib.Numerals.{add-one}
use native.Mathlib.Omega.{arith}
use Rattle.bitmap.specs.Bit.{count_below}

pub count_passed : (test : ℕ → Bool) (i : ℕ) → test i ≡ true → count_below test (i + 1) ≡ count_below test i + 1
unfolding count_below
count_passed test i e = rw (add-one i, count_below, e)

pub count_failed : (test : ℕ → Bool) (i : ℕ) → test i ≡ false → count_below test (i + 1) ≡ count_below test i
unfolding count_below
count_failed test i e = rw (add-one i, count_below, e) (omega arith)

pub count_on : (test : ℕ → Bool) (m n : ℕ) → count_below test (m + n) ≡ count_below test m + count_below (λ k. test (m + k)) n
unfolding count_below
count_on test m zero = rw (add-zero m, count_below) (omega arith)
count_on test m (suc n) = rw (add-suc m n, count_below) (omega (arith, count_on test m n))
