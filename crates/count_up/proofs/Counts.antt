-- Laws of a block's count when another count is written, and of the number of blocks whose count passes a test: `passing`.
use mathlib.Core.Path.{◌≡◌, ap, ◌∙◌}
use mathlib.Core.Logic.{◌≢◌}
use mathlib.Core.Bool.{Bool}
use mathlib.Core.List.{List}
use Prim.Native.Nat.{ℕ, ◌+◌, ◌/◌, ◌^◌, ◌≤◌, ◌<◌}
use native.Mathlib.Omega.{arith}
use Rattle.bitmap.specs.Bit.{one}
use Rattle.bitmap.proofs.Zeros.{count_le, count_change}
use Rattle.planes.specs.Plane.{count_at, set_count}
use Rattle.planes.proofs.Counts.{count_set_same, count_set_other}
use Rattle.count_up.specs.Ready.{Planes}
use Rattle.count_up.specs.Stack.{passing}

pub passing_le : (test : ℕ → Bool) (N w : ℕ) (counts : List ℕ) → passing test N w counts ≤ N
unfolding passing
passing_le test N w counts = count_le (λ i. test (count_at (N / 8) w counts i)) N

module _ {N w : ℕ} {counts : List ℕ} (p : Planes N w counts) (i v : ℕ) (inside : i < N) where
  pub count_written : v < 2 ^ w → count_at (N / 8) w (set_count (N / 8) w counts i v) i ≡ v
  count_written fits = count_set_same (N / 8) w counts i v (omega (arith, p.eighths)) (omega (arith, p.length_is)) fits

  pub count_kept : (j : ℕ) → j < N → j ≢ i → count_at (N / 8) w (set_count (N / 8) w counts i v) j ≡ count_at (N / 8) w counts j
  count_kept j l d = count_set_other (N / 8) w counts i v j (omega (arith, p.eighths)) (omega (arith, p.eighths)) d

  pub passing_set : (test : ℕ → Bool) → v < 2 ^ w
      → passing test N w (set_count (N / 8) w counts i v) + one (test (count_at (N / 8) w counts i)) ≡ passing test N w counts + one (test v)
  unfolding passing
  passing_set test fits =
      count_change
      (λ j. test (count_at (N / 8) w (set_count (N / 8) w counts i v) j))
      (λ j. test (count_at (N / 8) w counts j))
      N i inside
      (λ j l d. ap test (count_kept j l d))
      ∙ ap (λ (x : ℕ). passing test N w counts + one (test x)) (count_written fits)
