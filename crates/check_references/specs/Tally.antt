-- The tally of references, for contracts: a list with a place for each block. A byte is enough: a tally stops at 255, and a count
-- below capacity is less.
use Rattle.std.specs.Prelude.{ℕ, ◌+◌, ◌≤◌, ◌<◌, min, ◌≡◌, Bool, false, List, eqb, length, get_or}
use Rattle.bitmap.specs.Bit.{count_below}
use Rattle.rules.specs.Tools.{some_below}

-- each place is a byte
abbrev pub Room : List ℕ → Type 0
Room at = (b : ℕ) → b < length at → get_or at b 0 ≤ 255

-- `at` has at place b what `at₀` has there, and how many of the first n numbers that are read name block b; to
-- 255 at most
pub record Tallied (read : ℕ → ℕ) (n : ℕ) (at₀ at : List ℕ) : Type 0 where
  pub same_length : length at ≡ length at₀
  pub named : (b : ℕ) → b < length at₀ → get_or at b 0 ≡ min 255 (get_or at₀ b 0 + count_below (λ j. eqb (read j) (b + 1)) n)

-- what a tally of n numbers answers: whether one of them is wild; where none is, all are tallied
pub record Answered (wild_at : ℕ → Bool) (read : ℕ → ℕ) (n : ℕ) (at₀ at : List ℕ) (r : Bool) : Type 0 where
  pub told : r ≡ some_below wild_at n
  pub tallied : r ≡ false → Tallied read n at₀ at
