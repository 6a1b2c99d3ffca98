-- The waiting list as a stack of first blocks: its first `top` places, the last one first, and 0 behind them. For contracts of
-- inner functions.
use Rattle.std.specs.Prelude.{ℕ, zero, suc, ◌+◌, ◌/◌, ◌≤◌, ◌<◌, ◌≡◌, Bool, false, not, List, [], ◌∷◌, length, get_or, eqb}
use Rattle.bitmap.specs.Bit.{count_below}
use Rattle.planes.specs.Plane.{count_at}
use Rattle.rules_stores.specs.Store.{Work, work}
use Rattle.count_up.specs.Ready.{Planes}

-- the first `top` places, the last first
unfoldable pub top_first : List ℕ → ℕ → List ℕ
top_first waiting zero = []
top_first waiting (suc n) = get_or waiting n 0 ∷ top_first waiting n

-- Which counts a block has that can still come onto the stack: in a release it comes when its count comes to 0, in a marking when its count
-- leaves 0.
abbrev pub counted : ℕ → Bool
counted c = not (eqb c 0)

abbrev pub uncounted : ℕ → Bool
uncounted c = eqb c 0

-- how many blocks have such a count
unfoldable pub passing : (ℕ → Bool) → ℕ → ℕ → List ℕ → ℕ
passing test N w counts = count_below (λ i. test (count_at (N / 8) w counts i)) N

-- how many blocks can still be taken off the stack: those on it, and those that can still come
abbrev pub remaining : (ℕ → Bool) → ℕ → ℕ → List ℕ → ℕ → ℕ
remaining test N w counts top = top + passing test N w counts

-- What stands on the stack are blocks that have come, and behind it are zeros. There is room for all that can still come.
pub record Stack (test : ℕ → Bool) (N w : ℕ) (counts waiting : List ℕ) (top : ℕ) : Type 0 where
  pub length_is : length waiting ≡ N
  pub blocks : (k : ℕ) → k < top → get_or waiting k 0 < N
  pub come : (k : ℕ) → k < top → test (count_at (N / 8) w counts (get_or waiting k 0)) ≡ false
  pub clear : (k : ℕ) → top ≤ k → get_or waiting k 0 ≡ 0
  pub room : remaining test N w counts top ≤ N

-- Counts and stack are those of s, with their lengths kept, and `left` blocks can still be taken off.
pub record Worked (test : ℕ → Bool) (N w : ℕ) (s : Work) (left : ℕ) (counts waiting : List ℕ) (top : ℕ) : Type 0 where
  pub result : work counts (top_first waiting top) ≡ s
  pub planes : Planes N w counts
  pub stack : Stack test N w counts waiting top
  pub left_is : remaining test N w counts top ≡ left
