-- What the collector's sweep computes: objects of count 0 are freed with no count-downs, and their blocks counted.
use Rattle.std.specs.Prelude.{ℕ, zero, suc, ◌+◌, ◌≤◌, ◌<◌, ◌≡◌, Bool, true, false, ◌&&◌, eqb, Option, Some, None}
use Rattle.rules.specs.Heap.{Memory, is_first, size_at, count_of}
use Rattle.rules_stores.specs.Store.{freed}

-- an object of count 0 starts at block i
unfoldable pub is_unmarked : ℕ → ℕ → Memory → ℕ → Bool
is_unmarked N w h i = is_first N h i && eqb (count_of N w h i) 0

-- r is the lowest such block from block i on
pub record LowestUnmarked (N w : ℕ) (h : Memory) (i r : ℕ) : Type 0 where
  pub from : i ≤ r
  pub inside : r < N
  pub none_before : (j : ℕ) → i ≤ j → j < r → is_unmarked N w h j ≡ false
  pub here : is_unmarked N w h r ≡ true

-- which it is, or that there is none
abbrev pub NextUnmarked : (N w : ℕ) → Memory → (i : ℕ) → Option ℕ → Type 0
NextUnmarked N w h i (Some r) = LowestUnmarked N w h i r
NextUnmarked N w h i None = (j : ℕ) → i ≤ j → j < N → is_unmarked N w h j ≡ false

-- it is freed, if there is one; and how many blocks that frees
unfoldable pub sweep_one : ℕ → ℕ → Memory → ℕ → Memory
sweep_one N w h i = elim (is_unmarked N w h i) [ true ↦ freed N w h i (size_at N h i) | false ↦ h ]

unfoldable pub sweep_one_blocks : ℕ → ℕ → Memory → ℕ → ℕ
sweep_one_blocks N w h i = elim (is_unmarked N w h i) [ true ↦ size_at N h i | false ↦ 0 ]

-- those that start below n are freed
unfoldable pub sweep : ℕ → ℕ → Memory → ℕ → Memory
sweep N w h zero = h
sweep N w h (suc n) = sweep_one N w (sweep N w h n) n

unfoldable pub sweep_blocks : ℕ → ℕ → Memory → ℕ → ℕ
sweep_blocks N w h zero = 0
sweep_blocks N w h (suc n) = sweep_blocks N w h n + sweep_one_blocks N w (sweep N w h n) n
