-- Counts as a list with a place for each block, and the count maps that say the same. For contracts of inner functions.
use Rattle.std.specs.Prelude.{ℕ, zero, suc, ◌+◌, ◌*◌, ◌/◌, ◌^◌, ◌≤◌, ◌<◌, ◌≡◌, List, length, get_or, replicate}
use Rattle.bitmap.specs.Bit.{bit_of}
use Rattle.planes.specs.Plane.{set_count}

-- a place for each of N blocks, and a count of w bits in each
pub record Counting (N w : ℕ) (at : List ℕ) : Type 0 where
  pub long : N ≤ length at
  pub fits : (i : ℕ) → get_or at i 0 < 2 ^ w

-- the counts of the first n blocks, written one after another to maps of 0
unfoldable pub maps_below : (bytes w : ℕ) → (at : List ℕ) → (n : ℕ) → List ℕ
maps_below bytes w at zero = replicate (w * bytes) 0
maps_below bytes w at (suc n) = set_count bytes w (maps_below bytes w at n) n (get_or at n 0)

-- the count maps of N blocks
unfoldable pub count_maps : (N w : ℕ) → (at : List ℕ) → List ℕ
count_maps N w at = maps_below (N / 8) w at N

-- each of the first n bytes has bit p of the counts of its eight blocks
pub record MapWritten (at : List ℕ) (p n : ℕ) (map : List ℕ) : Type 0 where
  pub bits : (j s : ℕ) → j < n → s < 8 → bit_of (get_or map j 0) s ≡ bit_of (get_or at (8 * j + s) 0) p
