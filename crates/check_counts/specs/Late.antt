-- Damage kinds 4 and 5 as they are told by a tally of all references, for contracts.
use Rattle.std.specs.Prelude.{ℕ, ◌+◌, ◌*◌, ◌/◌, ◌≤◌, ◌<◌, ◌≡◌, Bool, true, false, not, ◌&&◌, ◌||◌, List, [], ◌∷◌, eqb, ltb, length, get_or}
use Rattle.bitmap.specs.Bit.{bit_of}
use Rattle.planes.specs.Plane.{count_at}
use Rattle.rules.specs.Tools.{some_below, first_number}
use Rattle.rules.specs.Heap.{lent_memory, max_blocks, capacity, first_in}
use Rattle.rules.specs.Damage.{bad_cell, bad_root, bad_count}

-- a place for each of N blocks, and 0 there and in all others
pub record Cleared (N : ℕ) (at : List ℕ) : Type 0 where
  pub long : N ≤ length at
  pub zero : (b : ℕ) → b < length at → get_or at b 0 ≡ 0

-- kind 5 at a block that `named` references name
unfoldable pub count_off : (first : Bool) → (width count named : ℕ) → Bool
count_off first width count named = elim first [
  | true ↦ eqb count 0 || (ltb count (capacity width) && not (eqb count named))
  | false ↦ not (eqb count 0)
]

-- ---- the heap by a tally: a block is named where no object starts; a count is not the tally's

abbrev pub stray_tally : ℕ → (a b at : List ℕ) → ℕ → Bool
stray_tally N a b at i = not (first_in N a b i) && not (eqb (get_or at i 0) 0)

abbrev pub off_tally : (N w : ℕ) → (a b counts at : List ℕ) → ℕ → Bool
off_tally N w a b counts at i = count_off (first_in N a b i) w (count_at (N / 8) w counts i) (get_or at i 0)

-- .. and so of block s of byte k, where the first blocks are the bits of `first`

unfoldable pub stray_in : (first : ℕ) → List ℕ → (k s : ℕ) → Bool
stray_in first at k s = not (not (eqb (bit_of first s) 0)) && not (eqb (get_or at (8 * k + s) 0) 0)

unfoldable pub off_in : (first bytes width : ℕ) → (counts at : List ℕ) → (k s : ℕ) → Bool
off_in first bytes width counts at k s =
    count_off (not (eqb (bit_of first s) 0)) width (count_at bytes width counts (8 * k + s)) (get_or at (8 * k + s) 0)

-- ---- the rules

-- the lists of a heap of N blocks and counts of w bits, as far as kinds 4 and 5 read them
pub record Countable (N w : ℕ) (a b counts cells roots d : List ℕ) : Type 0 where
  pub blocks_max : N ≤ max_blocks
  pub whole_bytes : N ≡ 8 * (N / 8)
  pub a_covers : N ≤ 8 * length a
  pub b_covers : N ≤ 8 * length b
  pub d_covers : N ≤ 8 * length d
  pub length_cells : length cells ≡ 4 * N
  pub width_min : 1 ≤ w
  pub width_max : w ≤ 4
  pub length_counts : length counts ≡ w * (N / 8)
  pub roots_max : length roots ≤ 64

-- the first of kinds 4 and 5 that applies, or 0; they don't read the lists that are empty here
abbrev pub kind_of : (N w : ℕ) → (a b counts cells roots d : List ℕ) → ℕ
kind_of N w a b counts cells roots d =
    let h = lent_memory a b counts cells roots [] [] d [] [] in
    first_number
    ((4, some_below (bad_cell N h) (4 * N) || some_below (bad_root N h) (length roots)) ∷ (5, some_below (bad_count N w h) N) ∷ [])
