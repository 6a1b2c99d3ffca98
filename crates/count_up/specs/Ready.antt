-- What counting, stores and collection ask of the lent lists: their lengths, a cleared waiting list, and no figure of a section that is
-- wrong. What cells and roots hold is left open: a number past the heap names no object, and is passed over. An undamaged heap of right shape
-- meets it once its waiting list is cleared. For contracts of inner functions.
use Rattle.std.specs.Prelude.{ℕ, ◌+◌, ◌*◌, ◌/◌, ◌≤◌, ◌≡◌, List, [], length, replicate}
use Rattle.rules.specs.Heap.{Memory, lent_memory, max_blocks}
use Rattle.section_figures.specs.Figures.{Coherent}

-- the count maps of N blocks
pub record Planes (N w : ℕ) (counts : List ℕ) : Type 0 where
  pub eighths : N ≡ 8 * (N / 8)
  pub most : N ≤ max_blocks
  pub some : 1 ≤ w
  pub width : w ≤ 4
  pub length_is : length counts ≡ w * (N / 8)

-- the maps of blocks and of data, and the cells
pub record Extents (N : ℕ) (a b cells d : List ℕ) : Type 0 where
  pub a_length : length a ≡ N / 8
  pub b_length : length b ≡ N / 8
  pub cells_length : length cells ≡ 4 * N
  pub d_length : length d ≡ N / 8

pub record Ready (N w : ℕ) (h : Memory) : Type 0 where
  pub planes : Planes N w h.counts
  pub extents : Extents N h.a h.b h.cells h.d
  pub idle : h.waiting ≡ replicate N 0
  pub coherent : Coherent N h.a h.sections
  pub marks_length : length h.marks ≡ N / 8
  pub list_length : length h.list ≡ N + 1

-- the memory as code that frees objects knows it: roots, list of sections, mark map and second list are not in it
abbrev pub part_memory : (a b counts cells waiting d : List ℕ) → Memory
part_memory a b counts cells waiting d = lent_memory a b counts cells [] waiting [] d [] []
