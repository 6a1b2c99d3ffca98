-- What the run over the entries keeps.
use mathlib.Core.Path.{◌≡◌}
use mathlib.Core.List.{List}
use Prim.Native.Nat.{ℕ, ◌+◌, ◌*◌, ◌/◌}
use lib.ListN.{length}
use Rattle.rules.specs.Heap.{max_blocks}
use Rattle.calls_lent.specs.Within.{Within}

-- the buffers are of the largest lengths, and the lent lengths within them
pub record Held (a b counts cells roots waiting sections d marks list lengths : List ℕ) : Type 0 where
  pub length_a : length a ≡ max_blocks / 8
  pub length_b : length b ≡ max_blocks / 8
  pub length_counts : length counts ≡ 5 * (max_blocks / 8)
  pub length_cells : length cells ≡ 4 * max_blocks
  pub length_roots : length roots ≡ 65
  pub length_waiting : length waiting ≡ max_blocks
  pub length_sections : length sections ≡ max_blocks / 256
  pub length_d : length d ≡ max_blocks / 8
  pub length_marks : length marks ≡ max_blocks / 8
  pub length_list : length list ≡ max_blocks + 1
  pub within : Within lengths
