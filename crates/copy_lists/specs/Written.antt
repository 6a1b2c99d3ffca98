-- What is asked of the lists of the second heap that objects and roots are written into, and what the writing leaves in them. For contracts of
-- inner functions.
use Rattle.std.specs.Prelude.{ℕ, ◌≡◌, Bool, true, false, List, length}
use Rattle.rules.specs.Heap.{Memory, is_blocks}
use Rattle.rules_copy.specs.Copy.{lay_all, all_laid}
use Rattle.count_up.specs.Ready.{Planes, Extents}
use Rattle.refinement_copy.specs.Routed.{filled_lists}

-- they have the right lengths, and there are so many roots
pub record Fillable (M v rootCount : ℕ) (a b counts cells roots d : List ℕ) : Type 0 where
  pub blocks : is_blocks M ≡ true
  pub planes : Planes M v counts
  pub extents : Extents M a b cells d
  pub as_many : length roots ≡ rootCount

-- r says whether each object of h found a chunk. If so, the lists hold the objects and the roots, else what they held.
pub record CopyWritten (N : ℕ) (h : Memory) (M v : ℕ) (before after : Memory) (r : Bool) : Type 0 where
  pub found : r ≡ all_laid (lay_all N h M)
  pub kept : r ≡ false → after ≡ before
  pub filled : r ≡ true → after ≡ filled_lists N h M v
