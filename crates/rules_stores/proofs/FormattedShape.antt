-- A formatted heap has the shape of the lent one.
use Prim.Native.Nat.{ℕ, ◌+◌, ◌*◌, ◌/◌}
use native.Mathlib.Omega.{arith}
use lib.ListN.{length, length-replicate, replicate}
use Rattle.rules.specs.Heap.{Memory}
use Rattle.rules_stores.specs.Store.{formatted}
use Rattle.rules.proofs.TrueList.{length_figures}
use Rattle.rules.proofs.Shape.{Shaped}

-- a formatted heap has the shape of the lent one
pub formatted_shaped : (N w : ℕ) (h : Memory) → Shaped N w h → Shaped N w (formatted N w (length h.roots))
unfolding formatted
formatted_shaped N w h s = record {
  power = s.power;
  blocks_min = s.blocks_min;
  blocks_max = s.blocks_max;
  whole_bytes = s.whole_bytes;
  width_min = s.width_min;
  width_max = s.width_max;
  roots_min = omega (arith, s.roots_min, length-replicate {A = ℕ} (length h.roots) 0);
  roots_max = omega (arith, s.roots_max, length-replicate {A = ℕ} (length h.roots) 0);
  length_a = length-replicate (N / 8) 0;
  length_b = length-replicate (N / 8) 255;
  length_counts = length-replicate (w * (N / 8)) 0;
  length_cells = length-replicate (4 * N) 0;
  length_waiting = length-replicate N 0;
  length_sections = length_figures N (replicate (N / 8) 0);
  length_d = length-replicate (N / 8) 0;
  length_marks = length-replicate (N / 8) 0;
  length_list = length-replicate (N + 1) 0;
}
