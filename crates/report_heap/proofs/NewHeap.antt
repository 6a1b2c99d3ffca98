-- The new heap of a report: buffers of the right lengths are formatted, and what the format leaves is undamaged.
use mathlib.Core.Path.{◌≡◌, refl, ap, ◌∙◌}
use Prim.Native.Nat.{ℕ, ◌+◌, ◌*◌, ◌/◌}
use native.Mathlib.Omega.{arith}
use lib.ListN.{length, replicate, length-replicate}
use Rattle.rules.specs.Heap.{Memory}
use Rattle.rules_stores.specs.Store.{formatted}
use Rattle.rules_calls.specs.Calls.{format, Answer, outcome}
use Rattle.rules_calls.specs.Promise.{Promise}
use Rattle.types.specs.declared.Reply.{Reply}
use Rattle.rules.proofs.Shape.{Shaped, shape_test}
use Rattle.rules.proofs.TrueList.{length_figures}
use Rattle.rules_calls.proofs.Replies.{format_accepted}
use Rattle.theory_memories.specs.Heaps.{Undamaged}
use Rattle.history_runs.proofs.Theorems.{new_heap_undamaged}
use Rattle.report_heap.specs.Heap.{report_blocks, report_width, report_roots, new_heap}

-- the format of buffers of right shape is accepted
pub new_heap_lem :
    {N w roots : ℕ} {h : Memory} {x : Reply} {g : Memory} → Promise N w format h x g → Shaped N w h → length h.roots ≡ roots
    → g ≡ formatted N w roots
unfolding outcome
new_heap_lem {N} {w} {roots} {h} promise shape roots_are =
    promise.after_is ∙ ap (λ (y : Answer). y.1) (format_accepted N w h (shape_test N w h shape)) ∙ ap (formatted N w) roots_are

pub new_shape : Shaped report_blocks report_width new_heap
unfolding formatted
new_shape =
    record {
      power = (12, refl);
      blocks_min = omega arith;
      blocks_max = omega arith;
      whole_bytes = refl;
      width_min = omega arith;
      width_max = omega arith;
      roots_min = omega (arith, long report_roots 0);
      roots_max = omega (arith, long report_roots 0);
      length_a = long (report_blocks / 8) 0;
      length_b = long (report_blocks / 8) 255;
      length_counts = long (report_width * (report_blocks / 8)) 0;
      length_cells = long (4 * report_blocks) 0;
      length_waiting = long report_blocks 0;
      length_sections = length_figures report_blocks (replicate (report_blocks / 8) 0);
      length_d = long (report_blocks / 8) 0;
      length_marks = long (report_blocks / 8) 0;
      length_list = long (report_blocks + 1) 0;
    }
  where
    long : (n x : ℕ) → length (replicate n x) ≡ n
    long n x = length-replicate {A = ℕ} n x

pub new_undamaged : Undamaged report_blocks report_width new_heap
new_undamaged = new_heap_undamaged report_blocks report_width report_roots (shape_test report_blocks report_width new_heap new_shape)
