-- `walk_shape::shape_length` meets its contract.
use mathlib.Core.Path.{◌≡◌}
use mathlib.Core.List.{List}
use Prim.Native.Nat.{ℕ, ◌+◌, ◌*◌, ◌≤◌}
use lib.ListN.{length}
use Rattle.rules.specs.Heap.{max_blocks}
use Rattle.walk_shape.specs.Listing.{shape_up_to}
use Rattle.walk_shape.proofs.shape_length.Given as goal

abbrev pub invariant-loop-reference : goal.invariant-loop-reference
invariant-loop-reference l = record {
  long : (d cells numbers : List ℕ) → l.n ≡ length (shape_up_to l.blocks l.b d cells l.roots l.order numbers l.reference-index);
  small : l.n ≤ 65 + (2 + 4 * max_blocks) * l.reference-index;
}
