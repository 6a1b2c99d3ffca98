-- The whole output is handed on. What stands in it is written out: without it antt compares two lists of that length place by place.
use mathlib.Core.Path.{sym}
use Prim.Native.Nat.{ℕ}
use lib.ListN.{length-replicate}
use Rattle.calls_entries.proofs.outputs.shape.Goals as goal

pub slice_bounds-say_shape-end : goal.slice_bounds-say_shape-end
slice_bounds-say_shape-end g c = sym (length-replicate {A = ℕ} _ 4294967295)
