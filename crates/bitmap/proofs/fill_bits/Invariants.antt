-- `bitmap::fill_bits` meets its contract: after each turn the map has the first i bits of the run written. The measure is what is left of
-- `count`.
use mathlib.Core.Path.{◌≡◌}
use Prim.Native.Nat.{◌≤◌, ◌-◌}
use lib.ListN.{length}
use Rattle.bitmap.specs.Bit.{fill_bits}
use Rattle.bitmap.proofs.fill_bits.Given as goal

abbrev pub invariant-loop-i : goal.invariant-loop-i
invariant-loop-i l = (l.i ≤ l.count) × (l.map ≡ fill_bits l.initial.map l.from l.i l.v) × (length l.map ≡ length l.initial.map)

abbrev pub decreases-loop-i : goal.decreases-loop-i
decreases-loop-i l = l.count - l.i
