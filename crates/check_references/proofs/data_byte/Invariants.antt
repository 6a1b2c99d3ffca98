-- `check_references::data_byte` meets its contract: so it is of the bits below s.
use mathlib.Core.Path.{◌≡◌}
use Rattle.rules.specs.Heap.{in_data}
use Rattle.map_objects.specs.Walk.{data_before}
use Rattle.bitmap.specs.Bit.{bit_of}
use lib.Dec.{eqb}
use Prim.Native.Nat.{ℕ, ◌+◌, ◌*◌, ◌≤◌, ◌<◌}
use mathlib.Core.Bool.{Bool, not}
use Rattle.check_references.proofs.data_byte.Given as goal

-- the bits below n are the blocks of data from block `from` on, and the other bits are 0
abbrev pub MadeBelow : (test : ℕ → Bool) (from made n : ℕ) → Type 0
MadeBelow test from made n =
    ((t : ℕ) → n ≤ t → bit_of made t ≡ 0) × ((t : ℕ) → t < n → test (from + t) ≡ not (eqb (bit_of made t) 0))

abbrev pub invariant-loop-s : goal.invariant-loop-s
invariant-loop-s l =
    (l.in_data ≡ data_before l.blocks l.a l.b l.d (8 * l.k + l.s)) × MadeBelow (in_data l.blocks l.a l.b l.d) (8 * l.k) l.made l.s
