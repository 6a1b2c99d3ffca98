-- `check_references::filled_cells` meets its contract: so it is of the bits below j.
use mathlib.Core.List.{List}
use mathlib.Core.Path.{◌≡◌}
use Prim.Native.Nat.{ℕ, ◌<◌}
use lib.ListN.{get_or}
use Rattle.bitmap.specs.Bit.{bit_of}
use Rattle.check_references.proofs.filled_cells.Given as goal

-- a bit below n is 0 only where its cell is
abbrev pub FilledBelow : List ℕ → (filled n : ℕ) → Type 0
FilledBelow cells filled n = (i : ℕ) → i < n → bit_of filled i ≡ 0 → get_or cells i 0 ≡ 0

abbrev pub invariant-loop-j : goal.invariant-loop-j
invariant-loop-j l = FilledBelow l.stretch l.filled l.j
