-- `step_advance::step_all` meets its contract.
use mathlib.Core.Path.{◌≡◌}
use Prim.Native.Nat.{◌≤◌}
use lib.ListN.{length}
use Rattle.step_list.specs.Naming.{cell_names}
use Rattle.step_advance.specs.Steps.{progress_in, steps_by}
use Rattle.step_advance.proofs.Goings.{Going}
use Rattle.step_advance.specs.Flags.{Flagged, Clear}
use Rattle.step_advance.proofs.step_all.Given as goal

abbrev pub invariant-loop-taken : goal.invariant-loop-taken
invariant-loop-taken l =
    Going l.blocks (cell_names l.blocks l.b l.d l.cells) l.budget (steps_by l.budget l.blocks (cell_names l.blocks l.b l.d l.cells) (progress_in l.blocks l.initial.marks l.initial.listed)) l.taken l.marks l.listed
    × (length l.marks ≡ length l.initial.marks) × (length l.listed ≡ length l.initial.listed) × (length l.flags ≡ length l.initial.flags) × Flagged l.blocks l.listed l.flags
    × Clear l.listed l.low × (l.low ≤ l.blocks)
