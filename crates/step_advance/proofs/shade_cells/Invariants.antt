-- `step_advance::shade_cells` meets its contract.
use mathlib.Core.Path.{◌≡◌}
use lib.ListN.{length}
use Rattle.step_list.specs.Naming.{named_from}
use Rattle.step_advance.specs.Flags.{Flying}
use Rattle.step_advance.proofs.shade_cells.Given as goal

abbrev pub invariant-loop-v : goal.invariant-loop-v
invariant-loop-v l =
    Flying l.blocks (named_from l.cells l.j l.v-index) l.initial.marks l.initial.listed l.initial.flags l.low l.marks l.listed l.flags l.bound
    × (length l.marks ≡ length l.initial.marks) × (length l.listed ≡ length l.initial.listed) × (length l.flags ≡ length l.initial.flags)
