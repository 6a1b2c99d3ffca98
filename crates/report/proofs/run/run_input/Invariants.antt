-- The bytes run so far are one history. Each piece that leaves the run going adds to its records, of which there is a limit: the measure is
-- what is left of it.
use mathlib.Core.Path.{◌≡◌}
use mathlib.Core.List.{List}
use Prim.Native.Nat.{ℕ, ◌-◌}
use lib.ListN.{length}
use Rattle.rules.specs.Heap.{lent_memory}
use Rattle.history_figures.specs.Figures.{most_records}
use Rattle.report.specs.Meaning.{full_piece}
use Rattle.report.proofs.Pieces.{Kept}
use Rattle.report.proofs.run.run_input.Given as goal

abbrev pub invariant-loop-n : goal.invariant-loop-n
invariant-loop-n g l =
    (length l.buffer ≡ full_piece) × (bytes : List ℕ) × Kept bytes (lent_memory l.a l.b l.counts l.cells l.roots l.waiting l.sections l.d l.marks l.list) l.run

abbrev pub decreases-loop-n : goal.decreases-loop-n
decreases-loop-n g l =
    most_records - l.run.records
