-- `run_records` meets its contract: all tests first, and then the run on the cleared heap.
use mathlib.Core.Path.{refl}
use Rattle.types.proofs.Refused.{number_ne0}
use Rattle.history_runs.proofs.Pieces.{refused_promised, accepted, cleared_usable, run_promised}
use Rattle.history.proofs.run_records.Goals as goal

pub returns-in-Err : goal.returns-in-Err
returns-in-Err c =
    refused_promised c.in-Err.ensures (number_ne0 _) (rw c.into.ensures at c.refused.ensures)

pub run_piece-run-requires : goal.run_piece-run-requires
run_piece-run-requires c =
    let from = accepted c.in_default.ensures refl in
    (cleared_usable from c.clear_all.ensures, from.range)

pub returns : goal.returns
returns c =
    rw c.acceptance.ensures
    (run_promised c.in_default.ensures refl c.clear_all.ensures c.run_piece-run.ensures)
