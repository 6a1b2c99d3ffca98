-- `work_tested::store_cell` meets its contract.
use mathlib.Core.Path.{refl}
use native.Mathlib.Omega.{arith}
use Rattle.std.proofs.lemmas.Result.{err_from_is_err_and}
use Rattle.types.proofs.Refused.{number_ne0}
use Rattle.test_arguments.proofs.ArgumentTests.{goes_on, own_refused, cell_tested}
use Rattle.theory.proofs.Usable.UsableHeap.{usable_fit, usable_healthy}
use Rattle.theory.proofs.Usable.WorkDone.{worked_refused}
use Rattle.work_tested.proofs.store_cell.Goals as goal

pub store_cell_test-requires : goal.store_cell_test-requires
store_cell_test-requires c =
    let shape = (usable_healthy c.requires).shape in (
      omega (arith, shape.length_a, shape.whole_bytes),
      omega (arith, shape.length_b, shape.whole_bytes),
      shape.blocks_max,
      omega (arith, shape.length_d, shape.whole_bytes),
    )

pub returns-in_err-store_cell_test : goal.returns-in_err-store_cell_test
returns-in_err-store_cell_test c =
    let exit = err_from_is_err_and c.from_residual.result c.from_residual.ensures.1 in
    rw (exit.1, exit.2)
    (worked_refused c.requires refl _ (own_refused (cell_tested c.in_err-store_cell_test.ensures) (usable_fit c.requires) (number_ne0 _)))

pub store_cell-requires : goal.store_cell-requires
store_cell-requires c =
    (c.requires, goes_on (cell_tested c.in_ok-store_cell_test.ensures) refl)
