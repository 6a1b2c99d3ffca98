-- `test_calls::one_open` meets its contract: the check, and then the call's own test.
use mathlib.Core.Path.{refl}
use native.Mathlib.Omega.{arith}
use Rattle.std.proofs.lemmas.Result.{err_from_is_err_and}
use Rattle.types.proofs.Refused.{number_ne0}
use Rattle.test_arguments.proofs.ArgumentTests.{own_refused, step_tested}
use Rattle.test_calls.proofs.CheckAtGate.{checked_passed, gate_shut, gate_open}
use Rattle.test_calls.proofs.one_open.Goals as goal

pub returns-in_err-test_heap : goal.returns-in_err-test_heap
returns-in_err-test_heap c =
    let exit = err_from_is_err_and c.from_residual.result c.from_residual.ensures.1 in
    rw (exit.1, exit.2) (λ budget. gate_shut c.in_err-test_heap.ensures (number_ne0 _) refl)

pub open_test-requires : goal.open_test-requires
open_test-requires c = omega (arith, (checked_passed c.in_ok-test_heap.ensures refl).healthy.shape.length_list)

pub returns : goal.returns
returns c = λ budget.
    gate_open c.in_ok-test_heap.ensures refl c.open_test.ensures
    (own_refused (step_tested c.open_test.ensures))
