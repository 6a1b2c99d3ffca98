-- `test_calls::return_roots` meets its contract: the check, and then the call's own test.
use mathlib.Core.Path.{refl}
use Rattle.std.proofs.lemmas.Result.{err_from_is_err_and}
use Rattle.types.proofs.Refused.{number_ne0}
use Rattle.test_arguments.proofs.ArgumentTests.{own_refused, return_tested}
use Rattle.test_calls.proofs.CheckAtGate.{checked_passed, gate_shut, gate_open}
use Rattle.test_calls.proofs.return_roots.Goals as goal

pub returns-in_err-test_heap : goal.returns-in_err-test_heap
returns-in_err-test_heap c =
    let exit = err_from_is_err_and c.from_residual.result c.from_residual.ensures.1 in
    rw (exit.1, exit.2) (gate_shut c.in_err-test_heap.ensures (number_ne0 _) refl)

pub return_test-requires : goal.return_test-requires
return_test-requires c =
    (checked_passed c.in_ok-test_heap.ensures refl).healthy.shape.roots_max

pub returns : goal.returns
returns c =
    gate_open c.in_ok-test_heap.ensures refl c.return_test.ensures
    (own_refused (return_tested c.return_test.ensures))
