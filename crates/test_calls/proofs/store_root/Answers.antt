-- `test_calls::store_root` meets its contract: the check, and then the call's own test.
use mathlib.Core.Path.{refl}
use native.Mathlib.Omega.{arith}
use Rattle.std.proofs.lemmas.Result.{err_from_is_err_and}
use Rattle.types.proofs.Refused.{number_ne0}
use Rattle.test_arguments.proofs.ArgumentTests.{own_refused, root_tested}
use Rattle.test_calls.proofs.CheckAtGate.{checked_passed, gate_shut, gate_open}
use Rattle.test_calls.proofs.store_root.Goals as goal

pub returns-in_err-test_heap : goal.returns-in_err-test_heap
returns-in_err-test_heap c =
    let exit = err_from_is_err_and c.from_residual.result c.from_residual.ensures.1 in
    rw (exit.1, exit.2) (gate_shut c.in_err-test_heap.ensures (number_ne0 _) refl)

pub store_root_test-requires : goal.store_root_test-requires
store_root_test-requires c =
    let shape = (checked_passed c.in_ok-test_heap.ensures refl).healthy.shape in
    (omega (arith, shape.length_a, shape.whole_bytes), omega (arith, shape.length_b, shape.whole_bytes))

pub returns : goal.returns
returns c =
    gate_open c.in_ok-test_heap.ensures refl c.store_root_test.ensures
    (own_refused (root_tested c.store_root_test.ensures))
