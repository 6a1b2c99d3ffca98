-- `test_calls::allocate` meets its contract: the check, and then the call's own test.
use mathlib.Core.Path.{◌≡◌, refl}
use mathlib.Core.Bool.{Bool, true, false}
use native.Mathlib.Omega.{arith}
use Rattle.std.proofs.lemmas.Result.{err_from_is_err_and}
use Rattle.types.proofs.Refused.{number_ne0}
use Rattle.rules.proofs.Shape.{shaped_blocks}
use Rattle.test_allocation.proofs.AllocationReply.{allocate_refused, allocate_data_refused}
use Rattle.test_calls.proofs.CheckAtGate.{checked_passed, gate_shut, gate_open}
use Rattle.rules_calls.specs.Calls.{allocate_as}
use Rattle.test_calls.specs.Gated.{Gated}
use Rattle.test_calls.proofs.allocate.Goals as goal

pub returns-in_err-test_heap : goal.returns-in_err-test_heap
returns-in_err-test_heap c =
    let exit = err_from_is_err_and c.from_residual.result c.from_residual.ensures.1 in
    rw (exit.1, exit.2)
    (λ as_data. elim as_data as (λ kind. Gated _ _ (allocate_as kind c.args.n c.args.r) _ _ _) [ true ↦ gate_shut c.in_err-test_heap.ensures (number_ne0 _) refl | false ↦ gate_shut c.in_err-test_heap.ensures (number_ne0 _) refl ])

pub allocate_reply-requires : goal.allocate_reply-requires
allocate_reply-requires c =
    let fit = checked_passed c.in_ok-test_heap.ensures refl in
    (shaped_blocks _ _ _ fit.healthy.shape, omega (arith, fit.healthy.shape.length_a, fit.healthy.shape.whole_bytes), fit.listed)

pub returns : goal.returns
returns c = λ as_data. elim as_data as (λ kind. Gated _ _ (allocate_as kind c.args.n c.args.r) _ _ _) [
  | true ↦ gate_open c.in_ok-test_heap.ensures refl c.allocate_reply.ensures (allocate_data_refused c.allocate_reply.ensures)
  | false ↦ gate_open c.in_ok-test_heap.ensures refl c.allocate_reply.ensures (allocate_refused c.allocate_reply.ensures)
]
