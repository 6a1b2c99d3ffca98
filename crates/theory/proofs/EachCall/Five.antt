-- Number 5 is given to allocations alone: no other call has it in its list of refusals.
use mathlib.Core.Path.{refl, sym, ◌∙◌}
use mathlib.Core.Logic.{◌≢◌}
use mathlib.Core.Bool.{true, false}
use Prim.Native.Nat.{ℕ}
use native.Mathlib.Omega.{arith}
use Rattle.rules.specs.Heap.{Memory}
use Rattle.rules_calls.specs.Calls.{format, check, collect, free_blocks, allocate, store_root, store_cell, look, return_roots, allocate_data, write_number, read_number, write_reason, write_shape}
use Rattle.rules_calls.specs.Calls.{open_collection, take_steps}
use Rattle.rules_calls.specs.Calls.{copy_from, copy_into}
use Rattle.rules_calls.specs.Calls.{Call, own_refusals, refusals, refused_with, answer}
use Rattle.rules.proofs.Tests.{Each, done, also, first_other}
use Rattle.rules_calls.proofs.Replies.{number_is}
use Rattle.theory.specs.Statements.{FiveToAllocations}

pub not_five :
    (N w : ℕ) (h : Memory) (call : Call) → Each (λ k. k.0 ≢ 5) (own_refusals N h call) → (answer N w h call).0.number ≢ 5
unfolding refused_with refusals
not_five N w h call own e =
    first_other 5 _ (omega arith) (also (omega arith) (also (omega arith) (also (omega arith) (also (omega arith) own)))) (sym (number_is N w h call) ∙ e)

pub store_root_not_five : (N w : ℕ) (h : Memory) (r v : ℕ) → (answer N w h (store_root r v)).0.number ≢ 5
unfolding own_refusals
store_root_not_five N w h r v = not_five N w h (store_root r v) (also (omega arith) (also (omega arith) done))

pub store_cell_not_five : (N w : ℕ) (h : Memory) (at j v : ℕ) → (answer N w h (store_cell at j v)).0.number ≢ 5
unfolding own_refusals
store_cell_not_five N w h at j v = not_five N w h (store_cell at j v) (also (omega arith) (also (omega arith) (also (omega arith) (also (omega arith) done))))

pub five_to_allocations : FiveToAllocations
unfolding own_refusals
five_to_allocations N w h (allocate n r) e = (false, n, r, refl)
five_to_allocations N w h (allocate_data n r) e = (true, n, r, refl)
five_to_allocations N w h (write_number at j x) e =
    absurd (not_five N w h (write_number at j x) (also (omega arith) (also (omega arith) (also (omega arith) done))) e)
five_to_allocations N w h (read_number at j) e =
    absurd (not_five N w h (read_number at j) (also (omega arith) (also (omega arith) (also (omega arith) done))) e)
five_to_allocations N w h (write_reason at room) e =
    absurd (not_five N w h (write_reason at room) (also (omega arith) (also (omega arith) done)) e)
five_to_allocations N w h (write_shape room) e = absurd (not_five N w h (write_shape room) (also (omega arith) done) e)
five_to_allocations N w h (store_root r v) e = absurd (store_root_not_five N w h r v e)
five_to_allocations N w h (store_cell at j v) e = absurd (store_cell_not_five N w h at j v e)
five_to_allocations N w h (look at) e = absurd (not_five N w h (look at) (also (omega arith) done) e)
five_to_allocations N w h (return_roots chosen) e = absurd (not_five N w h (return_roots chosen) (also (omega arith) done) e)
five_to_allocations N w h format e = absurd (not_five N w h format done e)
five_to_allocations N w h check e = absurd (not_five N w h check done e)
five_to_allocations N w h collect e = absurd (not_five N w h collect (also (omega arith) done) e)
five_to_allocations N w h open_collection e = absurd (not_five N w h open_collection (also (omega arith) done) e)
five_to_allocations N w h (take_steps budget) e = absurd (not_five N w h (take_steps budget) (also (omega arith) done) e)
five_to_allocations N w h (copy_into M v second) e = absurd (not_five N w h (copy_into M v second) (also (omega arith) (also (omega arith) done)) e)
five_to_allocations N w h (copy_from K u first) e =
    absurd
    (not_five N w h (copy_from K u first)
    (also (omega arith) (also (omega arith) (also (omega arith) (also (omega arith) (also (omega arith) done))))) e)
five_to_allocations N w h free_blocks e = absurd (not_five N w h free_blocks done e)
