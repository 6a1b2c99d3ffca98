-- `step` meets its contract: each code's call is the one made, and every other code is answered 9.
use mathlib.Core.Path.{refl, sym, ap, ◌∙◌}
use Prim.Native.Nat.{ℕ}
use native.Mathlib.Omega.{arith}
use Rattle.types.proofs.Refused.{number_ne0}
use Rattle.rules_calls.specs.Calls.{reply}
use Rattle.theory.proofs.Usable.UsableHeap.{usable_healthy}
use Rattle.replay_words.specs.Encoding.{decoded, is_call}
use Rattle.replay_call.proofs.Codes.{stepped_as, stepped_worked, stepped_none, narrow_call, wide_call, past_call, past_codes}
use Rattle.replay_call.proofs.Opening.{opening_refused, opening_made, steps_refused, steps_allowed}
use Rattle.replay_call.proofs.Reading.{check_promise, look_promise, free_promise, read_promise}
use Rattle.replay_call.proofs.step.Goals as goal

pub format-requires : goal.format-requires
format-requires c = c.requires.undamaged.intact.right_shape

pub look_reply-requires : goal.look_reply-requires
look_reply-requires c =
    let shape = (usable_healthy c.requires).shape in (
      sym shape.whole_bytes,
      omega (arith, shape.length_a, shape.whole_bytes),
      omega (arith, shape.length_b, shape.whole_bytes),
      shape.width_max,
      shape.length_counts,
    )

pub count_zeros-requires : goal.count_zeros-requires
count_zeros-requires c =
    let shape = (usable_healthy c.requires).shape in
    omega (arith, shape.length_a, shape.whole_bytes, shape.blocks_max)

-- a number that no cell can hold
pub returns-then-z : goal.returns-then-z
returns-then-z c =
    stepped_none (wide_call _ _ c.in-10.is (omega (arith, c.if-z.true))) c.into-then-z.ensures

pub read_reply-requires : goal.read_reply-requires
read_reply-requires c =
    let shape = (usable_healthy c.requires).shape in (
      omega (arith, shape.length_a, shape.whole_bytes),
      omega (arith, shape.length_b, shape.whole_bytes),
      shape.blocks_max,
      omega (arith, shape.length_d, shape.whole_bytes),
      shape.length_cells,
    )

pub shut_test-requires : goal.shut_test-requires
shut_test-requires c =
    omega (arith, (usable_healthy c.requires).shape.length_list)

-- an opening where one is open
pub returns-in-Err : goal.returns-in-Err
unfolding decoded is_call
returns-in-Err c =
    rw c.into-in-Err.ensures
    (stepped_as 12 refl c.in-12.is (opening_refused c.requires c.in-Err.ensures (number_ne0 _)))

pub open_collection-requires : goal.open_collection-requires
open_collection-requires c =
    let shape = (usable_healthy c.requires).shape in
    (sym shape.whole_bytes, shape.blocks_max, shape.length_marks, shape.length_list)

pub open_test-requires : goal.open_test-requires
open_test-requires c =
    omega (arith, (usable_healthy c.requires).shape.length_list)

-- steps where none is open
pub returns-in-Err-open_test : goal.returns-in-Err-open_test
unfolding decoded is_call
returns-in-Err-open_test c =
    rw c.into-in-Err-open_test.ensures
    (stepped_as 13 refl c.in-13.is (steps_refused c.requires c.in-Err-open_test.ensures (number_ne0 _)))

pub take_steps-requires : goal.take_steps-requires
take_steps-requires c =
    steps_allowed c.requires c.in_default-open_test.ensures refl

pub returns-in-0 : goal.returns-in-0
unfolding decoded is_call
returns-in-0 c =
    stepped_as 0 refl c.in-0.is c.format.ensures

pub returns-in-1 : goal.returns-in-1
unfolding decoded is_call
returns-in-1 c =
    stepped_as 1 refl c.in-1.is (check_promise c.requires
    c.acceptance.ensures)

pub returns-in-2 : goal.returns-in-2
unfolding decoded is_call
returns-in-2 c =
    stepped_worked 2 refl c.in-2.is c.allocate.ensures c.into.ensures

pub returns-in-3 : goal.returns-in-3
unfolding decoded is_call
returns-in-3 c =
    stepped_worked 3 refl c.in-3.is c.store_root.ensures c.into-in-3.ensures

pub returns-in-4 : goal.returns-in-4
unfolding decoded is_call
returns-in-4 c =
    stepped_worked 4 refl c.in-4.is c.store_cell.ensures c.into-in-4.ensures

pub returns-in-5 : goal.returns-in-5
unfolding decoded is_call
returns-in-5 c =
    stepped_worked 5 refl c.in-5.is c.collect.ensures c.into-in-5.ensures

pub returns-in-6 : goal.returns-in-6
unfolding decoded is_call
returns-in-6 c =
    stepped_as 6 refl c.in-6.is (look_promise c.requires
    c.look_reply.ensures)

pub returns-in-7 : goal.returns-in-7
unfolding decoded is_call
returns-in-7 c =
    let counted = c.acceptance-in-7.ensures ∙ ap (λ (n : ℕ). reply 0 n 0) c.count_zeros.ensures.0 in
    stepped_as 7 refl c.in-7.is (free_promise c.requires counted)

pub returns-in-8 : goal.returns-in-8
unfolding decoded is_call
returns-in-8 c =
    stepped_worked 8 refl c.in-8.is c.return_roots.ensures c.into-in-8.ensures

pub returns-in-9 : goal.returns-in-9
unfolding decoded is_call
returns-in-9 c =
    stepped_worked 9 refl c.in-9.is c.allocate-in-9.ensures c.into-in-9.ensures

pub returns-else-z : goal.returns-else-z
unfolding decoded
returns-else-z c =
    stepped_worked 10 (narrow_call _ (omega (arith, c.if-z.false))) c.in-10.is c.write_number.ensures
    c.into-in-10.ensures

pub returns-in-11 : goal.returns-in-11
unfolding decoded is_call
returns-in-11 c =
    rw c.into-in-11.ensures (stepped_as 11 refl c.in-11.is (read_promise c.requires c.read_reply.ensures))

pub returns-in_default-shut_test : goal.returns-in_default-shut_test
unfolding decoded is_call
returns-in_default-shut_test c =
    stepped_as 12 refl c.in-12.is
    (opening_made c.requires c.in_default-shut_test.ensures refl c.open_collection.ensures)

pub returns-in_default-open_test : goal.returns-in_default-open_test
unfolding decoded is_call
returns-in_default-open_test c =
    stepped_as 13 refl c.in-13.is c.take_steps.ensures

pub returns-in_default : goal.returns-in_default
returns-in_default c =
    let past =
    past_codes _ (omega arith) (omega arith) (omega arith) (omega arith) (omega arith) (omega arith) (omega arith) (omega arith)
    (omega arith) (omega arith) (omega arith) (omega arith) (omega arith) (omega arith) in
    stepped_none (past_call _ _ past) c.into-in_default.ensures
