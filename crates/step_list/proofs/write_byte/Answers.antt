use Prim.Native.Nat.{◌+◌, ◌-◌, ◌*◌, ◌<◌, ◌≤◌}
use native.Mathlib.Omega.{arith}
use lib.Bits.{and_le_r}
use lib.Count.{count_trailing_zeros}
use Rattle.bitmap.proofs.Digits.{trailing_lowest}
use Rattle.step_list.proofs.Rising.{writing_start, writing_next, writing_end, written_length}
use Rattle.step_list.proofs.write_byte.Goals as goal

pub loop-left-init : goal.loop-left-init
loop-left-init c =
    (writing_start c.requires.3 (c.type_inv.map c.args.j).fits, written_length c.requires.3)

-- the lowest bit that is left, and the place where its block goes
inside : (c : goal.In-loop-left) → count_trailing_zeros 8 c.loop-left.left < 8
inside c = (trailing_lowest 8 c.loop-left.left c.loop-left.invariant.0.small c.loop-left-test.true).inside

pub overflow_cast-list : goal.overflow_cast-list
overflow_cast-list c = omega (arith, inside c)

pub overflow_add-list : goal.overflow_add-list
overflow_add-list c = omega (arith, inside c)

pub overflow_add-list-in-loop-left : goal.overflow_add-list-in-loop-left
overflow_add-list-in-loop-left c = omega (arith, inside c)

pub overflow_cast-list-in-loop-left : goal.overflow_cast-list-in-loop-left
overflow_cast-list-in-loop-left c = omega (arith, inside c)

room : (c : goal.In-loop-left) → c.loop-left.place ≤ 8 * c.args.j + 8
room c =
    omega (arith, c.loop-left.invariant.0.written.few, c.loop-left.invariant.0.inside)

pub offset_bounds-list-place : goal.offset_bounds-list-place
offset_bounds-list-place c = omega (arith, room c)

pub bounds-list-place : goal.bounds-list-place
bounds-list-place c = omega (arith, room c)

pub overflow_add-place : goal.overflow_add-place
overflow_add-place c = omega (arith, room c)

pub loop-left-smaller : goal.loop-left-smaller
loop-left-smaller c =
    omega (arith, and_le_r c.loop-left.left (c.loop-left.left - 1), c.loop-left-test.true)

pub loop-left-preserved : goal.loop-left-preserved
loop-left-preserved c =
    let w = writing_next c.loop-left.invariant.0 c.requires.0 c.loop-left-test.true in
    (w, written_length w.written)

pub returns : goal.returns
returns c =
    writing_end c.loop-left.invariant.0 c.requires.0 c.loop-left-test.false
