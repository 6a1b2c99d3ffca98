-- `walk_shape::write_object` meets its contract.
use Prim.Native.Nat.{ℕ, ◌+◌, ◌*◌, ◌-◌, ◌≤◌}
use native.Mathlib.Omega.{arith}
use borrow.Author.Rules.{rules}
use lib.ListN.{length, length-set}
use Rattle.walk_shape.proofs.Laws.{described_length, object_data, object_other}
use Rattle.walk_shape.proofs.write_object.Goals.{After-get_bit-bit}
use Rattle.walk_shape.proofs.write_object.Goals as goal

-- there is room for the object
long : (c : After-get_bit-bit) → c.args.to + (2 + 4 * c.object_size-size.result) ≤ length c.args.out.now
long c =
    omega (arith, c.requires.0, c.object_size-size.ensures.0, described_length c.args.blocks c.args.b.now c.args.d.now c.args.cells.now c.args.numbers.now c.args.at)

pub bounds-out-to : goal.bounds-out-to
bounds-out-to c = omega (arith, long (goal.at.bounds-out-to c).After-get_bit-bit)

pub bounds-out-to-2 : goal.bounds-out-to-2
bounds-out-to-2 c = omega (arith, long (goal.at.bounds-out-to-2 c).After-get_bit-bit, length-set {A = ℕ})

pub slice_bounds-place-end : goal.slice_bounds-place-end
slice_bounds-place-end c = omega (arith, long (goal.at.slice_bounds-place-end c).After-get_bit-bit, length-set {A = ℕ})

pub returns-then-bit-eq1 : goal.returns-then-bit-eq1
returns-then-bit-eq1 c =
    object_data c.args.blocks c.args.b.now c.args.d.now c.args.cells.now c.args.numbers.now c.args.at c.args.out.now c.args.to _ _ _ c.requires.0
    c.object_size-size.ensures.0 c.get_bit-bit.ensures.0 (omega arith) (4 * c.args.at + 4 * c.object_size-size.result - 4 * c.args.at) _ (omega arith)
    (omega (arith, c.object_size-size.ensures.2)) (search rules) c.if-bit-eq1.true

pub returns-else-bit-eq1 : goal.returns-else-bit-eq1
returns-else-bit-eq1 c =
    object_other c.args.blocks c.args.b.now c.args.d.now c.args.cells.now c.args.numbers.now c.args.at c.args.out.now c.args.to _ _ _ c.requires.0
    c.object_size-size.ensures.0 c.get_bit-bit.ensures.0 (omega arith) (4 * c.args.at + 4 * c.object_size-size.result - 4 * c.args.at) _ (omega arith)
    (omega (arith, c.object_size-size.ensures.2)) (search rules) c.if-bit-eq1.false
