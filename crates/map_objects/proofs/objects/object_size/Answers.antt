use Prim.Native.Nat.{◌+◌, ◌/◌}
use native.Mathlib.Omega.{arith}
use lib.Count.{count_trailing_zeros}
use Rattle.map_objects.proofs.Sizes.{rest_at, rest_none, rest_inside, rest_end, rest_inner, size_to, size_open}
use Rattle.map_objects.proofs.objects.object_size.Goals as goal

pub overflow_add-last : goal.overflow_add-last
overflow_add-last c =
    omega (arith, rest_inside c.args.b.now c.loop-at.at (c.type_inv.b (c.loop-at.at / 8)).fits c.if-rest-ne0.true)

pub returns-then-rest-ne0 : goal.returns-then-rest-ne0
returns-then-rest-ne0 c =
    let byte = (c.type_inv.b (c.loop-at.at / 8)).fits in
    let some = c.if-rest-ne0.true in
    let last = c.loop-at.at + count_trailing_zeros 8 (rest_at c.args.b.now c.loop-at.at) in
    let inner = rest_inner c.args.b.now c.loop-at.at byte c.args.i c.loop-at.invariant.2 some in
    let size =
    size_to c.args.blocks c.args.b.now c.args.i last (omega arith) c.requires.1 inner (rest_end c.args.b.now c.loop-at.at byte some) in
    (rw c.min.ensures size, omega arith, omega arith)

pub loop-at-preserved : goal.loop-at-preserved
loop-at-preserved c =
    let byte = (c.type_inv.b (c.loop-at.at / 8)).fits in
    let passed = rest_none c.args.b.now c.loop-at.at byte c.args.i c.loop-at.invariant.2 c.if-rest-ne0.false in
    (omega arith, omega arith, λ j l u. passed j l (omega arith))

pub returns : goal.returns
returns c =
    (size_open c.args.blocks c.args.b.now c.args.i c.loop-at.at (omega arith) (omega arith) c.loop-at.invariant.2, omega arith, omega arith)
