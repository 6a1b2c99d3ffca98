use mathlib.Core.Path.{◌≡◌, refl}
use Prim.Native.Nat.{◌-◌}
use native.Mathlib.Omega.{arith}
use Rattle.count_up.proofs.Stack.{stack_pop}
use Rattle.release.proofs.ReleaseLoop.{releasing_start, releasing_step, releasing_done, blocks_done, marks_done, waiting_done}
use Rattle.release.proofs.release_all.Goals as goal

pub loop-top-init : goal.loop-top-init
loop-top-init c =
    (releasing_start c.requires.0 c.requires.1 c.requires.2 c.requires.4, record { coherent = c.requires.3; untouched = λ _. (refl, refl) })

pub overflow_cast-i : goal.overflow_cast-i
overflow_cast-i c =
    omega (arith, c.loop-top.invariant.0.stack.blocks (c.loop-top.top - 1) (omega arith))

pub object_size-n-requires : goal.object_size-n-requires
object_size-n-requires c =
    (omega (arith, c.loop-top.invariant.0.extents.b_length, c.loop-top.invariant.0.planes.eighths), c.loop-top.invariant.0.stack.blocks (c.loop-top.top - 1) (omega arith))

pub write_extent-requires : goal.write_extent-requires
write_extent-requires c = (
  c.loop-top.invariant.1.coherent,
  c.loop-top.invariant.0.extents.a_length,
  c.loop-top.invariant.0.extents.b_length,
  omega (arith, c.object_size-n.ensures.1, c.loop-top.invariant.0.stack.blocks (c.loop-top.top - 1) (omega arith)),
  omega (arith, c.object_size-n.ensures.2),
)

pub drop_object-top-requires : goal.drop_object-top-requires
drop_object-top-requires c = (
  c.loop-top.invariant.0.planes,
  stack_pop c.loop-top-test.true c.loop-top.invariant.0.stack,
  c.object_size-n.ensures.2,
  c.loop-top.invariant.0.stack.blocks (c.loop-top.top - 1) (omega arith),
  c.loop-top.invariant.0.extents.cells_length,
  omega (arith, c.loop-top.invariant.0.extents.d_length, c.loop-top.invariant.0.planes.eighths),
  omega (arith, c.loop-top.invariant.0.marks_length, c.loop-top.invariant.0.planes.eighths),
)

pub overflow_add-freed : goal.overflow_add-freed
overflow_add-freed c =
    omega (arith, c.loop-top.invariant.0.bound, c.loop-top.invariant.0.planes.most)

pub loop-top-smaller : goal.loop-top-smaller
loop-top-smaller c =
    let taken = c.loop-top-test.true in
    omega arith

pub loop-top-preserved : goal.loop-top-preserved
loop-top-preserved c = (
  releasing_step c.loop-top-test.true refl c.object_size-n.ensures.0 c.object_size-n.ensures.2
      c.write_extent.ensures.0 c.write_extent.ensures.1 c.drop_object-top.ensures.1 c.drop_object-top.ensures.0 c.drop_object-top.ensures.2 c.drop_object-top.ensures.3 c.loop-top.invariant.0,
  record { coherent = c.write_extent.ensures.2; untouched = λ none. absurd (omega (arith, none, c.object_size-n.ensures.1)) },
)

pub returns : goal.returns
returns c =
    let none : c.loop-top.top ≡ 0 = omega arith in (
      releasing_done c.loop-top.invariant.0 none,
      blocks_done c.loop-top.invariant.0 none,
      waiting_done c.loop-top.invariant.0 none,
      c.loop-top.invariant.1,
      marks_done c.loop-top.invariant.0 none,
      omega (arith, c.loop-top.invariant.0.bound),
    )
