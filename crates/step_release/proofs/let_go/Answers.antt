-- `step_release::let_go` meets its contract: where no collection is open it lets go and no more; where one is, a copy of the marks is
-- kept, and from it and the new marks the list is written.
use mathlib.Core.Path.{refl}
use native.Mathlib.Omega.{arith}
use borrow.Author.Tests.{eq-eqb}
use Rattle.count_up.proofs.Shapes.{memory_of}
use Rattle.step_release.proofs.Shadings.{left_shut, left_open, copied_bits, copied_listing}
use Rattle.step_release.proofs.let_go.Goals as goal

pub bounds-list-blocks : goal.bounds-list-blocks
bounds-list-blocks c =
    omega (arith, c.requires.0.list_length)

pub let_go-requires : goal.let_go-requires
let_go-requires c =
    (c.requires.0.planes, c.requires.0.extents, c.requires.0.idle, c.requires.0.coherent, c.requires.0.marks_length)

pub returns-then-list-blocks-ne1 : goal.returns-then-list-blocks-ne1
returns-then-list-blocks-ne1 c =
    left_shut _ _ (memory_of c.requires.0) _ _ _ c.let_go.ensures.0 c.let_go.ensures.1 c.let_go.ensures.2 c.if-list-blocks-ne1.true c.let_go.ensures.3 refl

pub copy_map-requires : goal.copy_map-requires
copy_map-requires c =
    omega (arith, c.requires.0.marks_length, c.requires.0.planes.most)

pub mark_touched-requires : goal.mark_touched-requires
mark_touched-requires c =
    omega (arith, c.requires.0.marks_length, c.requires.0.planes.eighths)

pub let_go-freed-requires : goal.let_go-freed-requires
let_go-freed-requires c =
    (c.requires.0.planes, c.requires.0.extents, c.requires.0.idle, c.requires.0.coherent, omega (arith, c.requires.0.marks_length, c.mark_touched.auto.marks))

pub relist-requires : goal.relist-requires
relist-requires c = (
  c.requires.0.planes.eighths,
  c.requires.0.planes.most,
  omega arith,
  omega (arith, c.let_go-freed.auto.marks, c.mark_touched.auto.marks, c.requires.0.marks_length),
  c.requires.0.list_length,
  copied_listing _ _ c.requires.0.planes.eighths c.requires.0.marks_length c.copy_map.ensures
      (c.requires.1 (eq-eqb _ 1 c.if-list-blocks-ne1.false)),
)

pub returns : goal.returns
returns c =
    left_open _ _ (memory_of c.requires.0) _ _ _ c.let_go-freed.ensures.0 c.let_go-freed.ensures.1 c.let_go-freed.ensures.2 c.if-list-blocks-ne1.false _
    (copied_bits _ _ c.requires.0.planes.eighths c.requires.0.marks_length c.copy_map.ensures)
    c.mark_touched.ensures c.let_go-freed.ensures.3
    c.relist.ensures
