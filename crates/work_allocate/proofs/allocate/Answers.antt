-- `work_allocate::allocate` meets its contract: the object is made where the search found room, its reference written to the root, and what
-- stood there let go.
use mathlib.Core.Path.{ap, ◌∙◌}
use Prim.Native.Nat.{ℕ}
use native.Mathlib.Omega.{arith}
use lib.Dec.{eqb}
use borrow.Author.Rules.{rules}
use Rattle.test_allocation.proofs.AllocationReply.{allocate_passed}
use Rattle.count_up.proofs.Shapes.{memory_of, planes_same}
use Rattle.theory.proofs.Usable.UsableHeap.{usable_fit, usable_healthy}
use Rattle.refinement.proofs.ReadyHeap.{usable_ready}
use Rattle.refinement_stores.proofs.ListedHeap.{usable_listable}
use Rattle.refinement_stores.proofs.Allocation.{born_listing, allocate_changed, allocate_freed}
use Rattle.work_allocate.proofs.AllocationAnswer.{allocate_worked}
use Rattle.work_allocate.proofs.allocate.Goals as goal

pub capacity_of-stuck-requires : goal.capacity_of-stuck-requires
capacity_of-stuck-requires c =
    let planes = (usable_ready c.requires.0).planes in
    (planes.some, planes.width)

pub overflow_add-new : goal.overflow_add-new
overflow_add-new c =
    omega (arith, (allocate_passed c.requires.1).inside, (usable_healthy c.requires.0).shape.blocks_max)

pub overflow_cast-new : goal.overflow_cast-new
overflow_cast-new c =
    let free = allocate_passed c.requires.1 in
    omega (arith, free.inside, free.some_blocks, (usable_healthy c.requires.0).shape.blocks_max)

pub place-requires : goal.place-requires
place-requires c =
    let ready = usable_ready c.requires.0 in
    let free = allocate_passed c.requires.1 in
    (ready.planes, ready.extents, ready.coherent, ready.marks_length, ready.list_length, free.some_blocks, free.inside)

pub offset_bounds-roots-r : goal.offset_bounds-roots-r
offset_bounds-roots-r c =
    let place = (allocate_passed c.requires.1).place in
    search (rules, place)

pub bounds-roots-r : goal.bounds-roots-r
bounds-roots-r c =
    (allocate_passed c.requires.1).place

pub offset_bounds-roots-r-2 : goal.offset_bounds-roots-r-2
offset_bounds-roots-r-2 c =
    let place = (allocate_passed c.requires.1).place in
    search (rules, place)

pub bounds-roots-r-2 : goal.bounds-roots-r-2
bounds-roots-r-2 c =
    (allocate_passed c.requires.1).place

pub let_go-freed-requires : goal.let_go-freed-requires
let_go-freed-requires c =
    let ready = usable_ready c.requires.0 in
    let free = allocate_passed c.requires.1 in (
      record {
        planes = planes_same ready.planes c.place.auto.counts;
        extents = record {
          a_length = c.place.auto.a ∙ ready.extents.a_length;
          b_length = c.place.auto.b ∙ ready.extents.b_length;
          cells_length = c.place.auto.cells ∙ ready.extents.cells_length;
          d_length = c.place.auto.d ∙ ready.extents.d_length;
        };
        idle = ready.idle;
        coherent = c.place.ensures.1;
        marks_length = c.place.auto.marks ∙ ready.marks_length;
        list_length = ready.list_length;
      },
      born_listing _ (memory_of ready) _ c.place.ensures.2
          (omega (arith, free.inside, free.some_blocks, ready.marks_length, ready.planes.eighths)) (usable_listable c.requires.0),
    )

pub renew-requires : goal.renew-requires
renew-requires c =
    let shape = (usable_healthy c.requires.0).shape in (
      c.let_go-freed.ensures.upkeep.coherent,
      omega (arith, c.let_go-freed.auto.a, c.place.auto.a, shape.length_a, shape.whole_bytes),
    )

pub returns : goal.returns
returns c =
    let free = allocate_passed c.requires.1 in
    let fit = usable_fit c.requires.0 in
    let h = memory_of (usable_ready c.requires.0) in
    allocate_worked free c.requires.0 c.args.as_data
    (allocate_changed _ _ h c.args.as_data _ _ _ _ c.place.ensures.0 c.place.ensures.2 fit free.some_blocks free.place free.lowest c.let_go-freed.ensures)
    c.renew.ensures
    (ap (λ (most : ℕ). eqb most 1) c.capacity_of-stuck.ensures.0)
    (allocate_freed _ _ h c.args.as_data _ _ _ _ c.place.ensures.0 c.place.ensures.2 fit free.some_blocks free.place free.lowest c.let_go-freed.ensures)
