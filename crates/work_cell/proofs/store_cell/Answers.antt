-- `work_cell::store_cell` meets its contract: cell j of the object at block `at`, the owner, is cell 4 * at + j of all.
use mathlib.Core.Path.{◌∙◌}
use native.Mathlib.Omega.{arith}
use borrow.Author.Rules.{rules}
use Rattle.test_arguments.proofs.ArgumentTests.{cell_passed}
use Rattle.count_up.proofs.Shapes.{memory_of, planes_same, extents_cell}
use Rattle.theory.proofs.Usable.UsableHeap.{usable_fit, usable_healthy}
use Rattle.refinement.proofs.ReadyHeap.{usable_ready, list_untouched}
use Rattle.refinement_stores.proofs.ListedHeap.{usable_listable}
use Rattle.refinement_stores.proofs.Presence.{sticks_present, sticks_changed}
use Rattle.refinement_stores.proofs.CellStore.{cell_present, cell_none, cell_changed, cell_freed}
use Rattle.work_cell.proofs.CellAnswer.{cell_worked}
use Rattle.work_cell.proofs.store_cell.Goals as goal

-- a reference is at most the number of blocks, so it fits a cell
pub overflow_cast-new : goal.overflow_cast-new
overflow_cast-new c =
    omega (arith, (cell_passed c.requires.1).inside, (usable_healthy c.requires.0).shape.blocks_max)

pub overflow_mul-c : goal.overflow_mul-c
overflow_mul-c c =
    record { fits = omega (arith, (cell_passed c.requires.1).cell_inside, (usable_healthy c.requires.0).shape.blocks_max) }

pub overflow_add-c : goal.overflow_add-c
overflow_add-c c =
    record { fits = omega (arith, (cell_passed c.requires.1).cell_inside, (usable_healthy c.requires.0).shape.blocks_max) }

pub offset_bounds-cells-c : goal.offset_bounds-cells-c
offset_bounds-cells-c c =
    let place = (cell_passed c.requires.1).cell_inside in
    let cells = (usable_healthy c.requires.0).shape.length_cells in
    search (rules, place, cells)

pub bounds-cells-c : goal.bounds-cells-c
bounds-cells-c c =
    omega (arith, (cell_passed c.requires.1).cell_inside, (usable_healthy c.requires.0).shape.length_cells)

pub returns-then-old-new : goal.returns-then-old-new
returns-then-old-new c =
    let h = memory_of (usable_ready c.requires.0) in
    let same = c.if-old-new.true in
    cell_worked (cell_passed c.requires.1) c.requires.0 (cell_present _ _ h _ _ _ same) (usable_fit c.requires.0).listed
    (cell_none _ _ h _ _ _ same) (sticks_present _ _ _ same)

pub count_up-stuck-requires : goal.count_up-stuck-requires
count_up-stuck-requires c =
    ((usable_ready c.requires.0).planes, (cell_passed c.requires.1).inside)

pub offset_bounds-cells-c-2 : goal.offset_bounds-cells-c-2
offset_bounds-cells-c-2 c =
    let place = (cell_passed c.requires.1).cell_inside in
    let cells = (usable_healthy c.requires.0).shape.length_cells in
    search (rules, place, cells)

pub bounds-cells-c-2 : goal.bounds-cells-c-2
bounds-cells-c-2 c =
    omega (arith, (cell_passed c.requires.1).cell_inside, (usable_healthy c.requires.0).shape.length_cells)

-- the owner's reference fits a cell
pub overflow_add-at : goal.overflow_add-at
overflow_add-at c =
    record { fits = omega (arith, (cell_passed c.requires.1).cell_inside, (usable_healthy c.requires.0).shape.blocks_max) }

pub overflow_cast-at : goal.overflow_cast-at
overflow_cast-at c =
    omega (arith, (cell_passed c.requires.1).cell_inside, (usable_healthy c.requires.0).shape.blocks_max)

pub let_go-freed-requires : goal.let_go-freed-requires
let_go-freed-requires c =
    let ready = usable_ready c.requires.0 in (
      record {
        planes = planes_same ready.planes c.count_up-stuck.auto.counts;
        extents = extents_cell _ _ ready.extents;
        idle = ready.idle;
        coherent = ready.coherent;
        marks_length = ready.marks_length;
        list_length = ready.list_length;
      },
      usable_listable c.requires.0,
    )

pub renew_after-requires : goal.renew_after-requires
renew_after-requires c =
    let shape = (usable_healthy c.requires.0).shape in
    (c.let_go-freed.ensures.upkeep.coherent, omega (arith, c.let_go-freed.auto.a, shape.length_a, shape.whole_bytes), list_untouched c.requires.0 c.let_go-freed.ensures.upkeep)

pub returns : goal.returns
returns c =
    let h = memory_of (usable_ready c.requires.0) in
    let other = c.if-old-new.false in
    let passed = cell_passed c.requires.1 in
    let fit = usable_fit c.requires.0 in
    let done = c.let_go-freed.ensures in
    cell_worked passed c.requires.0
    (cell_changed _ _ h _ _ _ fit passed.first passed.place passed.ordinary passed.ref passed.inside other c.count_up-stuck.ensures.0 done)
    c.renew_after.ensures
    (cell_freed _ _ h _ _ _ fit passed.first passed.place passed.ordinary passed.ref passed.inside other c.count_up-stuck.ensures.0 done)
    (c.count_up-stuck.ensures.1 ∙ sticks_changed _ _ _ other)
