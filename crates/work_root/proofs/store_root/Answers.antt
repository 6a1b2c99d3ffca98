-- `work_root::store_root` meets its contract.
use mathlib.Core.Path.{◌∙◌}
use native.Mathlib.Omega.{arith}
use borrow.Author.Rules.{rules}
use Rattle.test_arguments.proofs.ArgumentTests.{root_passed}
use Rattle.count_up.proofs.Shapes.{memory_of, planes_same}
use Rattle.theory.proofs.Usable.UsableHeap.{usable_fit, usable_healthy}
use Rattle.refinement.proofs.ReadyHeap.{usable_ready, list_untouched}
use Rattle.refinement_stores.proofs.ListedHeap.{usable_listable}
use Rattle.refinement_stores.proofs.Presence.{sticks_present, sticks_changed}
use Rattle.refinement_stores.proofs.RootStore.{root_present, root_none, root_changed, root_freed}
use Rattle.work_root.proofs.RootAnswer.{root_worked}
use Rattle.work_root.proofs.store_root.Goals as goal

-- a reference is at most the number of blocks, so it fits a cell
pub overflow_cast-new : goal.overflow_cast-new
overflow_cast-new c =
    omega (arith, (root_passed c.requires.1).inside, (usable_healthy c.requires.0).shape.blocks_max)

pub offset_bounds-roots-r : goal.offset_bounds-roots-r
offset_bounds-roots-r c =
    let place = (root_passed c.requires.1).place in
    search (rules, place)

pub bounds-roots-r : goal.bounds-roots-r
bounds-roots-r c =
    (root_passed c.requires.1).place

pub returns-then-old-new : goal.returns-then-old-new
returns-then-old-new c =
    let h = memory_of (usable_ready c.requires.0) in
    let same = c.if-old-new.true in
    root_worked (root_passed c.requires.1) c.requires.0 (root_present _ _ h _ _ same) (usable_fit c.requires.0).listed
    (root_none _ _ h _ _ same) (sticks_present _ _ _ same)

pub count_up-stuck-requires : goal.count_up-stuck-requires
count_up-stuck-requires c =
    ((usable_ready c.requires.0).planes, (root_passed c.requires.1).inside)

pub offset_bounds-roots-r-2 : goal.offset_bounds-roots-r-2
offset_bounds-roots-r-2 c =
    let place = (root_passed c.requires.1).place in
    search (rules, place)

pub bounds-roots-r-2 : goal.bounds-roots-r-2
bounds-roots-r-2 c =
    (root_passed c.requires.1).place

pub let_go-freed-requires : goal.let_go-freed-requires
let_go-freed-requires c =
    let ready = usable_ready c.requires.0 in (
      record {
        planes = planes_same ready.planes (omega arith);
        extents = ready.extents;
        idle = ready.idle;
        coherent = ready.coherent;
        marks_length = ready.marks_length;
        list_length = ready.list_length;
      },
      usable_listable c.requires.0,
    )

pub renew_after-requires : goal.renew_after-requires
renew_after-requires c =
    let shape = (usable_healthy c.requires.0).shape in
    (c.let_go-freed.ensures.upkeep.coherent, omega (arith, c.let_go-freed.auto.a, shape.length_a, shape.whole_bytes), list_untouched c.requires.0 c.let_go-freed.ensures.upkeep)

pub returns : goal.returns
returns c =
    let h = memory_of (usable_ready c.requires.0) in
    let other = c.if-old-new.false in
    let passed = root_passed c.requires.1 in
    let fit = usable_fit c.requires.0 in
    let done = c.let_go-freed.ensures in
    root_worked passed c.requires.0
    (root_changed _ _ h _ _ fit passed.place passed.ref passed.inside other c.count_up-stuck.ensures.0 done)
    c.renew_after.ensures
    (root_freed _ _ h _ _ fit passed.place passed.ref passed.inside other c.count_up-stuck.ensures.0 done)
    (c.count_up-stuck.ensures.1 ∙ sticks_changed _ _ _ other)
