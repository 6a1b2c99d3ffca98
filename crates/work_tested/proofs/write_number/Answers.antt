-- `work_tested::write_number` meets its contract.
use mathlib.Core.Path.{refl, sym, ap, ◌∙◌}
use native.Mathlib.Omega.{arith}
use Rattle.std.proofs.lemmas.Result.{err_from_is_err_and}
use Rattle.types.proofs.Refused.{number_ne0}
use Rattle.rules.specs.Heap.{Memory, lent_memory}
use Rattle.types.specs.declared.Reply.{Reply}
use Rattle.test_arguments.proofs.ArgumentTests.{goes_on, own_refused, number_tested, number_passed}
use Rattle.theory.proofs.Usable.UsableHeap.{usable_fit, usable_healthy}
use Rattle.theory.proofs.Usable.WorkDone.{worked_refused}
use Rattle.work_tested.proofs.write_number.Goals as goal

pub number_test-requires : goal.number_test-requires
number_test-requires c =
    let shape = (usable_healthy c.requires).shape in (
      omega (arith, shape.length_a, shape.whole_bytes),
      omega (arith, shape.length_b, shape.whole_bytes),
      shape.blocks_max,
      omega (arith, shape.length_d, shape.whole_bytes),
    )

pub returns-in_err-number_test : goal.returns-in_err-number_test
returns-in_err-number_test c =
    let exit = err_from_is_err_and c.from_residual.result c.from_residual.ensures.1 in
    rw (exit.1, exit.2)
    (worked_refused c.requires refl _ (own_refused (number_tested c.in_err-number_test.ensures) (usable_fit c.requires) (number_ne0 _)))

pub write_number-requires : goal.write_number-requires
write_number-requires c =
    let shape = (usable_healthy c.requires).shape in
    let passed = number_passed (ap (λ (y : Reply). y.number) (sym c.in_ok-number_test.ensures)) in
    (omega (arith, passed.cell_inside, shape.length_cells), omega (arith, shape.length_cells, shape.blocks_max))

-- the lent heap
abbrev lent : (c : goal.After-slice_known-2-1) → Memory
lent c =
    lent_memory c.args.a.now c.args.b.now c.args.counts.now c.args.cells.now c.args.roots.now c.args.waiting.now
    c.args.sections.now c.args.d.now c.args.marks.now c.args.list.now

pub returns : goal.returns
returns c =
    c.write_number.ensures.worked _ _ (lent c) c.requires.undamaged refl
    (goes_on (number_tested {h = lent c} c.in_ok-number_test.ensures) refl)
