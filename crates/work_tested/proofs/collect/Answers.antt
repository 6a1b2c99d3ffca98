-- `work_tested::collect` meets its contract.
use mathlib.Core.Path.{refl}
use native.Mathlib.Omega.{arith}
use Rattle.std.proofs.lemmas.Result.{err_from_is_err_and}
use Rattle.types.proofs.Refused.{number_ne0}
use Rattle.rules.specs.Heap.{Memory, lent_memory}
use Rattle.test_arguments.proofs.ArgumentTests.{own_refused, collect_tested, none_open}
use Rattle.theory.proofs.Usable.UsableHeap.{usable_fit, usable_healthy}
use Rattle.theory.proofs.Usable.WorkDone.{worked_refused}
use Rattle.work_tested.proofs.collect.Goals as goal

pub shut_test-requires : goal.shut_test-requires
shut_test-requires c =
    omega (arith, (usable_healthy c.requires).shape.length_list)

pub returns-in_err-shut_test : goal.returns-in_err-shut_test
returns-in_err-shut_test c =
    let exit = err_from_is_err_and c.from_residual.result c.from_residual.ensures.1 in
    rw (exit.1, exit.2)
    (worked_refused c.requires refl _ (own_refused (collect_tested c.in_err-shut_test.ensures) (usable_fit c.requires) (number_ne0 _)))

-- the lent heap
abbrev lent : (c : goal.After-collect-arg-7-1) → Memory
lent c =
    lent_memory c.args.a.now c.args.b.now c.args.counts.now c.args.cells.now c.args.roots.now c.args.waiting.now
    c.args.sections.now c.args.d.now c.args.marks.now c.args.list.now

pub collect-requires : goal.collect-requires
collect-requires c =
    (c.requires, none_open (collect_tested {h = lent c} c.in_ok-shut_test.ensures) refl)
