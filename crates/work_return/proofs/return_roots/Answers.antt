-- `work_return::return_roots` meets its contract.
use mathlib.Core.Path.{refl, sym, ap, ◌∙◌}
use Rattle.std.proofs.lemmas.Result.{err_from_is_err_and}
use Rattle.types.specs.declared.Reply.{Reply}
use Rattle.types.proofs.Refused.{number_ne0}
use Rattle.test_arguments.proofs.ArgumentTests.{own_refused, return_tested}
use Rattle.theory.proofs.Usable.UsableHeap.{usable_fit, usable_healthy}
use Rattle.theory.proofs.Usable.WorkDone.{worked_refused}
use Rattle.work_return.proofs.return_roots.Goals as goal

pub return_test-requires : goal.return_test-requires
return_test-requires c = (usable_healthy c.requires).shape.roots_max

pub returns-in_err-return_test : goal.returns-in_err-return_test
returns-in_err-return_test c =
    let exit = err_from_is_err_and c.from_residual.result c.from_residual.ensures.1 in
    rw (exit.1, exit.2)
    (worked_refused c.requires refl _ (own_refused (return_tested c.in_err-return_test.ensures) (usable_fit c.requires) (number_ne0 _)))

pub clear_roots-requires : goal.clear_roots-requires
clear_roots-requires c =
    (c.requires, ap (λ (y : Reply). y.number) (sym c.in_ok-return_test.ensures))
