-- `work_return::clear_chosen` meets its contract.
use native.Mathlib.Omega.{arith}
use Rattle.theory.proofs.Usable.UsableHeap.{usable_healthy}
use Rattle.work_return.proofs.ReturnAnswer.{not_chosen, zero_passes, chosen_cleared}
use Rattle.work_return.proofs.clear_chosen.Goals as goal

pub overflow_shr-chosen : goal.overflow_shr-chosen
overflow_shr-chosen c =
    omega (arith, (usable_healthy c.requires.0).shape.roots_max, c.requires.1)

pub store_root-done-requires : goal.store_root-done-requires
store_root-done-requires c =
    (c.requires.0, zero_passes _ _ _ c.requires.1)

pub returns-then-chosen-r-eq1 : goal.returns-then-chosen-r-eq1
returns-then-chosen-r-eq1 c =
    chosen_cleared c.requires.0 c.requires.1 c.if-chosen-r-eq1.true c.store_root-done.ensures

pub returns-else-chosen-r-eq1 : goal.returns-else-chosen-r-eq1
returns-else-chosen-r-eq1 c = not_chosen c.requires.0 c.if-chosen-r-eq1.false
