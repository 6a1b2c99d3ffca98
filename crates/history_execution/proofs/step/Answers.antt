-- `step` meets its contract: the plan, its calls, and what came of them noted.
use Rattle.theory.proofs.Usable.UsableHeap.{usable_healthy}
use Rattle.history_turns.proofs.Notes.{can_note, noted_stepped}
use Rattle.history_execution.proofs.Readable.{usable_readable, planned}
use Rattle.history_execution.proofs.step.Goals as goal

pub plan_of-plan-requires : goal.plan_of-plan-requires
plan_of-plan-requires c = (usable_readable c.requires.0, c.requires.2)

pub act-done-requires : goal.act-done-requires
act-done-requires c = c.requires.0

pub noted-requires : goal.noted-requires
noted-requires c =
    can_note (usable_healthy c.requires.0).shape.blocks_max c.requires.1 c.act-done.ensures

pub returns : goal.returns
returns c =
    noted_stepped (usable_healthy c.requires.0).shape.blocks_max c.requires.1
    (planned _ _ c.plan_of-plan.result c.plan_of-plan.ensures c.act-done.ensures) c.noted.ensures
