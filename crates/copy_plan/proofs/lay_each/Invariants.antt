-- `lay_each` meets its contract: those before have their places, and the search goes on from there.
use Rattle.copy_plan.specs.Laying.{Sought}
use Rattle.copy_plan.specs.Plan.{sizes_in}
use Rattle.copy_plan.proofs.Plans.{PlanTo}
use Rattle.copy_plan.proofs.lay_each.Given as goal

abbrev pub invariant-loop-reference : goal.invariant-loop-reference
invariant-loop-reference l =
    PlanTo l.blocks2 (sizes_in l.blocks l.b l.order) l.blocks l.order l.initial.numbers l.reference-index l.numbers l.map × Sought l.blocks2 l.map l.from
