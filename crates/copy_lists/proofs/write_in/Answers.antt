-- `write_in` meets its contract: the plan of the walk is that of the rules, and the lists are written by it.
use mathlib.Core.Path.{◌≡◌}
use Rattle.rules_output.specs.Walk.{numbered}
use Rattle.rules_copy.specs.Copy.{lay_first, lay_all}
use Rattle.walk_objects.specs.Walking.{walked_heap, Walked}
use Rattle.walk_objects.proofs.TracedHeap.{all_walked}
use Rattle.copy_plan.specs.Plan.{sizes_in}
use Rattle.refinement_copy.proofs.Planned.{numbering, plan_is, routed}
use Rattle.copy_lists.proofs.Writing.{left_unwritten, lists_filled}
use Rattle.copy_lists.proofs.write_in.Goals.{After-trace_all-met}
use Rattle.copy_lists.proofs.write_in.Goals as goal

pub trace_all-met-requires : goal.trace_all-met-requires
trace_all-met-requires c = (c.requires.0, c.requires.2)

-- what is met
met : (c : After-trace_all-met) → Walked c.args.blocks
    (numbered c.args.blocks (walked_heap c.args.a.now c.args.b.now c.args.d.now c.args.cells.now c.args.roots.now))
    c.trace_all-met.new.order c.trace_all-met.new.numbers c.trace_all-met.result
met c =
    all_walked c.args.blocks c.args.a.now c.args.b.now c.args.d.now c.args.cells.now c.args.roots.now c.requires.0.named
    _ _ _ _ _ c.trace_all-met.ensures

pub plan-requires : goal.plan-requires
plan-requires c = (
  numbering _ _ _ _ _ _ c.requires.0 (met (goal.at.plan-requires c).After-trace_all-met),
  c.requires.0.long_b,
  c.requires.1.blocks,
)

-- the plan of the arrays is that of the rules
laid : (c : After-trace_all-met) → lay_first c.args.blocks2 (sizes_in c.args.blocks c.args.b.now c.trace_all-met.new.order) c.trace_all-met.result
    ≡ lay_all c.args.blocks (walked_heap c.args.a.now c.args.b.now c.args.d.now c.args.cells.now c.args.roots.now) c.args.blocks2
laid c =
    plan_is _ _ _ _ _ _ c.requires.0 (met c) c.args.blocks2

pub returns-else-plan : goal.returns-else-plan
returns-else-plan c =
    left_unwritten c.plan.ensures (laid (goal.at.returns-else-plan c).After-trace_all-met) c.if-plan.false

pub fill_lists-requires : goal.fill_lists-requires
fill_lists-requires c = (
  c.requires.0,
  routed _ _ _ _ _ _ c.requires.0 (met (goal.at.fill_lists-requires c).After-trace_all-met) c.plan.ensures c.if-plan.true c.plan.auto.numbers,
  c.requires.1,
)

pub returns-then-plan : goal.returns-then-plan
returns-then-plan c =
    lists_filled c.plan.ensures (laid (goal.at.returns-then-plan c).After-trace_all-met) c.if-plan.true c.fill_lists.ensures
