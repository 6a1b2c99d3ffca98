use mathlib.Core.Path.{◌≡◌, sym, ap, subst, ◌∙◌}
use mathlib.Core.List.{List}
use Rattle.std.specs.Prelude.{Option as CodeOption}
use Prim.Native.Nat.{ℕ, ◌-◌, ◌<◌}
use native.Mathlib.Omega.{arith}
use lib.ListN.{replicate, get_or, take}
use Rattle.std.proofs.lemmas.List.{get_or-take, length-take-le}
use Rattle.rules.proofs.Shape.{blocks_le}
use Rattle.rules.specs.Heap.{size_from}
use Rattle.copy_plan.specs.Laying.{Sought, LaidOne}
use Rattle.copy_plan.specs.Plan.{sizes_in}
use Rattle.copy_plan.proofs.Chunks.{sought_start}
use Rattle.copy_plan.proofs.Plans.{plan_start, plan_next, plan_missed, plan_done}
use Rattle.copy_plan.proofs.lay_each.Goals.{After-object_size-n}
use Rattle.copy_plan.proofs.lay_each.Goals as goal

pub loop-reference-init : goal.loop-reference-init
loop-reference-init c = (
  plan_start _ _ _ _ _ _ c.requires.0 _ c.requires.3,
  subst (λ (map : List ℕ). Sought c.args.blocks2 map (replicate 17 0)) (sym c.requires.3) (sought_start c.args.blocks2 c.requires.2),
)

-- this object is one of the `met` ..
below : (c : After-object_size-n) → c.loop-reference.reference-index < c.args.met
below c = omega (arith, length-take-le c.args.met c.args.order.now c.requires.0.long_order)

-- .. as `order` has it ..
reference : (c : After-object_size-n)
    → get_or (take c.args.met c.args.order.now) c.loop-reference.reference-index 0 ≡ get_or c.args.order.now c.loop-reference.reference-index 0
reference c = get_or-take _ _ _ 0 (below c)

-- .. and its size is that of the rule
laid_here : (c : After-object_size-n) → {map map' from' : List ℕ} {at : CodeOption ℕ}
    → LaidOne c.args.blocks2 c.object_size-n.result map map' from' at
    → LaidOne c.args.blocks2 (sizes_in c.args.blocks c.args.b.now c.args.order.now c.loop-reference.reference-index) map map' from' at
laid_here c {map} {map'} {from'} {at} laid =
    subst (λ (n : ℕ). LaidOne c.args.blocks2 n map map' from' at)
    (c.object_size-n.ensures.0 ∙ ap (λ (x : ℕ). size_from (c.args.blocks - (x - 1)) c.args.b.now (x - 1)) (reference c)) laid

pub returns-in_default : goal.returns-in_default
returns-in_default c =
    let here = (goal.at.returns-in_default c).After-object_size-n in
    plan_missed _ _ _ _ _ _ c.requires.0 _ _ _ c.loop-reference.invariant.0 (below here) _ _ (laid_here here c.in_default.ensures) _

pub overflow_cast-numbers : goal.overflow_cast-numbers
overflow_cast-numbers c =
    omega (arith, c.lay_one.ensures.below c.in-Some.place c.in-Some.is, blocks_le c.args.blocks2 c.requires.2)

pub loop-reference-preserved : goal.loop-reference-preserved
loop-reference-preserved c =
    let here = (goal.at.loop-reference-preserved c).After-object_size-n in (
      rw (reference here)
          (plan_next _ _ _ _ _ _ c.requires.0 _ _ _ c.loop-reference.invariant.0 (below here) _ _ _ (laid_here here c.in-Some.ensures)),
      c.lay_one.ensures.sought c.in-Some.place c.in-Some.is,
    )

pub returns : goal.returns
returns c =
    let long = length-take-le c.args.met c.args.order.now c.requires.0.long_order in
    plan_done _ _ _ _ _ _ c.requires.0 _ _ _ c.loop-reference.invariant.0 (omega (arith, long)) (omega (arith, long))
