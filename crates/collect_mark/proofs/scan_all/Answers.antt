use mathlib.Core.Path.{◌≡◌, ap, ◌∙◌}
use Prim.Native.Nat.{ℕ, ◌-◌, ◌*◌, ◌/◌}
use native.Mathlib.Omega.{arith}
use Rattle.count_up.proofs.Stack.{stack_emptied}
use Rattle.collect_visit.proofs.Visits.{visited_counted}
use Rattle.collect_mark.proofs.Scans.{naming_whole, counted_pop, leading_start, leading_next, leading_done}
use Rattle.collect_mark.proofs.scan_all.Goals as goal

pub loop-height-init : goal.loop-height-init
loop-height-init c =
    (c.requires.0, leading_start c.requires.0.stack)

pub object_size-size-requires : goal.object_size-size-requires
object_size-size-requires c =
    (omega arith, c.loop-height.invariant.0.stack.blocks (c.loop-height.height - 1) (omega arith))

pub visit_blocks-height-requires : goal.visit_blocks-height-requires
visit_blocks-height-requires c =
    (counted_pop (omega arith) c.loop-height.invariant.0, omega (arith, c.requires.2), omega (arith, c.requires.0.planes.most))

pub loop-height-smaller : goal.loop-height-smaller
loop-height-smaller c =
    omega (arith, c.visit_blocks-height.ensures.worked.left_is)

pub loop-height-preserved : goal.loop-height-preserved
loop-height-preserved c =
    let whole = ap (λ (k : ℕ). 4 * (k / 4)) c.naming_cells-named.ensures.0 ∙ naming_whole c.args.d.now _ _ in
    (visited_counted c.visit_blocks-height.ensures, leading_next c.loop-height.invariant.1 (omega arith) c.object_size-size.ensures.0 whole c.visit_blocks-height.ensures.worked)

pub returns : goal.returns
returns c =
    let empty : c.loop-height.height ≡ 0 = omega arith in
    (leading_done c.loop-height.invariant.1 empty, stack_emptied (rw empty at c.loop-height.invariant.0.stack), c.loop-height.invariant.0.counting)
