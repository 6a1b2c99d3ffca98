-- `walk_objects::Trail::meet_each_at` meets its contract.
use mathlib.Core.Path.{refl, ◌∙◌}
use Rattle.walk_objects.proofs.Tracing.{trace_start, trace_more}
use Rattle.walk_objects.proofs.Trail.meet_each_at.Goals as goal

pub loop-cell-init : goal.loop-cell-init
loop-cell-init c = record { same_order = refl; same_numbers = refl; same_owners = refl; same_vias = refl; traced = search trace_start }

pub loop-cell-preserved : goal.loop-cell-preserved
loop-cell-preserved c = record {
  same_order = c.meet_at.ensures.same_order ∙ c.loop-cell.invariant.same_order;
  same_numbers = c.meet_at.ensures.same_numbers ∙ c.loop-cell.invariant.same_numbers;
  same_owners = c.meet_at.ensures.same_owners ∙ c.loop-cell.invariant.same_owners;
  same_vias = c.meet_at.ensures.same_vias ∙ c.loop-cell.invariant.same_vias;
  traced = search trace_more;
}
