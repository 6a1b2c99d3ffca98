use mathlib.Core.Path.{refl}
use Rattle.count_up.proofs.Worked.{unchanged}
use Rattle.collect_visit.specs.Visit.{visit_each}
use Rattle.collect_visit.proofs.Visits.{visited_block}
use Rattle.collect_visit.proofs.visit_blocks.Goals as goal

pub loop-k-init : goal.loop-k-init
unfolding visit_each
loop-k-init c =
    record { worked = unchanged c.requires.0.planes c.requires.0.stack refl; counting = c.requires.0.counting }

pub loop-k-preserved : goal.loop-k-preserved
loop-k-preserved c =
    visited_block _ _ _ _ c.loop-k.invariant c.visit_block-height.ensures
