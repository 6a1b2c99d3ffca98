use mathlib.Core.Path.{refl}
use Prim.Native.Nat.{◌+◌}
use native.Mathlib.Omega.{arith}
use Rattle.std.proofs.lemmas.List.Edits.{get_or-between}
use Rattle.count_up.proofs.Worked.{unchanged}
use Rattle.collect_visit.specs.Visit.{visit_each}
use Rattle.collect_visit.proofs.Visits.{visited_more}
use Rattle.collect_visit.proofs.visit_each.Goals as goal

pub loop-v-init : goal.loop-v-init
unfolding visit_each
loop-v-init c =
    record { worked = unchanged c.requires.0.planes c.requires.0.stack refl; counting = c.requires.0.counting }

pub loop-v-preserved : goal.loop-v-preserved
loop-v-preserved c =
    let place = get_or-between c.args.refs.now c.args.j (c.args.j + c.args.n) c.loop-v.v-index 0 (omega arith) in
    visited_more _ _ _ _ c.loop-v.invariant (rw place at c.visit_one-height.ensures)
