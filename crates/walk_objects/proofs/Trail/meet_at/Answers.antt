-- `Trail::meet_at` meets its contract.
use Rattle.walk_objects.proofs.Tracing.{trace_nothing, trace_again, trace_new}
use Rattle.walk_objects.proofs.Trail.meet_at.Goals.{then-v-eq0-via-then-v-eq0, then-v-eq0-via-else-v-eq0+then-self-v-ne0}
use Rattle.walk_objects.proofs.Trail.meet_at.Goals as goal

pub returns-then-v-eq0-clause-traced : goal.returns-then-v-eq0-clause-traced
returns-then-v-eq0-clause-traced c = elim c.then-v-eq0.branch [
  | then-v-eq0-via-then-v-eq0 w ↦ search trace_nothing
  | then-v-eq0-via-else-v-eq0+then-self-v-ne0 w ↦ search trace_again
]

pub returns-clause-traced : goal.returns-clause-traced
returns-clause-traced c = search trace_new
