-- `moved_to` meets its contract.
use Rattle.copy_objects.proofs.Filling.{moved_nothing, moved_some}
use Rattle.copy_objects.proofs.moved_to.Goals as goal

pub returns-then-v-eq0 : goal.returns-then-v-eq0
returns-then-v-eq0 c = search moved_nothing

pub returns-else-v-eq0 : goal.returns-else-v-eq0
returns-else-v-eq0 c = search moved_some
