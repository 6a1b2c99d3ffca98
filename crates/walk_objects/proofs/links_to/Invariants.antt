-- `walk_objects::links_to` meets its contract.
use Rattle.walk_objects.proofs.Linking.{Linked}
use Rattle.walk_objects.proofs.links_to.Given as goal

abbrev pub invariant-loop-object : goal.invariant-loop-object
invariant-loop-object l = Linked l.owners l.vias l.n l.links l.count l.object

abbrev pub decreases-loop-object : goal.decreases-loop-object
decreases-loop-object l = l.object
