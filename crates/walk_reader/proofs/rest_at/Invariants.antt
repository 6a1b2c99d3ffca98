-- `walk_reader::rest_at` meets its contract. The measure is what is left of the text.
use lib.ListN.{length}
use Rattle.walk_reader.proofs.Links.{Counting}
use Rattle.walk_reader.proofs.rest_at.Given as goal

abbrev pub invariant-loop-after : goal.invariant-loop-after
invariant-loop-after l = Counting l.text l.rest l.links

abbrev pub decreases-loop-after : goal.decreases-loop-after
decreases-loop-after l = length l.rest
