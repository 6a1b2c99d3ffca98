-- `check_references::tally_roots` meets its contract: the roots so far are tallied, none of them wild.
use lib.ListN.{length, get_or}
use Rattle.rules.proofs.Searches.{Searched}
use Rattle.check_references.specs.Wild.{wild_root}
use Rattle.check_references.specs.Tally.{Tallied}
use Rattle.check_references.proofs.tally_roots.Given as goal

abbrev pub invariant-loop-v : goal.invariant-loop-v
invariant-loop-v l =
    Searched (wild_root l.blocks l.roots) (length l.roots) l.v-index × Tallied (λ i. get_or l.roots i 0) l.v-index l.initial.at l.at
