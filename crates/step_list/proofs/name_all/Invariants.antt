-- `step_list::name_all` meets its contract.
use mathlib.Core.Path.{◌≡◌}
use lib.ListN.{length}
use Rattle.step_list.specs.Lists.{listed_in, Shows}
use Rattle.step_list.proofs.name_all.Given as goal

abbrev pub invariant-loop-v : goal.invariant-loop-v
invariant-loop-v l = Shows l.blocks (listed_in l.v-index l.list) l.map × (length l.map ≡ length l.initial.map)
