-- `Trail::meet_each_at` meets its contract.
use mathlib.Core.Path.{◌≡◌}
use lib.ListN.{take}
use Rattle.theory_walks.specs.Trail.{meet_each_at}
use Rattle.walk_objects.specs.Walking.{entries, Traced}
use Rattle.walk_objects.proofs.Trail.meet_each_at.Given as goal

abbrev pub invariant-loop-cell : goal.invariant-loop-cell
invariant-loop-cell l = record {
  same_order : l.self.order.ghost_name ≡ l.initial.self.order.ghost_name;
  same_numbers : l.self.numbers.ghost_name ≡ l.initial.self.numbers.ghost_name;
  same_owners : l.self.owners.ghost_name ≡ l.initial.self.owners.ghost_name;
  same_vias : l.self.vias.ghost_name ≡ l.initial.self.vias.ghost_name;
  traced : Traced l.blocks (meet_each_at (entries l.initial.self.order.now l.initial.self.owners.now l.initial.self.vias.now l.initial.self.met) l.owner 0 (take l.cell l.refs))
      l.self.order.now l.self.numbers.now l.self.owners.now l.self.vias.now l.self.met;
}
