-- `walk_objects::trace_all` meets its contract.
use mathlib.Core.Path.{◌≡◌}
use Prim.Native.Nat.{◌≤◌, ◌-◌}
use Rattle.rules_output.specs.Walk.{followed}
use Rattle.theory_walks.specs.Trail.{trail}
use Rattle.walk_objects.specs.Walking.{walked_heap, Traced}
use Rattle.walk_objects.proofs.trace_all.Given as goal

abbrev pub invariant-loop-k : goal.invariant-loop-k
invariant-loop-k l = record {
  same_order : l.walk.order.ghost_name ≡ l.initial.walk.order.ghost_name;
  same_numbers : l.walk.numbers.ghost_name ≡ l.initial.walk.numbers.ghost_name;
  same_owners : l.walk.owners.ghost_name ≡ l.initial.walk.owners.ghost_name;
  same_vias : l.walk.vias.ghost_name ≡ l.initial.walk.vias.ghost_name;
  few : l.k ≤ l.blocks;
  traced : Traced l.blocks (trail l.roots (followed l.blocks (walked_heap l.a l.b l.d l.cells l.roots)) l.k)
      l.walk.order.now l.walk.numbers.now l.walk.owners.now l.walk.vias.now l.walk.met;
}

abbrev pub decreases-loop-k : goal.decreases-loop-k
decreases-loop-k l = l.blocks - l.k
