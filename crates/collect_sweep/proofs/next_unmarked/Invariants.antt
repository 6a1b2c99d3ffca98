-- `collect_sweep::next_unmarked` meets its contract: from i to before `at` no unmarked object starts. The measure is what is left.
use mathlib.Core.Path.{◌≡◌}
use mathlib.Core.Bool.{false}
use mathlib.Core.List.{[]}
use Prim.Native.Nat.{ℕ, ◌-◌, ◌≤◌, ◌<◌}
use Rattle.count_up.specs.Ready.{part_memory}
use Rattle.collect_sweep.specs.Sweep.{is_unmarked}
use Rattle.collect_sweep.proofs.next_unmarked.Given as goal

abbrev pub invariant-loop-at : goal.invariant-loop-at
invariant-loop-at l =
    (l.i ≤ l.at) × (l.at ≤ l.blocks) × ((j : ℕ) → l.i ≤ j → j < l.at → is_unmarked l.blocks l.width (part_memory l.a l.b l.counts [] [] []) j ≡ false)

abbrev pub decreases-loop-at : goal.decreases-loop-at
decreases-loop-at l = l.blocks - l.at
