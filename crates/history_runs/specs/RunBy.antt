-- What a run over records gives, for contracts of inner functions.
use Rattle.std.specs.Prelude.{ℕ, ◌≡◌, true}
use Rattle.rules.specs.Heap.{Memory}
use Rattle.theory_memories.specs.Heaps.{Usable}
use Rattle.history_figures.specs.declared.tally.Run.{Run}
use Rattle.history_figures.specs.Figures.{in_range}
use Rattle.history_runs.specs.Runs.{Came}

-- records were run: the run and the memory are what came of them, the run is in range, and the heap can be used again
pub record RunBy (N w : ℕ) (x : Came) (r : Run) (g : Memory) : Type 0 where
  pub run_is : r ≡ x.run
  pub memory_is : g ≡ x.memory
  pub in_range_lem : in_range r ≡ true
  pub usable : Usable N w g
