-- What the calls of a record and the whole record give on a heap: for contracts of inner functions.
use Rattle.std.specs.Prelude.{ℕ, ◌+◌, ◌≤◌, ◌≡◌, true, false}
use Rattle.rules.specs.Heap.{Memory}
use Rattle.theory_memories.specs.Words.{in_use}
use Rattle.history_figures.specs.declared.tally.Tally.{Tally}
use Rattle.history_figures.specs.Figures.{noted_all, most_records, in_range}
use Rattle.history_turns.specs.declared.outcome.Done.{Done}
use Rattle.history_turns.specs.declared.noting.Running.{Running}
use Rattle.history_turns.specs.Turns.{Turn, after_turn}
use Rattle.history_turns.specs.Outcomes.{figures_of}

-- Calls of a record were made on h, as in turn x, and left g; `d` says what came of them: the number; the figures; and the blocks balance.
-- A record that is refused has allocated nothing, and nothing became stuck.
pub record Acted (N : ℕ) (h : Memory) (x : Turn) (d : Done) (g : Memory) : Type 0 where
  pub number_is : d.number ≡ x.number
  pub after_is : g ≡ x.after
  pub figures_are : (t : Tally) → figures_of d t ≡ noted_all x.made t
  pub balance : in_use N h + d.allocated ≡ d.freed + in_use N g
  pub allocated_few : d.allocated ≤ N
  pub refused_none : (d.number ≡ 0 → ⊥) → (d.allocated ≡ 0) × (d.stuck ≡ false)

-- a run under way on memory h: not stopped, in range, with room for n records more, and the blocks in use are known
pub record Going (N : ℕ) (h : Memory) (n : ℕ) (now : Running) : Type 0 where
  pub goes_on : now.run.number ≡ 0
  pub in_range_lem : in_range now.run ≡ true
  pub more : now.run.records + n ≤ most_records
  pub used_is : now.used ≡ in_use N h

-- one record was run: the run and the memory are the turn's, the run is in range, and the blocks in use are known again
pub record Stepped (N : ℕ) (x : Turn) (was is : Running) (g : Memory) : Type 0 where
  pub run_is : is.run ≡ after_turn N x was.run
  pub after_is : g ≡ x.after
  pub in_range_lem : in_range is.run ≡ true
  pub used_is : is.used ≡ in_use N g
