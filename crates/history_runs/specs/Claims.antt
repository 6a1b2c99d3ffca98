-- What is proved of every run of records, over the rules' own words.
use Rattle.std.specs.Prelude.{ℕ, ◌+◌, ◌%◌, ◌≡◌, true, List, ◌++◌, length}
use Rattle.rules.specs.Heap.{Memory, shaped}
use Rattle.rules_stores.specs.Store.{formatted}
use Rattle.theory.specs.CallWords.{left_by}
use Rattle.theory.specs.Demand.{Chain, Claim}
use Rattle.theory_memories.specs.Heaps.{Undamaged}
use Rattle.theory_memories.specs.Words.{in_use}
use Rattle.theory.specs.Balance.{blocks_allocated, blocks_freed}
use Rattle.history_records.specs.Records.{record_length, wide}
use Rattle.history_figures.specs.declared.tally.Tally.{Tally}
use Rattle.history_figures.specs.declared.tally.Run.{Run}
use Rattle.history_figures.specs.Figures.{tally, noted_all}
use Rattle.history_runs.specs.Runs.{Came, came, ran, history}

-- figures with another peak
abbrev pub with_peak : (peak : ℕ) → Tally → Tally
with_peak peak t = tally t.allocations t.blocks t.largest t.collections peak t.stuck

-- "a run of records counts as the calls it makes": what came of a run, stopped or not, is what came of the calls that it made, each on the
-- heap that the one before it left. Demand 3 holds of these calls. The figures but the peak are those of these calls; and "blocks allocated
-- in all, less the blocks freed by every call, allocations too, are the blocks in use", with what was allocated and in use before the run.
pub record AsCalls (N w : ℕ) (h : Memory) (r : Run) (x : Came) : Type 0 where
  pub chain : Chain N w h x.made
  pub memory_is : x.memory ≡ left_by h x.made
  pub claim : Claim N w h x.made
  pub figures_are : x.run.tally ≡ with_peak x.run.tally.peak (noted_all x.made r.tally)
  pub allocated : x.run.tally.blocks ≡ r.tally.blocks + blocks_allocated x.made
  pub balance : in_use N h + blocks_allocated x.made ≡ blocks_freed N x.made + in_use N x.memory

abbrev pub RunsAreCalls : Type 0
RunsAreCalls = (N w : ℕ) (bytes : List ℕ) (h : Memory) (r : Run) → Undamaged N w h → AsCalls N w h r (ran wide N w bytes h r)

-- A history in pieces of whole records comes to what the whole comes to.
abbrev pub PiecesAreWhole : Type 0
PiecesAreWhole =
    (N w : ℕ) (first rest : List ℕ) (h : Memory) (r : Run) → length first % record_length wide ≡ 0
    → let x = ran wide N w first h r in
    let y = ran wide N w rest x.memory x.run in
    ran wide N w (first ++ rest) h r ≡ came y.run y.memory (x.made ++ y.made)

-- A new heap has no block in use.
abbrev pub NewHeapUnused : Type 0
NewHeapUnused = (N w roots : ℕ) → shaped N w (formatted N w roots) ≡ true → in_use N (formatted N w roots) ≡ 0

-- "blocks allocated in all, less the blocks freed by every call, allocations too, are the blocks in use": of every
-- history, stopped or not, on a new heap of right shape. What is allocated is the run's figure; what is freed is
-- freed by the calls that the records made.
abbrev pub HistoryBalances : Type 0
HistoryBalances =
    (N w roots : ℕ) → shaped N w (formatted N w roots) ≡ true → (bytes : List ℕ) → let x = history wide N w roots bytes in
    x.run.tally.blocks ≡ blocks_freed N x.made + in_use N x.memory
