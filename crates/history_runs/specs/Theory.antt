-- All that is stated of runs of records, as one record, which has one proof (`history_theory`,
-- proofs/Theorems.antt): no statement can be dropped unnoticed.
use Rattle.history_turns.specs.Stopped.{StandsAsBefore, StopsWhileOpen}
use Rattle.history_runs.specs.Claims.{RunsAreCalls, PiecesAreWhole, NewHeapUnused, HistoryBalances}
use Rattle.history_runs.specs.Promised.{CallsAreOne, RunIsCalls}

pub record HistoryTheory : Type 0 where
  -- a run as a list of calls
  pub runs_are_calls : RunsAreCalls
  pub run_is_calls : RunIsCalls
  -- a history in pieces
  pub pieces_are_whole : PiecesAreWhole
  pub calls_are_one : CallsAreOne
  -- blocks allocated, freed and in use
  pub new_heap_unused : NewHeapUnused
  pub history_balances : HistoryBalances
  -- a record that stops the run
  pub stands_as_before : StandsAsBefore
  -- request U8: runs on a heap with a collection open
  pub stops_while_open : StopsWhileOpen
