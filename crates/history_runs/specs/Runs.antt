-- Request U1: the run over the records of a history, from any heap and from where a run stands, so that one definition serves a whole file
-- and a piece of it. Request U12: records of either form are run alike; the code runs those of the form `wide`.
use Rattle.std.specs.Prelude.{ℕ, zero, suc, ◌+◌, ◌-◌, ◌*◌, ◌/◌, min, true, false, not, ◌&&◌, List, [], ◌++◌, length, eqb}
use Rattle.rules.specs.Heap.{Memory}
use Rattle.rules_stores.specs.Store.{formatted}
use Rattle.theory.specs.CallWords.{Made}
use Rattle.history_records.specs.Records.{Form, record_length, fields_at}
use Rattle.history_plans.specs.Asked.{asked}
use Rattle.history_figures.specs.declared.tally.Run.{Run}
use Rattle.history_figures.specs.Figures.{run, new_run, most_records}
use Rattle.history_turns.specs.Turns.{Turn, turn_of, after_turn}

-- what comes of records: where the run stands, the memory, and the calls that were made on the way
pub record Came : Type 0 where
  pub run : Run
  pub memory : Memory
  pub made : List Made

abbrev pub came : Run → Memory → List Made → Came
came r h made = record { run = r; memory = h; made = made }

-- record number i of the bytes
abbrev pub record_at : Form → (N w : ℕ) → List ℕ → (i : ℕ) → Memory → Turn
record_at form N w bytes i h = turn_of N w h (asked N h (fields_at form bytes (record_length form * i)))

-- n records, from number i of the bytes on. "the refused operation changes nothing, and what earlier records did remains": the first
-- that is refused stops the run.
unfoldable pub ran_from : Form → (n N w : ℕ) → List ℕ → (i : ℕ) → Memory → Run → Came
ran_from form zero N w bytes i h r = came r h []
ran_from form (suc n) N w bytes i h r =
    let x = record_at form N w bytes i h in
    let rest = ran_from form n N w bytes (i + 1) x.after (after_turn N x r) in
    elim (eqb x.number 0) [
      | true ↦ came rest.run rest.memory (x.made ++ rest.made)
      | false ↦ came (after_turn N x r) x.after x.made
    ]

-- "the whole records up to that number": those of the bytes, but no more than 4,294,967,295 in all
abbrev pub whole_records : Form → List ℕ → Run → ℕ
whole_records form bytes r = min (length bytes / record_length form) (most_records - r.records)

-- "10 for a file ending inside a record, or going on past 4,294,967,295 records, met after the whole records up to that number": a run at
-- the end of n whole records, none of which was refused, in a piece that goes on behind them
unfoldable pub ended : Form → (size n : ℕ) → Run → Run
ended form size n r =
    elim (eqb r.number 0 && not (eqb size (record_length form * n))) [ true ↦ run 10 r.records r.tally | false ↦ r ]

-- the run goes on over the bytes; one that was stopped does nothing more
unfoldable pub ran : Form → (N w : ℕ) → List ℕ → Memory → Run → Came
ran form N w bytes h r =
    let n = whole_records form bytes r in
    let x = ran_from form n N w bytes 0 h r in
    elim (eqb r.number 0) [ true ↦ came (ended form (length bytes) n x.run) x.memory x.made | false ↦ came r h [] ]

-- a whole history "on a new heap"
abbrev pub history : Form → (N w roots : ℕ) → List ℕ → Came
history form N w roots bytes = ran form N w bytes (formatted N w roots) new_run
