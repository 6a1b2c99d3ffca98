-- What is proved of widened histories, and of old ones that are given unwidened.
use Rattle.std.specs.Prelude.{ℕ, ◌%◌, ◌≤◌, ◌<◌, ◌≡◌, ◌≢◌, List, ◌++◌, length, get_or}
use Rattle.rules.specs.Heap.{Memory}
use Rattle.rules_stores.specs.Store.{formatted}
use Rattle.history_records.specs.Records.{record_length, wide, old}
use Rattle.history_figures.specs.declared.tally.Run.{Run}
use Rattle.history_figures.specs.Figures.{no_figures, run}
use Rattle.history_line.specs.Line.{line}
use Rattle.history_runs.specs.Runs.{record_at, ran, history}
use Rattle.history_widening.specs.Widening.{widened}

-- On every heap, and from every run on, the widened bytes come to what the old ones come to in the old form: the run with its figures, the
-- memory, and the calls made.
abbrev pub WidenedRunsAlike : Type 0
WidenedRunsAlike = (N w : ℕ) (bytes : List ℕ) (h : Memory) (r : Run) → ran wide N w (widened bytes) h r ≡ ran old N w bytes h r

-- "the widened one must print the line the old form gives on a heap of that size": of every size
abbrev pub WidenedPrintsAlike : Type 0
WidenedPrintsAlike =
    (N w roots : ℕ) (bytes : List ℕ) → line (history wide N w roots (widened bytes)).run ≡ line (history old N w roots bytes).run

-- An old history may be widened in pieces of whole records.
abbrev pub PiecesWidened : Type 0
PiecesWidened = (first rest : List ℕ) → length first % record_length old ≡ 0 → widened (first ++ rest) ≡ widened first ++ widened rest

-- An old history does not pass for one of the new form. Where the old form accepts its first record and another one follows, whose operation
-- is not 0, the first record stops the run with 9: the operation of the next stands in its size, its own size in its cell.
abbrev pub OldIsStopped : Type 0
OldIsStopped =
    (N w roots : ℕ) (bytes : List ℕ) → (record_at old N w bytes 0 (formatted N w roots)).number ≡ 0
    → record_length wide ≤ length bytes → get_or bytes (record_length old) 0 ≢ 0
    → (history wide N w roots bytes).run ≡ run 9 0 no_figures

-- .. and where it has one record, the file ends inside it
abbrev pub OldIsCutOff : Type 0
OldIsCutOff =
    (N w roots : ℕ) (bytes : List ℕ) → 0 < length bytes → length bytes < record_length wide
    → (history wide N w roots bytes).run ≡ run 10 0 no_figures
