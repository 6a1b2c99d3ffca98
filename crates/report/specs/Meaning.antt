-- What the answers of the program stand for. "Where an answer is an enum, a definition gives this paper's number and values for each of
-- its cases. The promises use that definition."
use Rattle.std.specs.Prelude.{ℕ, ◌*◌, ◌≤◌, ◌<◌, ◌≡◌, List, length}
use Rattle.bitmap.specs.Bit.{Bytes}
use Rattle.rules.specs.Heap.{Memory}
use Rattle.rules_calls.specs.Calls.{reply}
use Rattle.history_records.specs.Records.{Form, record_length, wide}
use Rattle.history_figures.specs.declared.tally.Run.{Run}
use Rattle.history_line.specs.Line.{line}
use Rattle.history_runs.specs.declared.Ran.{Ran}
use Rattle.history_runs.specs.Runs.{Came, history}
use Rattle.history_runs.specs.Promised.{Promised}
use Rattle.report_heap.specs.Heap.{report_blocks, report_width, report_roots}
use Rattle.report.specs.declared.run.Outcome.{Outcome}
use Rattle.report.specs.declared.run.Outcome.TheVariants.{Ran as ran_to, ReadFailed, HeapRefused}
use Rattle.report.specs.declared.run.PieceOutcome.{PieceOutcome}
use Rattle.report.specs.declared.run.PieceOutcome.TheVariants.{GoesOn, Ends}

-- what comes of bytes on the program's new heap, as records of a form
abbrev pub reported_in : Form → List ℕ → Came
reported_in form bytes = history form report_blocks report_width report_roots bytes

-- what comes of the bytes of standard input
abbrev pub reported : List ℕ → Came
reported bytes = reported_in wide bytes

-- What came of the input, whose bytes these are: the run of all of them; after a read that failed nothing; and a refused heap can't be.
abbrev pub meaning : List ℕ → Outcome → Type 0
meaning bytes (ran_to r) = r ≡ (reported bytes).run
meaning bytes ReadFailed = Unit {0}
meaning bytes HeapRefused = ⊥

-- The library's read promises nothing of the bytes that it gives, so of an outcome it is said that there are such bytes.
abbrev pub Reported : Outcome → Type 0
Reported outcome = (bytes : List ℕ) × Bytes bytes × meaning bytes outcome

-- .. of a run that it is the run of such bytes
abbrev pub ReportedRun : Run → Type 0
ReportedRun r = Reported (ran_to r)

-- .. and of a text that it is the line that such bytes print
abbrev pub ReportLine : List ℕ → Type 0
ReportLine text = (bytes : List ℕ) × Bytes bytes × (text ≡ line (reported bytes).run)

-- the bytes of a full piece
abbrev pub full_piece : ℕ
full_piece = 87381 * record_length wide

-- an accepted call on records, which answers the run
abbrev pub accepting : Run → Ran
accepting r = record { reply = reply 0 0 0; run = r }

-- What came of a last piece, on the heap h from where the run r stood, when the heap is left as g: a run that was stopped, or whose piece
-- was not full; no read is made here; a refused heap.
abbrev pub last_meaning : List ℕ → Memory → Run → Outcome → Memory → Type 0
last_meaning bytes h r (ran_to next) g =
    Promised report_blocks report_width bytes h r (accepting next) g × (next.number ≡ 0 → length bytes < full_piece)
last_meaning bytes h r ReadFailed g = ⊥
last_meaning bytes h r HeapRefused g = (x : Ran) × Promised report_blocks report_width bytes h r x g × (x.reply.number ≡ 0 → ⊥)

-- What came of a piece: a run that goes on after a full piece; or the outcome of the last.
abbrev pub piece_meaning : List ℕ → Memory → Run → PieceOutcome → Memory → Type 0
piece_meaning bytes h r (GoesOn next) g =
    Promised report_blocks report_width bytes h r (accepting next) g × (next.number ≡ 0) × (full_piece ≤ length bytes)
piece_meaning bytes h r (Ends outcome) g = last_meaning bytes h r outcome g
