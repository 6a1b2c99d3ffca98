-- What is stated of the program beside its contracts, as one record, which has one proof (`report_theory`, proofs/Theorems.antt): no
-- statement can be dropped unnoticed.
use Rattle.std.specs.Prelude.{ℕ, ◌%◌, ◌≡◌, List}
use Rattle.history_records.specs.Records.{record_length, wide, old}
use Rattle.history_line.specs.Line.{line}
use Rattle.history_widening.specs.Widening.{widened}
use Rattle.report.specs.Meaning.{reported_in, reported, full_piece}

-- Request U12: "the widened one must print the line the old form gives on a heap of that size".
abbrev pub WidenedIsReported : Type 0
WidenedIsReported = (bytes : List ℕ) → line (reported (widened bytes)).run ≡ line (reported_in old bytes).run

-- A full piece does not end inside a record.
abbrev pub FullPieceIsWhole : Type 0
FullPieceIsWhole = full_piece % record_length wide ≡ 0

pub record ReportTheory : Type 0 where
  pub widened_is_reported : WidenedIsReported
  pub full_piece_is_whole : FullPieceIsWhole
