-- The statements of specs/Theory.antt, proved.
use mathlib.Core.Path.{refl}
use Rattle.history_widening.proofs.Theorems.{widening_theory}
use Rattle.report_heap.specs.Heap.{report_blocks, report_width, report_roots}
use Rattle.report.specs.Theory.{ReportTheory}

pub report_theory : ReportTheory
report_theory =
    record {
      widened_is_reported = widening_theory.widened_prints_alike report_blocks report_width report_roots;
      full_piece_is_whole = refl;
    }
