-- The statements of specs/Theory.antt, proved.
use Rattle.history_widening.specs.Theory.{WideningTheory}
use Rattle.history_widening.proofs.Alike.{widened_runs_alike, widened_prints_alike}
use Rattle.history_widening.proofs.Pieces.{pieces_widened}
use Rattle.history_widening.proofs.OldForm.{old_is_stopped, old_is_cut_off}

pub widening_theory : WideningTheory
widening_theory =
    record {
      widened_runs_alike = widened_runs_alike;
      widened_prints_alike = widened_prints_alike;
      pieces_widened = pieces_widened;
      old_is_stopped = old_is_stopped;
      old_is_cut_off = old_is_cut_off;
    }
