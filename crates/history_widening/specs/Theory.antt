-- All that is stated of widened and of old histories, as one record, which has one proof (`widening_theory`, proofs/Theorems.antt): no
-- statement can be dropped unnoticed.
use Rattle.history_widening.specs.Claims.{WidenedRunsAlike, WidenedPrintsAlike, PiecesWidened, OldIsStopped, OldIsCutOff}

pub record WideningTheory : Type 0 where
  -- widened histories
  pub widened_runs_alike : WidenedRunsAlike
  pub widened_prints_alike : WidenedPrintsAlike
  pub pieces_widened : PiecesWidened
  -- old ones, given unwidened
  pub old_is_stopped : OldIsStopped
  pub old_is_cut_off : OldIsCutOff
