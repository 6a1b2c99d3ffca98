-- `public_example::mixed::mixed_calls` meets its contract: its calls, the run's and the replay's are one list behind an
-- accepted format.
use mathlib.Core.Path.{refl}
use Rattle.public_example.proofs.OneList.{mixed}
use Rattle.public_example.proofs.mixed.mixed_calls.Goals as goal

pub returns-then-number-ne0 : goal.returns-then-number-ne0
returns-then-number-ne0 c = record { refused = λ _. (c.format-formatting.ensures, refl); accepted = λ e. absurd (c.if-number-ne0.true e) }

pub returns : goal.returns
returns c =
    record {
      refused = λ n. absurd (n c.if-number-ne0.false);
      accepted = λ e.
          mixed c.format-formatting.ensures e c.allocate.ensures c.new_run-run.ensures
          c.run_records.ensures c.replay.ensures c.collect.ensures;
    }
