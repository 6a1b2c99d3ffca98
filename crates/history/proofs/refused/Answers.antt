-- `refused` meets its contract: the run answered is a new one.
use mathlib.Core.Path.{ap}
use Rattle.history_figures.specs.declared.tally.Run.{Run}
use Rattle.history.proofs.refused.Goals as goal

pub returns : goal.returns
returns c = ap (λ (r : Run). record { reply = c.args.reply; run = r }) c.new_run.ensures
