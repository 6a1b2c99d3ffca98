-- `history_line::write_line` meets its contract.
use Rattle.history_line.proofs.Lines.{figures_written, refusal_written}
use Rattle.history_line.proofs.write_line.Goals as goal

pub returns-then-run-eq0 : goal.returns-then-run-eq0
returns-then-run-eq0 c = let line = figures_written _ c.if-run-eq0.true c.put_figures.ensures.0 in (line.0, line.1, c.put_figures.ensures.1)

pub returns-else-run-eq0 : goal.returns-else-run-eq0
returns-else-run-eq0 c = let line = refusal_written _ c.if-run-eq0.false c.put_refusal.ensures.0 in (line.0, line.1, c.put_refusal.ensures.1)
