-- `noting::with_moment` meets its contract.
use Rattle.history_figures.specs.Figures.{moment_in}
use Rattle.history_turns.proofs.noting.with_moment.Goals as goal

pub returns-then-done : goal.returns-then-done
unfolding moment_in
returns-then-done c = rw (c.if-done.true, moment_in) c.became_stuck.ensures

pub returns-else-done : goal.returns-else-done
unfolding moment_in
returns-else-done c = rw (c.if-done.false, moment_in)
