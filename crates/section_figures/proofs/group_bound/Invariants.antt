-- `group_bound` meets its contract: no number so far is more than the or so far.
use Rattle.std.proofs.Common.{ℕ, ◌≤◌, ◌<◌, ◌+◌, get_or}
use Rattle.section_figures.proofs.group_bound.Given as goal

abbrev pub invariant-loop-figure : goal.invariant-loop-figure
invariant-loop-figure l = (s : ℕ) → l.from ≤ s → s < l.from + l.figure-index → get_or l.sections s 0 ≤ l.any
