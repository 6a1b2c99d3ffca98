-- `renew` meets its contract: the figures of the groups so far are known.
use Rattle.std.proofs.Common.{◌*◌}
use Rattle.section_figures.specs.Figures.{Renewed}
use Rattle.section_figures.proofs.renew.Given as goal

abbrev pub invariant-loop-group : goal.invariant-loop-group
invariant-loop-group l = Renewed l.blocks l.a l.sections (l.group * 16)
