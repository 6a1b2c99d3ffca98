-- `renew_part` meets its contract: the figures before number s are known.
use Rattle.section_figures.specs.Figures.{Renewed}
use Rattle.section_figures.proofs.renew_part.Given as goal

abbrev pub invariant-loop-s : goal.invariant-loop-s
invariant-loop-s l = Renewed l.blocks l.a l.sections l.s
