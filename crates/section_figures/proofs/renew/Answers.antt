use native.Mathlib.Omega.{arith}
use Rattle.section_figures.proofs.Lists.{renewed_all}
use Rattle.section_figures.proofs.renew.Goals as goal

pub returns : goal.returns
returns c =
    renewed_all c.args.blocks c.args.a.now c.renew_part-2.new.sections _ c.renew_part-2.ensures (omega (arith, c.requires.0.length_is))
