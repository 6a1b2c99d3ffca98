-- `renew_after` meets its contract: where nothing was freed the list is the true one already.
use native.Mathlib.Omega.{arith}
use Rattle.section_figures.proofs.renew_after.Goals as goal

pub returns-else-freed-ne0 : goal.returns-else-freed-ne0
returns-else-freed-ne0 c = c.requires.2 (omega arith)
