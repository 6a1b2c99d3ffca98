-- The run that is printed is the outcome's.
use mathlib.Core.Path.{subst}
use Rattle.report.specs.declared.run.Outcome.{Outcome}
use Rattle.report.specs.Meaning.{Reported}
use Rattle.report.proofs.output.tell.Goals as goal

pub print_line-requires : goal.print_line-requires
print_line-requires g c = subst (λ (t : Outcome). Reported t) c.in-Ran.is c.requires
