-- `collect_counts::gather` meets its contract.
use mathlib.Core.Path.{◌∙◌}
use Rattle.bitmap.proofs.Digits.{digit_mod}
use Rattle.collect_counts.proofs.Gathers.{eight, gathered}
use Rattle.collect_counts.proofs.gather.Goals as goal

pub returns : goal.returns
returns c = λ s l. digit_mod (eight c.args.x c.args.p) 8 s l ∙ gathered c.args.x c.args.p s l
