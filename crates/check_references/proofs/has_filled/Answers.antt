-- `check_references::has_filled` meets its contract.
use mathlib.Core.Path.{sym, ◌∙◌}
use lib.Bits.{bit_or}
use Rattle.std.proofs.Common.{rules}
use Rattle.std.proofs.lemmas.Iterator.{YieldsList-from_slice}
use Rattle.std.proofs.lemmas.Iterator.Consumers.{fold_from_yields_List}
use borrow.Author.Tests.{tests}
use Rattle.check_references.proofs.Folds.{or_zeros}
use Rattle.check_references.proofs.has_filled.Goals as goal

pub returns : goal.returns
returns c =
    let joined = fold_from_yields_List _ bit_or 0 c.fold.result c.fold.ensures.ran (YieldsList-from_slice c.args.cells.now (cc)) (λ a x b q k. search rules) in
    λ e. or_zeros 0 c.args.cells.now (sym joined ∙ search (rules, tests))
