-- `check_marks::has_number` meets its contract.
use mathlib.Core.Path.{ap, ◌∙◌}
use mathlib.Core.Bool.{not}
use Prim.Native.Nat.{ℕ}
use lib.Bits.{bit_or}
use lib.Dec.{eqb}
use Rattle.std.proofs.Common.{rules}
use Rattle.std.proofs.lemmas.Iterator.{YieldsList-from_slice}
use Rattle.std.proofs.lemmas.Iterator.Consumers.{fold_from_yields_List}
use Rattle.check_marks.proofs.Tests.{or_items}
use Rattle.check_marks.proofs.has_number.Goals as goal

pub returns : goal.returns
returns c =
    let joined = fold_from_yields_List _ bit_or 0 c.fold.result c.fold.ensures.ran (YieldsList-from_slice c.args.list.now (cc)) (λ a x b q k. search rules) in
    ap (λ (n : ℕ). not (eqb n 0)) joined ∙ or_items c.args.list.now
