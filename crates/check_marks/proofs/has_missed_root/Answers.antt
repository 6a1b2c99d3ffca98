-- `check_marks::has_missed_root` meets its contract.
use mathlib.Core.Bool.{not, ◌&&◌}
use Prim.Native.Nat.{◌-◌}
use lib.Dec.{eqb}
use Rattle.std.proofs.Common.{rules}
use borrow.Author.Tests.{tests}
use Rattle.rules_steps.specs.Steps.{root_missed}
use Rattle.step_list.specs.Lists.{is_set}
use Rattle.check_maps.proofs.Chains.{any_items}
use Rattle.check_marks.proofs.has_missed_root.Goals as goal

pub returns : goal.returns
unfolding root_missed
returns c =
    any_items (λ v. not (eqb v 0) && not (is_set c.args.marks.now (v - 1))) c.args.roots.now _ _ c.any.result c.any.ensures.ran (cc)
    (λ x b q k. search (rules, tests))
