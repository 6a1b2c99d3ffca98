-- `step_advance::listed_numbers` meets its contract.
use mathlib.Core.Path.{◌≡◌}
use lib.Dec.{eqb}
use lib.ListN.{take}
use Rattle.std.proofs.Common.{rules, tests}
use Rattle.std.specs.List.{position}
use Rattle.std.proofs.lemmas.Iterator.{YieldsList-from_slice}
use Rattle.std.proofs.lemmas.Iterator.Search.{position_from_yields_List}
use Rattle.step_advance.proofs.Progresses.{ended_first}
use Rattle.step_advance.proofs.listed_numbers.Goals as goal

pub returns : goal.returns
returns c =
    let at : c.position.result ≡ position (λ v. eqb v 0) (take c.args.blocks c.args.list.now) =
    position_from_yields_List (λ v. eqb v 0) _ _ c.position.result c.position.ensures.ran (YieldsList-from_slice _ c.iter.ensures.rest)
    (λ v b q k. search (rules, tests)) in
    rw (c.unwrap_or.ensures, at) (ended_first c.requires.0 c.requires.1)
