-- `is_stale` meets its contract: what the iterator finds is what the rule looks for.
use Rattle.std.proofs.Common.{◌≡◌, ◌≢◌, ℕ, ◌<◌, true, false, rules, length, get_or}
use Rattle.rules.specs.Sections.{figure}
use Rattle.section_figures.proofs.Lists.{found_stale}
use Rattle.section_figures.proofs.is_stale.Goals as goal

pub returns : goal.returns
returns c =
    let hit :
    c.any.result ≡ true
    → (k : ℕ) × (k < length c.args.sections.now) × (get_or c.args.sections.now k 0 ≢ figure c.args.blocks c.args.a.now k) = search rules in
    let none :
    c.any.result ≡ false
    → (k : ℕ) → k < length c.args.sections.now → get_or c.args.sections.now k 0 ≡ figure c.args.blocks c.args.a.now k = search rules in
    found_stale c.args.blocks c.args.a.now c.args.sections.now c.any.result c.requires.2 hit none
