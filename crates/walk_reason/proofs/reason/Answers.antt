-- `walk_reason::reason` meets its contract.
use mathlib.Core.Path.{sym, ◌∙◌}
use Rattle.rules.proofs.Objects.{first_facts}
use Rattle.walk_objects.proofs.Beginning.{walkable}
use Rattle.walk_reason.proofs.Reasons.{refused_six, refused_short, accepted_long}
use Rattle.walk_reason.proofs.reason.Goals as goal

pub is_first-requires : goal.is_first-requires
is_first-requires c =
    let l = walkable c.requires in
    (l.long_a, l.long_b)

pub returns-then-not-is_first : goal.returns-then-not-is_first
returns-then-not-is_first c =
    refused_six c.requires c.args.at _ _ (sym c.is_first.ensures ∙ c.if-not-is_first.true) c.into.ensures

pub reason_in-requires : goal.reason_in-requires
reason_in-requires c =
    let first = sym c.is_first.ensures ∙ c.if-not-is_first.false in
    (walkable c.requires, (first_facts c.args.blocks c.args.a.now c.args.b.now c.args.at first).inside)

pub returns-in-None : goal.returns-in-None
returns-in-None c =
    refused_short c.requires c.args.at (sym c.is_first.ensures ∙ c.if-not-is_first.false) _ c.in-None.ensures c.into-in-None.ensures

pub returns-in-Some : goal.returns-in-Some
returns-in-Some c =
    accepted_long c.requires c.args.at (sym c.is_first.ensures ∙ c.if-not-is_first.false) _ c.in-Some.ensures c.acceptance.ensures
