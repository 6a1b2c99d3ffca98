-- `history_records::are_zero` meets its contract: the last test decides, or the first that fails.
use mathlib.Core.Path.{sym, ◌∙◌}
use mathlib.Core.Logic.{inl, inr}
use lib.Dec.{eqb}
use borrow.Author.Tests.{eq-eqb, ne_eqb}
use Rattle.rules.specs.Tools.{all}
use Rattle.rules.proofs.Tests.{all_one}
use Rattle.history_records.proofs.are_zero.Goals.{then-w-eq0, else-w-eq0, then-x-eq0, else-x-eq0}
use Rattle.history_records.proofs.are_zero.Goals as goal

pub returns-then-y-eq0 : goal.returns-then-y-eq0
unfolding all
returns-then-y-eq0 c =
    let zeros = c.if-y-eq0.true in
    rw (eq-eqb _ 0 zeros.0, eq-eqb _ 0 zeros.1, eq-eqb _ 0 zeros.2, all) (sym (all_one (eqb c.args.z 0)))

pub returns-else-y-eq0 : goal.returns-else-y-eq0
unfolding all
returns-else-y-eq0 c = elim c.if-x-eq0.branch [
  | then-x-eq0 u ↦ elim c.if-y-eq0.either [
    | inl some ↦ u.t-6-is ∙ rw (eq-eqb _ 0 some.0, eq-eqb _ 0 some.1, ne_eqb _ 0 some.2, all)
    | inr (inl some) ↦ absurd (some.1 u.if-x-eq0.true.1)
    | inr (inr some) ↦ absurd (some u.if-x-eq0.true.0)
  ]
  | else-x-eq0 u ↦ elim c.if-w-eq0.branch [
    | then-w-eq0 v ↦ elim u.if-x-eq0.either [
      | inl some ↦ u.t-6-is ∙ v.t-7-is ∙ rw (eq-eqb _ 0 some.0, ne_eqb _ 0 some.1, all)
      | inr some ↦ absurd (some v.if-w-eq0.true)
    ]
    | else-w-eq0 v ↦ u.t-6-is ∙ v.t-7-is ∙ rw (ne_eqb _ 0 v.if-w-eq0.false, all)
  ]
]
