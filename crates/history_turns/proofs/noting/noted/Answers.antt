-- `noting::noted` meets its contract.
use mathlib.Core.Path.{◌≡◌, ap, ◌∙◌}
use Prim.Native.Nat.{ℕ, ◌+◌, ◌-◌}
use native.Mathlib.Omega.{arith}
use borrow.Author.Tests.{eq-eqb, ne_eqb}
use Rattle.history_figures.specs.declared.tally.Tally.{Tally}
use Rattle.history_figures.specs.Figures.{run, used, moment_in}
use Rattle.history_turns.specs.declared.outcome.Done.{Done}
use Rattle.history_turns.specs.Outcomes.{running, with_collection, with_allocation, figures_of, noted_by}
use Rattle.history_turns.proofs.Notes.{collection_grows, allocation_grows}
use Rattle.history_turns.proofs.noting.noted.Goals as goal

-- the figures with what came of the record, one part after the other
figures :
    (done : Done) (t : Tally) {first second third : Tally} → first ≡ with_collection done t → second ≡ with_allocation done first
    → third ≡ moment_in done.stuck second → third ≡ figures_of done t
figures done t first second third = third ∙ ap (moment_in done.stuck) (second ∙ ap (with_allocation done) first)

pub with_allocation-t-requires : goal.with_allocation-t-requires
with_allocation-t-requires c =
    let grown = collection_grows c.args.done c.args.state.run.tally in
    (omega (arith, ap (λ (t : Tally). t.allocations) c.with_collection-t.ensures, grown.1), omega (arith, ap (λ (t : Tally). t.blocks) c.with_collection-t.ensures, grown.2))

pub with_moment-t-requires : goal.with_moment-t-requires
with_moment-t-requires c =
    let first = collection_grows c.args.done c.args.state.run.tally in
    let second = allocation_grows c.args.done c.with_collection-t.result in
    omega (
      arith,
      ap (λ (t : Tally). t.stuck) c.with_allocation-t.ensures,
      second.4,
      ap (λ (t : Tally). t.stuck) c.with_collection-t.ensures,
      first.3,
    )

pub returns-then-done-ne0 : goal.returns-then-done-ne0
unfolding noted_by
returns-then-done-ne0 c =
    rw (ne_eqb _ 0 c.if-done-ne0.true, noted_by)
    (ap (λ (t : Tally). running (run c.args.done.number c.args.state.run.records t) (c.args.state.used + c.args.done.allocated - c.args.done.freed)) (figures c.args.done c.args.state.run.tally c.with_collection-t.ensures c.with_allocation-t.ensures c.with_moment-t.ensures))

pub returns-else-done-ne0 : goal.returns-else-done-ne0
unfolding noted_by
returns-else-done-ne0 c =
    let blocks : ℕ = c.args.state.used + c.args.done.allocated - c.args.done.freed in
    rw (eq-eqb _ 0 c.if-done-ne0.false, noted_by)
    (ap (λ (t : Tally). running (run 0 (c.args.state.run.records + 1) t) blocks) (c.used.ensures ∙ ap (used blocks) (figures c.args.done c.args.state.run.tally c.with_collection-t.ensures c.with_allocation-t.ensures c.with_moment-t.ensures)))
