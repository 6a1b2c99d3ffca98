-- `history_figures::tally::in_range` meets its contract. The tests are sought from the last back: where all but the last hold, the last decides, and
-- where another fails, the run is out of range.
use mathlib.Core.Path.{◌≡◌, sym, ◌∙◌}
use mathlib.Core.Logic.{inl, inr}
use mathlib.Core.Bool.{true, false, true≢false}
use Prim.Native.Nat.{◌*◌, ◌≤◌}
use native.Mathlib.Omega.{arith}
use borrow.Author.Tests.{leb-true, lt-leb}
use Rattle.rules.specs.Heap.{max_blocks}
use Rattle.rules.proofs.Tests.{all_failed}
use Rattle.history_figures.specs.Figures.{most_records, in_range}
use Rattle.history_figures.proofs.Ranges.{most_told, last_decides}
use Rattle.history_figures.proofs.tally.in_range.Goals.{then-run-le-MAX_RECORDS, else-run-le-MAX_RECORDS, then-run-records, else-run-records, then-run-records-2, else-run-records-2, Else-run-records-3}
use Rattle.history_figures.proofs.tally.in_range.Goals as goal

pub returns-then-run-records-3 : goal.returns-then-run-records-3
returns-then-run-records-3 c =
    let (few, allocations, blocks, stuck) = stuck_pass c.if-run-records-3.true in
    last_decides _ few allocations blocks stuck _ (most_told _)
  where
    blocks_pass :
        c.if-run-records.value ≡ true
        → (c.args.run.records ≤ most_records) × (c.args.run.tally.allocations ≤ c.args.run.records)
        × (c.args.run.tally.blocks ≤ max_blocks * c.args.run.records)
    blocks_pass e = elim c.if-run-records.branch [
      | then-run-records w ↦ (w.if-run-records.true.0, w.if-run-records.true.1, leb-true _ _ (sym w.value-is ∙ e))
      | else-run-records w ↦ elim c.if-run-le-MAX_RECORDS.branch [
        | then-run-le-MAX_RECORDS v ↦
            let few : c.args.run.records ≤ most_records = v.if-run-le-MAX_RECORDS.true in
            let allocations : c.args.run.tally.allocations ≤ c.args.run.records = leb-true _ _ (sym v.t-6-is ∙ sym w.value-is ∙ e) in
            elim w.if-run-records.either [ inl out ↦ absurd (omega (arith, out.1)) | inr out ↦ absurd (omega (arith, out)) ]
        | else-run-le-MAX_RECORDS v ↦ absurd (true≢false (sym e ∙ w.value-is ∙ v.t-6-is ∙ lt-leb _ _ v.if-run-le-MAX_RECORDS.false))
      ]
    ]

    stuck_pass :
        c.if-run-records-2.value ≡ true
        → (c.args.run.records ≤ most_records) × (c.args.run.tally.allocations ≤ c.args.run.records)
        × (c.args.run.tally.blocks ≤ max_blocks * c.args.run.records) × (c.args.run.tally.stuck ≤ c.args.run.records)
    stuck_pass e = elim c.if-run-records-2.branch [
      | then-run-records-2 w ↦
          let (few, allocations, blocks) = blocks_pass w.if-run-records-2.true in
          (few, allocations, blocks, leb-true _ _ (sym w.value-is ∙ e))
      | else-run-records-2 w ↦ absurd (true≢false (sym e ∙ w.value-is ∙ w.if-run-records-2.false))
    ]

module _ (c : Else-run-records-3) where
  blocks_fails : c.if-run-records.value ≡ false → in_range c.args.run ≡ false
  unfolding in_range
  blocks_fails e = elim c.if-run-records.branch [
    | then-run-records w ↦ all_failed _ 2 (sym w.value-is ∙ e)
    | else-run-records w ↦ elim w.if-run-records.either [
      | inl out ↦ all_failed _ 1 (lt-leb _ _ out.1)
      | inr out ↦ all_failed _ 0 (lt-leb _ _ out)
    ]
  ]

  stuck_fails : c.if-run-records-2.value ≡ false → in_range c.args.run ≡ false
  unfolding in_range
  stuck_fails e = elim c.if-run-records-2.branch [
    | then-run-records-2 w ↦ all_failed _ 3 (sym w.value-is ∙ e)
    | else-run-records-2 w ↦ blocks_fails w.if-run-records-2.false
  ]

pub returns-else-run-records-3 : goal.returns-else-run-records-3
returns-else-run-records-3 c = c.if-run-records-3.false ∙ sym (stuck_fails c c.if-run-records-3.false)
