-- `check_shape::is_shaped` meets its contract. Where a test fails, it is sought from the last back: of each test that was made after all before it
-- held, `.._fails` says that the shape is not right where that test or an earlier one failed.
use mathlib.Core.Path.{◌≡◌, sym, ap, ◌∙◌}
use mathlib.Core.Bool.{false, ◌&&◌}
use lib.Dec.{leb, eqb}
use Rattle.std.proofs.Common.{arith}
use Rattle.std.proofs.lemmas.Grind.{common_steps}
use Rattle.std.proofs.lemmas.Bool.Decides.{nat_tests}
use Rattle.rules.specs.Heap.{shape}
use Rattle.rules.proofs.Tests.{all_failed}
use Rattle.check_shape.proofs.Powers.{both_failed}
use Rattle.check_shape.proofs.is_shaped.Goals.{then-d-blocks, else-d-blocks, then-sections-section_count, else-sections-section_count, then-waiting-blocks, else-waiting-blocks, then-cells-blocks, else-cells-blocks, then-counts-width, else-counts-width, then-b-blocks, else-b-blocks, then-a-blocks, else-a-blocks, then-contains-2, else-contains-2, then-contains, else-contains, then-is_blocks, else-is_blocks}
use Rattle.check_shape.proofs.is_shaped.Goals as goal

module _ (c : goal.Else-marks-blocks) where
  abbrev Wrong : Type 0
  Wrong =
      let x = c.args in
      shape x.blocks x.width x.a x.b x.counts x.cells x.roots x.waiting x.sections x.d x.marks x.list ≡ false

  width_fails : c.if-is_blocks.value ≡ false → Wrong
  unfolding shape
  width_fails e = elim c.if-is_blocks.branch [
    | then-is_blocks w ↦
        let h : leb 1 c.args.width && leb c.args.width 4 ≡ false = grind (arith, nat_tests, common_steps) in both_failed _ 1 h
    | else-is_blocks w ↦ all_failed _ 0 (sym c.is_blocks.ensures ∙ w.if-is_blocks.false)
  ]

  roots_fails : c.if-contains.value ≡ false → Wrong
  unfolding shape
  roots_fails e = elim c.if-contains.branch [
    | then-contains w ↦
        let h : leb 1 c.args.roots && leb c.args.roots 64 ≡ false = grind (arith, nat_tests, common_steps) in both_failed _ 3 h
    | else-contains w ↦ width_fails w.if-contains.false
  ]

  a_fails : c.if-contains-2.value ≡ false → Wrong
  unfolding shape
  a_fails e = elim c.if-contains-2.branch [
    | then-contains-2 w ↦ all_failed _ 5 (sym w.value-is ∙ e)
    | else-contains-2 w ↦ roots_fails w.if-contains-2.false
  ]

  b_fails : c.if-a-blocks.value ≡ false → Wrong
  unfolding shape
  b_fails e = elim c.if-a-blocks.branch [
    | then-a-blocks w ↦ all_failed _ 6 (sym w.value-is ∙ e)
    | else-a-blocks w ↦ a_fails w.if-a-blocks.false
  ]

  counts_fails : c.if-b-blocks.value ≡ false → Wrong
  unfolding shape
  counts_fails e = elim c.if-b-blocks.branch [
    | then-b-blocks w ↦ all_failed _ 7 (sym w.value-is ∙ e)
    | else-b-blocks w ↦ b_fails w.if-b-blocks.false
  ]

  cells_fails : c.if-counts-width.value ≡ false → Wrong
  unfolding shape
  cells_fails e = elim c.if-counts-width.branch [
    | then-counts-width w ↦ all_failed _ 8 (sym w.value-is ∙ e)
    | else-counts-width w ↦ counts_fails w.if-counts-width.false
  ]

  waiting_fails : c.if-cells-blocks.value ≡ false → Wrong
  unfolding shape
  waiting_fails e = elim c.if-cells-blocks.branch [
    | then-cells-blocks w ↦ all_failed _ 9 (sym w.value-is ∙ e)
    | else-cells-blocks w ↦ cells_fails w.if-cells-blocks.false
  ]

  sections_fails : c.if-waiting-blocks.value ≡ false → Wrong
  unfolding shape
  sections_fails e = elim c.if-waiting-blocks.branch [
    | then-waiting-blocks w ↦ all_failed _ 10 (ap (eqb c.args.sections) (sym w.section_count.ensures) ∙ sym w.value-is ∙ e)
    | else-waiting-blocks w ↦ waiting_fails w.if-waiting-blocks.false
  ]

  d_fails : c.if-sections-section_count.value ≡ false → Wrong
  unfolding shape
  d_fails e = elim c.if-sections-section_count.branch [
    | then-sections-section_count w ↦ all_failed _ 11 (sym w.value-is ∙ e)
    | else-sections-section_count w ↦ sections_fails w.if-sections-section_count.false
  ]

  marks_fails : c.if-d-blocks.value ≡ false → Wrong
  unfolding shape
  marks_fails e = elim c.if-d-blocks.branch [
    | then-d-blocks w ↦ all_failed _ 12 (sym w.value-is ∙ e)
    | else-d-blocks w ↦ d_fails w.if-d-blocks.false
  ]

pub returns-else-marks-blocks : goal.returns-else-marks-blocks
returns-else-marks-blocks c = c.if-marks-blocks.false ∙ sym (marks_fails c c.if-marks-blocks.false)
