use mathlib.Core.Path.{sym, ap, ◌∙◌}
use Rattle.rules_output.specs.Sentence.{block_text}
use Rattle.walk_reader.specs.Reader.{seen}
use Rattle.walk_reader.proofs.Laws.{not_behind, is_behind}
use Rattle.walk_reader.proofs.Links.{link_shorter, count_start, count_link, count_no_block, count_no_end, count_end}
use Rattle.walk_reader.proofs.rest_at.Goals as goal

pub loop-after-init : goal.loop-after-init
loop-after-init c = count_start c.args.text.now

pub loop-after-smaller : goal.loop-after-smaller
loop-after-smaller c = link_shorter c.loop-after.rest.now _ _ (sym c.in-Some.ensures)

pub loop-after-preserved : goal.loop-after-preserved
loop-after-preserved c = count_link c.loop-after.invariant _ _ (sym c.in-Some.ensures)

pub returns-in_err-strip_prefix : goal.returns-in_err-strip_prefix
returns-in_err-strip_prefix c =
    ap seen c.from_residual.ensures
    ∙ sym (count_no_block c.loop-after.invariant (sym c.in_default.ensures) (not_behind block_text c.loop-after.rest.now c.in_err-strip_prefix.ensures.cases))

pub returns-in_err-block : goal.returns-in_err-block
returns-in_err-block c =
    let m = c.in_ok-strip_prefix.ensures.cases in
    ap seen c.from_residual-in_err-block.ensures
    ∙ sym
    (count_no_end c.loop-after.invariant (sym c.in_default.ensures) _ (is_behind block_text c.loop-after.rest.now m.0 m.1)
    (sym c.in_err-block.ensures))

pub returns : goal.returns
returns c =
    let m = c.in_ok-strip_prefix.ensures.cases in
    sym
    (count_end c.loop-after.invariant (sym c.in_default.ensures) _ (is_behind block_text c.loop-after.rest.now m.0 m.1) _
    (sym c.in_ok-block.ensures))
