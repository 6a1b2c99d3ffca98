-- `walk_reader::link_at` meets its contract.
use mathlib.Core.Path.{sym, ap, ◌∙◌}
use Rattle.rules_output.specs.Sentence.{cell_text}
use Rattle.walk_reader.specs.Reader.{seen_in}
use Rattle.walk_reader.proofs.Laws.{not_behind, is_behind}
use Rattle.walk_reader.proofs.Links.{link_words, link_none}
use Rattle.walk_reader.proofs.link_at.Goals as goal

pub returns-in_err-strip_prefix : goal.returns-in_err-strip_prefix
returns-in_err-strip_prefix c =
    ap seen_in c.from_residual.ensures ∙ sym (link_none c.args.text.now (not_behind cell_text c.args.text.now c.in_err-strip_prefix.ensures.cases))

pub returns : goal.returns
returns c =
    let m = c.in_ok-strip_prefix.ensures.cases in
    c.number_at.ensures ∙ sym (link_words c.args.text.now _ (is_behind cell_text c.args.text.now m.0 m.1))
