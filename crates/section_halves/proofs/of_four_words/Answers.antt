-- `of_four_words` meets its contract: the bytes are the digits of four words, and the figure is theirs.
use mathlib.Core.Path.{ap, ◌∙◌}
use native.Mathlib.Omega.{arith}
use Rattle.rules.specs.Sections.{largest_free}
use Rattle.section_halves.proofs.of_four_words.Goals as goal

pub returns : goal.returns
returns c =
    c.figure_of_four.ensures _ _ c.free_of_four.ensures ∙ ap (largest_free 8 c.args.a.now) (omega arith)
