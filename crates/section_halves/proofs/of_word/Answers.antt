-- `of_word` meets its contract: the eight bytes are the digits of a word, and the figure is the word's.
use mathlib.Core.Path.{ap, ◌∙◌}
use native.Mathlib.Omega.{arith}
use Rattle.rules.specs.Sections.{largest_free}
use Rattle.section_halves.proofs.of_word.Goals as goal

pub returns : goal.returns
returns c =
    c.figure.ensures _ _ c.eight_bytes.ensures ∙ ap (largest_free 6 c.args.a.now) (omega arith)
