-- `fill_free` meets its contract: each number is a section's length.
use Rattle.std.proofs.Common.{◌∙◌}
use Rattle.section_figures.proofs.FreeHeap.{whole_sections}
use Rattle.section_figures.proofs.fill_free.Goals as goal

pub returns : goal.returns
returns c = c.fill.ensures.after (λ y e. e) ∙ whole_sections _ _ _ c.requires.0 c.requires.1 c.section_length.ensures
