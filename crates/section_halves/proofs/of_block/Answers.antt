-- `of_block` meets its contract: the block is free where its bit is 0.
use mathlib.Core.Path.{sym, ◌∙◌}
use Rattle.section_halves.proofs.Figures.{free_block, used_block}
use Rattle.section_halves.proofs.of_block.Goals as goal

pub returns-then-get_bit-eq0 : goal.returns-then-get_bit-eq0
returns-then-get_bit-eq0 c =
    free_block c.args.a.now c.args.at (sym c.get_bit.ensures.0 ∙ c.if-get_bit-eq0.true)

pub returns-else-get_bit-eq0 : goal.returns-else-get_bit-eq0
returns-else-get_bit-eq0 c =
    used_block c.args.a.now c.args.at (λ e. c.if-get_bit-eq0.false (c.get_bit.ensures.0 ∙ e))
