-- `history_line::put_figures` meets its contract: six items, one behind the other.
use native.Mathlib.Omega.{arith}
use Rattle.history_line.specs.Line.{figures_line}
use Rattle.history_line.proofs.Lines.{put_next}
use Rattle.history_line.proofs.put_figures.Goals as goal

pub returns : goal.returns
unfolding figures_line
returns c = (
  put_next
      (put_next (put_next (put_next (put_next c.put_item-to.ensures.0 (omega arith) c.put_item-to-2.ensures.0) (omega arith) c.put_item-to-3.ensures.0) (omega arith) c.put_item-to-4.ensures.0) (omega arith) c.put_item-to-5.ensures.0)
      (omega arith) c.put_item.ensures.0,
  omega (arith, c.put_item-to.ensures.1, c.put_item-to-2.ensures.1, c.put_item-to-3.ensures.1, c.put_item-to-4.ensures.1, c.put_item-to-5.ensures.1, c.put_item.ensures.1),
)
