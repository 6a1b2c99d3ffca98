-- `history_line::put_refusal` meets its contract.
use native.Mathlib.Omega.{arith}
use Rattle.history_line.specs.Line.{refusal_line}
use Rattle.history_line.proofs.Lines.{put_next}
use Rattle.history_line.proofs.put_refusal.Goals as goal

pub returns : goal.returns
unfolding refusal_line
returns c = (
  put_next (put_next c.put_text-to.ensures (omega (arith, c.put_text-to.ensures.end_is)) c.put_item-to.ensures.0) (omega (arith, c.put_text-to.ensures.end_is)) c.put_item.ensures.0,
  omega (arith, c.put_text-to.ensures.end_is, c.put_item-to.ensures.1, c.put_item.ensures.1),
)
