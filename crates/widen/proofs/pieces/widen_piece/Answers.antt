-- A piece has room in the output, which begins with what it is widened to.
use Rattle.std.proofs.Common.{arith}
use Rattle.history_widening.proofs.Output.{widened_front}
use Rattle.widen.proofs.pieces.widen_piece.Goals as goal

pub hand_on-requires : goal.hand_on-requires
hand_on-requires g c = (widened_front c.widen-n.ensures (omega arith)).0
