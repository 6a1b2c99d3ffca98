-- `read_number` meets its contract: it is refused as the check refuses, or reads the cell.
use mathlib.Core.Path.{refl}
use native.Mathlib.Omega.{arith}
use Rattle.types.proofs.Refused.{number_ne0}
use Rattle.rules.proofs.Shape.{shape_facts}
use Rattle.public_read.proofs.CheckReply.{refused_alike, checked_fit, read_passed}
use Rattle.public_read.proofs.read_number.Goals as goal

pub returns-in-Err : goal.returns-in-Err
returns-in-Err c = rw c.into.ensures (refused_alike refl c.in-Err.ensures (number_ne0 _))

pub read_reply-requires : goal.read_reply-requires
read_reply-requires c =
    let lengths = shape_facts _ _ _ (checked_fit c.in_default.ensures refl).intact.right_shape in
    (omega arith, omega arith, lengths.blocks_max, omega arith, lengths.length_cells)

pub returns : goal.returns
returns c =
    rw c.into-2.ensures (read_passed c.in_default.ensures refl c.read_reply.ensures)
