-- `look` meets its contract: it is refused as the check refuses, or reads size and count.
use mathlib.Core.Path.{refl, sym}
use native.Mathlib.Omega.{arith}
use Rattle.types.proofs.Refused.{number_ne0}
use Rattle.rules.proofs.Shape.{shape_facts}
use Rattle.public_read.proofs.CheckReply.{refused_alike, checked_fit, look_passed}
use Rattle.public_read.proofs.look.Goals as goal

pub returns-in-Err : goal.returns-in-Err
returns-in-Err c = rw c.into.ensures (refused_alike refl c.in-Err.ensures (number_ne0 _))

pub look_reply-requires : goal.look_reply-requires
look_reply-requires c =
    let lengths = shape_facts _ _ _ (checked_fit c.in_default.ensures refl).intact.right_shape in
    (sym lengths.whole_bytes, omega arith, omega arith, lengths.width_max, lengths.length_counts)

pub returns : goal.returns
returns c =
    look_passed c.in_default.ensures refl c.look_reply.ensures
