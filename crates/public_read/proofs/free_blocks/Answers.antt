-- `free_blocks` meets its contract: it is refused as the check refuses, or counts the free blocks.
use mathlib.Core.Path.{refl}
use native.Mathlib.Omega.{arith}
use Rattle.types.proofs.Refused.{number_ne0}
use Rattle.rules.proofs.Shape.{shape_facts}
use Rattle.public_read.proofs.CheckReply.{refused_alike, checked_fit, free_blocks_passed}
use Rattle.public_read.proofs.free_blocks.Goals as goal

pub returns-in-Err : goal.returns-in-Err
returns-in-Err c = rw c.into.ensures (refused_alike refl c.in-Err.ensures (number_ne0 _))

pub count_zeros-requires : goal.count_zeros-requires
count_zeros-requires c =
    let lengths = shape_facts _ _ _ (checked_fit c.in_default.ensures refl).intact.right_shape in
    omega arith

pub returns : goal.returns
returns c =
    free_blocks_passed c.in_default.ensures refl
    c.acceptance.ensures c.count_zeros.ensures.0
