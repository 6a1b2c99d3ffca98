-- `public_output::shape` meets its contract: it is refused as the check refuses, or writes the output.
use mathlib.Core.Path.{refl}
use Rattle.types.proofs.Refused.{number_ne0}
use Rattle.public_read.proofs.CheckReply.{checked_fit}
use Rattle.public_output.proofs.Refused.{output_alike}
use Rattle.public_output.proofs.shape.Goals as goal

pub returns-in-Err : goal.returns-in-Err
returns-in-Err c = rw c.into.ensures (output_alike refl _ c.in-Err.ensures (number_ne0 _))

pub shape-requires : goal.shape-requires
shape-requires c =
    checked_fit c.in_default.ensures refl

pub returns : goal.returns
returns c = c.shape.ensures
