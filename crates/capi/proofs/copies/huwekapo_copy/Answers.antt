-- `huwekapo_copy` meets its contract, which is that of the public call.

use Rattle.capi.proofs.copies.huwekapo_copy.Goals as goal

pub returns : goal.returns
returns c = c.copy.ensures
