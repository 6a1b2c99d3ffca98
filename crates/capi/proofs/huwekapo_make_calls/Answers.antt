-- `huwekapo_make_calls` meets its contract, which is that of the call it hands on.

use Rattle.capi.proofs.huwekapo_make_calls.Goals as goal

pub returns : goal.returns
returns c = c.make_calls.ensures
