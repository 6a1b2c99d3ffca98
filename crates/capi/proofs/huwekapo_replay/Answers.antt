-- `huwekapo_replay` meets its contract, which is that of the call it hands on.

use Rattle.capi.proofs.huwekapo_replay.Goals as goal

pub returns : goal.returns
returns c = c.replay.ensures
