-- `huwekapo_run_records` meets its contract, which is that of the call it hands on.

use Rattle.capi.proofs.runs.huwekapo_run_records.Goals as goal

pub returns : goal.returns
returns c = c.run_records.ensures
