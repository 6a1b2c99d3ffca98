-- `step_advance::look_in` meets its contract.
use Rattle.step_advance.proofs.Flags.{looked_none}
use Rattle.step_advance.proofs.look_in.Goals as goal

pub returns-then-flags-from-eq0 : goal.returns-then-flags-from-eq0
returns-then-flags-from-eq0 c = looked_none c.requires.0 c.requires.5 c.if-flags-from-eq0.true
