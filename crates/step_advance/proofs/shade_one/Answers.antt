-- `step_advance::shade_one` meets its contract.
use mathlib.Core.Path.{◌∙◌}
use Rattle.step_advance.proofs.Flags.{fly_new}
use native.Mathlib.Omega.{arith}
use Rattle.step_advance.proofs.shade_one.Goals as goal

pub returns : goal.returns
returns c =
    fly_new c.args.v c.if-v-eq0.false (omega (arith, c.if-blocks-v.false)) c.requires.0 c.requires.1 c.requires.2
    (λ e. c.if-get_bit-eq1.false (c.get_bit.ensures.0 ∙ e)) c.set_bit.ensures c.set_bit-2.ensures
    (omega (arith, c.min.ensures)) (omega (arith, c.min.ensures))
