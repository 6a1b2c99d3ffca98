use mathlib.Core.Path.{refl, ◌∙◌}
use Rattle.step_list.proofs.Mixing.{mixing_start, mixing_bit, mixing_byte, mixing_all}
use native.Mathlib.Omega.{arith}
use Rattle.step_list.proofs.mix.Goals as goal

pub loop-i-init : goal.loop-i-init
loop-i-init c = (mixing_start, refl)

pub loop-i-preserved-then-old-i : goal.loop-i-preserved-then-old-i
loop-i-preserved-then-old-i c = (mixing_byte c.loop-i.invariant.0 c.loop-i-test.true c.requires.0 c.requires.5 c.if-old-i.true, c.loop-i.invariant.1)

pub loop-i-preserved : goal.loop-i-preserved
loop-i-preserved c = (mixing_bit c.loop-i.invariant.0 c.loop-i-test.true c.mix_bit.ensures, c.mix_bit.auto.map ∙ c.loop-i.invariant.1)

pub returns : goal.returns
returns c = mixing_all c.loop-i.invariant.0 (omega arith)
