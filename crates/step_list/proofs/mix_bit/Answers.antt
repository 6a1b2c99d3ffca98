-- `step_list::mix_bit` meets its contract.
use mathlib.Core.Path.{sym, ◌∙◌}
use Rattle.step_list.proofs.Mixing.{mixed_clear, mixed_new, mixed_kept}
use native.Mathlib.Omega.{arith}
use Rattle.step_list.proofs.mix_bit.Goals as goal

pub returns-then-get_bit-eq0 : goal.returns-then-get_bit-eq0
returns-then-get_bit-eq0 c = mixed_clear (sym c.get_bit.ensures.0 ∙ c.if-get_bit-eq0.true) (omega arith) c.set_bit.ensures

pub returns-then-get_bit-eq0-2 : goal.returns-then-get_bit-eq0-2
returns-then-get_bit-eq0-2 c =
    mixed_new (omega (arith, c.get_bit.ensures.0, c.get_bit.ensures.1, c.if-get_bit-eq0.false)) (sym c.get_bit-else-get_bit-eq0.ensures.0 ∙ c.if-get_bit-eq0-2.true) (omega arith) c.set_bit-then-get_bit-eq0-2.ensures

pub returns-else-get_bit-eq0-2 : goal.returns-else-get_bit-eq0-2
returns-else-get_bit-eq0-2 c =
    mixed_kept (omega (arith, c.get_bit.ensures.0, c.get_bit.ensures.1, c.if-get_bit-eq0.false)) (omega (arith, c.get_bit-else-get_bit-eq0.ensures.0, c.get_bit-else-get_bit-eq0.ensures.1, c.if-get_bit-eq0-2.false))
