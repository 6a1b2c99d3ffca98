use mathlib.Core.Path.{sym, ◌∙◌}
use Rattle.step_list.proofs.Bits.{passed_start, passed_bit, passed_bytes, passed_found, passed_all, set_is, clear_is}
use native.Mathlib.Omega.{arith}
use Rattle.step_list.proofs.next_bit.Goals as goal

pub loop-i-init : goal.loop-i-init
loop-i-init c = passed_start c.requires.0

pub overflow_mul-i : goal.overflow_mul-i
overflow_mul-i c = omega (arith, c.pass_zeros-i.ensures.end_le)

pub loop-i-smaller-then-map-i-eq0 : goal.loop-i-smaller-then-map-i-eq0
loop-i-smaller-then-map-i-eq0 c = omega (arith, c.pass_zeros-i.ensures.from_le, c.pass_zeros-i.ensures.end_le)

pub loop-i-preserved-then-map-i-eq0 : goal.loop-i-preserved-then-map-i-eq0
loop-i-preserved-then-map-i-eq0 c = passed_bytes c.pass_zeros-i.result c.loop-i.invariant c.loop-i-test.true c.requires.1 c.if-map-i-eq0.true c.pass_zeros-i.ensures

pub returns-then-get_bit-eq1 : goal.returns-then-get_bit-eq1
returns-then-get_bit-eq1 c = passed_found c.loop-i.invariant c.loop-i-test.true (set_is _ _ (sym c.get_bit.ensures.0 ∙ c.if-get_bit-eq1.true))

pub loop-i-preserved : goal.loop-i-preserved
loop-i-preserved c = passed_bit c.loop-i.invariant c.loop-i-test.true (clear_is _ _ (λ e. c.if-get_bit-eq1.false (c.get_bit.ensures.0 ∙ e)))

pub returns : goal.returns
returns c = passed_all c.loop-i.invariant (omega arith)
