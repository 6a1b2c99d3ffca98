use native.Mathlib.Omega.{arith}
use Rattle.step_list.proofs.Bits.{passed_start, passed_eight}
use Rattle.step_list.proofs.pass_zeros.Goals as goal

pub loop-k-init : goal.loop-k-init
loop-k-init c = passed_start (omega arith)

pub overflow_sub-end : goal.overflow_sub-end
overflow_sub-end c = omega (arith, c.loop-k.invariant.end_le)

pub returns-then-eight_bytes-ne0 : goal.returns-then-eight_bytes-ne0
returns-then-eight_bytes-ne0 c = c.loop-k.invariant

pub loop-k-preserved : goal.loop-k-preserved
loop-k-preserved c =
    passed_eight c.loop-k.k c.loop-k.invariant (omega arith) c.eight_bytes.ensures c.if-eight_bytes-ne0.false

pub returns : goal.returns
returns c = c.loop-k.invariant
