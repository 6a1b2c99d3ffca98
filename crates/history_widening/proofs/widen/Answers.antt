use mathlib.Core.Path.{refl}
use native.Mathlib.Omega.{arith}
use lib.ListN.{length-take, length-drop}
use Rattle.history_widening.proofs.Output.{too_short, none_written, one_more, all_written}
use Rattle.history_widening.proofs.widen.Goals as goal

pub returns-then-out-bytes : goal.returns-then-out-bytes
returns-then-out-bytes c = too_short (omega arith) refl

pub loop-i-init : goal.loop-i-init
loop-i-init c = none_written (omega arith)

pub widen_record-requires : goal.widen_record-requires
widen_record-requires c = (omega arith, omega (arith, c.loop-i.invariant.room, c.loop-i.invariant.same_length))

pub loop-i-preserved : goal.loop-i-preserved
loop-i-preserved c =
    one_more c.loop-i.invariant c.loop-i-test.true c.widen_record.ensures

pub overflow_mul-records-2 : goal.overflow_mul-records-2
overflow_mul-records-2 c = omega (arith, c.loop-i.invariant.room)

pub put_text-requires : goal.put_text-requires
put_text-requires c =
    simp (length-take, length-drop) (omega (arith, c.loop-i.invariant.room, c.loop-i.invariant.same_length))

pub returns : goal.returns
returns c =
    all_written c.loop-i.invariant (omega arith) c.put_text.ensures
