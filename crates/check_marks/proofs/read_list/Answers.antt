use mathlib.Core.Path.{◌∙◌}
use mathlib.Core.Bool.{not}
use native.Mathlib.Omega.{arith}
use lib.Dec.{eqb}
use Rattle.check_maps.proofs.Chains.{part_items}
use Rattle.check_marks.proofs.Reading.{reading_start, reading_next, reading_falls, reading_past, reading_ends, reading_all}
use Rattle.check_marks.proofs.read_list.Goals as goal
use Rattle.check_marks.proofs.read_list.Goals.{then-v-before-via-then-v-before, then-v-before-via-else-v-before+then-blocks-v}

pub loop-k-init : goal.loop-k-init
loop-k-init c = reading_start c.requires.2

pub returns-then-v-eq0 : goal.returns-then-v-eq0
returns-then-v-eq0 c =
    reading_ends c.loop-k.invariant c.loop-k-test.true c.if-v-eq0.true
    (c.has_number.ensures ∙ part_items (λ v. not (eqb v 0)) c.args.list.now c.loop-k.k c.args.blocks (omega arith))

pub returns-then-v-before : goal.returns-then-v-before
returns-then-v-before c = elim c.then-v-before.branch [
  | then-v-before-via-then-v-before w ↦ reading_falls c.loop-k.invariant c.loop-k-test.true c.if-v-eq0.false (omega (arith, w.if-v-before.true))
  | then-v-before-via-else-v-before+then-blocks-v w ↦ reading_past c.loop-k.invariant c.loop-k-test.true w.if-blocks-v.true
]

pub loop-k-preserved : goal.loop-k-preserved
loop-k-preserved c =
    reading_next c.loop-k.invariant c.loop-k-test.true (omega arith) (omega arith) (omega arith) c.set_mark.ensures

pub returns : goal.returns
returns c = reading_all c.loop-k.invariant c.loop-k-test.false
