use mathlib.Core.Path.{◌≡◌, sym, ◌∙◌}
use mathlib.Core.Logic.{◌≢◌}
use mathlib.Core.List.{List}
use Prim.Native.Nat.{ℕ, ◌+◌, ◌-◌, ◌*◌, ◌<◌}
use native.Mathlib.Omega.{arith}
use lib.Bits.{and_le_r}
use lib.Count.{count_trailing_zeros}
use Rattle.rules.proofs.Stretches.{ToVisit, visit_start, visit_here, visit_next, visit_none, visit_hit}
use Rattle.check_marks.specs.Tidy.{missed_at, missed_of}
use Rattle.check_marks.proofs.Tests.{of_is, of_read}
use Rattle.check_marks.proofs.misses_of.Goals as goal

pub loop-left-init : goal.loop-left-init
loop-left-init c = (
  omega arith,
  visit_start (missed_of c.args.these c.args.k c.args.blocks c.args.b.now c.args.d.now c.args.cells.now c.args.marks.now) c.args.these
      (λ t l. of_is c.args.blocks c.args.b.now c.args.d.now c.args.cells.now c.args.marks.now c.args.these c.args.k t),
)

-- at the lowest bit that is left the test is whether the object there names an unmarked block
read : (N : ℕ) (b d cells marks : List ℕ) (these k left : ℕ) → left < 256 → left ≢ 0 → ToVisit (missed_of these k N b d cells marks) these left
    → missed_of these k N b d cells marks (count_trailing_zeros 8 left) ≡ missed_at N b d cells marks (8 * k + count_trailing_zeros 8 left)
read N b d cells marks these k left small some v =
    of_read N b d cells marks these k (count_trailing_zeros 8 left) (visit_here (missed_of these k N b d cells marks) these left small some v)

pub returns-then-misses_at : goal.returns-then-misses_at
returns-then-misses_at c =
    visit_hit (missed_of c.args.these c.args.k c.args.blocks c.args.b.now c.args.d.now c.args.cells.now c.args.marks.now) c.args.these
    c.loop-left.left c.loop-left.invariant.0 c.loop-left-test.true
    (read c.args.blocks c.args.b.now c.args.d.now c.args.cells.now c.args.marks.now c.args.these c.args.k c.loop-left.left c.loop-left.invariant.0
    c.loop-left-test.true c.loop-left.invariant.1
    ∙ sym c.misses_at.ensures
    ∙ c.if-misses_at.true)

pub loop-left-preserved : goal.loop-left-preserved
loop-left-preserved c = (
  omega (arith, and_le_r c.loop-left.left (c.loop-left.left - 1)),
  visit_next (missed_of c.args.these c.args.k c.args.blocks c.args.b.now c.args.d.now c.args.cells.now c.args.marks.now) c.args.these
      c.loop-left.left c.loop-left.invariant.0 c.loop-left-test.true
      (read c.args.blocks c.args.b.now c.args.d.now c.args.cells.now c.args.marks.now c.args.these c.args.k c.loop-left.left c.loop-left.invariant.0
      c.loop-left-test.true c.loop-left.invariant.1
      ∙ sym c.misses_at.ensures
      ∙ c.if-misses_at.false)
      c.loop-left.invariant.1,
)

pub returns : goal.returns
returns c =
    visit_none (missed_of c.args.these c.args.k c.args.blocks c.args.b.now c.args.d.now c.args.cells.now c.args.marks.now) c.args.these
    c.loop-left.left c.loop-left-test.false c.loop-left.invariant.1
