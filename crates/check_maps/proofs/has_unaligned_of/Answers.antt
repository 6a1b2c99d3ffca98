use mathlib.Core.Path.{◌≡◌, sym, ◌∙◌}
use mathlib.Core.Bool.{not}
use mathlib.Core.Logic.{◌≢◌}
use mathlib.Core.List.{List}
use Prim.Native.Nat.{ℕ, ◌+◌, ◌-◌, ◌*◌, ◌%◌, ◌^◌, ◌<◌}
use native.Mathlib.Omega.{arith}
use lib.Bits.{and_le_r}
use lib.Count.{count_trailing_zeros}
use lib.Dec.{eqb}
use Rattle.rules.specs.Heap.{exponent, size_from}
use Rattle.rules.proofs.Stretches.{ToVisit, visit_start, visit_here, visit_next, visit_none, visit_hit}
use Rattle.check_maps.specs.Chunks.{off_chunk}
use Rattle.check_maps.proofs.Eights.{off_is, off_read}
use Rattle.check_maps.proofs.has_unaligned_of.Goals as goal

pub loop-left-init : goal.loop-left-init
loop-left-init c = (
  omega arith,
  visit_start (off_chunk c.args.these c.args.k c.args.blocks c.args.b.now) c.args.these (λ s l. off_is c.args.these c.args.k c.args.blocks c.args.b.now s),
)

-- at the lowest bit that is left the test is whether what starts there is not aligned
read : (these k N left : ℕ) (b : List ℕ) → left < 256 → left ≢ 0 → ToVisit (off_chunk these k N b) these left
    → let i : ℕ = 8 * k + count_trailing_zeros 8 left in
    off_chunk these k N b (count_trailing_zeros 8 left) ≡ not (eqb (i % 2 ^ exponent (size_from (N - i) b i)) 0)
read these k N left b small some v =
    off_read these k N b (count_trailing_zeros 8 left) (visit_here (off_chunk these k N b) these left small some v)

pub returns-then-is_unaligned : goal.returns-then-is_unaligned
returns-then-is_unaligned c =
    visit_hit (off_chunk c.args.these c.args.k c.args.blocks c.args.b.now) c.args.these c.loop-left.left c.loop-left.invariant.0 c.loop-left-test.true
    (read c.args.these c.args.k c.args.blocks c.loop-left.left c.args.b.now c.loop-left.invariant.0 c.loop-left-test.true c.loop-left.invariant.1
    ∙ sym c.is_unaligned.ensures ∙ c.if-is_unaligned.true)

pub loop-left-preserved : goal.loop-left-preserved
loop-left-preserved c = (
  omega (arith, and_le_r c.loop-left.left (c.loop-left.left - 1)),
  visit_next (off_chunk c.args.these c.args.k c.args.blocks c.args.b.now) c.args.these c.loop-left.left c.loop-left.invariant.0 c.loop-left-test.true
      (read c.args.these c.args.k c.args.blocks c.loop-left.left c.args.b.now c.loop-left.invariant.0 c.loop-left-test.true c.loop-left.invariant.1
      ∙ sym c.is_unaligned.ensures ∙ c.if-is_unaligned.false) c.loop-left.invariant.1,
)

pub returns : goal.returns
returns c =
    visit_none (off_chunk c.args.these c.args.k c.args.blocks c.args.b.now) c.args.these c.loop-left.left c.loop-left-test.false c.loop-left.invariant.1
