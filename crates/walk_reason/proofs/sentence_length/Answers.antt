use native.Mathlib.Omega.{arith}
use mathlib.Core.Path.{◌≡◌}
use lib.ListN.{length}
use Rattle.walk_reason.proofs.Sentences.{none_long, next_long, chain_long}
use Rattle.walk_reason.proofs.sentence_length.Goals as goal

pub returns-in_default : goal.returns-in_default
returns-in_default c = none_long _ _ _ c.in_default.ensures.cases c.digits_of.ensures.0

pub loop-cell-preserved : goal.loop-cell-preserved
loop-cell-preserved c = record {
  long = next_long _ _ _ _ _ _ c.digits_of-in-loop-cell.ensures.0 c.loop-cell.invariant.long;
  small = omega (arith, c.digits_of-in-loop-cell.ensures.1);
}

pub returns : goal.returns
returns c =
    let done : c.loop-cell.cell-index ≡ length c.in-Some.cells.now = omega arith in
    chain_long _ _ _ _ _ _ c.in-Some.ensures.cases.0 c.digits_of-3.ensures.0 (rw done at c.loop-cell.invariant.long)
