use mathlib.Core.Path.{◌∙◌}
use mathlib.Core.List.{[]}
use Prim.Native.Nat.{ℕ, ◌-◌}
use native.Mathlib.Omega.{arith}
use lib.ListN.{length-replicate}
use Rattle.report.specs.Meaning.{full_piece}
use Rattle.report.proofs.Pieces.{kept_start, kept_few, kept_next, kept_ends, no_bytes}
use Rattle.report.proofs.run.run_input.Goals as goal

pub loop-n-init : goal.loop-n-init
loop-n-init g c = (length-replicate {A = ℕ} full_piece 0, [], kept_start c.format.ensures c.new_run-run.ensures)

pub returns-in_default : goal.returns-in_default
returns-in_default g c = ([], no_bytes, tt)

pub loop-n-smaller : goal.loop-n-smaller
loop-n-smaller g c =
    let next = kept_next c.loop-n.invariant.2 _ _ _ _ c.in-GoesOn.is c.run_piece-came.ensures.0 c.run_piece-came.ensures.1 in
    omega (arith, next.1, kept_few next.0)

pub loop-n-preserved : goal.loop-n-preserved
loop-n-preserved g c = (
  c.read_piece.auto.buffer ∙ c.loop-n.invariant.0,
  _,
  (kept_next c.loop-n.invariant.2 _ _ _ _ c.in-GoesOn.is c.run_piece-came.ensures.0 c.run_piece-came.ensures.1).0,
)

pub returns-in-Ends : goal.returns-in-Ends
returns-in-Ends g c =
    kept_ends c.loop-n.invariant.2 _ _ _ _ c.in-Ends.is c.run_piece-came.ensures.0 c.run_piece-came.ensures.1
