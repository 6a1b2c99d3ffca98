-- `run::run_piece` meets its contract: the whole records, and what the piece ends in.
use mathlib.Core.Path.{ap}
use Prim.Native.Nat.{ℕ, ◌-◌}
use native.Mathlib.Omega.{arith}
use Rattle.theory.proofs.Usable.UsableHeap.{usable_healthy}
use Rattle.history_figures.proofs.Ranges.{in_range_within}
use Rattle.history_runs.proofs.Pieces.{whole_room, whole_going, piece_stopped, piece_ran}
use Rattle.history.proofs.run.run_piece.Goals as goal

pub returns-then-run-ne0 : goal.returns-then-run-ne0
returns-then-run-ne0 c =
    piece_stopped _ c.requires.0 c.requires.1 c.if-run-ne0.true

pub whole_records-n-requires : goal.whole_records-n-requires
whole_records-n-requires c = (in_range_within _ c.requires.1).few

pub count_zeros-requires : goal.count_zeros-requires
count_zeros-requires c =
    let shape = (usable_healthy c.requires.0).shape in
    omega (arith, shape.length_a, shape.whole_bytes, shape.blocks_max)

pub overflow_sub-used : goal.overflow_sub-used
overflow_sub-used c =
    let shape = (usable_healthy c.requires.0).shape in
    omega (arith, c.count_zeros.ensures.1, shape.length_a, shape.whole_bytes)

pub run_whole-last-requires : goal.run_whole-last-requires
run_whole-last-requires c =
    let used = ap (λ (k : ℕ). c.args.blocks - k) c.count_zeros.ensures.0 in (
      c.requires.0,
      whole_going _ _ c.args.bytes.now c.args.run _ c.whole_records-n.ensures c.if-run-ne0.false c.requires.1 _ used,
      whole_room c.args.bytes.now c.args.run _ c.whole_records-n.ensures,
    )

pub end_piece-requires : goal.end_piece-requires
end_piece-requires c =
    whole_room c.args.bytes.now c.args.run _ c.whole_records-n.ensures

pub returns : goal.returns
returns c =
    piece_ran _ _ _ c.if-run-ne0.false c.whole_records-n.ensures c.run_whole-last.ensures c.end_piece.ensures
