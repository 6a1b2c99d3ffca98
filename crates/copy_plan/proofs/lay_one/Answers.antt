-- `lay_one` meets its contract.
use mathlib.Core.Path.{refl}
use native.Mathlib.Omega.{arith}
use Rattle.rules.proofs.Shape.{blocks_facts, blocks_le}
use Rattle.copy_plan.proofs.Chunks.{too_large, laid_nowhere, few, exponent_is, part_there, laid_none, fill_inside, laid_some}
use Rattle.copy_plan.proofs.lay_one.Goals as goal

pub returns-then-blocks-n : goal.returns-then-blocks-n
returns-then-blocks-n c =
    laid_nowhere _ _ _ _ c.requires _ _ (too_large c.args.blocks c.args.n _ c.if-blocks-n.true)

pub chunk_size-size-requires : goal.chunk_size-size-requires
chunk_size-size-requires c = omega (arith, blocks_le c.args.blocks c.requires.blocks)

pub bounds-from-k : goal.bounds-from-k
bounds-from-k c =
    let size-is = c.chunk_size-size.ensures.0 in
    omega (arith, exponent_is _ _ _ _ c.requires c.if-blocks-n.false _ _ size-is refl, few _ _ _ _ c.requires c.if-blocks-n.false _ _ size-is refl)

pub lowest_chunk-requires : goal.lowest_chunk-requires
lowest_chunk-requires c = record {
  part = part_there _ _ _ _ c.requires c.if-blocks-n.false _ _ c.chunk_size-size.ensures.0 refl;
  to_bound = (omega (arith, c.requires.length_map, (blocks_facts c.args.blocks c.requires.blocks).2), omega (arith, blocks_le c.args.blocks c.requires.blocks));
}

pub returns-in_err-at : goal.returns-in_err-at
returns-in_err-at c =
    rw c.from_residual.ensures
    (laid_none _ _ _ _ c.requires c.if-blocks-n.false _ _ c.chunk_size-size.ensures.0 refl _ _ c.lowest_chunk.ensures _ _ c.in_err-at.was)

pub fill_bits-requires : goal.fill_bits-requires
fill_bits-requires c = (
  fill_inside _ _ _ _ c.requires c.if-blocks-n.false _ _ c.chunk_size-size.ensures.0 refl _ _ c.lowest_chunk.ensures _ c.in_ok-at.was,
  omega arith,
  omega (arith, c.requires.length_map, blocks_le c.args.blocks c.requires.blocks),
)

pub bounds-from-k-2 : goal.bounds-from-k-2
bounds-from-k-2 c =
    let size-is = c.chunk_size-size.ensures.0 in
    omega (arith, exponent_is _ _ _ _ c.requires c.if-blocks-n.false _ _ size-is refl, few _ _ _ _ c.requires c.if-blocks-n.false _ _ size-is refl)

pub returns : goal.returns
returns c =
    rw c.fill_bits.ensures
    (laid_some _ _ _ _ c.requires c.if-blocks-n.false _ _ c.chunk_size-size.ensures.0 refl _ _ c.lowest_chunk.ensures _ c.in_ok-at.was)
