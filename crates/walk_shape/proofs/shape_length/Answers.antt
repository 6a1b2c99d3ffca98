use native.Mathlib.Omega.{arith}
use Rattle.walk_shape.proofs.Laws.{length_start, length_next}
use Rattle.walk_shape.proofs.shape_length.Goals as goal

pub loop-reference-init : goal.loop-reference-init
loop-reference-init c = record {
  long = λ d cells numbers. length_start c.args.blocks c.args.b.now d cells c.args.roots.now c.args.order.now numbers;
  small = omega arith;
}

pub loop-reference-preserved : goal.loop-reference-preserved
loop-reference-preserved c = record {
  long = λ d cells numbers. length_next c.args.blocks c.args.b.now d cells c.args.roots.now c.args.order.now numbers _ _ _
      c.object_size.ensures.0 (c.loop-reference.invariant.long d cells numbers);
  small = omega arith;
}
