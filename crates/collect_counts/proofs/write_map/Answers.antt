use native.Mathlib.Omega.{arith}
use mathlib.Core.Path.{◌∙◌}
use Rattle.collect_counts.proofs.Counts.{word_bit, map_more}
use Rattle.collect_counts.proofs.write_map.Goals as goal

pub loop-k-preserved : goal.loop-k-preserved
loop-k-preserved c =
    map_more c.gather.result c.loop-k.invariant (omega arith)
    (λ s l. c.gather.ensures s l ∙ word_bit c.args.at.now c.loop-k.k c.args.p c.eight_bytes.result c.eight_bytes.ensures (omega arith) s l)
