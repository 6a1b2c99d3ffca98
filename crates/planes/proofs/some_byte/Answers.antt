use mathlib.Core.Path.{◌≡◌}
use native.Mathlib.Omega.{arith}
use Rattle.planes.proofs.Eights.{some_start, some_more}
use Rattle.planes.proofs.some_byte.Goals as goal

pub loop-p-init : goal.loop-p-init
loop-p-init c = some_start c.args.counts.now c.args.bytes c.args.k

pub loop-p-preserved : goal.loop-p-preserved
loop-p-preserved c = some_more c.args.counts.now c.args.bytes c.args.k c.loop-p.p c.loop-p.some c.loop-p.invariant

pub returns : goal.returns
returns c =
    let done : c.loop-p.p ≡ c.args.width = omega arith in
    rw done at c.loop-p.invariant
