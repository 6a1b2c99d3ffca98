use mathlib.Core.Path.{refl}
use Prim.Native.Nat.{ℕ, ◌*◌}
use native.Mathlib.Omega.{arith}
use Rattle.bitmap.specs.Bit.{bit_of}
use Rattle.planes.specs.Plane.{set_count}
use Rattle.planes.proofs.PlaneBits.{plane_inside, map_len, part_set_bit}
use Rattle.planes.proofs.Counts.{set_count_more}
use Rattle.planes.proofs.set_count.Goals as goal

pub loop-k-init : goal.loop-k-init
unfolding set_count
loop-k-init c = refl

pub loop-k-preserved : goal.loop-k-preserved
loop-k-preserved c =
    let bytes : ℕ = c.args.bytes in
    let put =
    part_set_bit c.loop-k.counts (c.loop-k.k * bytes) bytes c.args.block (bit_of c.args.value c.loop-k.k)
    (omega (arith, plane_inside bytes c.loop-k.k c.args.width c.loop-k-test.true)) c.requires.2 in
    let more = set_count_more bytes c.loop-k.k c.args.counts.now c.args.block c.args.value in
    cc (map_len bytes c.loop-k.k)
