use mathlib.Core.Path.{◌≡◌}
use Prim.Native.Nat.{◌/◌}
use native.Mathlib.Omega.{arith}
use Rattle.bitmap.proofs.Maps.{bytes_given}
use Rattle.planes.proofs.PlaneBits.{plane_next, plane_inside}
use Rattle.collect_counts.proofs.Counts.{maps_more, maps_written}
use Rattle.collect_counts.proofs.write_counts.Goals as goal

pub loop-p-init : goal.loop-p-init
loop-p-init c = (record { bits = λ q j s l. absurd (omega arith) }, bytes_given _ c.type_inv.counts)

pub loop-p-preserved : goal.loop-p-preserved
loop-p-preserved c =
    let inside = plane_inside (c.args.blocks / 8) c.loop-p.p c.args.width (omega arith) in (
      maps_more _ (omega (arith, inside, c.requires.0.length_is)) (omega (arith, plane_next (c.args.blocks / 8) c.loop-p.p)) c.loop-p.invariant.0 c.write_map.ensures,
      bytes_given _ c.type_inv.counts,
    )

pub returns : goal.returns
returns c =
    let done : c.loop-p.p ≡ c.args.width = omega arith in
    maps_written c.requires.0.eighths c.requires.1 c.loop-p.invariant.1 (omega (arith, c.requires.0.length_is)) (rw (← done) c.loop-p.invariant.0)
