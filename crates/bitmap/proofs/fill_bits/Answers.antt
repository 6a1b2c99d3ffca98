use mathlib.Core.Path.{◌≡◌, refl, ap, ◌∙◌}
use Prim.Native.Nat.{ℕ, ◌+◌, ◌/◌, ◌%◌}
use native.Mathlib.Omega.{arith}
use mathlib.Core.List.{List}
use lib.ListN.{get_or, set, length-set}
use Rattle.bitmap.specs.Bit.{fill_bits}
use Rattle.bitmap.specs.Byte.{put_run}
use Rattle.bitmap.proofs.Masks.{fill_byte_more}
use Rattle.bitmap.proofs.fill_bits.Goals as goal

pub loop-i-init : goal.loop-i-init
unfolding fill_bits
loop-i-init c = (omega arith, refl, refl)

pub loop-i-preserved : goal.loop-i-preserved
loop-i-preserved c =
    let at = c.args.from + c.loop-i.i in
    let n = c.min-n.result in
    let v = c.args.v in (
      omega arith,
      ap (set c.loop-i.map (at / 8)) c.fill_byte.ensures
          ∙ ap (λ (m : List ℕ). set m (at / 8) (put_run (get_or m (at / 8) 0) (at % 8) n v)) c.loop-i.invariant.1
          ∙ fill_byte_more c.args.map.now c.args.from c.loop-i.i n v (omega arith) (omega arith),
      length-set c.loop-i.map (at / 8) c.fill_byte.result ∙ c.loop-i.invariant.2,
    )

pub returns : goal.returns
returns c =
    let done : c.loop-i.i ≡ c.args.count = omega arith in
    cc
