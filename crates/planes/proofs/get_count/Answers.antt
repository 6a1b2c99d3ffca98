use mathlib.Core.Path.{◌≡◌, refl, ap, ◌∙◌}
use Prim.Native.Nat.{ℕ, ◌≤◌, ◌+◌, ◌*◌, ◌%◌, ◌^◌}
use native.Mathlib.Omega.{arith}
use lib.Pow.{pow_mono}
use lib.ListN.{take, drop}
use Rattle.bitmap.specs.Bit.{bit_at}
use Rattle.bitmap.proofs.Bits.{shift_exact}
use Rattle.planes.specs.Plane.{plane_bit, count_at}
use Rattle.planes.proofs.PlaneBits.{map_len, part_bit}
use Rattle.planes.proofs.Counts.{count_more, count_lt}
use Rattle.planes.proofs.get_count.Goals as goal

pub loop-k-init : goal.loop-k-init
unfolding count_at
loop-k-init c = refl

-- a turn adds the block's bit of map k in its place
turn : (c : goal.After-get_bit) → c.loop-k.count + c.get_bit.result * 2 ^ c.loop-k.k % 256
    ≡ count_at c.args.bytes (c.loop-k.k + 1) c.args.counts.now c.args.block
turn c =
    let from : ℕ = c.loop-k.k * c.args.bytes in
    let in-part : c.get_bit.result ≡ bit_at (take c.args.bytes (drop from c.args.counts.now)) c.args.block =
    cc (map_len c.args.bytes c.loop-k.k) in
    let bit : c.get_bit.result ≡ bit_at c.args.counts.now (plane_bit c.args.bytes c.loop-k.k c.args.block) =
    in-part ∙ part_bit c.args.counts.now from c.args.bytes c.args.block c.requires.2 in
    omega (
      arith,
      shift_exact c.get_bit.result c.loop-k.k c.get_bit.ensures.1 (omega arith),
      ap (λ (x : ℕ). x * 2 ^ c.loop-k.k) bit,
      count_more c.args.bytes c.loop-k.k c.args.counts.now c.args.block,
    )

pub overflow_add-count : goal.overflow_add-count
overflow_add-count c =
    let most : 2 ^ (c.loop-k.k + 1) ≤ 2 ^ 8 = pow_mono {j = 8} (omega arith) in
    omega (arith, turn c, count_lt c.args.bytes (c.loop-k.k + 1) c.args.counts.now c.args.block)

pub loop-k-preserved : goal.loop-k-preserved
loop-k-preserved c = turn c

pub returns : goal.returns
returns c =
    let done : c.loop-k.k ≡ c.args.width = omega arith in
    let all = c.loop-k.invariant ∙ ap (λ (x : ℕ). count_at c.args.bytes x c.args.counts.now c.args.block) done in
    (all, omega (arith, count_lt c.args.bytes c.args.width c.args.counts.now c.args.block))
