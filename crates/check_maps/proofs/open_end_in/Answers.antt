use mathlib.Core.Path.{◌≡◌, refl, subst}
use mathlib.Core.List.{[]}
use Prim.Native.Nat.{ℕ, ◌<◌, ◌-◌}
use native.Mathlib.Omega.{arith}
use lib.Bits.{bit_and, and_le_l}
use lib.ListN.{get_or}
use Rattle.rules.specs.Heap.{memory}
use Rattle.rules.specs.Tools.{some_below}
use Rattle.rules.proofs.Stretches.{Gathered, gathered_more}
use Rattle.rules.specs.Damage.{open_end}
use Rattle.check_maps.proofs.Eights.{next_used, open_eight}
use Rattle.check_maps.proofs.open_end_in.Goals as goal

pub loop-k-init : goal.loop-k-init
unfolding some_below
loop-k-init c = refl

pub loop-k-preserved : goal.loop-k-preserved
loop-k-preserved c =
    let k = c.loop-k.k in
    let own = bit_and (get_or c.args.a.now k 0) (get_or c.args.b.now k 0) in
    let byte = (c.type_inv.a k).fits in
    let less : bit_and own (255 - next_used c.args.a.now k) < 256 = omega (arith, and_le_l own (255 - next_used c.args.a.now k), and_le_l (get_or c.args.a.now k 0) (get_or c.args.b.now k 0)) in
    gathered_more (open_end c.args.blocks (memory c.args.a.now c.args.b.now [] [] [] [])) k c.loop-k.found (bit_and own (255 - next_used c.args.a.now k)) less
    (open_eight c.args.blocks c.args.a.now c.args.b.now k (omega arith) byte) c.loop-k.invariant

pub returns : goal.returns
returns c =
    let done : c.loop-k.k ≡ c.args.bytes = omega arith in
    subst (λ (k : ℕ). Gathered (open_end c.args.blocks (memory c.args.a.now c.args.b.now [] [] [] [])) k c.loop-k.found) done
    c.loop-k.invariant
