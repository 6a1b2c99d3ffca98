use mathlib.Core.Path.{◌≡◌, ◌∙◌}
use Prim.Native.Nat.{◌<◌, ◌^◌}
use native.Mathlib.Omega.{arith}
use Rattle.std.proofs.Common.{rules}
use Rattle.std.specs.Int.{count_zeros, w8}
use Rattle.std.specs.List.{sum_by}
use Rattle.std.proofs.iter.runs.Made.{chains}
use Rattle.bitmap.specs.Bit.{Bytes}
use Rattle.bitmap.proofs.Zeros.{zeros_sum, zeros_le}
use Rattle.bitmap.proofs.count_zeros.Goals as goal

pub sum-requires-clause-fits : goal.sum-requires-clause-fits
unfolding Bytes
sum-requires-clause-fits c =
    let fits : sum_by (count_zeros w8) c.args.map.now < 2 ^ 64 =
    omega (arith, zeros_sum c.args.map.now (λ i. (c.type_inv.map i).fits), zeros_le c.args.map.now) in
    search (rules, chains)

pub returns : goal.returns
unfolding Bytes
returns c =
    let total : c.sum.result ≡ sum_by (count_zeros w8) c.args.map.now = search (rules, chains) in
    (total ∙ zeros_sum c.args.map.now (λ i. (c.type_inv.map i).fits), omega (arith, zeros_sum c.args.map.now (λ i. (c.type_inv.map i).fits), zeros_le c.args.map.now))
