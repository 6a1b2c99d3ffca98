-- `types::capacity_of` meets its contract: 2 ^ width fits a byte, so the shift loses nothing.
use Prim.Native.Nat.{◌^◌, ◌≤◌}
use native.Mathlib.Omega.{arith}
use lib.Dec.{lit<}
use lib.Pow.{shl_exact, pow_pos, pow_mono}
use Rattle.types.proofs.capacity_of.Goals as goal

pub overflow_sub-result : goal.overflow_sub-result
overflow_sub-result c = omega (arith, shl_exact {a = 1} 1 c.args.width 8 (lit< tt) (omega arith), pow_pos c.args.width)

pub returns : goal.returns
returns c =
    let exact = shl_exact {a = 1} 1 c.args.width 8 (lit< tt) (omega arith) in
    let least : 2 ^ 1 ≤ 2 ^ c.args.width = pow_mono {i = 1} (omega arith) in
    let most : 2 ^ c.args.width ≤ 2 ^ 4 = pow_mono {j = 4} (omega arith) in
    (omega arith, omega arith, omega arith)
