-- `check_counts::is_stray` meets its contract.
use native.Mathlib.Omega.{arith}
use mathlib.Core.Path.{ap, ap₂, ◌∙◌}
use mathlib.Core.Bool.{not}
use Prim.Native.Nat.{ℕ, ◌+◌, ◌*◌}
use lib.Bits.{bit_and}
use lib.Dec.{eqb}
use Rattle.check_counts.proofs.Eights.{stray_eight}
use Rattle.check_counts.proofs.is_stray.Goals as goal

pub returns : goal.returns
returns c =
    ap (λ (x : ℕ). not (eqb x 0)) (ap₂ bit_and c.tallies.ensures c.mask.ensures)
    ∙ stray_eight c.args.first c.args.at.now c.args.k (omega arith) (λ i l. omega (arith, c.requires.2 (8 * c.args.k + i) (omega arith)))
