-- `check_counts::mask` meets its contract.
use mathlib.Core.Path.{ap, ◌∙◌}
use Prim.Native.Nat.{ℕ, ◌*◌}
use Rattle.bitmap.specs.Bit.{bit_of}
use Rattle.check_counts.proofs.Packs.{pack_times}
use Rattle.check_counts.proofs.mask.Goals as goal

pub returns : goal.returns
returns c =
    ap (λ (x : ℕ). x * 255) c.lanes.ensures.0 ∙ pack_times 255 (λ i. bit_of c.args.x i) 8
