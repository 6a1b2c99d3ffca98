-- `collect_sweep::clear_kind` meets its contract: where the byte is 0, so is the bit.
use mathlib.Core.Path.{◌≡◌, sym, ap, ◌∙◌}
use mathlib.Core.List.{List}
use Prim.Native.Nat.{ℕ, ◌/◌, ◌%◌}
use lib.ListN.{get_or}
use Rattle.bitmap.specs.Bit.{bit_of, bit_at}
use Rattle.bitmap.proofs.Bits.{bit_zero}
use Rattle.bitmap.proofs.Maps.{set_bit_there}
use Rattle.collect_sweep.proofs.clear_kind.Goals as goal

zero-there : (d : List ℕ) (i : ℕ) → get_or d (i / 8) 0 ≡ 0 → bit_at d i ≡ 0
unfolding bit_at
zero-there d i e = ap (λ (x : ℕ). bit_of x (i % 8)) e ∙ bit_zero (i % 8)

pub returns-else-d-i-ne0 : goal.returns-else-d-i-ne0
returns-else-d-i-ne0 c = sym (set_bit_there _ _ 0 (zero-there _ _ c.if-d-i-ne0.false))
