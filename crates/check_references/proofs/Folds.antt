-- A list's items joined by `or`: 0 only where each of them is 0.
use mathlib.Core.Path.{◌≡◌}
use mathlib.Core.List.{List, [], ◌∷◌}
use Prim.Native.Nat.{ℕ, zero, suc, ◌<◌}
use native.Mathlib.Omega.{arith}
use lib.Bits.{bit_or}
use lib.ListN.{length, get_or}
use Rattle.std.specs.List.{fold}
use Rattle.bitmap.proofs.Digits.{or_none}

or_start : (any : ℕ) (l : List ℕ) → fold bit_or any l ≡ 0 → any ≡ 0
or_start any [] e = e
or_start any (v ∷ l) e = (or_none any v (or_start (bit_or any v) l e)).0

pub or_zeros : (any : ℕ) (l : List ℕ) → fold bit_or any l ≡ 0 → (j : ℕ) → j < length l → get_or l j 0 ≡ 0
or_zeros any [] e j l = absurd (omega arith)
or_zeros any (v ∷ vs) e zero l = (or_none any v (or_start (bit_or any v) vs e)).1
or_zeros any (v ∷ vs) e (suc j) l = or_zeros (bit_or any v) vs e j (omega arith)
