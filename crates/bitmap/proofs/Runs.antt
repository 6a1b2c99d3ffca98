-- Laws of a run of bits that is written: `fill_bits`.
use mathlib.Core.Path.{◌≡◌, refl, sym, ap, ◌∙◌}
use mathlib.Core.Logic.{⊎_elim, ◌⊎◌, inl, inr}
use mathlib.Core.List.{List}
use Prim.Native.Nat.{ℕ, zero, suc, ◌+◌, ◌*◌, ◌≤◌, ◌<◌}
use native.Mathlib.Numerals.{add-one}
use native.Mathlib.Decide.{ℕ_discrete}
use native.Mathlib.Omega.{arith}
use lib.ListN.{length}
use Rattle.bitmap.specs.Bit.{bit_at, set_bit, fill_bits, Bytes}
use Rattle.bitmap.proofs.Maps.{length_set_bit, bit_set_same, bit_set_other, bytes_set_bit}

-- one bit more
pub fill_more : (map : List ℕ) (from n v : ℕ) → set_bit (fill_bits map from n v) (from + n) v ≡ fill_bits map from (n + 1) v
unfolding fill_bits
fill_more map from n v = sym (ap (λ (k : ℕ). fill_bits map from k v) (add-one n))

pub length_fill : (map : List ℕ) (from n v : ℕ) → length (fill_bits map from n v) ≡ length map
unfolding fill_bits
length_fill map from zero v = refl
length_fill map from (suc n) v = length_set_bit (fill_bits map from n v) (from + n) v ∙ length_fill map from n v

pub bytes_fill : (map : List ℕ) (from n v : ℕ) → v < 2 → Bytes map → Bytes (fill_bits map from n v)
unfolding fill_bits
bytes_fill map from zero v e b = b
bytes_fill map from (suc n) v e b = bytes_set_bit (fill_bits map from n v) (from + n) v e (bytes_fill map from n v e b)

-- the bits of the run are v
pub bit_fill_in : (map : List ℕ) (from n v i : ℕ) → from + n ≤ 8 * length map → v < 2 → from ≤ i → i < from + n
    → bit_at (fill_bits map from n v) i ≡ v
unfolding fill_bits
bit_fill_in map from zero v i h e l u = absurd (omega arith)
bit_fill_in map from (suc n) v i h e l u =
    go (ℕ_discrete i (from + n)) (λ s. bit_fill_in map from n v i (omega arith) e l s)
  where
    go : Dec (i ≡ from + n) → (i < from + n → bit_at (fill_bits map from n v) i ≡ v)
        → bit_at (set_bit (fill_bits map from n v) (from + n) v) i ≡ v
    go (yes q) before =
        ap (λ (k : ℕ). bit_at (set_bit (fill_bits map from n v) (from + n) v) k) q
        ∙ bit_set_same (fill_bits map from n v) (from + n) v (omega (arith, length_fill map from n v)) e
    go (no q) before = bit_set_other (fill_bits map from n v) (from + n) v i q e ∙ before (omega arith)

-- every bit outside of the run is as it was
pub bit_fill_out : (map : List ℕ) (from n v i : ℕ) → v < 2 → (i < from) ⊎ (from + n ≤ i)
    → bit_at (fill_bits map from n v) i ≡ bit_at map i
unfolding fill_bits
bit_fill_out map from zero v i e o = refl
bit_fill_out map from (suc n) v i e o =
    bit_set_other (fill_bits map from n v) (from + n) v i
    (λ q. ⊎_elim {C = ⊥} (λ l. omega arith) (λ l. omega arith) o) e
    ∙ bit_fill_out map from n v i e (⊎_elim (λ l. inl l) (λ l. inr (omega arith)) o)
