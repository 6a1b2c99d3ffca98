-- A map got from another by writing bits. Two maps got so from one map are equal where their bits are: what the numbers of the list hold
-- beyond their eight bits stays as it was.
use mathlib.Core.Path.{◌≡◌, refl, sym, ap, ◌∙◌}
use mathlib.Core.List.{List}
use Prim.Native.Nat.{ℕ, zero, suc, ◌+◌, ◌*◌, ◌/◌, ◌%◌, ◌^◌, ◌<◌}
use native.Mathlib.Nat.{le_of_suc-le-suc, not-suc-le-zero}
use native.Mathlib.Numerals.{one-add}
use native.Mathlib.Decide.{ℕ_discrete, dec_lt}
use native.Mathlib.Omega.{arith}
use lib.ListN.{length, get_or}
use lib.Seq.{ext_get_or}
use lib.Pow.{shr-shr}
use Rattle.bitmap.specs.Bit.{bit_of, put_bit, bit_at, set_bit, fill_bits}
use Rattle.bitmap.proofs.Bits.{bit_suc, put_zero, put_half}
use Rattle.bitmap.proofs.Maps.{length_set_bit, set_bit_past_end, byte_same, byte_other, bit_of_byte}

-- ---- what lies above the bits of a number

high_suc : (b n : ℕ) → b / 2 ^ suc n ≡ b / 2 / 2 ^ n
high_suc b n = sym (shr-shr b 1 n ∙ ap (λ (x : ℕ). b / 2 ^ x) (one-add n))

-- a bit put below place n leaves what lies from there on
put_high : (n b k v : ℕ) → k < n → v < 2 → put_bit b k v / 2 ^ n ≡ b / 2 ^ n
put_high zero b k v l e = absurd (not-suc-le-zero l)
put_high (suc n) b zero v l e =
    let half : put_bit b zero v / 2 ≡ b / 2 = omega (arith, put_zero b v) in
    high_suc (put_bit b zero v) n ∙ ap (λ (x : ℕ). x / 2 ^ n) half ∙ sym (high_suc b n)
put_high (suc n) b (suc k) v l e =
    high_suc (put_bit b (suc k) v) n ∙ ap (λ (x : ℕ). x / 2 ^ n) (put_half b k v) ∙ put_high n (b / 2) k v (le_of_suc-le-suc l) e
    ∙ sym (high_suc b n)

-- a number is known by its first n bits and what lies above
high_ext : (n a b : ℕ) → a / 2 ^ n ≡ b / 2 ^ n → ((k : ℕ) → k < n → bit_of a k ≡ bit_of b k) → a ≡ b
high_ext zero a b e h = omega arith
high_ext (suc n) a b e h =
    let up : a / 2 ≡ b / 2 =
    high_ext n (a / 2) (b / 2) (sym (high_suc a n) ∙ e ∙ high_suc b n) (λ k l. sym (bit_suc a k) ∙ h (suc k) (omega arith) ∙ bit_suc b k) in
    omega (arith, h zero (omega arith))

-- ---- maps

pub data Rewritten (map : List ℕ) : List ℕ → Type 0 where
  same : Rewritten map map
  bit : {other : List ℕ} (i v : ℕ) → v < 2 → Rewritten map other → Rewritten map (set_bit other i v)

pub rewritten_length : {map other : List ℕ} → Rewritten map other → length other ≡ length map
rewritten_length same = refl
rewritten_length (bit {other} i v e r) = length_set_bit other i v ∙ rewritten_length r

set_high : (map : List ℕ) (i v : ℕ) → v < 2 → (j : ℕ) → get_or (set_bit map i v) j 0 / 256 ≡ get_or map j 0 / 256
set_high map i v e j = go (dec_lt (i / 8) (length map)) (ℕ_discrete j (i / 8))
  where
    go : Dec (i / 8 < length map) → Dec (j ≡ i / 8) → get_or (set_bit map i v) j 0 / 256 ≡ get_or map j 0 / 256
    go (yes l) (yes q) = ap (λ (x : ℕ). x / 256) (byte_same map i v l j q) ∙ put_high 8 (get_or map j 0) (i % 8) v (omega arith) e
    go (no l) (yes q) = ap (λ (m : List ℕ). get_or m j 0 / 256) (set_bit_past_end map i v (omega arith))
    go d (no q) = ap (λ (x : ℕ). x / 256) (byte_other map i v j q)

rewritten_high : {map other : List ℕ} → Rewritten map other → (j : ℕ) → get_or other j 0 / 256 ≡ get_or map j 0 / 256
rewritten_high same j = refl
rewritten_high (bit {other} i v e r) j = set_high other i v e j ∙ rewritten_high r j

pub rewritten_trans : {map other third : List ℕ} → Rewritten map other → Rewritten other third → Rewritten map third
rewritten_trans p same = p
rewritten_trans p (bit i v e q) = bit i v e (rewritten_trans p q)

pub rewritten_fill : (map : List ℕ) (from n v : ℕ) → v < 2 → Rewritten map (fill_bits map from n v)
unfolding fill_bits
rewritten_fill map from zero v e = same
rewritten_fill map from (suc n) v e = bit (from + n) v e (rewritten_fill map from n v e)

-- two maps got from one, with the same bits
pub rewritten_ext : {map one two : List ℕ} → Rewritten map one → Rewritten map two
    → ((i : ℕ) → i < 8 * length map → bit_at one i ≡ bit_at two i) → one ≡ two
rewritten_ext {map} {one} {two} p q h =
    ext_get_or 0 one two (rewritten_length p ∙ sym (rewritten_length q)) byte
  where
    byte : (j : ℕ) → j < length one → get_or one j 0 ≡ get_or two j 0
    byte j l =
        high_ext 8 (get_or one j 0) (get_or two j 0) (rewritten_high p j ∙ sym (rewritten_high q j))
        (λ k s. sym (bit_of_byte one j k s) ∙ h (8 * j + k) (omega (arith, rewritten_length p)) ∙ bit_of_byte two j k s)
