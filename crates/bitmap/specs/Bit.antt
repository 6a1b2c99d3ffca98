-- Bitmaps in lists of bytes. Document 01: "Block i is bit i mod 8 (bit 0 is the least) of byte i div 8 of a bitmap."
-- What a reader must believe of bits; the laws are in proofs/.
use Rattle.std.specs.Prelude.{ℕ, zero, suc, ◌+◌, ◌-◌, ◌*◌, ◌/◌, ◌%◌, ◌^◌, ◌<◌, Bool, true, false, List, length, get_or, set, eqb}

-- bit k of the number b, the least is bit 0
abbrev pub bit_of : ℕ → ℕ → ℕ
bit_of b k = b / 2 ^ k % 2

-- b with its bit k replaced by v, which is 0 or 1
abbrev pub put_bit : ℕ → ℕ → ℕ → ℕ
put_bit b k v = b - bit_of b k * 2 ^ k + v * 2 ^ k

-- bit i of a map: "bit i mod 8 .. of byte i div 8"
unfoldable pub bit_at : List ℕ → ℕ → ℕ
bit_at map i = bit_of (get_or map (i / 8) 0) (i % 8)

-- the map with bit i replaced by v
unfoldable pub set_bit : List ℕ → ℕ → ℕ → List ℕ
set_bit map i v = set map (i / 8) (put_bit (get_or map (i / 8) 0) (i % 8) v)

-- the map with the n bits from bit `from` on replaced by v
unfoldable pub fill_bits : List ℕ → ℕ → ℕ → ℕ → List ℕ
fill_bits map from zero v = map
fill_bits map from (suc n) v = set_bit (fill_bits map from n v) (from + n) v

-- 1 for a test that passes, 0 for one that fails: to count with
abbrev pub one : Bool → ℕ
one true = 1
one false = 0

-- how many numbers below n pass the test
unfoldable pub count_below : (ℕ → Bool) → ℕ → ℕ
count_below test zero = 0
count_below test (suc n) = count_below test n + one (test n)

-- "the number of 0 bits" of a map
unfoldable pub zeros : List ℕ → ℕ
zeros map = count_below (λ i. eqb (bit_at map i) 0) (8 * length map)

-- every element is a byte
unfoldable pub Bytes : List ℕ → Type 0
Bytes map = (i : ℕ) → get_or map i 0 < 256
