-- Counts in bit planes. Document 01: "The count maps lie one after another in one buffer of w × N/8 bytes, the least significant
-- bit first." Here `bytes` is the length of one map, N/8; the width is left open.
use Rattle.std.specs.Prelude.{ℕ, zero, suc, ◌+◌, ◌*◌, ◌^◌, List}
use Rattle.bitmap.specs.Bit.{bit_of, bit_at, set_bit}

-- where bit b of map k stands in the one buffer
abbrev pub plane_bit : ℕ → ℕ → ℕ → ℕ
plane_bit bytes k b = 8 * (k * bytes) + b

-- the count of block b: its bit k is bit b of map k
unfoldable pub count_at : ℕ → ℕ → List ℕ → ℕ → ℕ
count_at bytes zero counts b = 0
count_at bytes (suc k) counts b = count_at bytes k counts b + bit_at counts (plane_bit bytes k b) * 2 ^ k

-- the buffer with the count of block b replaced by v: bit k of v goes to bit b of map k
unfoldable pub set_count : ℕ → ℕ → List ℕ → ℕ → ℕ → List ℕ
set_count bytes zero counts b v = counts
set_count bytes (suc k) counts b v = set_bit (set_count bytes k counts b v) (plane_bit bytes k b) (bit_of v k)
