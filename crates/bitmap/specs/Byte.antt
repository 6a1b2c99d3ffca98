-- A run of bits written within one number: what a byte becomes where a run of bits of a map is written byte by byte.
use Rattle.std.specs.Prelude.{ℕ, zero, suc, ◌+◌}
use Rattle.bitmap.specs.Bit.{put_bit}

-- b with its n bits from bit k on replaced by v, which is 0 or 1
unfoldable pub put_run : (b k n v : ℕ) → ℕ
put_run b k zero v = b
put_run b k (suc n) v = put_bit (put_run b k n v) (k + n) v
