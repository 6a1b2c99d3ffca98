-- Eight numbers as the bytes of a word, the first in the least.
use Rattle.std.specs.Prelude.{ℕ, zero, suc, ◌+◌, ◌*◌}

-- n of them, from f 0 on
unfoldable pub pack : (ℕ → ℕ) → ℕ → ℕ
pack f zero = 0
pack f (suc n) = f 0 + 256 * pack (λ s. f (suc s)) n
