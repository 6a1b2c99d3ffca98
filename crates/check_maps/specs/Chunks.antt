-- What the loop of kind 3 computes at the first blocks of a byte.
use Rattle.std.specs.Prelude.{ℕ, ◌+◌, ◌-◌, ◌*◌, ◌%◌, ◌^◌, Bool, not, ◌&&◌, List, eqb}
use Rattle.bitmap.specs.Bit.{bit_of}
use Rattle.rules.specs.Heap.{exponent, size_from}

-- block s of byte k is one of `these`, and what starts there is not aligned
unfoldable pub off_chunk : (these k N : ℕ) → List ℕ → ℕ → Bool
off_chunk these k N b s =
    not (eqb (bit_of these s) 0) && not (eqb ((8 * k + s) % 2 ^ exponent (size_from (N - (8 * k + s)) b (8 * k + s))) 0)
