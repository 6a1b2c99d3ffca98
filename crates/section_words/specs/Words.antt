-- Blocks of a map as digits of one number, for contracts of inner functions: block i + n is digit n.
use Rattle.std.specs.Prelude.{ℕ, ◌+◌, ◌%◌, ◌^◌, ◌<◌, ◌≡◌, ◌≢◌, List, eqb, slice_index}
use Rattle.bitmap.specs.Bit.{bit_of, bit_at, one}
use Rattle.rules.specs.Heap.{chunk_free}

-- w has m digits: the bits of the map from block i on
pub record Digits (m : ℕ) (map : List ℕ) (i w : ℕ) : Type 0 where
  pub below : w < 2 ^ m
  pub each : (n : ℕ) → n < m → bit_of w n ≡ bit_at map (i + n)

-- of the 64 digits of w those are 1 that stand at the first block of a chunk of 2 ^ k blocks
unfoldable pub Starts : (k w : ℕ) → Type 0
Starts k w = (n : ℕ) → n < 64 → bit_of w n ≡ one (eqb (n % 2 ^ k) 0)

-- of the 64 digits of w those are 1 that stand at the first block of a free chunk of 2 ^ k blocks
pub record FreeChunks (k : ℕ) (a : List ℕ) (i w : ℕ) : Type 0 where
  pub below : w < 2 ^ 64
  pub chunk : (n : ℕ) → n < 64 → n % 2 ^ k ≡ 0 → bit_of w n ≡ one (chunk_free k a (i + n))
  pub other : (n : ℕ) → n < 64 → n % 2 ^ k ≢ 0 → bit_of w n ≡ 0

-- the same for the 256 digits of four words
pub record FourChunks (k : ℕ) (a : List ℕ) (i : ℕ) (words : List ℕ) : Type 0 where
  pub first : FreeChunks k a i (slice_index words 0)
  pub second : FreeChunks k a (i + 64) (slice_index words 1)
  pub third : FreeChunks k a (i + 128) (slice_index words 2)
  pub fourth : FreeChunks k a (i + 192) (slice_index words 3)

-- no digit of four words is 1
abbrev pub NoneOfFour : List ℕ → Type 0
NoneOfFour words =
    (slice_index words 0 ≡ 0) × (slice_index words 1 ≡ 0) × (slice_index words 2 ≡ 0) × (slice_index words 3 ≡ 0)
