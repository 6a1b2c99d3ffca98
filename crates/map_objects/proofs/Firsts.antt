-- Laws of first blocks, by the ways a test of one can go: `first_in`.
use mathlib.Core.Path.{◌≡◌}
use mathlib.Core.Bool.{false}
use mathlib.Core.List.{List}
use Prim.Native.Nat.{ℕ, ◌≤◌, ◌<◌}
use borrow.Author.Tests.{lt-ltb, le-ltb, eq-eqb}
use Rattle.bitmap.specs.Bit.{bit_at}
use Rattle.rules.specs.Heap.{first_in}

pub first_past : (N : ℕ) (a b : List ℕ) (i : ℕ) → N ≤ i → false ≡ first_in N a b i
unfolding first_in
first_past N a b i h = rw (le-ltb i N h, first_in)

pub first_free : (N : ℕ) (a b : List ℕ) (i : ℕ) → i < N → bit_at a i ≡ 0 → false ≡ first_in N a b i
unfolding first_in
first_free N a b i h e = rw (lt-ltb i N h, eq-eqb (bit_at a i) 0 e, first_in)
