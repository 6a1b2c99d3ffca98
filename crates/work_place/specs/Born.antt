-- The mark map once an object is made at block i: "While open, objects are born marked" (request U8). For contracts of inner functions.
use Rattle.std.specs.Prelude.{ℕ, true, false, List, get_or, eqb}
use Rattle.bitmap.specs.Bit.{set_bit}

unfoldable pub born_marks : (N : ℕ) → (marks list : List ℕ) → (i : ℕ) → List ℕ
born_marks N marks list i = elim (eqb (get_or list N 0) 1) [ true ↦ set_bit marks i 1 | false ↦ marks ]
