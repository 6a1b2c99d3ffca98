-- What the code of a chunk's figure computes, for contracts of inner functions.
use Rattle.std.specs.Prelude.{ℕ, ◌+◌, true, false, ltb, eqb}

-- the figure of a chunk from those of its halves, of `half` blocks each
unfoldable pub of_halves : (half lower upper : ℕ) → ℕ
of_halves half lower upper =
    elim (ltb lower upper) [ true ↦ upper | false ↦ elim (eqb upper half) [ true ↦ half + half | false ↦ lower ] ]
