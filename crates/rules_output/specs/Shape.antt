-- Request U13, "Equal shape": a heap written as a list of numbers that says nothing of where its objects lie.
use Rattle.std.specs.Prelude.{ℕ, zero, suc, ◌+◌, ◌*◌, true, false, List, [], ◌∷◌, ◌++◌, map, length, get_or}
use Rattle.bitmap.specs.Bit.{bit_at}
use Rattle.rules.specs.Tools.{tabulate}
use Rattle.rules.specs.Heap.{Memory, size_at, is_data}
use Rattle.rules_output.specs.Walk.{number_in, block_at, references_of, numbered}

-- the numbers in the cells of the object at block b, as they stand
unfoldable pub cells_of : ℕ → Memory → (b : ℕ) → List ℕ
cells_of N h b = tabulate (4 * size_at N h b) (λ j. get_or h.cells (4 * b + j) 0)

-- "for each object, size, D bit and cells, references as object numbers": the object at block b, of those
-- met. Cells of data hold no references, so they are written as they stand.
unfoldable pub described : ℕ → Memory → (met : List ℕ) → (b : ℕ) → List ℕ
described N h met b =
    size_at N h b ∷ bit_at h.d b ∷ elim (is_data h.d b) [ true ↦ cells_of N h b | false ↦ map (number_in met) (references_of N h b) ]

-- the lists that f gives at the numbers below n, one behind the other
unfoldable pub joined : (ℕ → List ℕ) → (n : ℕ) → List ℕ
joined f zero = []
joined f (suc n) = joined f n ++ f n

-- "First comes the number of roots, then each root's object number or 0; then, for each object, .."
unfoldable pub shape_of : ℕ → Memory → List ℕ
shape_of N h =
    let met = numbered N h in
    length h.roots ∷ (map (number_in met) h.roots ++ joined (λ i. described N h met (block_at met (suc i))) (length met))
