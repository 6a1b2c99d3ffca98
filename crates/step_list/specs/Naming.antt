-- What the cells of an object name, read off plain lists (request U8). The rules read each cell through the
-- D-map; code looks at the object's kind once.
use Rattle.std.specs.Prelude.{ℕ, ◌+◌, ◌-◌, ◌*◌, Bool, List, get_or, eqb}
use Rattle.rules.specs.Tools.{some_below}
use Rattle.rules.specs.Heap.{size_from}
use Rattle.rules_stores.specs.Store.{naming_cells}

-- of the n cells from cell j on, one names block i
unfoldable pub named_from : List ℕ → (j n i : ℕ) → Bool
named_from cells j n i = some_below (λ k. eqb (get_or cells (j + k) 0) (i + 1)) n

-- a cell of the object at block x names the object at block i: data has no such cells (request U6)
unfoldable pub cell_names : ℕ → (b d cells : List ℕ) → (x i : ℕ) → Bool
cell_names N b d cells x i = named_from cells (4 * x) (naming_cells d x (size_from (N - x) b x)) i
