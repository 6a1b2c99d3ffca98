-- The walk of requests U13 and U11: what the roots lead to, breadth first. A reference is 0, or names an
-- object. The walk is over any roots and any function `out` that gives what an object names, 0 naming
-- nothing; `numbered` is that of a heap.
use Rattle.std.specs.Prelude.{ℕ, zero, suc, ◌+◌, ◌-◌, ◌*◌, true, false, not, ◌||◌, List, [], ◌∷◌, length, eqb}
use Rattle.rules.specs.Tools.{tabulate}
use Rattle.rules.specs.Heap.{Memory, size_at, reference}

-- The references to the objects met so far stand in a list, the last met first. The number of the object that
-- v names, or 0.
unfoldable pub number_in : (met : List ℕ) → (v : ℕ) → ℕ
number_in [] v = 0
number_in (x ∷ met) v = elim (eqb x v) [ true ↦ suc (length met) | false ↦ number_in met v ]

-- the reference to the object of number n, or 0
unfoldable pub object_at : (met : List ℕ) → (n : ℕ) → ℕ
object_at [] n = 0
object_at (x ∷ met) n = elim (eqb n (suc (length met))) [ true ↦ x | false ↦ object_at met n ]

-- its first block
abbrev pub block_at : (met : List ℕ) → (n : ℕ) → ℕ
block_at met n = object_at met n - 1

-- "Objects are numbered from 1 as first met": what v names, if anything, is met
unfoldable pub meet : (met : List ℕ) → (v : ℕ) → List ℕ
meet met v = elim (eqb v 0 || not (eqb (number_in met v) 0)) [ true ↦ met | false ↦ v ∷ met ]

unfoldable pub meet_each : (met vs : List ℕ) → List ℕ
meet_each met [] = met
meet_each met (v ∷ vs) = meet_each (meet met v) vs

-- "breadth first, from root 0 upwards and cell 0 upwards": all roots, and then the cells of the objects
-- numbered 1 to k
unfoldable pub walk : (roots : List ℕ) (out : ℕ → List ℕ) (k : ℕ) → List ℕ
walk roots out zero = meet_each [] roots
walk roots out (suc k) = let met = walk roots out k in meet_each met (out (object_at met (suc k)))

-- ---- in a heap

-- the references in the cells of the object at block b; a cell of data is read as 0 (request U6)
unfoldable pub references_of : ℕ → Memory → (b : ℕ) → List ℕ
references_of N h b = tabulate (4 * size_at N h b) (λ j. reference N h (4 * b + j))

-- those of the object that v names
unfoldable pub followed : ℕ → Memory → (v : ℕ) → List ℕ
followed N h v = elim (eqb v 0) [ true ↦ [] | false ↦ references_of N h (v - 1) ]

-- There are at most N objects, so the cells of N of them are all (proved as `AllNumbered`,
-- theory_walks/specs/Shape.antt).
unfoldable pub numbered : ℕ → Memory → List ℕ
numbered N h = walk h.roots (followed N h) N
