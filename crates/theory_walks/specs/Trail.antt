-- The walk with the place at which each object was first met: what a search for the chain of request U11 goes
-- by.
use Rattle.std.specs.Prelude.{ℕ, zero, suc, true, false, not, ◌||◌, List, [], ◌∷◌, length, eqb}
use Rattle.rules_output.specs.Walk.{number_in, object_at}

-- a reference to an object met, the number of the object in whose cell it was first met, 0 for the roots, and
-- that root or cell
pub record Entry : Type 0 where
  pub name : ℕ
  pub owner : ℕ
  pub cell : ℕ

abbrev pub entry : ℕ → ℕ → ℕ → Entry
entry name owner cell = record { name = name; owner = owner; cell = cell }

-- the objects met, as the walk has them
unfoldable pub met_in : List Entry → List ℕ
met_in [] = []
met_in (e ∷ l) = e.name ∷ met_in l

-- as `meet`, `meet_each` and `walk` (rules_output/specs/Walk.antt): v, or what stands from cell j on, is met in cells
-- of the object of number p
unfoldable pub meet_at : List Entry → (p j v : ℕ) → List Entry
meet_at l p j v = elim (eqb v 0 || not (eqb (number_in (met_in l) v) 0)) [ true ↦ l | false ↦ entry v p j ∷ l ]

unfoldable pub meet_each_at : List Entry → (p j : ℕ) → (vs : List ℕ) → List Entry
meet_each_at l p j [] = l
meet_each_at l p j (v ∷ vs) = meet_each_at (meet_at l p j v) p (suc j) vs

unfoldable pub trail : (roots : List ℕ) (out : ℕ → List ℕ) (k : ℕ) → List Entry
trail roots out zero = meet_each_at [] 0 0 roots
trail roots out (suc k) = let l = trail roots out k in meet_each_at l (suc k) 0 (out (object_at (met_in l) (suc k)))

-- the cells by which the object of number n was first met, the last one first and the root last
unfoldable pub links_to : List Entry → (n : ℕ) → List ℕ
links_to [] n = []
links_to (e ∷ l) n = elim (eqb n (suc (length l))) [ true ↦ e.cell ∷ links_to l e.owner | false ↦ links_to l n ]
