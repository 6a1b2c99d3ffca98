-- Tools that the definitions of the rules are written with: tests, searches and lists by number. Their laws are in proofs/Tests.antt and
-- proofs/Tabulate.antt.
use Rattle.std.specs.Prelude.{ℕ, zero, suc, Bool, true, false, List, [], ◌∷◌, length, get_or, eqb}
use Rattle.std.proofs.Math.Option.{Option, none, some}
use Rattle.bitmap.specs.Bit.{count_below}

-- every test passes
unfoldable pub all : List Bool → Bool
all [] = true
all (t ∷ ts) = elim t [ true ↦ all ts | false ↦ false ]

-- the test passes at some number below n
unfoldable pub some_below : (ℕ → Bool) → ℕ → Bool
some_below test zero = false
some_below test (suc n) = elim (some_below test n) [ true ↦ true | false ↦ test n ]

-- the number of the first test that passes, or 0
unfoldable pub first_number : List (ℕ × Bool) → ℕ
first_number [] = 0
first_number (k ∷ ks) = elim k.1 [ true ↦ k.0 | false ↦ first_number ks ]

-- there is one
unfoldable pub is_some : Option ℕ → Bool
is_some none = false
is_some (some x) = true

-- the list of what f gives at the numbers below n
unfoldable pub tabulate : {A : Type 0} → (n : ℕ) → (ℕ → A) → List A
tabulate zero f = []
tabulate (suc n) f = f 0 ∷ tabulate n (λ i. f (suc i))

-- the number of places of a list that hold v
unfoldable pub holding : ℕ → List ℕ → ℕ
holding v l = count_below (λ j. eqb (get_or l j 0) v) (length l)
