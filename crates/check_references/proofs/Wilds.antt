-- Laws of what is told of a reference before what it names is looked at.
use mathlib.Core.Path.{◌≡◌, refl, ◌∙◌}
use mathlib.Core.Logic.{◌≢◌}
use mathlib.Core.Bool.{Bool, false, ◌||◌}
use mathlib.Core.List.{List}
use Prim.Native.Nat.{ℕ, ◌+◌, ◌*◌, ◌/◌, ◌≤◌}
use native.Mathlib.Decide.{ℕ_discrete}
use lib.Dec.{ltb}
use lib.ListN.{get_or}
use borrow.Author.Tests.{eq-eqb, ne_eqb, ltb-false}
use Rattle.rules.specs.Tools.{some_below}
use Rattle.rules.proofs.Tests.{or_false}
use Rattle.bitmap.specs.Bit.{bit_of}
use Rattle.check_references.specs.Wild.{wild, read_in}

-- 0 is not wild ..
pub wild_zero : (N : ℕ) (free : Bool) (v : ℕ) → v ≡ 0 → wild N free v ≡ false
unfolding wild
wild_zero N free v e = rw (eq-eqb v 0 e, wild)

-- .. and any other number is where it stands in a free block or names none
pub wild_other : (N : ℕ) (free : Bool) (v : ℕ) → v ≢ 0 → wild N free v ≡ (free || ltb N v)
unfolding wild
wild_other N free v n = rw (ne_eqb v 0 n, wild)

-- what a cell of the eight blocks of byte k is read as
module _ (made : ℕ) (cells : List ℕ) (k j : ℕ) where
  pub read_made : bit_of made (j / 4) ≢ 0 → read_in made cells k j ≡ 0
  unfolding read_in
  read_made n = rw (ne_eqb (bit_of made (j / 4)) 0 n, read_in)

  pub read_plain : bit_of made (j / 4) ≡ 0 → read_in made cells k j ≡ get_or cells (32 * k + j) 0
  unfolding read_in
  read_plain e = rw (eq-eqb (bit_of made (j / 4)) 0 e, read_in)

  pub read_empty : get_or cells (32 * k + j) 0 ≡ 0 → read_in made cells k j ≡ 0
  read_empty e = elim (ℕ_discrete (bit_of made (j / 4)) 0) [ yes z ↦ read_plain z ∙ e | no n ↦ read_made n ]

-- what is not wild is at most N
pub wild_within : (N : ℕ) (free : Bool) (v : ℕ) → (free || ltb N v) ≡ false → v ≤ N
wild_within N free v e = ltb-false N v (or_false free (ltb N v) e).1

-- a search among one
pub once : (t : Bool) → some_below (λ j. t) 1 ≡ t
unfolding some_below
once t = refl
