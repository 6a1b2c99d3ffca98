-- Laws of the number of an object's cells that may name others, `naming_cells`.
use mathlib.Core.Path.{◌≡◌}
use mathlib.Core.Logic.{◌≢◌}
use mathlib.Core.List.{List}
use Prim.Native.Nat.{ℕ, ◌*◌}
use borrow.Author.Tests.{eq-eqb, ne_eqb}
use Rattle.bitmap.specs.Bit.{bit_at}
use Rattle.rules_stores.specs.Store.{naming_cells}

module _ (d : List ℕ) (i n : ℕ) where
  pub naming_none : bit_at d i ≡ 1 → 0 ≡ naming_cells d i n
  unfolding naming_cells
  naming_none e = rw (eq-eqb (bit_at d i) 1 e, naming_cells)

  pub naming_all : bit_at d i ≢ 1 → 4 * n ≡ naming_cells d i n
  unfolding naming_cells
  naming_all e = rw (ne_eqb (bit_at d i) 1 e, naming_cells)
