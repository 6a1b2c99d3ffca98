-- The mark of an object that is made: set where a collection is open, and else the map stays.
use mathlib.Core.Path.{◌≡◌}
use mathlib.Core.Bool.{true, false}
use mathlib.Core.List.{List}
use Prim.Native.Nat.{ℕ}
use lib.Dec.{eqb}
use lib.ListN.{get_or}
use Rattle.bitmap.specs.Bit.{set_bit}
use Rattle.work_place.specs.Born.{born_marks}

module _ (N : ℕ) (marks list : List ℕ) (i : ℕ) where
  pub born_open : eqb (get_or list N 0) 1 ≡ true → born_marks N marks list i ≡ set_bit marks i 1
  unfolding born_marks
  born_open e = rw (e, born_marks)

  pub born_shut : eqb (get_or list N 0) 1 ≡ false → born_marks N marks list i ≡ marks
  unfolding born_marks
  born_shut e = rw (e, born_marks)
