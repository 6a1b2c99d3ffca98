-- Whether a store tells of an object that became stuck: where the value is present, and where it is not.
use mathlib.Core.Path.{◌≡◌}
use mathlib.Core.Logic.{◌≢◌}
use mathlib.Core.Bool.{false}
use mathlib.Core.List.{List}
use Prim.Native.Nat.{ℕ}
use borrow.Author.Tests.{eq-eqb, ne_eqb}
use Rattle.rules_stores.specs.Store.{sticks, store_sticks}

module _ (N w : ℕ) (counts : List ℕ) {old v : ℕ} where
  pub sticks_present : old ≡ v → false ≡ store_sticks N w counts old v
  unfolding store_sticks
  sticks_present e = rw (eq-eqb old v e)

  pub sticks_changed : old ≢ v → sticks N w counts v ≡ store_sticks N w counts old v
  unfolding store_sticks
  sticks_changed n = rw (ne_eqb old v n)
