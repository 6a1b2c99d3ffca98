-- What a function answered is what the rules find.
use mathlib.Core.Path.{◌≡◌, refl}
use mathlib.Core.Option.{Option, none, some}
use Rattle.std.specs.Prelude.{None, Some}
use Prim.Native.Nat.{ℕ}
use Rattle.search_walk.specs.Search.{answered}

pub answered_none : (o : Option ℕ) → None ≡ answered o → o ≡ none
answered_none none e = refl
answered_none (some i) e = cc

pub answered_some : (o : Option ℕ) (i : ℕ) → Some i ≡ answered o → o ≡ some i
answered_some none i e = cc
answered_some (some j) i e = cc
