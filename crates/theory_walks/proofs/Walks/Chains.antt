-- Chains over any roots and any `out` that gives what an object names.
use mathlib.Core.Path.{◌≡◌}
use mathlib.Core.Logic.{◌≢◌}
use mathlib.Core.List.{List, [], ◌∷◌}
use Prim.Native.Nat.{ℕ}
use lib.ListN.{get_or}

-- from the object that v names, the cells lead to that which t names
pub data Path (out : ℕ → List ℕ) (t : ℕ) : ℕ → List ℕ → Type 0 where
  here : Path out t t []
  link : {v u j : ℕ} {c : List ℕ} → get_or (out v) j 0 ≡ u → u ≢ 0 → Path out t u c → Path out t v (j ∷ c)

-- a root, and cells
pub data Chain (roots : List ℕ) (out : ℕ → List ℕ) (t : ℕ) : List ℕ → Type 0 where
  chain : {u r : ℕ} {c : List ℕ} → get_or roots r 0 ≡ u → u ≢ 0 → Path out t u c → Chain roots out t (r ∷ c)

-- the same from its end
pub data Word (roots : List ℕ) (out : ℕ → List ℕ) : ℕ → List ℕ → Type 0 where
  at_root : {v r : ℕ} → get_or roots r 0 ≡ v → v ≢ 0 → Word roots out v (r ∷ [])
  further : {p v j : ℕ} {w : List ℕ} → Word roots out p w → get_or (out p) j 0 ≡ v → v ≢ 0 → Word roots out v (j ∷ w)
