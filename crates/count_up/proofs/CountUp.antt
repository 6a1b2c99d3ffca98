-- Counting up, by the ways the code goes: each leaves what `count_up` gives, and answers `sticks`.
use mathlib.Core.Path.{◌≡◌, sym, ◌∙◌}
use mathlib.Core.Logic.{◌≢◌}
use mathlib.Core.Bool.{Bool, false}
use mathlib.Core.List.{List}
use Prim.Native.Nat.{ℕ, ◌+◌, ◌-◌, ◌/◌}
use native.Mathlib.Omega.{arith}
use lib.Dec.{eqb}
use borrow.Author.Tests.{eq-eqb, ne_eqb}
use Rattle.planes.specs.Plane.{count_at, set_count}
use Rattle.rules.specs.Heap.{capacity}
use Rattle.rules_stores.specs.Store.{count_up, sticks}

-- what is left, and the answer, are the rule's
abbrev pub Up : (N w : ℕ) → (counts : List ℕ) → (v : ℕ) → (counts' : List ℕ) → Bool → Type 0
Up N w counts v counts' stuck = (counts' ≡ count_up N w counts v) × (stuck ≡ sticks N w counts v)

module _ (N w : ℕ) (counts : List ℕ) {v : ℕ} where
  pub up_none : v ≡ 0 → Up N w counts v counts false
  unfolding count_up sticks
  up_none e = (rw (eq-eqb v 0 e, count_up), rw (eq-eqb v 0 e))

  -- v names a block; its count was read as x, and y is the capacity
  module _ {x y : ℕ} (block : ℕ) (named : block + 1 ≡ v) (ex : x ≡ count_at (N / 8) w counts block) (ey : y ≡ capacity w) where
    nv : v ≢ 0
    nv e = omega arith

    there : v - 1 ≡ block
    there = omega arith

    pub up_stuck : x ≡ y → Up N w counts v counts false
    unfolding count_up sticks
    up_stuck e =
        let past : count_at (N / 8) w counts block + 1 ≢ capacity w = λ d. omega arith in
        (rw (ne_eqb v 0 nv, there, eq-eqb _ _ (sym ex ∙ e ∙ ey), count_up), rw (ne_eqb v 0 nv, there, ne_eqb _ _ past))

    -- the count was written one higher
    pub up_more : x ≢ y → {counts' : List ℕ} → counts' ≡ set_count (N / 8) w counts block (x + 1) → Up N w counts v counts' (eqb (x + 1) y)
    unfolding count_up sticks
    up_more d written =
        let below = ne_eqb _ _ (λ e. d (ex ∙ e ∙ sym ey)) in
        (rw (ne_eqb v 0 nv, there, below, count_up) (rw (there, ← ex) written), rw (ne_eqb v 0 nv, there, ← ex, ← ey))
