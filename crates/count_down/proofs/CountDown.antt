-- Counting down, by the ways the code goes: each leaves what `count_down` gives, and a stack with room for the rest.
use mathlib.Core.Path.{◌≡◌, refl, sym, ap, ◌∙◌}
use mathlib.Core.Logic.{◌≢◌, inl, inr}
use mathlib.Core.Bool.{true, false}
use mathlib.Core.List.{List, ◌∷◌}
use Prim.Native.Nat.{ℕ, zero, suc, ◌+◌, ◌-◌, ◌/◌, ◌^◌, ◌≤◌, ◌<◌}
use native.Mathlib.Nat.{eq-zero-or-pos}
use native.Mathlib.Numerals.{add-one}
use native.Mathlib.Omega.{arith}
use lib.Pow.{pow_mono}
use lib.ListN.{length, get_or, set}
use lib.Seq.{set-get_or}
use borrow.Author.Tests.{lt-ltb, le-ltb, eq-eqb, ne_eqb}
use Rattle.planes.specs.Plane.{count_at, set_count}
use Rattle.planes.proofs.Counts.{count_lt, set_count_there}
use Rattle.map_objects.proofs.Cells.{clear_out}
use Rattle.rules.specs.Heap.{capacity}
use Rattle.rules_stores.specs.Store.{Work, work, count_down, count_down_each, clear_cells}
use Rattle.count_up.specs.Ready.{Planes}
use Rattle.count_up.specs.Stack.{top_first, counted, remaining, Stack, Worked}
use Rattle.count_up.proofs.Worked.{unchanged, kept, push_room, pushed, worked_next}

-- what counting down v has to leave
abbrev Down : (N w : ℕ) → (counts waiting : List ℕ) → (top v : ℕ) → (counts' waiting' : List ℕ) → (top' : ℕ) → Type 0
Down N w counts waiting top v counts' waiting' top' =
    Worked counted N w (count_down N w (work counts (top_first waiting top)) v) (remaining counted N w counts top) counts' waiting' top'

-- What holds once the count x of the block that v names is written one lower: if that is 0 there is a place to push the block to.
pub record Lowered (N w : ℕ) (counts waiting : List ℕ) (top v x : ℕ) (counts' : List ℕ) : Type 0 where
  pub place : x ≡ 1 → top < length waiting
  pub last : x ≡ 1 → Down N w counts waiting top v counts' (set waiting top (v - 1)) (top + 1)
  pub more : x ≢ 1 → Down N w counts waiting top v counts' waiting top

module _ {N w : ℕ} {counts waiting : List ℕ} {top : ℕ} (p : Planes N w counts) (s : Stack counted N w counts waiting top) {v : ℕ} where
  -- no block is named by v
  pub down_unnamed : (1 ≤ v → N < v) → Down N w counts waiting top v counts waiting top
  unfolding count_down
  down_unnamed past = unchanged p s (elim (eq-zero-or-pos v) [
    | inl e ↦ rw (eq-eqb v 0 e, count_down)
    | inr some ↦ rw (ne_eqb v 0 (λ e. omega arith), lt-ltb N v (past some), count_down)
  ])

  -- v names a block; its count was read as x, and y is the capacity
  module _ {x y : ℕ} (block : ℕ) (named : block + 1 ≡ v) (within : block < N) (read : x ≡ count_at (N / 8) w counts block) (ey : y ≡ capacity w) where
    there : block ≡ v - 1
    there = omega arith

    nv : v ≢ 0
    nv e = omega arith

    inside : v ≤ N
    inside = omega arith

    ex : x ≡ count_at (N / 8) w counts (v - 1)
    ex = read ∙ ap (count_at (N / 8) w counts) there

    -- a count of 0 is below the capacity: writing 0 once more changes nothing
    pub down_zero : x ≡ 0 → Down N w counts waiting top v counts waiting top
    unfolding count_down
    down_zero e =
        let zero-there = sym ex ∙ e in
        let least : 2 ^ 1 ≤ 2 ^ w = pow_mono {i = 1} p.some in
        let below : count_at (N / 8) w counts (v - 1) ≢ capacity w = λ d. omega arith in
        unchanged p s
        (rw (ne_eqb v 0 nv, le-ltb N v inside, ne_eqb _ _ below, zero-there, count_down)
        (ap (λ (l : List ℕ). work l (top_first waiting top)) (sym (set_count_there (N / 8) w counts (v - 1) 0 zero-there))))

    pub down_stuck : x ≡ y → Down N w counts waiting top v counts waiting top
    unfolding count_down
    down_stuck e = unchanged p s (rw (ne_eqb v 0 nv, le-ltb N v inside, eq-eqb _ _ (sym ex ∙ e ∙ ey), count_down))

    -- the count was written: it is x - 1 now, and x was neither 0 nor the capacity
    module _ {counts' : List ℕ} (wrote : counts' ≡ set_count (N / 8) w counts block (x - 1)) (nx : x ≢ 0) (ny : x ≢ y) where
      written : counts' ≡ set_count (N / 8) w counts (v - 1) (x - 1)
      written = wrote ∙ ap (λ (b : ℕ). set_count (N / 8) w counts b (x - 1)) there

      below_end : v - 1 < N
      below_end = omega arith

      fits : x - 1 < 2 ^ w
      fits = omega (arith, ex, count_lt (N / 8) w counts (v - 1))

      below : count_at (N / 8) w counts (v - 1) ≢ capacity w
      below e = ny (ex ∙ e ∙ sym ey)

      had : counted (count_at (N / 8) w counts (v - 1)) ≡ true
      had = rw (← ex, ne_eqb x 0 nx)

      none : x ≡ 1 → counted (x - 1) ≡ false
      none e = rw e

      place : x ≡ 1 → top < length waiting
      place e = push_room p s (v - 1) (x - 1) below_end fits written had (none e)

      down_last : x ≡ 1 → Down N w counts waiting top v counts' (set waiting top (v - 1)) (top + 1)
      unfolding count_down
      down_last e =
          pushed p s (v - 1) (x - 1) below_end fits written had (none e)
          (rw (ne_eqb v 0 nv, le-ltb N v inside, ne_eqb _ _ below, eq-eqb _ 1 (sym ex ∙ e), ← ex, count_down)
          (ap (λ (c : List ℕ). work c ((v - 1) ∷ top_first waiting top)) written))

      down_more : x ≢ 1 → Down N w counts waiting top v counts' waiting top
      unfolding count_down
      down_more d =
          let some : counted (x - 1) ≡ true = rw (ne_eqb (x - 1) 0 (λ e. omega arith)) in
          kept p s (v - 1) (x - 1) below_end fits written (some ∙ sym had)
          (rw (ne_eqb v 0 nv, le-ltb N v inside, ne_eqb _ _ below, ne_eqb _ 1 (λ e. d (ex ∙ e)), ← ex, count_down)
          (ap (λ (c : List ℕ). work c (top_first waiting top)) written))

      pub lowered : Lowered N w counts waiting top v x counts'
      lowered = record { place = place; last = down_last; more = down_more }

-- ---- the cells of a run, counted down one by one

-- one cell more
pub each_more :
    {N w left top top' : ℕ} {counts waiting counts' waiting' : List ℕ} (s : Work) (cells : List ℕ) (j i : ℕ) {v : ℕ} → v ≡ get_or cells (j + i) 0
    → Worked counted N w (count_down_each N w s cells j i) left counts waiting top
    → Down N w counts waiting top v counts' waiting' top'
    → Worked counted N w (count_down_each N w s cells j (i + 1)) left counts' waiting' top'
unfolding count_down_each
each_more {N} {w} s cells j i {v} read = worked_next (λ x. count_down N w x v) (rw (add-one, read))

-- ---- .. and several at once

-- those of the run up to cell i, and then n more, of which none has changed
each_join :
    (N w : ℕ) (s : Work) (cells : List ℕ) (j i n : ℕ)
    → count_down_each N w (count_down_each N w s cells j i) (clear_cells cells j i) (j + i) n ≡ count_down_each N w s cells j (i + n)
unfolding count_down_each
each_join N w s cells j i zero = let none : i ≡ i + 0 = omega arith in ap (count_down_each N w s cells j) none
each_join N w s cells j i (suc n) =
    let place : j + i + n ≡ j + (i + n) = omega arith in
    let more : suc (i + n) ≡ i + suc n = omega arith in
    let held = clear_out cells j i (j + i + n) (inr (omega arith)) ∙ ap (λ (k : ℕ). get_or cells k 0) place in
    ap (λ (x : Work). count_down N w x (get_or (clear_cells cells j i) (j + i + n) 0)) (each_join N w s cells j i n)
    ∙ ap (count_down N w (count_down_each N w s cells j (i + n))) held
    ∙ ap (count_down_each N w s cells j) more

pub each_several :
    {N w left top top' : ℕ} {counts waiting cells' counts' waiting' : List ℕ} (s : Work) (cells : List ℕ) (j i n : ℕ)
    → cells' ≡ clear_cells cells j i
    → Worked counted N w (count_down_each N w s cells j i) left counts waiting top
    → Worked counted N w (count_down_each N w (work counts (top_first waiting top)) cells' (j + i) n) (remaining counted N w counts top) counts' waiting' top'
    → Worked counted N w (count_down_each N w s cells j (i + n)) left counts' waiting' top'
each_several {N} {w} {cells' = cells'} s cells j i n cleared =
    worked_next (λ x. count_down_each N w x cells' (j + i) n)
    (ap (λ (l : List ℕ). count_down_each N w (count_down_each N w s cells j i) l (j + i) n) cleared ∙ each_join N w s cells j i n)

-- n cells that are 0 name nothing
each_none :
    (N w : ℕ) (s : Work) (cells : List ℕ) (p n : ℕ) → ((c : ℕ) → c < n → get_or cells (p + c) 0 ≡ 0) → count_down_each N w s cells p n ≡ s
unfolding count_down_each count_down
each_none N w s cells p zero zeros = refl
each_none N w s cells p (suc n) zeros =
    ap (count_down N w (count_down_each N w s cells p n)) (zeros n (omega arith))
    ∙ each_none N w s cells p n (λ c l. zeros c (omega arith))

pub clear_none : (cells : List ℕ) (p n : ℕ) → ((c : ℕ) → c < n → get_or cells (p + c) 0 ≡ 0) → clear_cells cells p n ≡ cells
unfolding clear_cells
clear_none cells p zero zeros = refl
clear_none cells p (suc n) zeros =
    let rest = clear_none cells p n (λ c l. zeros c (omega arith)) in
    ap (λ (l : List ℕ). set l (p + n) 0) rest
    ∙ ap (set cells (p + n)) (sym (zeros n (omega arith)))
    ∙ set-get_or cells (p + n) 0

-- they are passed over
module _ {N w : ℕ} {counts waiting : List ℕ} {top : ℕ} (cells : List ℕ) (p n : ℕ) (zeros : (c : ℕ) → c < n → get_or cells (p + c) 0 ≡ 0) where
  pub passed_each : Planes N w counts → Stack counted N w counts waiting top
      → Worked counted N w (count_down_each N w (work counts (top_first waiting top)) cells p n) (remaining counted N w counts top) counts waiting top
  passed_each planes stack =
      record { result = sym (each_none N w (work counts (top_first waiting top)) cells p n zeros); planes = planes; stack = stack; left_is = refl }
