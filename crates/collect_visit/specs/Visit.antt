-- What a visit of a reference computes, as a total function of the lent lists. A count that is not 0 is the mark: an object is put on the
-- stack when its count leaves 0.
use Rattle.std.specs.Prelude.{ℕ, zero, suc, ◌+◌, ◌-◌, ◌/◌, true, false, ◌||◌, List, ◌∷◌, get_or, ltb, eqb}
use Rattle.planes.specs.Plane.{count_at}
use Rattle.rules_stores.specs.Store.{Work, work, count_up}
use Rattle.count_up.specs.Ready.{Planes}
use Rattle.count_up.specs.Stack.{uncounted, Stack, Worked}
use Rattle.collect_counts.specs.Counts.{Counting, count_maps}

-- The object named by v, if any, is counted up, and waits to be scanned where its count was 0. As in `count_down`, a number above N names none.
unfoldable pub visit : ℕ → ℕ → Work → ℕ → Work
visit N w s v =
    let c = count_at (N / 8) w s.counts (v - 1) in
    elim (eqb v 0 || ltb N v) [
      | true ↦ s
      | false ↦ work (count_up N w s.counts v) (elim (eqb c 0) [ true ↦ (v - 1) ∷ s.stack | false ↦ s.stack ])
    ]

-- what the n references from place j on name
unfoldable pub visit_each : ℕ → ℕ → Work → List ℕ → ℕ → ℕ → Work
visit_each N w s refs j zero = s
visit_each N w s refs j (suc n) = visit N w (visit_each N w s refs j n) (get_or refs (j + n) 0)

-- ---- for contracts of inner functions: the counts are those of a list with a place for each block

-- counts and stack, as marking goes on
pub record Counted (N w : ℕ) (at waiting : List ℕ) (top : ℕ) : Type 0 where
  pub planes : Planes N w (count_maps N w at)
  pub counting : Counting N w at
  pub stack : Stack uncounted N w (count_maps N w at) waiting top

-- they are those of s, and `left` blocks can still be taken off the stack
pub record VisitedTo (N w : ℕ) (s : Work) (left : ℕ) (at waiting : List ℕ) (top : ℕ) : Type 0 where
  pub worked : Worked uncounted N w s left (count_maps N w at) waiting top
  pub counting : Counting N w at
