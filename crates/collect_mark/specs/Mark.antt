-- What the collector's marking computes, as total functions of the lent lists: visits of what the roots name,
-- and of what the cells of the waiting objects name, but for those of data. That this gives the rules' collection
-- is shown for undamaged heaps in crate `refinement` (CollectorProcedure).
use Rattle.std.specs.Prelude.{ℕ, zero, suc, ◌*◌, ◌/◌, ◌≡◌, List, [], ◌∷◌, length, replicate}
use Rattle.rules.specs.Heap.{Memory, size_at}
use Rattle.rules_stores.specs.Store.{work, naming_cells}
use Rattle.count_up.specs.Ready.{Planes}
use Rattle.collect_visit.specs.Visit.{visit_each}

-- the waiting objects are scanned, the last one first, until none waits
unfoldable pub scan : (steps : ℕ) → ℕ → ℕ → Memory → List ℕ → List ℕ → List ℕ
scan zero N w h counts stack = counts
scan (suc f) N w h counts [] = counts
scan (suc f) N w h counts (i ∷ rest) =
    let s = visit_each N w (work counts rest) h.cells (4 * i) (naming_cells h.d i (size_at N h i)) in
    scan f N w h s.counts s.stack

-- the counts that the marking leaves: from none, what the roots name, and then what the waiting objects' cells name
unfoldable pub mark_counts : ℕ → ℕ → Memory → List ℕ
mark_counts N w h =
    let s = visit_each N w (work (replicate (w * (N / 8)) 0) []) h.roots 0 (length h.roots) in
    scan N N w h s.counts s.stack

-- ---- for contracts of inner functions

-- what marking asks of the lists
pub record Markable (N w : ℕ) (b counts cells waiting d : List ℕ) : Type 0 where
  pub planes : Planes N w counts
  pub b_length : length b ≡ N / 8
  pub cells_length : length cells ≡ 4 * N
  pub idle : waiting ≡ replicate N 0
  pub d_length : length d ≡ N / 8

-- what it leaves
abbrev pub Marked : (N w : ℕ) → Memory → (counts waiting : List ℕ) → Type 0
Marked N w h counts waiting = (counts ≡ mark_counts N w h) × (waiting ≡ replicate N 0)
