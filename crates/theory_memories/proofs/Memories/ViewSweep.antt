-- Objects freed without count-downs, seen in the object graph: one object, and the sweep of the rules, which is the sweep of the graph's
-- machine. Counts are left aside: what is shown is the objects and the slots.
use mathlib.Core.Path.{◌≡◌, refl, sym, ap, ◌∙◌}
use mathlib.Core.Logic.{◌≢◌, inl, inr}
use mathlib.Core.Bool.{Bool, true, false, not, ◌&&◌}
use mathlib.Core.List.{List, ◌++◌}
use Prim.Native.Nat.{ℕ, zero, suc, ◌+◌, ◌-◌, ◌*◌, ◌/◌, ◌≤◌, ◌<◌}
use native.Mathlib.Decide.{ℕ_discrete, dec_lt}
use native.Mathlib.Omega.{arith}
use lib.ListN.{length, get_or, set, get_or-eq_default}
use lib.Seq.{get_or-set_other, set-get_or}
use borrow.Author.Tests.{not-true, not-false}
use Rattle.bitmap.specs.Bit.{one}
use Rattle.bitmap.proofs.Maps.{length_set_bit}
use Rattle.bitmap.proofs.Runs.{length_fill}
use Rattle.planes.proofs.Counts.{length_set_count}
use Rattle.rules.specs.Heap.{Memory, is_first, size_at}
use Rattle.rules_stores.specs.Store.{freed}
use Rattle.rules.specs.Tools.{tabulate}
use Rattle.rules_stores.specs.Collection.{marked, swept}
use Rattle.rules.proofs.Tests.{test_cases_lem, and_true, and_false}
use Rattle.rules.proofs.Tabulate.{length_tabulate, get_d_tabulate}
use Rattle.rules.proofs.Shape.{Shaped}
use Rattle.rules.proofs.Objects.{size_some}
use Rattle.theory_memories.proofs.Maps.Extents.{Represents, sizes_of, size_not_first, size_first}
use Rattle.theory_memories.proofs.Maps.Moves.{freed_represents}
use Rattle.theory_graphs.proofs.Graphs.Stretch.{stretch, clear}
use Rattle.theory_graphs.proofs.Graphs.Graph.{Graph, size, count, first_slot}
use Rattle.theory_graphs.proofs.Graphs.Sweep.{erase, sweep_one, sweep, sweep_gone, sweep_kept}
use Rattle.theory_memories.proofs.Memories.Reading.{Bare, freed_read, freed_bare}
use Rattle.theory_memories.proofs.Memories.Keeping.{sizes_in, Kept, kept_same, kept_trans, freed_kept}
use Rattle.theory_memories.proofs.Memories.View.{cell_refs, slots_in}
use Rattle.theory_memories.proofs.Memories.ViewMoves.{length_clear_cells, clear_behind}
use Rattle.theory_memories.proofs.Memories.ViewRelease.{reshaped, graph_is}

-- the memory g, with the shape, the roots and the waiting list of h, has the objects and the slots of the graph k
pub record Swept (N w : ℕ) (h g : Memory) (k : Graph) : Type 0 where
  pub shape : Shaped N w g
  pub represents : Represents N g.a g.b k.sizes
  pub same_roots : g.roots ≡ h.roots
  pub same_waiting : g.waiting ≡ h.waiting
  pub same_sections : g.sections ≡ h.sections
  pub same_marks : g.marks ≡ h.marks
  pub same_list : g.list ≡ h.list
  pub slots_are : slots_in N g ≡ k.slots
  pub bare : Bare N g.a g.b g.d g.cells
  -- what stands is as it was
  pub keeps : (x : ℕ) → get_or (sizes_in N g) x 0 ≢ 0 → Kept N h g x

-- ---- one object

pub freed_swept :
    (N w : ℕ) (h g : Memory) (k : Graph) → Swept N w h g k → (x n : ℕ) → size k x ≡ n → n ≢ 0
    → Swept N w h (freed N w g x n) (erase (length h.roots) k x)
unfolding freed
freed_swept N w h g k p x n e some =
    record {
      shape =
          reshaped N w g (freed N w g x n) p.shape
          (length_fill g.a x n 0)
          (length_set_bit g.b (x + n - 1) 1)
          (length_set_count (N / 8) w g.counts x 0)
          (length_clear_cells g.cells (4 * x) (4 * n))
          refl
          refl
          refl
          (length_set_bit g.d x 0) refl refl;
      represents = freed_represents N g.a g.b k.sizes p.represents x n e some;
      same_roots = p.same_roots;
      same_waiting = p.same_waiting;
      same_sections = p.same_sections;
      same_marks = p.same_marks;
      same_list = p.same_list;
      slots_are =
          rw (e, ← p.slots_are, ← p.same_roots)
          (ap (λ (l : List ℕ). g.roots ++ l) (freed_read N g.a g.b k.sizes g.d g.cells p.represents x n e some)
          ∙ clear_behind g.roots (cell_refs N g) (4 * x) (4 * n));
      bare = freed_bare N g.a g.b k.sizes g.d g.cells p.represents x n e some p.bare;
      keeps = λ y stands.
          let kept = freed_kept N w g k.sizes p.represents x n e some y stands in
          kept_trans (p.keeps y (λ z. stands (kept.size ∙ z))) kept;
    }

-- where no object stands, nothing goes
pub erase_none : (r : ℕ) (k : Graph) (x : ℕ) → size k x ≡ 0 → erase r k x ≡ k
unfolding stretch
erase_none r k x z =
    graph_is
    (ap (set k.sizes x) (sym z) ∙ set-get_or k.sizes x 0)
    refl
    (ap (λ (n : ℕ). clear (first_slot r x) (4 * n) k.slots) z)

-- ---- the graph's sweep

-- the blocks from n on are not swept yet
pub sweep_later : (r : ℕ) (k : Graph) (n y : ℕ) → n ≤ y → size (sweep r k n) y ≡ size k y
unfolding sweep
sweep_later r k zero y l = refl
sweep_later r k (suc n) y l =
    elim (ℕ_discrete (count (sweep r k n) n) 0) [
      | yes z ↦
          ap (λ (m : Graph). size m y) (sweep_gone r (sweep r k n) n z)
          ∙ get_or-set_other (sweep r k n).sizes n y 0 0 (λ e. omega arith)
          ∙ sweep_later r k n y (omega arith)
      | no c ↦ ap (λ (m : Graph). size m y) (sweep_kept r (sweep r k n) n c) ∙ sweep_later r k n y (omega arith)
    ]

pub sweep_counts : (r : ℕ) (k : Graph) (n : ℕ) → (sweep r k n).counts ≡ k.counts
unfolding sweep
sweep_counts r k zero = refl
sweep_counts r k (suc n) =
    elim (ℕ_discrete (count (sweep r k n) n) 0) [
      | yes z ↦ ap (λ (m : Graph). m.counts) (sweep_gone r (sweep r k n) n z) ∙ sweep_counts r k n
      | no c ↦ ap (λ (m : Graph). m.counts) (sweep_kept r (sweep r k n) n c) ∙ sweep_counts r k n
    ]

-- ---- marks as counts

-- 1 for each marked block, for a sweep by marks
unfoldable pub as_counts : ℕ → List Bool → List ℕ
as_counts N marks = tabulate N (λ b. one (marked marks b))

module _ (N : ℕ) (marks : List Bool) (within : (b : ℕ) → marked marks b ≡ true → b < N) where
  pub as_counts_marked : (b : ℕ) → marked marks b ≡ true → get_or (as_counts N marks) b 0 ≢ 0
  unfolding as_counts
  as_counts_marked b m z = omega (arith, get_d_tabulate 0 N (λ b. one (marked marks b)) b (within b m), ap one m)

  pub as_counts_unmarked : (b : ℕ) → marked marks b ≡ false → get_or (as_counts N marks) b 0 ≡ 0
  unfolding as_counts
  as_counts_unmarked b u =
      elim (dec_lt b N) [
        | yes l ↦ get_d_tabulate 0 N (λ b. one (marked marks b)) b l ∙ ap one u
        | no l ↦ get_or-eq_default (as_counts N marks) 0 {n = b} (omega (arith, length_tabulate N (λ b. one (marked marks b))))
      ]

-- ---- the sweep of the rules

module _ (N w : ℕ) (h : Memory) (marks : List Bool) where
  pub swept_goes : (n : ℕ) → is_first N h n && not (marked marks n) ≡ true
      → swept N w h marks (suc n) ≡ freed N w (swept N w h marks n) n (size_at N h n)
  unfolding swept
  swept_goes n e = rw (e, swept)

  pub swept_stays : (n : ℕ) → is_first N h n && not (marked marks n) ≡ false → swept N w h marks (suc n) ≡ swept N w h marks n
  unfolding swept
  swept_stays n e = rw (e, swept)

module _ (N w : ℕ) (h : Memory) (shape : Shaped N w h) (represents : Represents N h.a h.b (sizes_of N h.a h.b))
    (bare : Bare N h.a h.b h.d h.cells) (marks : List Bool) (counts : List ℕ)
    -- the counts of the graph are not 0 exactly where an object is marked
    (counted : (b : ℕ) → marked marks b ≡ true → get_or counts b 0 ≢ 0)
    (uncounted : (b : ℕ) → marked marks b ≡ false → get_or counts b 0 ≡ 0) where
  abbrev before : Graph
  before = record { sizes = sizes_of N h.a h.b; counts = counts; slots = slots_in N h }

  abbrev r : ℕ
  r = length h.roots

  module _ (n : ℕ) (inside : n < N) (one_less : Swept N w h (swept N w h marks n) (sweep r before n)) where
    same_count : count (sweep r before n) n ≡ get_or counts n 0
    same_count = ap (λ (l : List ℕ). get_or l n 0) (sweep_counts r before n)

    same_size : size (sweep r before n) n ≡ get_or (sizes_of N h.a h.b) n 0
    same_size = sweep_later r before n n (omega arith)

    -- an object that is not marked goes
    goes :
        is_first N h n ≡ true → marked marks n ≡ false
        → Swept N w h (freed N w (swept N w h marks n) n (size_at N h n)) (sweep_one r (sweep r before n) n)
    goes f m =
        rw (sweep_gone r (sweep r before n) n (same_count ∙ uncounted n m))
        (freed_swept N w h (swept N w h marks n) (sweep r before n) one_less n (size_at N h n)
        (same_size ∙ size_first N h.a h.b n f)
        (size_some (N - n) h.b n (omega arith)))

    -- and nothing else does
    stays : is_first N h n && not (marked marks n) ≡ false → Dec (count (sweep r before n) n ≡ 0)
        → sweep_one r (sweep r before n) n ≡ sweep r before n
    stays e (no c) = sweep_kept r (sweep r before n) n c
    stays e (yes z) =
        sweep_gone r (sweep r before n) n z
        ∙ erase_none r (sweep r before n) n
        (same_size
        ∙ elim (test_cases_lem (is_first N h n)) [
          | inr f ↦ size_not_first N h.a h.b n f
          | inl f ↦
              absurd (counted n (not-false (marked marks n) (and_false (is_first N h n) (not (marked marks n)) e f)) (sym same_count ∙ z))
        ])

    one_more : Swept N w h (swept N w h marks (suc n)) (sweep_one r (sweep r before n) n)
    one_more =
        elim (test_cases_lem (is_first N h n && not (marked marks n))) [
          | inl e ↦
              let facts = and_true (is_first N h n) (not (marked marks n)) e in
              rw (swept_goes N w h marks n e) (goes facts.0 (not-true (marked marks n) facts.1))
          | inr e ↦ rw (swept_stays N w h marks n e, stays e (ℕ_discrete (count (sweep r before n) n) 0)) one_less
        ]

  pub sweep_swept : (n : ℕ) → n ≤ N → Swept N w h (swept N w h marks n) (sweep r before n)
  unfolding sweep swept
  sweep_swept zero l =
      record {
        shape = shape;
        represents = represents;
        same_roots = refl;
        same_waiting = refl;
        same_sections = refl;
        same_marks = refl;
        same_list = refl;
        slots_are = refl;
        bare = bare;
        keeps = λ x stands. kept_same N h x;
      }
  sweep_swept (suc n) l = one_more n l (sweep_swept n (omega arith))
