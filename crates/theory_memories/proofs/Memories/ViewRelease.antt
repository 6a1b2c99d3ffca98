-- The release of the rules is, seen in the object graph, the release of the graph's machine; and the maps go on to represent the sizes.
use mathlib.Core.Path.{◌≡◌, refl, sym, ap, ◌∙◌, subst}
use mathlib.Core.Logic.{◌≢◌}
use mathlib.Core.Bool.{Bool, true, false}
use mathlib.Core.List.{List, [], ◌∷◌, ◌++◌}
use Prim.Native.Nat.{ℕ, zero, suc, ◌+◌, ◌-◌, ◌*◌, ◌/◌, ◌≤◌, ◌<◌}
use native.Mathlib.Omega.{arith}
use lib.ListN.{length, get_or, set}
use Rattle.bitmap.specs.Bit.{set_bit, fill_bits, zeros}
use Rattle.bitmap.proofs.Maps.{length_set_bit}
use Rattle.bitmap.proofs.Runs.{length_fill}
use Rattle.bitmap.proofs.Zeros.{zeros_fill_zeros}
use Rattle.planes.specs.Plane.{set_count}
use Rattle.planes.proofs.Counts.{set_count_there}
use Rattle.rules.specs.Heap.{Memory, capacity, size_at, is_data, reference}
use Rattle.rules_stores.specs.Store.{work, count_down_each, freed, naming_cells, work_after, memory_after, release}
use Rattle.rules.proofs.Shape.{Shaped}
use Rattle.theory_memories.proofs.Maps.Extents.{Represents, sizes_of, length_sizes_of, extent, represents_is}
use Rattle.theory_memories.proofs.Maps.Moves.{freed_represents}
use Rattle.theory_graphs.proofs.Graphs.Occurrences.{nonzero_inside}
use Rattle.theory_graphs.proofs.Graphs.Graph as graph
use Rattle.theory_graphs.proofs.Graphs.Graph.{Graph, size, count, slot, first_slot}
use Rattle.theory_graphs.proofs.Graphs.Balance.{Balanced, Waits, waits_head, named_object, free_balanced, free_waits}
use Rattle.theory_graphs.proofs.Graphs.Stretch.{clear}
use Rattle.theory_memories.proofs.Memories.Reading.{Bare, data_read, ordinary_read, freed_read, freed_bare}
use Rattle.theory_memories.proofs.Memories.View.{cell_refs, slots_in, view}
use Rattle.theory_memories.proofs.Memories.Slots.{cell_slot}
use Rattle.theory_memories.proofs.Memories.Healthy.{view_count}
use Rattle.theory_memories.proofs.Memories.ViewMoves.{WorkShows, each_shows, each_none, length_clear_cells, clear_behind}

-- a memory whose buffers have the lengths of another's
pub reshaped :
    (N w : ℕ) (h g : Memory) → Shaped N w h → length g.a ≡ length h.a → length g.b ≡ length h.b
    → length g.counts ≡ length h.counts → length g.cells ≡ length h.cells → length g.roots ≡ length h.roots
    → length g.waiting ≡ length h.waiting → length g.sections ≡ length h.sections → length g.d ≡ length h.d
    → length g.marks ≡ length h.marks → length g.list ≡ length h.list → Shaped N w g
reshaped N w h g s a b counts cells roots waiting sections d marks list = record {
  power = s.power;
  blocks_min = s.blocks_min;
  blocks_max = s.blocks_max;
  whole_bytes = s.whole_bytes;
  width_min = s.width_min;
  width_max = s.width_max;
  roots_min = rw roots s.roots_min;
  roots_max = rw roots s.roots_max;
  length_a = a ∙ s.length_a;
  length_b = b ∙ s.length_b;
  length_counts = counts ∙ s.length_counts;
  length_cells = cells ∙ s.length_cells;
  length_waiting = waiting ∙ s.length_waiting;
  length_sections = sections ∙ s.length_sections;
  length_d = d ∙ s.length_d;
  length_marks = marks ∙ s.length_marks;
  length_list = list ∙ s.length_list;
}

-- the memory h is as its shape demands, has r roots and shows the graph k
pub record Shows (N w r : ℕ) (h : Memory) (k : Graph) : Type 0 where
  pub shape : Shaped N w h
  pub represents : Represents N h.a h.b (sizes_of N h.a h.b)
  pub roots_are : length h.roots ≡ r
  pub view_is : view N w h ≡ k
  pub bare : Bare N h.a h.b h.d h.cells

-- graphs with equal parts are equal
pub graph_is : {sizes counts slots sizes' counts' slots' : List ℕ} → sizes ≡ sizes' → counts ≡ counts' → slots ≡ slots'
    → ◌≡◌ {A = Graph} (record { sizes = sizes; counts = counts; slots = slots }) (record { sizes = sizes'; counts = counts'; slots = slots' })
graph_is p q r = λ i. record { sizes = p i; counts = q i; slots = r i }

-- what is known of a memory while objects wait: their counts have come to 0, and the laws hold with nothing in the hand
pub record Releasing (N w : ℕ) (h : Memory) (stack : List ℕ) : Type 0 where
  pub shape : Shaped N w h
  pub represents : Represents N h.a h.b (sizes_of N h.a h.b)
  pub positive : 0 < capacity w
  pub balanced : Balanced (capacity w) (view N w h) 0
  pub waits : Waits (view N w h) stack
  pub bare : Bare N h.a h.b h.d h.cells

-- ---- one object is freed

module _ (N w : ℕ) (h : Memory) (shape : Shaped N w h) (positive : 0 < capacity w) (balanced : Balanced (capacity w) (view N w h) 0) where
  -- every slot names a block of the heap
  pub slot_le : (s : ℕ) → slot (view N w h) s ≤ N
  slot_le s = go (slot (view N w h) s) refl
    where
      go : (v : ℕ) → slot (view N w h) s ≡ v → v ≤ N
      go zero e = omega arith
      go (suc b) e =
          let object = named_object (capacity w) positive (view N w h) balanced s b e in
          omega (arith, length_sizes_of N h.a h.b, nonzero_inside (sizes_of N h.a h.b) b object)

module _ (N w : ℕ) (h : Memory) (x : ℕ) (rest : List ℕ) (before : Releasing N w h (x ∷ rest)) where
  shape : Shaped N w h
  shape = before.shape

  object : size (view N w h) x ≢ 0
  object = (waits_head (view N w h) x rest before.waits).0

  uncounted : count (view N w h) x ≡ 0
  uncounted = (waits_head (view N w h) x rest before.waits).1

  pub size_there : size_at N h x ≡ size (view N w h) x
  size_there = extent N h.a h.b (sizes_of N h.a h.b) before.represents x object

  pub nonzero : size_at N h x ≢ 0
  nonzero z = object (sym size_there ∙ z)

  -- its blocks become free
  pub freed_zeros : zeros (fill_bits h.a x (size_at N h x) 0) ≡ zeros h.a + size_at N h x
  freed_zeros =
      let same = size_there in
      let inside = before.represents.inside x object in
      zeros_fill_zeros h.a x (size_at N h x) (omega (arith, before.represents.length_a)) (λ i l u. before.represents.used x i l (omega arith))

  -- its count is 0 already
  same_counts : set_count (N / 8) w h.counts x 0 ≡ h.counts
  same_counts =
      let inside : x < N = omega (arith, object, before.represents.inside x object) in
      set_count_there (N / 8) w h.counts x 0 (sym (view_count N w h x inside) ∙ uncounted)

  -- its cells as slots
  slot_of : (k : ℕ) → k < 4 * size (view N w h) x → get_or (slots_in N h) (first_slot (length h.roots) x + k) 0 ≡ reference N h (4 * x + k)
  slot_of k l =
      let at : first_slot (length h.roots) x + k ≡ length h.roots + (4 * x + k) = omega arith in
      ap (λ (s : ℕ). get_or (slots_in N h) s 0) at
      ∙ cell_slot N h (4 * x + k) (omega (arith, before.represents.inside x object))

  -- what its cells name is counted down; those of data name none
  naming :
      (t : Bool) → is_data h.d x ≡ t
      → WorkShows N w (count_down_each N w (work h.counts rest) h.cells (4 * x) (elim t [ true ↦ 0 | false ↦ 4 * size_at N h x ]))
      (graph.count_down_each (capacity w) (view N w h).counts (slots_in N h) (first_slot (length h.roots) x) (4 * size (view N w h) x))
      (graph.count_down_each_stack (capacity w) (view N w h).counts (slots_in N h) (first_slot (length h.roots) x) (4 * size (view N w h) x) rest)
  unfolding count_down_each
  naming true e =
      let none =
      each_none (capacity w) (view N w h).counts rest (slots_in N h) (first_slot (length h.roots) x) (4 * size (view N w h) x)
      (λ k l.
      slot_of k l
      ∙ data_read N h.a h.b (sizes_of N h.a h.b) before.represents h.d h.cells x (4 * x + k) (omega arith, omega arith) e) in
      record { length_is = shape.length_counts; counts_are = sym none.0; stack_is = sym none.1 }
  naming false e =
      rw size_there
      (each_shows N w shape.whole_bytes h.counts shape.length_counts rest h.cells (slots_in N h) (4 * x)
      (first_slot (length h.roots) x) (slot_le N w h shape before.positive before.balanced) (4 * size (view N w h) x)
      (λ k l.
      sym
      (slot_of k l
      ∙ ordinary_read N h.a h.b (sizes_of N h.a h.b) before.represents h.d h.cells x (4 * x + k) (omega arith, omega arith) e)))

  work_after_lem :
      WorkShows N w (work_after N w h x rest) (graph.free (capacity w) (length h.roots) (view N w h) x).counts
      (graph.free_stack (capacity w) (length h.roots) (view N w h) x rest)
  unfolding freed naming_cells graph.free graph.free_stack
  work_after_lem = rw same_counts (naming (is_data h.d x) refl)

  maps_after :
      Represents N (fill_bits h.a x (size_at N h x) 0) (set_bit h.b (x + size_at N h x - 1) 1) (set (sizes_of N h.a h.b) x 0)
  maps_after =
      freed_represents N h.a h.b (sizes_of N h.a h.b) before.represents x (size_at N h x) (sym size_there)
      nonzero

  pub sizes_after :
      set (sizes_of N h.a h.b) x 0 ≡ sizes_of N (fill_bits h.a x (size_at N h x) 0) (set_bit h.b (x + size_at N h x - 1) 1)
  sizes_after =
      represents_is N (fill_bits h.a x (size_at N h x) 0) (set_bit h.b (x + size_at N h x - 1) 1) (set (sizes_of N h.a h.b) x 0)
      maps_after

  pub view_after : view N w (memory_after N w h x rest) ≡ graph.free (capacity w) (length h.roots) (view N w h) x
  unfolding freed graph.free
  view_after =
      graph_is (sym sizes_after) work_after_lem.counts_are
      (ap (λ (l : List ℕ). h.roots ++ l)
      (freed_read N h.a h.b (sizes_of N h.a h.b) h.d h.cells before.represents x (size_at N h x) (sym size_there) nonzero)
      ∙ clear_behind h.roots (cell_refs N h) (4 * x) (4 * size_at N h x)
      ∙ ap (λ (n : ℕ). clear (first_slot (length h.roots) x) (4 * n) (slots_in N h)) size_there)

  pub releasing_next : Releasing N w (memory_after N w h x rest) (work_after N w h x rest).stack
  unfolding freed
  releasing_next =
      let cap : ℕ = capacity w in
      let r : ℕ = length h.roots in
      record {
        shape = reshaped N w h (memory_after N w h x rest) shape (length_fill h.a x (size_at N h x) 0)
            (length_set_bit h.b (x + size_at N h x - 1) 1) (work_after_lem.length_is ∙ sym shape.length_counts)
            (length_clear_cells h.cells (4 * x) (4 * size_at N h x)) refl refl refl (length_set_bit h.d x 0) refl refl;
        represents = rw (← sizes_after) maps_after;
        positive = before.positive;
        balanced =
            subst (λ (k : Graph). Balanced cap k 0) (sym view_after)
            (free_balanced cap before.positive r (view N w h) x uncounted before.balanced);
        waits =
            subst (λ (k : Graph). Waits k (work_after N w h x rest).stack) (sym view_after)
            (rw work_after_lem.stack_is (free_waits cap before.positive r (view N w h) x rest before.balanced before.waits));
        bare =
            freed_bare N h.a h.b (sizes_of N h.a h.b) h.d h.cells before.represents x (size_at N h x) (sym size_there) nonzero
            before.bare;
      }

-- ---- all that waits is freed

pub release_shows :
    (N w fuel : ℕ) (h : Memory) (stack : List ℕ) → Releasing N w h stack
    → Shows N w (length h.roots) (release fuel N w h stack) (graph.release (capacity w) (length h.roots) fuel (view N w h) stack)
unfolding release graph.release freed
release_shows N w zero h stack before =
    record { shape = before.shape; represents = before.represents; roots_are = refl; view_is = refl; bare = before.bare }
release_shows N w (suc fuel) h [] before =
    record { shape = before.shape; represents = before.represents; roots_are = refl; view_is = refl; bare = before.bare }
release_shows N w (suc fuel) h (x ∷ rest) before =
    rw (← view_after N w h x rest before, ← (work_after_lem N w h x rest before).stack_is)
    (release_shows N w fuel (memory_after N w h x rest) (work_after N w h x rest).stack (releasing_next N w h x rest before))
