-- The two stores and the allocation of the rules are, seen in the object graph, those of the graph's machine.
use mathlib.Core.Path.{◌≡◌, refl, sym, ap, ◌∙◌, subst}
use mathlib.Core.Logic.{◌≢◌, inl, inr}
use mathlib.Core.Bool.{Bool, true, false}
use mathlib.Core.List.{List, [], ◌++◌}
use Prim.Native.Nat.{ℕ, zero, suc, ◌+◌, ◌-◌, ◌*◌, ◌/◌, ◌≤◌, ◌<◌}
use native.Mathlib.Numerals.{add-one}
use native.Mathlib.Decide.{dec_lt}
use native.Mathlib.Omega.{arith}
use lib.ListN.{length, get_or, set, length-set, length-append, get_or-eq_default}
use lib.Seq.{set-append_left}
use Rattle.bitmap.specs.Bit.{one, set_bit, fill_bits}
use Rattle.bitmap.proofs.Maps.{length_set_bit}
use Rattle.bitmap.proofs.Runs.{length_fill}
use Rattle.planes.proofs.Counts.{length_set_count}
use Rattle.rules.specs.Heap.{Memory, with_counts, with_cells, with_roots, capacity, is_first, size_at, is_ref, is_data}
use Rattle.rules_stores.specs.Store.{Work, work, count_up, count_down, placed, let_go}
use Rattle.rules.proofs.Objects.{first_facts}
use Rattle.theory_memories.proofs.Maps.Extents.{Represents, sizes_of, length_sizes_of, first_size, extent, represents_is}
use Rattle.theory_memories.proofs.Maps.Moves.{clear_of, placed_represents}
use Rattle.theory_memories.proofs.Maps.LowestChunk.{Room}
use Rattle.theory_graphs.proofs.Graphs.Stretch.{Inside}
use Rattle.theory_graphs.proofs.Graphs.Graph as graph
use Rattle.theory_graphs.proofs.Graphs.Graph.{Graph, size, slot, raise, write, place, swap, swap_stack, finish, store, allocate}
use Rattle.theory_graphs.proofs.Graphs.Balance.{Balanced, Waits, write_balanced, lower_balanced, lower_waits}
use Rattle.theory_graphs.proofs.Graphs.Calls.{Place, Vacant, raised_balanced, raised_waits, placed_balanced, placed_waits}
use Rattle.theory_memories.proofs.Memories.Reading.{ordinary_read, reference_written, cell_bare, placed_read, placed_bare}
use Rattle.theory_memories.proofs.Memories.View.{cell_refs, slots_in, view}
use Rattle.theory_memories.proofs.Memories.Slots.{root_slot, cell_slot, length_cell_refs, ref_first}
use Rattle.theory_memories.proofs.Memories.Healthy.{Healthy, capacity_positive}
use Rattle.theory_memories.proofs.Memories.ViewMoves.{counts_of, WorkShows, counts_set, counts_up, length_up, down_shows, set_append_right, length_clear_cells}
use Rattle.theory_memories.proofs.Memories.ViewRelease.{reshaped, Shows, graph_is, Releasing, slot_le, release_shows}

-- the work and the memory once what v named is counted down
abbrev pub work_left : ℕ → ℕ → Memory → ℕ → Work
work_left N w g v = count_down N w (work g.counts []) v

abbrev pub memory_left : ℕ → ℕ → Memory → ℕ → Memory
memory_left N w g v = with_counts (work_left N w g v).counts g

-- in the written memory g the object named by v is let go: what waits then is released, and the graph k shows in the end
pub record LetsGo (N w r : ℕ) (g : Memory) (v : ℕ) (k : Graph) : Type 0 where
  pub releasing : Releasing N w (memory_left N w g v) (work_left N w g v).stack
  pub shows : Shows N w r (let_go N w g v) k

-- ---- a slot is written and what it named is let go

module _ (N w r : ℕ) (pos : 0 < capacity w) (k : Graph) (i v : ℕ) (blocks : length k.sizes ≡ N) (inside : i < length k.slots)
    (named : slot k i ≤ N) (held : Balanced (capacity w) k v) (waits : Waits k []) where
  lets_go : (g : Memory) → Shows N w r g (write k i v) → LetsGo N w r g (slot k i) (finish (capacity w) r k i v)
  unfolding let_go finish
  lets_go g shows =
      record {
        releasing = releasing;
        shows =
            rw (blocks, ← shows.roots_are, ← lowered, ← stack_is)
            (release_shows N w N (memory_left N w g (slot k i)) (work_left N w g (slot k i)).stack releasing);
      }
    where
      written : Balanced (capacity w) (write k i v) (slot k i)
      written = write_balanced (capacity w) pos k i v inside held

      counts_are : counts_of N w g.counts ≡ k.counts
      counts_are = ap (λ (m : Graph). m.counts) shows.view_is

      down :
          WorkShows N w (work_left N w g (slot k i)) (graph.count_down (capacity w) (counts_of N w g.counts) (slot k i))
          (graph.count_down_stack (capacity w) (counts_of N w g.counts) (slot k i) [])
      down = down_shows N w shows.shape.whole_bytes g.counts shows.shape.length_counts [] (slot k i) named

      lowered : view N w (memory_left N w g (slot k i)) ≡ swap (capacity w) k i v
      lowered =
          graph_is (ap (λ (m : Graph). m.sizes) shows.view_is)
          (down.counts_are ∙ ap (λ (c : List ℕ). graph.count_down (capacity w) c (slot k i)) counts_are)
          (ap (λ (m : Graph). m.slots) shows.view_is)

      stack_is : (work_left N w g (slot k i)).stack ≡ swap_stack (capacity w) k i
      stack_is = down.stack_is ∙ ap (λ (c : List ℕ). graph.count_down_stack (capacity w) c (slot k i) []) counts_are

      releasing : Releasing N w (memory_left N w g (slot k i)) (work_left N w g (slot k i)).stack
      releasing = record {
        shape = reshaped N w g (memory_left N w g (slot k i)) shows.shape refl refl
            (down.length_is ∙ sym shows.shape.length_counts) refl refl refl refl refl refl refl;
        represents = shows.represents;
        positive = pos;
        balanced = subst (λ (m : Graph). Balanced (capacity w) m 0) (sym lowered)
            (lower_balanced (capacity w) pos (write k i v) (slot k i) written);
        waits = subst (λ (m : Graph). Waits m (work_left N w g (slot k i)).stack) (sym lowered)
            (rw stack_is (lower_waits (capacity w) pos (write k i v) (slot k i) [] written waits));
        bare = shows.bare;
      }

  -- slot i is a root ..
  put_root_lem :
      (h : Memory) → Shows N w r h k → i < r
      → LetsGo N w r (with_roots (set h.roots i v) h) (get_or h.roots i 0) (finish (capacity w) r k i v)
  put_root_lem h shows l =
      rw (sym (root_slot N h i root) ∙ ap (λ (m : Graph). slot m i) shows.view_is)
      (lets_go (with_roots (set h.roots i v) h)
      record {
        shape = reshaped N w h (with_roots (set h.roots i v) h) shows.shape refl refl refl refl (length-set h.roots i v) refl refl refl refl refl;
        represents = shows.represents;
        roots_are = length-set h.roots i v ∙ shows.roots_are;
        view_is = graph_is (ap (λ (m : Graph). m.sizes) shows.view_is) (ap (λ (m : Graph). m.counts) shows.view_is)
            (sym (set-append_left h.roots (cell_refs N h) i v root) ∙ ap (λ (m : Graph). set m.slots i v) shows.view_is);
        bare = shows.bare;
      })
    where
      root : i < length h.roots
      root = omega (arith, shows.roots_are)

  -- .. or a cell, of the ordinary object at x
  put_cell_lem :
      (h : Memory) (x c : ℕ) → Shows N w r h k → i ≡ length h.roots + c → Inside (4 * x) (4 * get_or (sizes_of N h.a h.b) x 0) c
      → is_data h.d x ≡ false
      → LetsGo N w r (with_cells (set h.cells c v) h) (get_or h.cells c 0) (finish (capacity w) r k i v)
  put_cell_lem h x c shows e cell ordinary =
      rw (sym read ∙ ap (λ (s : ℕ). get_or (slots_in N h) s 0) (sym e) ∙ ap (λ (m : Graph). slot m i) shows.view_is)
      (lets_go (with_cells (set h.cells c v) h)
      record {
        shape = reshaped N w h (with_cells (set h.cells c v) h) shows.shape refl refl refl (length-set h.cells c v) refl refl refl refl refl refl;
        represents = shows.represents;
        roots_are = shows.roots_are;
        view_is = graph_is (ap (λ (m : Graph). m.sizes) shows.view_is) (ap (λ (m : Graph). m.counts) shows.view_is)
            (ap (λ (l : List ℕ). h.roots ++ l)
            (reference_written N h.a h.b sizes shows.represents h.d h.cells x c v cell ordinary
            (omega (arith, within, shows.shape.length_cells)))
            ∙ sym (set_append_right h.roots (cell_refs N h) c v) ∙ ap (λ (s : ℕ). set (slots_in N h) s v) (sym e)
            ∙ ap (λ (m : Graph). set m.slots i v) shows.view_is);
        bare = cell_bare N h.a h.b sizes shows.represents h.d h.cells x c v cell shows.bare;
      })
    where
      sizes : List ℕ
      sizes = sizes_of N h.a h.b

      within : c < 4 * N
      within = omega (arith, cell, shows.represents.inside x (omega (arith, cell)))

      read : get_or (slots_in N h) (length h.roots + c) 0 ≡ get_or h.cells c 0
      read =
          cell_slot N h c within ∙ ordinary_read N h.a h.b sizes shows.represents h.d h.cells x c cell ordinary

-- ---- the calls, on a healthy memory

module _ (N w : ℕ) (h : Memory) (healthy : Healthy N w h) where
  pub positive : 0 < capacity w
  positive = capacity_positive w healthy.shape.width_min

  -- every slot names a block of the heap, or none
  pub slots_named : (s : ℕ) → slot (view N w h) s ≤ N
  slots_named = slot_le N w h healthy.shape positive healthy.whole.balanced

  pub roots_named : (r : ℕ) → get_or h.roots r 0 ≤ N
  roots_named r =
      elim (dec_lt r (length h.roots)) [
        | yes l ↦ rw (← root_slot N h r l) (slots_named r)
        | no l ↦ rw (get_or-eq_default h.roots 0 {n = r} (omega arith)) (omega arith)
      ]

  pub slots_length : length (slots_in N h) ≡ length h.roots + 4 * N
  slots_length = length-append h.roots (cell_refs N h) ∙ ap (λ (n : ℕ). length h.roots + n) (length_cell_refs N h)

  -- cell j of the object at a
  module _ (a j : ℕ) (first : is_first N h a ≡ true) (l : j < 4 * size_at N h a) where
    object : size (view N w h) a ≢ 0
    object = first_size N h.a h.b (sizes_of N h.a h.b) healthy.represents a first

    pub same_size : size_at N h a ≡ size (view N w h) a
    same_size = extent N h.a h.b (sizes_of N h.a h.b) healthy.represents a object

    pub cell_place : Place (length h.roots) (view N w h) (length h.roots + (4 * a + j))
    cell_place = inr (a, (omega arith, omega (arith, same_size)))

    pub cell_inside : length h.roots + (4 * a + j) < length (slots_in N h)
    cell_inside = omega (arith, slots_length, same_size, healthy.represents.inside a object)

    -- it is one of the object's
    pub cell_of_lem : Inside (4 * a) (4 * get_or (sizes_of N h.a h.b) a 0) (4 * a + j)
    cell_of_lem = (omega arith, omega (arith, same_size))

    pub cell_below : 4 * a + j < 4 * N
    cell_below = omega (arith, same_size, healthy.represents.inside a object)

    -- what it holds as a reference stands in its slot
    pub cell_read_lem : is_data h.d a ≡ false → get_or (slots_in N h) (length h.roots + (4 * a + j)) 0 ≡ get_or h.cells (4 * a + j) 0
    cell_read_lem ordinary =
        cell_slot N h (4 * a + j) cell_below
        ∙ ordinary_read N h.a h.b (sizes_of N h.a h.b) healthy.represents h.d h.cells a (4 * a + j) cell_of_lem ordinary

  module _ (v : ℕ) (ref : is_ref N h v ≡ true) where
    -- what is stored is 0 or names an object
    pub ref_object : (a : ℕ) → v ≡ suc a → size (view N w h) a ≢ 0
    ref_object a e = first_size N h.a h.b (sizes_of N h.a h.b) healthy.represents a (ref_first N h v a ref e)

    ref_le : v ≤ N
    ref_le = go v refl
      where
        go : (u : ℕ) → v ≡ u → u ≤ N
        go zero e = omega arith
        go (suc a) e = (first_facts N h.a h.b a (ref_first N h v a ref e)).inside

    -- it is counted up
    pub raised_shows : Shows N w (length h.roots) (with_counts (count_up N w h.counts v) h) (raise (capacity w) (view N w h) v)
    raised_shows =
        let shape = healthy.shape in
        record {
          shape = reshaped N w h (with_counts (count_up N w h.counts v) h) shape refl refl
              (length_up N w shape.whole_bytes h.counts shape.length_counts v) refl refl refl refl refl refl refl;
          represents = healthy.represents;
          roots_are = refl;
          view_is = graph_is refl (counts_up N w shape.whole_bytes h.counts shape.length_counts v ref_le) refl;
          bare = healthy.bare;
        }

    module _ (i : ℕ) (slot-i : Place (length h.roots) (view N w h) i) where
      held : Balanced (capacity w) (raise (capacity w) (view N w h) v) v
      held = raised_balanced (capacity w) positive (length h.roots) (view N w h) healthy.whole i v slot-i ref_object

      waits : Waits (raise (capacity w) (view N w h) v) []
      waits = raised_waits (capacity w) positive (length h.roots) (view N w h) healthy.whole i v slot-i ref_object

    pub store_root_lem :
        (i : ℕ) → i < length h.roots
        → LetsGo N w (length h.roots) (with_roots (set h.roots i v) (with_counts (count_up N w h.counts v) h)) (get_or h.roots i 0)
        (store (capacity w) (length h.roots) (view N w h) i v)
    unfolding store
    store_root_lem i l =
        put_root_lem N w (length h.roots) positive (raise (capacity w) (view N w h) v) i v (length_sizes_of N h.a h.b)
        (omega (arith, slots_length)) (slots_named i) (held i (inl l)) (waits i (inl l))
        (with_counts (count_up N w h.counts v) h) raised_shows l

    pub store_cell_lem :
        (a j : ℕ) → is_first N h a ≡ true → j < 4 * size_at N h a → is_data h.d a ≡ false
        → LetsGo N w (length h.roots) (with_cells (set h.cells (4 * a + j) v) (with_counts (count_up N w h.counts v) h))
        (get_or h.cells (4 * a + j) 0) (store (capacity w) (length h.roots) (view N w h) (length h.roots + (4 * a + j)) v)
    unfolding store
    store_cell_lem a j first l ordinary =
        let i : ℕ = length h.roots + (4 * a + j) in
        let place = cell_place a j first l in
        put_cell_lem N w (length h.roots) positive (raise (capacity w) (view N w h) v) i v (length_sizes_of N h.a h.b)
        (cell_inside a j first l) (slots_named i) (held i place) (waits i place)
        (with_counts (count_up N w h.counts v) h) a (4 * a + j) raised_shows refl (cell_of_lem a j first l) ordinary

  -- n blocks at i are free for a new object
  module _ (n i : ℕ) (some : n ≢ 0) (room : Room N h.a n i) where
    pub room_vacant : Vacant (view N w h) i n
    room_vacant = record {
      some = some;
      fits = omega (arith, room.inside, length_sizes_of N h.a h.b);
      clear = clear_of N h.a h.b (sizes_of N h.a h.b) healthy.represents i n some room.free;
    }

    pub maps_placed : Represents N (fill_bits h.a i n 1) (set_bit h.b (i + n - 1) 0) (set (sizes_of N h.a h.b) i n)
    maps_placed = placed_represents N h.a h.b (sizes_of N h.a h.b) healthy.represents i n some room.inside room.free

    pub placed_shows : (asData : Bool) → Shows N w (length h.roots) (placed N w asData h i n) (place (view N w h) i n)
    unfolding placed
    placed_shows asData =
        let shape = healthy.shape in
        let sizes_are =
        represents_is N (fill_bits h.a i n 1) (set_bit h.b (i + n - 1) 0) (set (sizes_of N h.a h.b) i n) maps_placed in
        record {
          shape = reshaped N w h (placed N w asData h i n) shape (length_fill h.a i n 1) (length_set_bit h.b (i + n - 1) 0)
              (length_set_count (N / 8) w h.counts i 1) (length_clear_cells h.cells (4 * i) (4 * n)) refl refl refl
              (length_set_bit h.d i (one asData)) refl refl;
          represents = rw (← sizes_are) maps_placed;
          roots_are = refl;
          view_is = graph_is (sym sizes_are)
              (counts_set N w shape.whole_bytes h.counts shape.length_counts i 1 (omega (arith, room.inside))
              (omega (arith, positive)))
              (ap (λ (l : List ℕ). h.roots ++ l)
              (placed_read N h.a h.b (sizes_of N h.a h.b) h.d h.cells healthy.represents i n some room.inside room.free
              asData healthy.bare));
          bare =
              placed_bare N h.a h.b (sizes_of N h.a h.b) h.d h.cells healthy.represents i n some room.inside room.free
              asData healthy.bare;
        }

    pub allocate_root :
        (asData : Bool) (root : ℕ) → root < length h.roots
        → LetsGo N w (length h.roots) (with_roots (set h.roots root (i + 1)) (placed N w asData h i n)) (get_or h.roots root 0)
        (allocate (capacity w) (length h.roots) (view N w h) i n root)
    unfolding placed allocate
    allocate_root asData root l =
        rw add-one
        (put_root_lem N w (length h.roots) positive (place (view N w h) i n) root (suc i)
        (length-set (sizes_of N h.a h.b) i n ∙ length_sizes_of N h.a h.b)
        (omega (arith, slots_length)) (slots_named root)
        (placed_balanced (capacity w) positive (length h.roots) (view N w h) healthy.whole i n root room_vacant l)
        (placed_waits (capacity w) positive (length h.roots) (view N w h) healthy.whole i n root room_vacant l)
        (placed N w asData h i n) (placed_shows asData) l)
