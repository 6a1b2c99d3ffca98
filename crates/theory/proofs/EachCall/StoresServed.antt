-- The accepted stores and the accepted allocation serve: they leave a healthy memory and free nothing that a root leads to once the call's
-- own reference is written.
use mathlib.Core.Path.{◌≡◌, refl, sym, ap, ◌∙◌, subst}
use mathlib.Core.Logic.{◌≢◌, inl, inr}
use mathlib.Core.Bool.{Bool, true, false}
use mathlib.Core.List.{List, [], ◌++◌}
use mathlib.Core.Option.{some}
use Prim.Native.Nat.{ℕ, suc, ◌+◌, ◌-◌, ◌*◌, ◌/◌, ◌≤◌, ◌<◌}
use native.Mathlib.Decide.{ℕ_discrete}
use native.Mathlib.Omega.{arith}
use lib.ListN.{length, get_or, set, length-set}
use lib.Dec.{eqb}
use borrow.Author.Tests.{eqb-false}
use Rattle.bitmap.specs.Bit.{bit_at, zeros}
use lib.Seq.{set-append_left, get_or-set_same, get_or-set_other}
use Rattle.rules.specs.Heap.{Memory, with_cells, with_roots, capacity, count_of, is_first, size_at, exponent, lowest_free, is_ref, is_data}
use Rattle.rules_stores.specs.Store.{placed, put_root, put_cell, change_root, change_cell, allocate_in}
use Rattle.rules_stores.proofs.Plain.{store_root_in, store_cell_in}
use Rattle.rules_calls.specs.Calls.{Call, allocate_as, store_root, store_cell, reply, settled, freeing}
use Rattle.theory_memories.specs.Words.{Object, Leads, number_of_references}
use Rattle.theory.specs.CallWords.{written, stored}
use Rattle.theory.specs.Stuck.{writes}
use Rattle.types.specs.declared.Reply.{Reply}
use Rattle.rules.proofs.Objects.{first_facts}
use Rattle.theory_memories.proofs.Maps.Extents.{sizes_of, length_sizes_of}
use Rattle.theory_memories.proofs.Maps.LowestChunk.{Room, room}
use Rattle.theory_graphs.proofs.Graphs.Graph as graph
use Rattle.theory_graphs.proofs.Graphs.Graph.{Graph, size, count, raise, place, finish}
use Rattle.theory_graphs.proofs.Graphs.Occurrences.{occurrences}
use Rattle.theory_graphs.proofs.Graphs.Stuck.{stuck_by_store, allocate_lowers}
use Rattle.theory_graphs.proofs.Graphs.Balance.{Balanced, Waits}
use Rattle.theory_graphs.proofs.Graphs.Keep.{Reach}
use Rattle.theory_graphs.proofs.Graphs.Order.{runs_leave}
use Rattle.theory_graphs.proofs.Graphs.Calls.{Shape, Place, finish_ends}
use Rattle.theory_graphs.proofs.Graphs.Calls.{raised_balanced, raised_waits, raised_shape, store_whole, store_keeps}
use Rattle.theory_graphs.proofs.Graphs.Calls.{placed_balanced, placed_waits, placed_shape, allocate_whole, allocate_keeps}
use Rattle.theory_memories.proofs.Memories.Reading.{reference_written, cell_bare}
use Rattle.theory_memories.proofs.Memories.View.{cell_refs, slots_in, view}
use Rattle.theory_memories.proofs.Memories.Slots.{root_slot, references_slots}
use Rattle.theory_memories.proofs.Memories.Healthy.{Aligned, Healthy, view_count}
use Rattle.theory_memories.proofs.Memories.Soundness.{all_references}
use Rattle.theory_memories.proofs.Memories.Leads.{object_size, leads_reach}
use Rattle.theory.proofs.EachCall.Served.{collecting, no_collection, Served}
use Rattle.theory_memories.proofs.Memories.Settled.{settled_healthy}
use Rattle.theory_memories.proofs.Memories.ViewMoves.{set_append_right}
use Rattle.theory_memories.proofs.Memories.ViewRelease.{Shows}
use Rattle.theory_memories.proofs.Memories.Stores.{positive, slots_length, ref_object, store_root_lem, cell_place, cell_inside, cell_of_lem, cell_below}
use Rattle.theory_memories.proofs.Memories.Stores.{cell_read_lem, store_cell_lem, room_vacant, allocate_root}
use Rattle.theory_memories.proofs.Memories.Settled.{healthy_after, object_after}

-- an object that a release leaves has its old size
finish_aligned :
    (cap : ℕ) (pos : 0 < cap) (r : ℕ) (k : Graph) (i v : ℕ) → Balanced cap k v → Waits k [] → Shape r k → Place r k i → Aligned k.sizes
    → Aligned (finish cap r k i v).sizes
finish_aligned cap pos r k i v held waits shape slot-i aligned x n =
    elim ((runs_leave cap r (λ j. ⊥) pos (finish_ends cap pos r k i v held waits shape slot-i).runs).objects x) [
      | inl e ↦ rw e (aligned x (λ z. n (e ∙ z)))
      | inr e ↦ absurd (n e.0)
    ]

-- ---- the stores

module _ (N w : ℕ) (h : Memory) (healthy : Healthy N w h) where
  -- g is the memory after a store of v in slot i
  module _ (v : ℕ) (ref : is_ref N h v ≡ true) (i : ℕ) (slot-i : Place (length h.roots) (view N w h) i) (g : Memory)
      (shows : Shows N w (length h.roots) g (graph.store (capacity w) (length h.roots) (view N w h) i v)) where
    pub store_healthy : Healthy N w (settled N g)
    unfolding graph.store
    store_healthy =
        let cap : ℕ = capacity w in
        let r : ℕ = length h.roots in
        let pos = positive N w h healthy in
        let named = ref_object N w h healthy v ref in
        healthy_after N w r g (graph.store cap r (view N w h) i v) shows
        (store_whole cap pos r (view N w h) healthy.whole i v slot-i named)
        (finish_aligned cap pos r (raise cap (view N w h) v) i v
        (raised_balanced cap pos r (view N w h) healthy.whole i v slot-i named)
        (raised_waits cap pos r (view N w h) healthy.whole i v slot-i named)
        (raised_shape cap pos r (view N w h) healthy.whole i v slot-i named) slot-i healthy.aligned)

    store_object :
        (b n : ℕ) → Object N h b n → Reach (length h.roots) (sizes_of N h.a h.b) (set (slots_in N h) i v) b
        → Object N (settled N g) b n
    store_object b n object reach =
        object_after N w (length h.roots) h g (graph.store (capacity w) (length h.roots) (view N w h) i v) healthy.represents shows
        b n object
        (store_keeps (capacity w) (positive N w h healthy) (length h.roots) (view N w h) healthy.whole i v slot-i
        (ref_object N w h healthy v ref) b reach)

    -- it brings the count of the object at b to the capacity only where that many slots name the object once v is written
    store_sticks_lem :
        i < length (slots_in N h) → get_or (slots_in N h) i 0 ≢ v → (b n : ℕ) → Object N h b n → count_of N w h b < capacity w
        → count_of N w g b ≡ capacity w → (v ≡ suc b) × (capacity w ≤ occurrences (suc b) (set (slots_in N h) i v))
    store_sticks_lem inside new b n object low top =
        let in_heap : b < N = (first_facts N h.a h.b b object.first).inside in
        stuck_by_store (capacity w) (positive N w h healthy) (length h.roots) (view N w h) healthy.whole i v b slot-i inside
        (ref_object N w h healthy v ref) new (omega (arith, view_count N w h b in_heap))
        (sym (ap (λ (k : Graph). count k b) shows.view_is) ∙ view_count N w g b in_heap ∙ top)

  -- a store of the value present
  same_served : (c : Call) (x : Reply) → collecting c ≡ false → Served N w c h (x, settled N h)
  same_served c x other =
      record {
        keep = settled_healthy N w h healthy;
        no_early_free = λ b n object leads. record { first = object.first; size = object.size };
        collects = no_collection c other;
        sticks = λ living b n was is low top. absurd (omega arith);
      }

  -- ---- a root

  module _ (r v : ℕ) (l : r < length h.roots) (ref : is_ref N h v ≡ true) where
    -- the references once the root is written
    root_references : (b : ℕ) → number_of_references N (with_roots (set h.roots r v) h) b ≡ occurrences (suc b) (set (slots_in N h) r v)
    root_references b =
        let written : Memory = with_roots (set h.roots r v) h in
        all_references N written healthy.represents healthy.bare.free_cells b
        ∙ sym (references_slots N written b)
        ∙ ap (occurrences (suc b)) (sym (set-append_left h.roots (cell_refs N h) r v l))

    -- the memory after a store is healthy before its waiting list is cleared, too
    pub store_root_healthy : Healthy N w (store_root_in N w h r v)
    unfolding store_root_in change_root put_root
    store_root_healthy = go (eqb (get_or h.roots r 0) v)
      where
        shows : Shows N w (length h.roots) (change_root N w h r v) (graph.store (capacity w) (length h.roots) (view N w h) r v)
        shows = (store_root_lem N w h healthy v ref r l).shows

        go : (t : Bool) → Healthy N w (elim t [ true ↦ h | false ↦ change_root N w h r v ])
        go true = healthy
        go false =
            let settled_healthy = store_healthy v ref r (inl l) (change_root N w h r v) shows in
            record {
              shape = shows.shape;
              represents = settled_healthy.represents;
              whole = settled_healthy.whole;
              aligned = settled_healthy.aligned;
              bare = settled_healthy.bare;
            }

    change_root_served :
        (second : ℕ) → get_or h.roots r 0 ≢ v → Served N w (store_root r v) h (freeing N h (change_root N w h r v) second)
    unfolding change_root put_root freeing stored written writes
    change_root_served second new =
        let shows = (store_root_lem N w h healthy v ref r l).shows in
        record {
          keep = store_healthy v ref r (inl l) (change_root N w h r v) shows;
          no_early_free = λ b n object leads.
              store_object v ref r (inl l) (change_root N w h r v) shows b n object
              (rw (length-set h.roots r v, ← set-append_left h.roots (cell_refs N h) r v l)
              at (leads_reach N (with_roots (set h.roots r v) h) (sizes_of N h.a h.b) healthy.represents leads));
          collects = no_collection (store_root r v) refl;
          sticks = λ living b n was is low top.
              let found =
              store_sticks_lem v ref r (inl l) (change_root N w h r v) shows (omega (arith, slots_length N w h healthy))
              (λ e. new (sym (root_slot N h r l) ∙ e)) b n was low top in
              record { accepted = refl; reference = omega (arith, found.0); enough = omega (arith, found.1, root_references b) };
        }

    pub store_root_served : (second : ℕ) → Served N w (store_root r v) h (freeing N h (store_root_in N w h r v) second)
    unfolding store_root_in freeing
    store_root_served second = go (eqb (get_or h.roots r 0) v) refl
      where
        go : (t : Bool) → eqb (get_or h.roots r 0) v ≡ t
            → Served N w (store_root r v) h (freeing N h (elim t [ true ↦ h | false ↦ change_root N w h r v ]) second)
        go true e = same_served (store_root r v) (reply 0 (zeros h.a - zeros h.a) second) refl
        go false e = change_root_served second (eqb-false (get_or h.roots r 0) v e)

  -- ---- a cell

  module _ (a j v : ℕ) (first : is_first N h a ≡ true) (l : j < 4 * size_at N h a) (ordinary : is_data h.d a ≡ false)
      (ref : is_ref N h v ≡ true) where
    abbrev c : ℕ
    c = 4 * a + j

    -- the slots with the reference written
    cell_slots : slots_in N (with_cells (set h.cells c v) h) ≡ set (slots_in N h) (length h.roots + c) v
    cell_slots =
        ap (λ (refs : List ℕ). h.roots ++ refs)
        (reference_written N h.a h.b (sizes_of N h.a h.b) healthy.represents h.d h.cells a c v
        (cell_of_lem N w h healthy a j first l) ordinary (omega (arith, cell_below N w h healthy a j first l, healthy.shape.length_cells)))
        ∙ sym (set_append_right h.roots (cell_refs N h) c v)

    -- the cells of free blocks stay 0
    written_free : (k : ℕ) → bit_at h.a (k / 4) ≡ 0 → get_or (set h.cells c v) k 0 ≡ 0
    written_free =
        (cell_bare N h.a h.b (sizes_of N h.a h.b) healthy.represents h.d h.cells a c v
        (cell_of_lem N w h healthy a j first l) healthy.bare
        ).free_cells

    cell_references :
        (b : ℕ) → number_of_references N (with_cells (set h.cells c v) h) b ≡ occurrences (suc b) (set (slots_in N h) (length h.roots + c) v)
    cell_references b =
        let written : Memory = with_cells (set h.cells c v) h in
        all_references N written healthy.represents written_free b
        ∙ sym (references_slots N written b)
        ∙ ap (occurrences (suc b)) cell_slots

    change_cell_served :
        (second : ℕ) → get_or h.cells c 0 ≢ v → Served N w (store_cell a j v) h (freeing N h (change_cell N w h c v) second)
    unfolding change_cell put_cell freeing stored written writes
    change_cell_served second new =
        let shows = (store_cell_lem N w h healthy v ref a j first l ordinary).shows in
        let slot-i = cell_place N w h healthy a j first l in
        let i : ℕ = length h.roots + c in
        record {
          keep = store_healthy v ref i slot-i (change_cell N w h c v) shows;
          no_early_free = λ b n object leads.
              store_object v ref i slot-i (change_cell N w h c v) shows b n object
              (rw cell_slots
              at (leads_reach N (with_cells (set h.cells c v) h) (sizes_of N h.a h.b) healthy.represents leads));
          collects = no_collection (store_cell a j v) refl;
          sticks = λ living b n was is low top.
              let found =
              store_sticks_lem v ref i slot-i (change_cell N w h c v) shows (cell_inside N w h healthy a j first l)
              (λ e. new (sym (cell_read_lem N w h healthy a j first l ordinary) ∙ e)) b n was low top in
              record { accepted = refl; reference = omega (arith, found.0); enough = omega (arith, found.1, cell_references b) };
        }

    pub store_cell_served : (second : ℕ) → Served N w (store_cell a j v) h (freeing N h (store_cell_in N w h c v) second)
    unfolding store_cell_in freeing
    store_cell_served second = go (eqb (get_or h.cells c 0) v) refl
      where
        go : (t : Bool) → eqb (get_or h.cells c 0) v ≡ t
            → Served N w (store_cell a j v) h (freeing N h (elim t [ true ↦ h | false ↦ change_cell N w h c v ]) second)
        go true e = same_served (store_cell a j v) (reply 0 (zeros h.a - zeros h.a) second) refl
        go false e = change_cell_served second (eqb-false (get_or h.cells c 0) v e)

  -- ---- the allocation

  module _ (n root i : ℕ) (some_blocks : 1 ≤ n) (not_more : n ≤ N) (l : root < length h.roots)
      (found : lowest_free N (exponent n) h.a ≡ some i) where
    place_found : Room N h.a n i
    place_found = room N h.a n i found

    nonzero : n ≢ 0
    nonzero = omega arith

    placed_aligned : Aligned (set (sizes_of N h.a h.b) i n)
    placed_aligned x p =
        elim (ℕ_discrete x i) [
          | yes e ↦
              rw (e, get_or-set_same (sizes_of N h.a h.b) i n 0 (omega (arith, place_found.inside, length_sizes_of N h.a h.b)))
              place_found.aligned
          | no d ↦
              let same = get_or-set_other (sizes_of N h.a h.b) i x n 0 d in
              rw same (healthy.aligned x (λ z. p (same ∙ z)))
        ]

    -- an object that stood is not the new one
    old_object : (b m : ℕ) → Object N h b m → b ≢ i
    old_object b m object e =
        let was = object_size N h (sizes_of N h.a h.b) healthy.represents b m object in
        omega (arith, place_found.free b (omega arith) (omega arith), healthy.represents.used b b (omega arith) (omega (arith, was)))

    -- what the call stores, of either kind
    allocation_written : (asData : Bool) (x : Reply) → written h (allocate_as asData n root) x ≡ with_roots (set h.roots root (1 + x.value)) h
    unfolding written
    allocation_written true x = refl
    allocation_written false x = refl

    other_call : (asData : Bool) → collecting (allocate_as asData n root) ≡ false
    other_call true = refl
    other_call false = refl

    pub allocate_served :
        (asData : Bool) (second : ℕ)
        → Served N w (allocate_as asData n root) h (reply 0 i second, settled N (allocate_in N w asData h n root i))
    unfolding allocate_in put_root placed graph.allocate stored
    allocate_served asData second =
        let cap : ℕ = capacity w in
        let r : ℕ = length h.roots in
        let pos = positive N w h healthy in
        let vacant = room_vacant N w h healthy n i nonzero place_found in
        let shows = (allocate_root N w h healthy n i nonzero place_found asData root l).shows in
        let named : 1 + i ≡ suc i = omega arith in
        record {
          keep = healthy_after N w r (allocate_in N w asData h n root i) (graph.allocate cap r (view N w h) i n root) shows
              (allocate_whole cap pos r (view N w h) healthy.whole i n root vacant l)
              (finish_aligned cap pos r (place (view N w h) i n) root (suc i)
              (placed_balanced cap pos r (view N w h) healthy.whole i n root vacant l)
              (placed_waits cap pos r (view N w h) healthy.whole i n root vacant l)
              (placed_shape cap pos r (view N w h) healthy.whole i n root vacant l) (inl l) placed_aligned);
          no_early_free = λ b m object leads.
              object_after N w r h (allocate_in N w asData h n root i) (graph.allocate cap r (view N w h) i n root) healthy.represents shows
              b m object
              (allocate_keeps cap pos r (view N w h) healthy.whole i n root vacant l b (old_object b m object)
              (rw (length-set h.roots root (1 + i), ← set-append_left h.roots (cell_refs N h) root (1 + i) l, named)
              at (leads_reach N (with_roots (set h.roots root (1 + i)) h) (sizes_of N h.a h.b) healthy.represents
              (subst (λ (k : Memory). Leads N k b) (allocation_written asData (reply 0 i second)) leads))));
          collects = no_collection (allocate_as asData n root) (other_call asData);
          sticks = λ living b m was is low top.
              let in_heap : b < N = (first_facts N h.a h.b b was.first).inside in
              absurd
              (omega (
                arith,
                allocate_lowers cap pos r (view N w h) healthy.whole i n root vacant l b (old_object b m was),
                view_count N w h b in_heap,
                view_count N w (allocate_in N w asData h n root i) b in_heap,
                ap (λ (k : Graph). count k b) shows.view_is,
              ));
        }
