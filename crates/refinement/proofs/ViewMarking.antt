-- The collector's marking is, seen in the object graph, the marking of the graph's machine: the same counts, read off the count maps.
use mathlib.Core.Path.{◌≡◌, refl, sym, ap, ◌∙◌}
use mathlib.Core.Logic.{◌≢◌}
use mathlib.Core.Bool.{Bool, true, false}
use mathlib.Core.List.{List, [], ◌∷◌}
use Prim.Native.Nat.{ℕ, zero, suc, ◌+◌, ◌-◌, ◌*◌, ◌/◌, ◌≤◌, ◌<◌}
use native.Mathlib.Nat.{zero-add}
use native.Mathlib.Omega.{arith}
use lib.ListN.{length, get_or, replicate, length-replicate, get_or-replicate}
use lib.Seq.{ext_get_or}
use lib.Dec.{eqb}
use borrow.Author.Tests.{le-ltb, ne_eqb}
use Rattle.planes.specs.Plane.{count_at}
use Rattle.planes.proofs.Counts.{count_all_zero}
use Rattle.rules.specs.Heap.{Memory, capacity, size_at, is_data, reference}
use Rattle.rules_stores.specs.Store.{Work, work, count_up, naming_cells}
use Rattle.collect_visit.specs.Visit.{visit, visit_each}
use Rattle.collect_mark.specs.Mark.{scan, mark_counts}
use Rattle.rules.proofs.Tabulate.{length_tabulate, get_d_tabulate}
use Rattle.theory_memories.proofs.Maps.Extents.{sizes_of, length_sizes_of, extent}
use Rattle.theory_graphs.proofs.Graphs.Occurrences.{equals_same, occurrences_cons}
use Rattle.theory_graphs.proofs.Graphs.Stretch.{stretch}
use Rattle.theory_graphs.proofs.Graphs.Graph as graph
use Rattle.theory_graphs.proofs.Graphs.Graph.{first_slot}
use Rattle.theory_graphs.proofs.Graphs.Marking as graph-marking
use Rattle.theory_graphs.proofs.Graphs.Marking.{meet_stack, count_up_each, count_up_each_stack, mark, Marking, Markable, reach_object, marking_start, marking_step}
use Rattle.theory_graphs.proofs.Graphs.Calls.{whole_markable}
use Rattle.theory_memories.proofs.Memories.Reading.{data_read, ordinary_read}
use Rattle.theory_memories.proofs.Memories.View.{slots_in, view}
use Rattle.theory_memories.proofs.Memories.Slots.{root_slot, cell_slot}
use Rattle.theory_memories.proofs.Memories.Healthy.{Healthy}
use Rattle.theory_memories.proofs.Memories.ViewMoves.{counts_of, WorkShows, counts_up, length_up}
use Rattle.theory_memories.proofs.Memories.Stores.{positive, slots_named}

-- ---- one reference

-- an object of count c is put on the stack where c is 0
abbrev met : ℕ → ℕ → List ℕ → List ℕ
met c b stack = elim (eqb c 0) [ true ↦ b ∷ stack | false ↦ stack ]

module _ (N w : ℕ) (whole : 8 * (N / 8) ≡ N) (counts : List ℕ) (len : length counts ≡ w * (N / 8)) (stack : List ℕ) where
  visit_some :
      (v : ℕ) → v ≢ 0 → v ≤ N
      → visit N w (work counts stack) v ≡ work (count_up N w counts v) (met (count_at (N / 8) w counts (v - 1)) (v - 1) stack)
  unfolding visit
  visit_some v some l = rw (ne_eqb v 0 some, le-ltb N v l, visit)

  visit_next :
      (b : ℕ) → b < N → visit N w (work counts stack) (suc b) ≡ work (count_up N w counts (suc b)) (met (count_at (N / 8) w counts b) b stack)
  visit_next b l =
      let back : suc b - 1 ≡ b = omega arith in
      rw back at (visit_some (suc b) (omega arith) (omega arith))

  visit_shows :
      (v : ℕ) → v ≤ N
      → WorkShows N w (visit N w (work counts stack) v) (graph.count_up (capacity w) (counts_of N w counts) v)
      (meet_stack (counts_of N w counts) v stack)
  unfolding visit graph.count_up meet_stack
  visit_shows zero l = record { length_is = len; counts_are = refl; stack_is = refl }
  visit_shows (suc b) l =
      record {
        length_is = ap (λ (s : Work). length s.counts) (visit_next b (omega arith)) ∙ length_up N w whole counts len (suc b) ∙ len;
        counts_are = ap (λ (s : Work). counts_of N w s.counts) (visit_next b (omega arith)) ∙ counts_up N w whole counts len (suc b) l;
        stack_is =
            ap (λ (s : Work). s.stack) (visit_next b (omega arith))
            ∙ ap (λ (c : ℕ). met c b stack) (sym (get_d_tabulate 0 N (count_at (N / 8) w counts) b (omega arith)));
      }

-- each of the n references from place j on, where the slots from slot i on hold the same
visit_each_shows :
    (N w : ℕ) (whole : 8 * (N / 8) ≡ N) (counts : List ℕ) (len : length counts ≡ w * (N / 8)) (stack refs slots : List ℕ) (j i n : ℕ)
    → ((k : ℕ) → k < n → get_or refs (j + k) 0 ≡ get_or slots (i + k) 0) → ((k : ℕ) → get_or slots k 0 ≤ N)
    → WorkShows N w (visit_each N w (work counts stack) refs j n) (count_up_each (capacity w) (counts_of N w counts) slots i n)
    (count_up_each_stack (capacity w) (counts_of N w counts) slots i n stack)
unfolding visit_each count_up_each count_up_each_stack
visit_each_shows N w whole counts len stack refs slots j i zero same named =
    record { length_is = len; counts_are = refl; stack_is = refl }
visit_each_shows N w whole counts len stack refs slots j i (suc n) same named =
    let before = visit_each_shows N w whole counts len stack refs slots j i n (λ k l. same k (omega arith)) named in
    let s : Work = visit_each N w (work counts stack) refs j n in
    rw (same n (omega arith), ← before.counts_are, ← before.stack_is)
    (visit_shows N w whole s.counts before.length_is s.stack (get_or slots (i + n) 0) (named (i + n)))

-- slots that hold 0 count nothing up
visit_each_none :
    (cap : ℕ) (counts stack slots : List ℕ) (i n : ℕ) → ((k : ℕ) → k < n → get_or slots (i + k) 0 ≡ 0)
    → (count_up_each cap counts slots i n ≡ counts) × (count_up_each_stack cap counts slots i n stack ≡ stack)
unfolding graph.count_up meet_stack count_up_each count_up_each_stack
visit_each_none cap counts stack slots i zero none = (refl, refl)
visit_each_none cap counts stack slots i (suc n) none =
    let before = visit_each_none cap counts stack slots i n (λ k l. none k (omega arith)) in
    let here = none n (omega arith) in
    let so_far : List ℕ = count_up_each cap counts slots i n in
    let waiting : List ℕ = count_up_each_stack cap counts slots i n stack in (
      ap (graph.count_up cap so_far) here ∙ before.0,
      ap (λ (v : ℕ). meet_stack so_far v waiting) here ∙ before.1,
    )

-- ---- the whole marking

no_counts : (N w n : ℕ) → counts_of N w (replicate n 0) ≡ replicate N 0
no_counts N w n =
    ext_get_or 0 (counts_of N w (replicate n 0)) (replicate N 0)
    (length_tabulate N (count_at (N / 8) w (replicate n 0)) ∙ sym (length-replicate N 0))
    (λ b l.
    let inside : b < N = omega (arith, length_tabulate N (count_at (N / 8) w (replicate n 0))) in
    get_d_tabulate 0 N (count_at (N / 8) w (replicate n 0)) b inside ∙ count_all_zero (N / 8) w n b ∙ sym (get_or-replicate N b 0 0 inside))

module _ (N w : ℕ) (h : Memory) (healthy : Healthy N w h) where
  abbrev r : ℕ
  r = length h.roots

  abbrev sizes : List ℕ
  sizes = sizes_of N h.a h.b

  markable : Markable r sizes (slots_in N h)
  markable = whole_markable (capacity w) (positive N w h healthy) r (view N w h) healthy.whole

  -- an object that waits is one
  waiting_object :
      (counts taken stack ghost : List ℕ) (x : ℕ) → Marking (capacity w) r sizes (slots_in N h) counts taken (x ∷ stack) ghost → get_or sizes x 0 ≢ 0
  waiting_object counts taken stack ghost x marking =
      reach_object (capacity w) (positive N w h healthy) r sizes (slots_in N h) markable x
      (marking.sound x (λ z. omega (arith, marking.listed x, occurrences_cons x x stack, equals_same x x refl)))

  -- the cells of an object as slots
  slot_of : (x : ℕ) → get_or sizes x 0 ≢ 0 → (k : ℕ) → k < 4 * get_or sizes x 0 → get_or (slots_in N h) (first_slot r x + k) 0 ≡ reference N h (4 * x + k)
  slot_of x object k l =
      let at : first_slot r x + k ≡ r + (4 * x + k) = omega arith in
      ap (λ (s : ℕ). get_or (slots_in N h) s 0) at ∙ cell_slot N h (4 * x + k) (omega (arith, healthy.represents.inside x object))

  -- what they name is visited; those of data name none
  naming :
      (counts : List ℕ) → length counts ≡ w * (N / 8) → (stack : List ℕ) (x : ℕ) → get_or sizes x 0 ≢ 0 → (t : Bool) → is_data h.d x ≡ t
      → WorkShows N w (visit_each N w (work counts stack) h.cells (4 * x) (elim t [ true ↦ 0 | false ↦ 4 * size_at N h x ]))
      (count_up_each (capacity w) (counts_of N w counts) (slots_in N h) (first_slot r x) (4 * get_or sizes x 0))
      (count_up_each_stack (capacity w) (counts_of N w counts) (slots_in N h) (first_slot r x) (4 * get_or sizes x 0) stack)
  unfolding visit_each
  naming counts len stack x object true e =
      let none =
      visit_each_none (capacity w) (counts_of N w counts) stack (slots_in N h) (first_slot r x) (4 * get_or sizes x 0)
      (λ k l.
      slot_of x object k l
      ∙ data_read N h.a h.b sizes healthy.represents h.d h.cells x (4 * x + k) (omega arith, omega arith) e) in
      record { length_is = len; counts_are = sym none.0; stack_is = sym none.1 }
  naming counts len stack x object false e =
      rw (extent N h.a h.b sizes healthy.represents x object)
      (visit_each_shows N w healthy.shape.whole_bytes counts len stack h.cells (slots_in N h) (4 * x) (first_slot r x)
      (4 * get_or sizes x 0)
      (λ k l.
      sym
      (slot_of x object k l
      ∙ ordinary_read N h.a h.b sizes healthy.represents h.d h.cells x (4 * x + k) (omega arith, omega arith) e))
      (slots_named N w h healthy))

  scan_shows :
      (fuel : ℕ) (counts taken stack ghost : List ℕ) → length counts ≡ w * (N / 8)
      → Marking (capacity w) r sizes (slots_in N h) (counts_of N w counts) taken stack ghost
      → (length (scan fuel N w h counts stack) ≡ w * (N / 8))
      × (counts_of N w (scan fuel N w h counts stack) ≡ mark (capacity w) r sizes (slots_in N h) fuel (counts_of N w counts) stack)
  unfolding scan naming_cells mark
  scan_shows zero counts taken stack ghost len marking = (len, refl)
  scan_shows (suc fuel) counts taken [] ghost len marking = (len, refl)
  scan_shows (suc fuel) counts taken (x ∷ stack) ghost len marking =
      let object = waiting_object (counts_of N w counts) taken stack ghost x marking in
      let s : Work = visit_each N w (work counts stack) h.cells (4 * x) (naming_cells h.d x (size_at N h x)) in
      let one = naming counts len stack x object (is_data h.d x) refl in
      rw (← one.counts_are, ← one.stack_is)
      (scan_shows fuel s.counts (x ∷ taken) s.stack
      (stretch (λ j. get_or (slots_in N h) j 0) (first_slot r x) (4 * get_or sizes x 0) ghost)
      one.length_is
      (rw (one.counts_are, one.stack_is)
      (marking_step (capacity w) (positive N w h healthy) r sizes (slots_in N h) markable (counts_of N w counts) taken stack ghost x marking)))

  roots_shows :
      WorkShows N w (visit_each N w (work (replicate (w * (N / 8)) 0) []) h.roots 0 r)
      (count_up_each (capacity w) (replicate (length sizes) 0) (slots_in N h) 0 r)
      (count_up_each_stack (capacity w) (replicate (length sizes) 0) (slots_in N h) 0 r [])
  roots_shows =
      rw (length_sizes_of N h.a h.b, ← no_counts N w (w * (N / 8)))
      (visit_each_shows N w healthy.shape.whole_bytes (replicate (w * (N / 8)) 0) (length-replicate (w * (N / 8)) 0) [] h.roots (slots_in N h) 0 0 r
      (λ k l. rw zero-add (sym (root_slot N h k l)))
      (slots_named N w h healthy))

  pub mark_counts_shows :
      (length (mark_counts N w h) ≡ w * (N / 8)) × (counts_of N w (mark_counts N w h) ≡ graph-marking.marked (capacity w) r (view N w h))
  unfolding mark_counts graph-marking.marked
  mark_counts_shows =
      let s : Work = visit_each N w (work (replicate (w * (N / 8)) 0) []) h.roots 0 r in
      rw (← roots_shows.counts_are, ← roots_shows.stack_is, length_sizes_of N h.a h.b)
      (scan_shows N s.counts [] s.stack (stretch (λ j. get_or (slots_in N h) j 0) 0 r (replicate (length (slots_in N h)) 0))
      roots_shows.length_is
      (rw (roots_shows.counts_are, roots_shows.stack_is) (marking_start (capacity w) (positive N w h healthy) r sizes (slots_in N h) markable)))
