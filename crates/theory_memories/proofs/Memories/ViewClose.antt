-- The close of a collection in small steps (request U8), seen in the object graph: the unmarked objects go,
-- what they named among the marked is counted down, and what then waits is released. The graph that is left
-- keeps its laws, has only marked objects, and all that a root led to.
use mathlib.Core.Path.{◌≡◌, refl, sym, ap, ◌∙◌, subst}
use mathlib.Core.Logic.{◌≢◌, ◌⊎◌, inl, inr}
use mathlib.Core.Bool.{Bool, true, false, not, ◌&&◌}
use mathlib.Core.List.{List, []}
use Prim.Native.Nat.{ℕ, zero, suc, ◌+◌, ◌-◌, ◌*◌, ◌/◌, ◌≤◌, ◌<◌}
use native.Mathlib.Nat.{add_assoc}
use native.Mathlib.Decide.{ℕ_discrete, dec_lt}
use native.Mathlib.Omega.{arith}
use lib.ListN.{length, get_or, get_or-eq_default}
use borrow.Author.Tests.{not-true, not-false}
use Rattle.rules.specs.Heap.{Memory, with_counts, capacity, count_of, is_first, size_at, reference}
use Rattle.rules_stores.specs.Store.{Work, work, release}
use Rattle.rules_stores.specs.Collection.{marked, swept}
use Rattle.rules_steps.specs.Steps.{to_survivor, survivors_down, survivors_let_go, unmarked_freed}
use Rattle.rules.proofs.Tests.{test_cases_lem, and_true, true_and, and_false}
use Rattle.rules.proofs.Tabulate.{length_tabulate}
use Rattle.theory_memories.proofs.Maps.Extents.{sizes_of, length_sizes_of, size_first, size_not_first, represents_is}
use Rattle.theory_graphs.proofs.Graphs.Occurrences.{nonzero_inside}
use Rattle.theory_graphs.proofs.Graphs.Graph as graph
use Rattle.theory_graphs.proofs.Graphs.Graph.{Graph, size, count, slot, first_slot, slots_of, Owns}
use Rattle.theory_graphs.proofs.Graphs.Stretch.{clear}
use Rattle.theory_graphs.proofs.Graphs.Balance.{Balanced, Waits, release_balanced}
use Rattle.theory_graphs.proofs.Graphs.Keep.{Reach, Runs, release_runs, runs_reach}
use Rattle.theory_graphs.proofs.Graphs.Order.{Leaves, runs_leave, count_down_le}
use Rattle.theory_graphs.proofs.Graphs.Calls.{Shape, Whole, leaves_shape}
use Rattle.theory_graphs.proofs.Graphs.Sweep as sweeping
use Rattle.theory_graphs.proofs.Graphs.Sweep.{SweptBelow, sweep, sweep_gone, sweep_kept}
use Rattle.theory_graphs.proofs.Graphs.Tidy.{Tidy}
use Rattle.theory_graphs.proofs.Graphs.Close as closing
use Rattle.theory_graphs.proofs.Graphs.Close.{only, only_each, only_each_stack, survivors, survivors_stack, drop_all, state}
use Rattle.theory_memories.proofs.Memories.View.{slots_in, view}
use Rattle.theory_memories.proofs.Memories.Slots.{cell_slot}
use Rattle.theory_memories.proofs.Memories.Healthy.{Healthy, view_count}
use Rattle.theory_memories.proofs.Memories.ViewMoves.{counts_of, WorkShows, down_shows}
use Rattle.theory_memories.proofs.Memories.ViewRelease.{reshaped, Shows, Releasing, release_shows}
use Rattle.theory_memories.proofs.Memories.ViewSweep.{as_counts, as_counts_marked, as_counts_unmarked, Swept, sweep_swept, sweep_later, sweep_counts}
use Rattle.theory_memories.proofs.Memories.Keeping.{sizes_in, Kept}
use Rattle.theory_memories.proofs.Memories.Orders.{release_rewrites}
use Rattle.theory_memories.proofs.Memories.Recount.{swept_uncounted, swept_counted}
use Rattle.theory_memories.proofs.Memories.Stores.{positive, slots_named}

-- ---- counting down the marked alone

back : (b : ℕ) → suc b - 1 ≡ b
back b = omega arith

-- the rule's test of a reference is the graph's
survivor_only : (marks : List Bool) (v : ℕ) → to_survivor marks v ≡ only (marked marks) v
unfolding to_survivor only
survivor_only marks zero = none (marked marks (0 - 1))
  where
    none : (t : Bool) → ◌≡◌ {A = ℕ} (elim t [ true ↦ 0 | false ↦ 0 ]) 0
    none true = refl
    none false = refl
survivor_only marks (suc b) = rw (back b, to_survivor)

only_le : (marks : ℕ → Bool) (v : ℕ) → only marks v ≤ v
unfolding only
only_le marks zero = omega arith
only_le marks (suc b) = go (marks b)
  where
    go : (t : Bool) → elim t as (λ _. ℕ) [ true ↦ suc b | false ↦ 0 ] ≤ suc b
    go true = omega arith
    go false = omega arith

-- each cell of a stretch, where the stretch of slots holds the same
only_shows :
    (N w : ℕ) (whole : 8 * (N / 8) ≡ N) (marks : List Bool) (h : Memory) (s : Work) (counts stack : List ℕ) → WorkShows N w s counts stack
    → (slots : List ℕ) (j i : ℕ) → ((k : ℕ) → get_or slots k 0 ≤ N) → (n : ℕ) → ((k : ℕ) → k < n → reference N h (j + k) ≡ get_or slots (i + k) 0)
    → WorkShows N w (survivors_down N w marks h s j n) (only_each (capacity w) (marked marks) counts slots i n)
    (only_each_stack (capacity w) (marked marks) counts slots i n stack)
unfolding survivors_down only_each only_each_stack
only_shows N w whole marks h s counts stack shown slots j i named zero same = shown
only_shows N w whole marks h s counts stack shown slots j i named (suc n) same =
    let before = only_shows N w whole marks h s counts stack shown slots j i named n (λ k l. same k (omega arith)) in
    let t : Work = survivors_down N w marks h s j n in
    rw (survivor_only marks (reference N h (j + n)), same n (omega arith), ← before.counts_are, ← before.stack_is)
    (down_shows N w whole t.counts before.length_is t.stack (only (marked marks) (get_or slots (i + n) 0))
    (omega (arith, only_le (marked marks) (get_or slots (i + n) 0), named (i + n))))

-- counts go down
only_each_le : (cap : ℕ) (marks : ℕ → Bool) (counts slots : List ℕ) (i n b : ℕ) → get_or (only_each cap marks counts slots i n) b 0 ≤ get_or counts b 0
unfolding only_each
only_each_le cap marks counts slots i zero b = omega arith
only_each_le cap marks counts slots i (suc n) b =
    omega (
      arith,
      only_each_le cap marks counts slots i n b,
      count_down_le cap (only_each cap marks counts slots i n) (only marks (get_or slots (i + n) 0)) b,
    )

survivors_le : (cap r : ℕ) (marks : ℕ → Bool) (h : Graph) (counts : List ℕ) (n b : ℕ) → get_or (survivors cap r marks h counts n) b 0 ≤ get_or counts b 0
unfolding survivors
survivors_le cap r marks h counts zero b = omega arith
survivors_le cap r marks h counts (suc n) b = go (test_cases_lem (marks n)) (survivors_le cap r marks h counts n b)
  where
    go : (marks n ≡ true) ⊎ (marks n ≡ false) → get_or (survivors cap r marks h counts n) b 0 ≤ get_or counts b 0
        → get_or (survivors cap r marks h counts (suc n)) b 0 ≤ get_or counts b 0
    go (inl m) l = rw (m, survivors) l
    go (inr m) l =
        rw (m, survivors)
        (omega (arith, only_each_le cap marks (survivors cap r marks h counts n) h.slots (first_slot r n) (slots_of h n) b))

-- ---- the close

module _ (N w : ℕ) (h : Memory) (healthy : Healthy N w h) (marks : List Bool)
    (tidy : Tidy (length h.roots) (view N w h) (marked marks) (λ b. false)) where
  abbrev r : ℕ
  r = length h.roots

  abbrev before : Graph
  before = view N w h

  abbrev cap : ℕ
  cap = capacity w

  pos : 0 < capacity w
  pos = positive N w h healthy

  -- an object lies in the heap
  inside : (b : ℕ) → size before b ≢ 0 → b < N
  inside b n = omega (arith, nonzero_inside (sizes_of N h.a h.b) b n, length_sizes_of N h.a h.b)

  -- ---- the sweep

  abbrev ghost : List ℕ
  ghost = as_counts N marks

  ghost_marked : (b : ℕ) → marked marks b ≡ true → get_or ghost b 0 ≢ 0
  ghost_marked = as_counts_marked N marks (λ b m. inside b (tidy.objects b m))

  ghost_unmarked : (b : ℕ) → marked marks b ≡ false → get_or ghost b 0 ≡ 0
  ghost_unmarked = as_counts_unmarked N marks (λ b m. inside b (tidy.objects b m))

  abbrev marked_graph_lem : Graph
  marked_graph_lem = record { sizes = sizes_of N h.a h.b; counts = ghost; slots = slots_in N h }

  abbrev left : Memory
  left = swept N w h marks N

  swept_shows : Swept N w h left (sweep r marked_graph_lem N)
  swept_shows = sweep_swept N w h healthy.shape healthy.represents healthy.bare marks ghost ghost_marked ghost_unmarked N (omega arith)

  below : SweptBelow r marked_graph_lem (sweep r marked_graph_lem N) N
  below = sweeping.swept r marked_graph_lem N

  sizes_are : sizes_of N left.a left.b ≡ (sweep r marked_graph_lem N).sizes
  sizes_are = sym (represents_is N left.a left.b (sweep r marked_graph_lem N).sizes swept_shows.represents)

  size_kept : (b : ℕ) → marked marks b ≡ true → get_or (sizes_of N left.a left.b) b 0 ≡ size before b
  size_kept b m = ap (λ (l : List ℕ). get_or l b 0) sizes_are ∙ below.kept b (inl (ghost_marked b m))

  size_gone : (b : ℕ) → marked marks b ≡ false → get_or (sizes_of N left.a left.b) b 0 ≡ 0
  size_gone b u =
      elim (dec_lt b N) [
        | yes l ↦ ap (λ (l : List ℕ). get_or l b 0) sizes_are ∙ below.gone b (ghost_unmarked b u) l
        | no l ↦ get_or-eq_default (sizes_of N left.a left.b) 0 {n = b} (omega (arith, length_sizes_of N left.a left.b))
      ]

  -- ---- the counts that the sweep left

  swept_counts : List ℕ
  swept_counts = counts_of N w left.counts

  counts_long : length swept_counts ≡ length before.counts
  unfolding swept_counts
  counts_long = length_tabulate N (count_of N w left) ∙ sym (length_tabulate N (count_of N w h))

  counted : (b : ℕ) → size before b ≢ 0 → marked marks b ≡ true → get_or swept_counts b 0 ≡ count before b
  unfolding swept_counts
  counted b n m =
      let l = inside b n in
      view_count N w left b l
      ∙ swept_counted N w healthy.shape.whole_bytes h marks healthy.shape.length_counts N b (omega arith) l m
      ∙ sym (view_count N w h b l)

  uncounted : (b : ℕ) → marked marks b ≡ false → get_or swept_counts b 0 ≡ 0
  unfolding swept_counts
  uncounted b u =
      elim (dec_lt b N) [
        | yes l ↦
            view_count N w left b l
            ∙ swept_uncounted N w healthy.shape.whole_bytes h marks healthy.shape.length_counts N b (omega arith) l (gone l)
        | no l ↦ get_or-eq_default (counts_of N w left.counts) 0 {n = b} (omega (arith, length_tabulate N (count_of N w left)))
      ]
    where
      gone : b < N → (count_of N w h b ≡ 0) ⊎ ((b < N) × (is_first N h b && not (marked marks b) ≡ true))
      gone l =
          elim (test_cases_lem (is_first N h b)) [
            | inl f ↦ inr (l, true_and (is_first N h b) (not (marked marks b)) f (ap not u))
            | inr f ↦ inl (sym (view_count N w h b l) ∙ (healthy.whole.balanced b).absent (size_not_first N h.a h.b b f))
          ]

  -- ---- the survivors counted down

  abbrev down_work : ℕ → Work
  down_work n = survivors_let_go N w marks h (work left.counts []) n

  goes : (n : ℕ) → is_first N h n && not (marked marks n) ≡ true
      → down_work (suc n) ≡ survivors_down N w marks h (down_work n) (4 * n) (4 * size_at N h n)
  unfolding survivors_let_go
  goes n e = rw (e, survivors_let_go)

  stays : (n : ℕ) → is_first N h n && not (marked marks n) ≡ false → down_work (suc n) ≡ down_work n
  unfolding survivors_let_go
  stays n e = rw (e, survivors_let_go)

  abbrev down : ℕ → List ℕ
  down n = survivors cap r (marked marks) before swept_counts n

  abbrev down_stack : ℕ → List ℕ
  down_stack n = survivors_stack cap r (marked marks) before swept_counts n

  down_marked : (n : ℕ) → marked marks n ≡ true → (down (suc n) ≡ down n) × (down_stack (suc n) ≡ down_stack n)
  unfolding survivors survivors_stack
  down_marked n m = (rw (m, survivors), rw (m, survivors_stack))

  down_unmarked :
      (n : ℕ) → marked marks n ≡ false
      → (down (suc n) ≡ only_each cap (marked marks) (down n) before.slots (first_slot r n) (slots_of before n))
      × (down_stack (suc n) ≡ only_each_stack cap (marked marks) (down n) before.slots (first_slot r n) (slots_of before n) (down_stack n))
  unfolding survivors survivors_stack
  down_unmarked n m = (rw (m, survivors), rw (m, survivors_stack))

  -- where no object starts nothing is counted
  down_none : (n : ℕ) → size before n ≡ 0 → (down (suc n) ≡ down n) × (down_stack (suc n) ≡ down_stack n)
  unfolding only_each only_each_stack
  down_none n z =
      elim (test_cases_lem (marked marks n)) [
        | inl m ↦ down_marked n m
        | inr m ↦ (
          (down_unmarked n m).0 ∙ ap (λ (k : ℕ). only_each cap (marked marks) (down n) before.slots (first_slot r n) (4 * k)) z,
          (down_unmarked n m).1 ∙ ap (λ (k : ℕ). only_each_stack cap (marked marks) (down n) before.slots (first_slot r n) (4 * k) (down_stack n)) z,
        )
      ]

  -- what its cells are read as stands in its slots
  same_cells : (n k : ℕ) → k < 4 * size before n → reference N h (4 * n + k) ≡ get_or before.slots (first_slot r n + k) 0
  same_cells n k l = rw add_assoc (sym (cell_slot N h (4 * n + k) (omega (arith, healthy.represents.inside n (omega arith)))))

  down_shown : (n : ℕ) → WorkShows N w (down_work n) (down n) (down_stack n)
  unfolding survivors_let_go survivors survivors_stack swept_counts
  down_shown zero = record { length_is = swept_shows.shape.length_counts; counts_are = refl; stack_is = refl }
  down_shown (suc n) = go (down_shown n) (test_cases_lem (is_first N h n && not (marked marks n)))
    where
      go : WorkShows N w (down_work n) (down n) (down_stack n)
          → (is_first N h n && not (marked marks n) ≡ true) ⊎ (is_first N h n && not (marked marks n) ≡ false)
          → WorkShows N w (down_work (suc n)) (down (suc n)) (down_stack (suc n))
      go shown (inl e) =
          let both = and_true (is_first N h n) (not (marked marks n)) e in
          let u = not-true (marked marks n) both.1 in
          rw (goes n e, (down_unmarked n u).0, (down_unmarked n u).1, ← size_first N h.a h.b n both.0)
          (only_shows N w healthy.shape.whole_bytes marks h (down_work n) (down n) (down_stack n) shown before.slots (4 * n) (first_slot r n)
          (slots_named N w h healthy) (4 * size before n) (same_cells n))
      go shown (inr e) =
          let same = unchanged e in
          rw (stays n e, same.0, same.1) shown
        where
          unchanged : is_first N h n && not (marked marks n) ≡ false → (down (suc n) ≡ down n) × (down_stack (suc n) ≡ down_stack n)
          unchanged e =
              elim (test_cases_lem (is_first N h n)) [
                | inl f ↦ down_marked n (not-false (marked marks n) (and_false (is_first N h n) (not (marked marks n)) e f))
                | inr f ↦ down_none n (size_not_first N h.a h.b n f)
              ]

  -- ---- the graph before the release

  abbrev start : Memory
  start = with_counts (down_work N).counts left

  abbrev started : Graph
  started = view N w start

  abbrev all : ℕ
  all = length before.sizes

  all_blocks : N ≡ all
  all_blocks = sym (length_sizes_of N h.a h.b)

  counts_are : started.counts ≡ down all
  counts_are = (down_shown N).counts_are ∙ ap down all_blocks

  -- the slots of the unmarked are cleared
  cleared : (n : ℕ) → (sweep r marked_graph_lem n).slots ≡ (drop_all cap r (marked marks) before n).slots
  unfolding sweep drop_all
  cleared zero = refl
  cleared (suc n) = go (test_cases_lem (marked marks n)) (cleared n)
    where
      ghosts : count (sweep r marked_graph_lem n) n ≡ get_or ghost n 0
      ghosts = ap (λ (l : List ℕ). get_or l n 0) (sweep_counts r marked_graph_lem n)

      go : (marked marks n ≡ true) ⊎ (marked marks n ≡ false) → (sweep r marked_graph_lem n).slots ≡ (drop_all cap r (marked marks) before n).slots
          → (sweep r marked_graph_lem (suc n)).slots ≡ (drop_all cap r (marked marks) before (suc n)).slots
      go (inl m) e =
          ap (λ (k : Graph). k.slots) (sweep_kept r (sweep r marked_graph_lem n) n (λ z. ghost_marked n m (sym ghosts ∙ z)))
          ∙ e ∙ sym (ap (λ (k : Graph). k.slots) (kept m))
        where
          kept : marked marks n ≡ true → drop_all cap r (marked marks) before (suc n) ≡ drop_all cap r (marked marks) before n
          kept m = rw (m, drop_all)
      go (inr u) e =
          let g : Graph = drop_all cap r (marked marks) before n in
          let size_there : size g n ≡ size before n =
          ap (λ (l : List ℕ). get_or l n 0) (state cap pos r (marked marks) before healthy.whole n).dropped.same_sizes in
          ap (λ (k : Graph). k.slots) (sweep_gone r (sweep r marked_graph_lem n) n (ghosts ∙ ghost_unmarked n u))
          ∙ ap (λ (k : ℕ). clear (first_slot r n) (4 * k) (sweep r marked_graph_lem n).slots) (sweep_later r marked_graph_lem n n (omega arith) ∙ sym size_there)
          ∙ ap (clear (first_slot r n) (slots_of g n)) e
          ∙ sym (ap (λ (k : Graph). k.slots) (dropped u))
        where
          dropped : marked marks n ≡ false
              → drop_all cap r (marked marks) before (suc n)
              ≡ graph.let_go_each cap (drop_all cap r (marked marks) before n) (first_slot r n) (slots_of (drop_all cap r (marked marks) before n) n)
          dropped u = rw (u, drop_all)

  slots_are : started.slots ≡ (drop_all cap r (marked marks) before all).slots
  slots_are =
      swept_shows.slots_are ∙ cleared N ∙ ap (λ (n : ℕ). (drop_all cap r (marked marks) before n).slots) all_blocks

  started_balanced : Balanced cap started 0
  started_balanced =
      closing.close_balanced cap pos r (marked marks) before healthy.whole swept_counts counts_long tidy started counted uncounted
      size_kept size_gone counts_are slots_are

  started_waits : Waits started (down_work N).stack
  started_waits =
      rw ((down_shown N).stack_is ∙ ap down_stack all_blocks)
      (closing.close_waits cap pos r (marked marks) before healthy.whole swept_counts counts_long tidy started counted uncounted
      size_kept size_gone counts_are slots_are)

  -- an object that is left is a marked one, of its old size
  stood : (b : ℕ) → size started b ≢ 0 → (marked marks b ≡ true) × (size started b ≡ size before b)
  stood b n =
      elim (test_cases_lem (marked marks b)) [ inl m ↦ (m, size_kept b m) | inr u ↦ absurd (n (size_gone b u)) ]

  started_shape : Shape r started
  started_shape =
      let shape = healthy.whole.shape in
      record {
        disjoint = λ x y l p q.
            rw (stood x p).1 (shape.disjoint x y l (λ z. p ((stood x p).1 ∙ z)) (λ z. q ((stood y q).1 ∙ z)));
        inside = λ x p. omega (
          arith,
          (stood x p).1,
          shape.inside x (λ z. p ((stood x p).1 ∙ z)),
          length_sizes_of N h.a h.b,
          length_sizes_of N left.a left.b,
        );
        counts_length = length_tabulate N (count_of N w start) ∙ sym (length_sizes_of N left.a left.b);
        slots_length = omega (
          arith,
          ap length swept_shows.slots_are,
          below.slots_length,
          shape.slots_length,
          length_sizes_of N h.a h.b,
          length_sizes_of N left.a left.b,
        );
        owned = λ s n. still s n;
      }
    where
      here : (s : ℕ) → slot started s ≡ slot (sweep r marked_graph_lem N) s
      here s = ap (λ (l : List ℕ). get_or l s 0) swept_shows.slots_are

      still : (s : ℕ) → slot started s ≢ 0 → (s < r) ⊎ ((x : ℕ) × Owns r started.sizes x s)
      still s n =
          by (healthy.whole.shape.owned s (λ z. n (here s ∙ elim (below.kept_or_cleared s) [ inl e ↦ e ∙ z | inr e ↦ e ])))
        where
          by : (s < r) ⊎ ((x : ℕ) × Owns r before.sizes x s) → (s < r) ⊎ ((x : ℕ) × Owns r started.sizes x s)
          by (inl l) = inl l
          by (inr (x, own)) =
              elim (test_cases_lem (marked marks x)) [
                | inl m ↦ inr (x, rw (size_kept x m) own)
                | inr u ↦
                    absurd (n (here s ∙ below.cleared x s (ghost_unmarked x u) (inside x (omega (arith, own))) own))
              ]

  -- ---- the release

  pub releasing : Releasing N w start (down_work N).stack
  releasing =
      record {
        shape = reshaped N w left start swept_shows.shape refl refl ((down_shown N).length_is ∙ sym swept_shows.shape.length_counts)
            refl refl refl refl refl refl refl;
        represents = rw sizes_are swept_shows.represents;
        positive = pos;
        balanced = started_balanced;
        waits = started_waits;
        bare = swept_shows.bare;
      }

  -- what stands in the end is as it was, the cells of data too (request U6)
  pub close_keeps : (x : ℕ) → get_or (sizes_in N (unmarked_freed N w marks h)) x 0 ≢ 0 → Kept N h (unmarked_freed N w marks h) x
  unfolding unmarked_freed
  close_keeps x stands =
      let late = (release_rewrites N w start (down_work N).stack releasing).0.keeps x stands in
      let early = swept_shows.keeps x (λ z. stands (late.size ∙ z)) in
      record {
        size = late.size ∙ early.size;
        kind = late.kind ∙ early.kind;
        cells = λ j inside. late.cells j (rw early.size inside) ∙ early.cells j inside;
      }

  abbrev pub after : Graph
  after = graph.release cap r N started (down_work N).stack

  pub close_shows : Shows N w r (unmarked_freed N w marks h) after
  unfolding unmarked_freed
  close_shows =
      subst (λ (q : ℕ). Shows N w q (release N N w start (down_work N).stack) (graph.release cap q N started (down_work N).stack))
      (ap length swept_shows.same_roots)
      (subst (λ (q : ℕ). Shows N w (length start.roots) (release N N w start (down_work N).stack) (graph.release cap q N started (down_work N).stack))
      refl (release_shows N w N start (down_work N).stack releasing))

  runs : Runs cap r (λ i. ⊥) started after
  runs = release_runs cap pos r (λ i. ⊥) N started (down_work N).stack started_balanced started_waits

  leaves : Leaves cap r started after
  leaves = runs_leave cap r (λ i. ⊥) pos runs

  pub close_whole : Whole cap r after
  close_whole =
      let done =
      release_balanced cap pos r N started (down_work N).stack started_balanced started_waits
      (omega (arith, length_sizes_of N left.a left.b)) in
      record { balanced = done.0; waits = done.1; shape = leaves_shape cap r started after leaves started_shape }

  -- what is left is marked, and of its old size
  pub close_stands : (b : ℕ) → size after b ≢ 0 → (marked marks b ≡ true) × (size after b ≡ size before b)
  close_stands b n =
      elim (leaves.objects b) [
        | inl e ↦ let was = stood b (λ z. n (e ∙ z)) in (was.0, e ∙ was.1)
        | inr e ↦ absurd (n e.0)
      ]

  pub close_or_gone : (b : ℕ) → (size after b ≡ size before b) ⊎ (size after b ≡ 0)
  close_or_gone b = elim (ℕ_discrete (size after b) 0) [ yes z ↦ inr z | no n ↦ inl (close_stands b n).1 ]

  -- what a root leads to is left
  pub close_reach : (b : ℕ) → Reach r before.sizes before.slots b → size after b ≡ size before b
  close_reach b reach =
      runs_reach cap pos r started after runs started_balanced started_shape.disjoint b
      (closing.reach_on cap pos r (marked marks) before healthy.whole swept_counts counts_long tidy started counted uncounted
      size_kept size_gone counts_are slots_are reach)
      ∙ size_kept b
      (closing.reach_marked cap pos r (marked marks) before healthy.whole swept_counts counts_long tidy started counted uncounted
      size_kept size_gone counts_are slots_are reach)

  -- no count goes up
  pub close_lowered : (b : ℕ) → size after b ≢ 0 → count after b ≤ count before b
  close_lowered b n =
      let m = (close_stands b n).0 in
      omega (
        arith,
        leaves.lowered b,
        ap (λ (l : List ℕ). get_or l b 0) counts_are,
        survivors_le cap r (marked marks) before swept_counts all b,
        counted b (tidy.objects b m) m,
      )
