-- Number 13 as facts (request U8): a healthy memory with a collection open passes its test exactly where the
-- marks and the list, as sets of objects of the graph, are tidy; one with none open, where both lists are 0.
use mathlib.Core.Path.{◌≡◌, refl, sym, ap, ◌∙◌}
use mathlib.Core.Logic.{◌≢◌}
use mathlib.Core.Bool.{Bool, true, false, not, ◌&&◌, ◌||◌}
use mathlib.Core.List.{List}
use Prim.Native.Nat.{ℕ, suc, ◌+◌, ◌-◌, ◌*◌, ◌/◌, ◌<◌}
use native.Mathlib.Numerals.{add-one}
use native.Mathlib.Decide.{ℕ_discrete, dec_lt}
use native.Mathlib.Omega.{arith}
use lib.Dec.{leb, eqb}
use lib.ListN.{length, get_or, replicate}
use borrow.Author.Tests.{eq-eqb, ne_eqb, eqb-true, eqb-false, leb-false, not-true, not-false}
use Rattle.bitmap.specs.Bit.{bit_at}
use Rattle.bitmap.proofs.Maps.{bit_past_end, bit_all_zero}
use Rattle.rules.specs.Tools.{some_below}
use Rattle.rules.specs.Heap.{Memory, with_cells, with_waiting, with_marks, with_list, is_first, size_at, reference}
use Rattle.rules_calls.specs.Calls.{settled}
use Rattle.rules_steps.specs.Steps.{names, is_open, is_marked, is_listed, list_of, with_progress, with_none}
use Rattle.rules_steps.specs.Steps.{bad_next, bad_place, stray_mark, root_missed, cell_missed, is_untidy}
use Rattle.rules.proofs.Tests.{false_unless, and_true, true_and, and_false, false_and, or_false, false_or}
use Rattle.rules.proofs.Tests.{some_true, true_some, some_false, false_some}
use Rattle.rules.proofs.Objects.{first_facts, size_le, size_some}
use Rattle.rules_steps.proofs.Progress.{map_of_test, map_of_past, list_of_last, list_of_only, listed_exactly, next_right, list_is_form, map_is_form}
use Rattle.theory_memories.proofs.Maps.Extents.{sizes_of, length_sizes_of, size_first, sized_first}
use Rattle.theory_graphs.proofs.Graphs.Occurrences.{nonzero_inside}
use Rattle.theory_graphs.proofs.Graphs.Graph.{size, slot, first_slot, Owns}
use Rattle.theory_graphs.proofs.Graphs.Balance.{named_object}
use Rattle.theory_graphs.proofs.Graphs.Tidy.{Tidy}
use Rattle.theory_memories.proofs.Memories.View.{view}
use Rattle.theory_memories.proofs.Memories.Slots.{root_slot, cell_slot, cell_within}
use Rattle.theory_memories.proofs.Memories.Healthy.{Healthy, capacity_positive}
use Rattle.theory_memories.proofs.Memories.Formatted.{zeros_at}

-- ---- objects and names, of any memory

module _ (N w : ℕ) (h : Memory) where
  pub first_some : (x : ℕ) → is_first N h x ≡ true → size (view N w h) x ≢ 0
  first_some x f z =
      size_some (N - x) h.b x (omega (arith, (first_facts N h.a h.b x f).inside)) (sym (size_first N h.a h.b x f) ∙ z)

  pub some_first : (x : ℕ) → size (view N w h) x ≢ 0 → is_first N h x ≡ true
  some_first x n = sized_first N h.a h.b x n

  pub some_inside : (x : ℕ) → size (view N w h) x ≢ 0 → x < N
  some_inside x n = omega (arith, nonzero_inside (sizes_of N h.a h.b) x n, length_sizes_of N h.a h.b)

  -- what a cell of the object at x names, a slot of it names
  pub names_slot :
      (x i : ℕ) → is_first N h x ≡ true → names N h x i ≡ true
      → (s : ℕ) × Owns (length h.roots) (sizes_of N h.a h.b) x s × (slot (view N w h) s ≡ suc i)
  unfolding names
  names_slot x i f e =
      let found = some_true (λ j. eqb (reference N h (4 * x + j)) (i + 1)) (4 * size_at N h x) e in
      let j : ℕ = found.0 in
      let is = eqb-true (reference N h (4 * x + j)) (i + 1) found.2 in
      let within : 4 * x + j < 4 * N = omega (arith, found.1, size_le (N - x) h.b x, (first_facts N h.a h.b x f).inside) in (
        length h.roots + (4 * x + j),
        (omega arith, omega (arith, found.1, size_first N h.a h.b x f)),
        cell_slot N h (4 * x + j) within ∙ is ∙ add-one i,
      )

  pub slot_names :
      (x i s : ℕ) → is_first N h x ≡ true → Owns (length h.roots) (sizes_of N h.a h.b) x s → slot (view N w h) s ≡ suc i
      → names N h x i ≡ true
  unfolding names
  slot_names x i s f own e =
      let j : ℕ = s - first_slot (length h.roots) x in
      let place : length h.roots + (4 * x + j) ≡ s = omega (arith, own) in
      let here : slot (view N w h) (length h.roots + (4 * x + j)) ≡ suc i = ap (λ (k : ℕ). slot (view N w h) k) place ∙ e in
      let within = cell_within N h (4 * x + j) (λ z. omega (arith, here)) in
      true_some (λ j. eqb (reference N h (4 * x + j)) (i + 1)) (4 * size_at N h x) j (omega (arith, own, size_first N h.a h.b x f))
      (eq-eqb (reference N h (4 * x + j)) (i + 1) (sym (cell_slot N h (4 * x + j) within) ∙ here ∙ sym (add-one i)))

-- ---- a collection is open

module _ (N w : ℕ) (h : Memory) (healthy : Healthy N w h) where
  abbrev r : ℕ
  r = length h.roots

  -- what a slot names lies in the heap
  named_inside : (s b : ℕ) → slot (view N w h) s ≡ suc b → b < N
  named_inside s b e =
      some_inside N w h b (named_object _ (capacity_positive w healthy.shape.width_min) (view N w h) healthy.whole.balanced s b e)

  pub marked_inside : (i : ℕ) → is_marked h i ≡ true → i < N
  marked_inside i m =
      elim (dec_lt i N) [
        | yes l ↦ l
        | no l ↦
            let z = bit_past_end h.marks i (omega (arith, healthy.shape.length_marks, healthy.shape.whole_bytes)) in
            absurd (omega (arith, eqb-true (bit_at h.marks i) 1 m))
      ]

  pub cell_inside : (a j b : ℕ) → is_first N h a ≡ true → j < 4 * size_at N h a → reference N h (4 * a + j) ≡ b + 1 → b < N
  cell_inside a j b f l e =
      let within : 4 * a + j < 4 * N = omega (arith, l, size_le (N - a) h.b a, (first_facts N h.a h.b a f).inside) in
      named_inside (length h.roots + (4 * a + j)) b (cell_slot N h (4 * a + j) within ∙ e ∙ add-one b)

  module _ (was_open : is_open N h ≡ true) (passes : is_untidy N h ≡ false) where
    record Passes : Type 0 where
      nexts : some_below (bad_next h) (N - 1) ≡ false
      places : some_below (bad_place N h) N ≡ false
      strays : some_below (stray_mark N h) N ≡ false
      missed_roots : some_below (root_missed h) (length h.roots) ≡ false
      missed_cells : some_below (cell_missed N h) N ≡ false

    tests : Passes
    unfolding is_untidy
    tests =
        let all : some_below (bad_next h) (N - 1) || some_below (bad_place N h) N || some_below (stray_mark N h) N
        || some_below (root_missed h) (length h.roots) || some_below (cell_missed N h) N
        ≡ false = rw (was_open, is_untidy) at passes in
        let one =
        or_false
        (some_below (bad_next h) (N - 1) || some_below (bad_place N h) N || some_below (stray_mark N h) N
        || some_below (root_missed h) (length h.roots)) (some_below (cell_missed N h) N) all in
        let two =
        or_false (some_below (bad_next h) (N - 1) || some_below (bad_place N h) N || some_below (stray_mark N h) N)
        (some_below (root_missed h) (length h.roots)) one.0 in
        let three = or_false (some_below (bad_next h) (N - 1) || some_below (bad_place N h) N) (some_below (stray_mark N h) N) two.0 in
        let four = or_false (some_below (bad_next h) (N - 1)) (some_below (bad_place N h) N) three.0 in
        record { nexts = four.0; places = four.1; strays = three.1; missed_roots = two.1; missed_cells = one.1 }

    marked_first : (i : ℕ) → is_marked h i ≡ true → is_first N h i ≡ true
    unfolding stray_mark
    marked_first i m =
        not-false (is_first N h i)
        (and_false (is_marked h i) (not (is_first N h i)) (some_false (stray_mark N h) N tests.strays i (marked_inside i m)) m)

    pub tidy_facts : Tidy r (view N w h) (is_marked h) (is_listed N h)
    unfolding is_listed bad_place root_missed cell_missed
    tidy_facts =
        record {
          listed_marked = λ b e.
              let found = some_true (λ k. eqb (get_or h.list k 0) (b + 1)) N e in
              let k : ℕ = found.0 in
              let v : ℕ = get_or h.list k 0 in
              let is : v ≡ b + 1 = eqb-true v (b + 1) found.2 in
              let before : v - 1 ≡ b = omega arith in
              let right = some_false (bad_place N h) N tests.places k found.1 in
              let held : is_first N h (v - 1) && is_marked h (v - 1) ≡ true =
              not-false (is_first N h (v - 1) && is_marked h (v - 1))
              (and_false (not (eqb v 0)) (not (is_first N h (v - 1) && is_marked h (v - 1))) right (ap not (ne_eqb v 0 (omega arith)))) in
              ap (is_marked h) (sym before) ∙ (and_true (is_first N h (v - 1)) (is_marked h (v - 1)) held).1;
          objects = λ b m. first_some N w h b (marked_first b m);
          roots = λ s b l e.
              let v : ℕ = get_or h.roots s 0 in
              let is : v ≡ suc b = sym (root_slot N h s l) ∙ e in
              let before : v - 1 ≡ b = omega arith in
              ap (is_marked h) (sym before)
              ∙ not-false (is_marked h (v - 1))
              (and_false (not (eqb v 0)) (not (is_marked h (v - 1))) (some_false (root_missed h) (length h.roots) tests.missed_roots s l)
              (ap not (ne_eqb v 0 (omega arith))));
          cells = λ x s b m u own e.
              let f = marked_first x m in
              let right = some_false (cell_missed N h) N tests.missed_cells x (marked_inside x m) in
              let none =
              and_false (is_first N h x && is_marked h x && not (is_listed N h x)) (some_below (λ i. names N h x i && not (is_marked h i)) N) right
              (true_and (is_first N h x && is_marked h x) (not (is_listed N h x)) (true_and (is_first N h x) (is_marked h x) f m) (ap not u)) in
              not-false (is_marked h b)
              (and_false (names N h x b) (not (is_marked h b))
              (some_false (λ i. names N h x i && not (is_marked h i)) N none b (named_inside s b e)) (slot_names N w h x b s f own e));
        }

    -- a place of the list holds 0 or 1 + a first block
    place_held : (k : ℕ) → k < N → get_or h.list k 0 ≢ 0 → is_first N h (get_or h.list k 0 - 1) ≡ true
    unfolding bad_place
    place_held k l some =
        let v : ℕ = get_or h.list k 0 in
        let right = some_false (bad_place N h) N tests.places k l in
        let held : is_first N h (v - 1) && is_marked h (v - 1) ≡ true =
        not-false (is_first N h (v - 1) && is_marked h (v - 1))
        (and_false (not (eqb v 0)) (not (is_first N h (v - 1) && is_marked h (v - 1))) right (ap not (ne_eqb v 0 some))) in
        (and_true (is_first N h (v - 1)) (is_marked h (v - 1)) held).0

    -- the list is the one that is written for its set ..
    pub list_is : h.list ≡ list_of N (is_listed N h)
    unfolding is_listed bad_next
    list_is =
        list_is_form N h.list healthy.shape.length_list (eqb-true (get_or h.list N 0) 1 was_open)
        (λ k l some.
        let v : ℕ = get_or h.list k 0 in
        let next : ℕ = get_or h.list (k + 1) 0 in
        let right = some_false (bad_next h) (N - 1) tests.nexts k (omega arith) in
        let both = or_false (eqb v 0) (leb next v) (and_false (not (eqb next 0)) (eqb v 0 || leb next v) right (ap not (ne_eqb next 0 some))) in
        (eqb-false v 0 both.0, omega (arith, leb-false next v both.1)))
        (λ k l.
        elim (ℕ_discrete (get_or h.list k 0) 0) [
          | yes z ↦ omega arith
          | no some ↦ omega (arith, (first_facts N h.a h.b (get_or h.list k 0 - 1) (place_held k l some)).inside)
        ])

    -- .. and so is the map
    pub progress_same : with_progress N (is_marked h) (is_listed N h) h ≡ h
    unfolding with_progress
    progress_same =
        ap (λ (m : List ℕ). with_marks m (with_list (list_of N (is_listed N h)) h)) (map_is_form h.marks N)
        ∙ ap (λ (l : List ℕ). with_marks h.marks (with_list l h)) (sym list_is)

  -- ---- and the other way: marks and list written for tidy sets

  module _ (marks list : ℕ → Bool) (tidy : Tidy r (view N w h) marks list) where
    abbrev after : Memory
    after = with_progress N marks list h

    pub open_after : is_open N after ≡ true
    unfolding with_progress
    open_after = eq-eqb (get_or (list_of N list) N 0) 1 (list_of_last N list)

    pub marked_after : (i : ℕ) → is_marked after i ≡ marks i
    unfolding with_progress
    marked_after i =
        elim (dec_lt i N) [
          | yes l ↦ map_of_test h.marks marks N i (omega (arith, healthy.shape.length_marks, healthy.shape.whole_bytes)) l
          | no l ↦
              map_of_past h.marks marks N i (omega (arith, healthy.shape.length_marks, healthy.shape.whole_bytes))
              ∙ sym (false_unless (marks i) (λ m. omega (arith, some_inside N w h i (tidy.objects i m))))
        ]

    pub listed_after : (i : ℕ) → is_listed N after i ≡ list i
    unfolding with_progress is_listed
    listed_after i =
        elim (dec_lt i N) [
          | yes l ↦ listed_exactly N list after refl i l
          | no l ↦
              false_unless (is_listed N after i)
              (λ e.
              let found = some_true (λ k. eqb (get_or (list_of N list) k 0) (i + 1)) N e in
              omega (arith, (list_of_only N list found.0 i found.1 (eqb-true (get_or (list_of N list) found.0 0) (i + 1) found.2)).0))
              ∙ sym (false_unless (list i) (λ m. omega (arith, some_inside N w h i (tidy.objects i (tidy.listed_marked i m)))))
        ]

    place_right : (k : ℕ) → k < N → bad_place N after k ≡ false
    unfolding bad_place with_progress
    place_right k l =
        let v : ℕ = get_or (list_of N list) k 0 in
        false_and (not (eqb v 0)) (not (is_first N h (v - 1) && is_marked after (v - 1)))
        (λ some.
        let nonzero = eqb-false v 0 (not-true (eqb v 0) some) in
        let on = (list_of_only N list k (v - 1) l (omega arith)).1 in
        let m = tidy.listed_marked (v - 1) on in
        ap not (true_and (is_first N h (v - 1)) (is_marked after (v - 1)) (some_first N w h (v - 1) (tidy.objects (v - 1) m)) (marked_after (v - 1) ∙ m)))

    cell_right : (x : ℕ) → x < N → cell_missed N after x ≡ false
    unfolding cell_missed with_progress names
    cell_right x l =
        false_and (is_first N h x && is_marked after x && not (is_listed N after x)) (some_below (λ i. names N after x i && not (is_marked after i)) N)
        (λ e.
        let outer = and_true (is_first N h x && is_marked after x) (not (is_listed N after x)) e in
        let inner = and_true (is_first N h x) (is_marked after x) outer.0 in
        false_some (λ i. names N after x i && not (is_marked after i)) N
        (λ i u.
        false_and (names N after x i) (not (is_marked after i))
        (λ named.
        let found = names_slot N w h x i inner.0 (same_names x i ∙ named) in
        ap not
        (marked_after i
        ∙ tidy.cells x found.0 i (sym (marked_after x) ∙ inner.1) (sym (listed_after x) ∙ not-true (is_listed N after x) outer.1) found.1 found.2))))
      where
        same_names : (x i : ℕ) → names N h x i ≡ names N after x i
        same_names x i = refl

    root_right : (s : ℕ) → s < length h.roots → root_missed after s ≡ false
    unfolding root_missed with_progress
    root_right s l =
        let v : ℕ = get_or h.roots s 0 in
        false_and (not (eqb v 0)) (not (is_marked after (v - 1)))
        (λ some.
        let nonzero = eqb-false v 0 (not-true (eqb v 0) some) in
        ap not (marked_after (v - 1) ∙ tidy.roots s (v - 1) l (omega (arith, root_slot N h s l))))

    stray_right : (i : ℕ) → i < N → stray_mark N after i ≡ false
    unfolding stray_mark with_progress
    stray_right i l =
        false_and (is_marked after i) (not (is_first N h i))
        (λ m. ap not (some_first N w h i (tidy.objects i (sym (marked_after i) ∙ m))))

    next_after : (k : ℕ) → k < N - 1 → bad_next after k ≡ false
    unfolding with_progress
    next_after k l = next_right N list after refl k l

    pub tidy_passes : is_untidy N after ≡ false
    unfolding is_untidy with_progress
    tidy_passes =
        rw (open_after, is_untidy)
        (false_or
        (some_below (bad_next after) (N - 1) || some_below (bad_place N after) N || some_below (stray_mark N after) N
        || some_below (root_missed after) (length after.roots)) (some_below (cell_missed N after) N)
        (false_or (some_below (bad_next after) (N - 1) || some_below (bad_place N after) N || some_below (stray_mark N after) N)
        (some_below (root_missed after) (length after.roots))
        (false_or (some_below (bad_next after) (N - 1) || some_below (bad_place N after) N) (some_below (stray_mark N after) N)
        (false_or (some_below (bad_next after) (N - 1)) (some_below (bad_place N after) N)
        (false_some (bad_next after) (N - 1) next_after)
        (false_some (bad_place N after) N place_right))
        (false_some (stray_mark N after) N stray_right))
        (false_some (root_missed after) (length after.roots) root_rights))
        (false_some (cell_missed N after) N cell_right))
      where
        root_rights : (s : ℕ) → s < length after.roots → root_missed after s ≡ false
        root_rights s l = root_right s l

-- ---- what the test doesn't read

pub waiting_untidy : (N : ℕ) (x : List ℕ) (h : Memory) → is_untidy N (with_waiting x h) ≡ is_untidy N h
unfolding is_untidy bad_next bad_place stray_mark root_missed cell_missed is_listed names
waiting_untidy N x h = refl

pub settled_untidy : (N : ℕ) (h : Memory) → is_untidy N (settled N h) ≡ is_untidy N h
unfolding is_untidy bad_next bad_place stray_mark root_missed cell_missed is_listed names
settled_untidy N h = refl

-- it reads cells as references alone
pub read_untidy :
    (N : ℕ) (h : Memory) (cells : List ℕ) → ((j : ℕ) → reference N (with_cells cells h) j ≡ reference N h j)
    → is_untidy N (with_cells cells h) ≡ is_untidy N h
unfolding is_untidy bad_next bad_place stray_mark root_missed cell_missed is_listed names
read_untidy N h cells same =
    ap
    (λ (read : ℕ → ℕ).
    elim (is_open N h) as (λ _. Bool) [
      | true ↦
          some_below (bad_next h) (N - 1) || some_below (bad_place N h) N || some_below (stray_mark N h) N
          || some_below (root_missed h) (length h.roots)
          || some_below
          (λ x.
          is_first N h x && is_marked h x && not (is_listed N h x)
          && some_below (λ i. some_below (λ j. eqb (read (4 * x + j)) (i + 1)) (4 * size_at N h x) && not (is_marked h i)) N)
          N
      | false ↦ some_below (is_marked h) N || some_below (λ k. not (eqb (get_or h.list k 0) 0)) (N + 1)
    ])
    (λ i. λ j. same j i)

-- ---- none is open

module _ (N : ℕ) (h g : Memory) where
  -- the test reads the two lists alone
  pub none_passes : is_open N h ≡ false → g.marks ≡ h.marks → g.list ≡ h.list → is_untidy N h ≡ false → is_untidy N g ≡ false
  unfolding is_untidy
  none_passes none marks list passes =
      let same : is_open N g ≡ false = ap (λ (l : List ℕ). eqb (get_or l N 0) 1) list ∙ none in
      rw (same, is_untidy, marks, list) (rw (none, is_untidy) at passes)

pub none_after : (N : ℕ) (h : Memory) → is_open N (with_none N h) ≡ false
unfolding with_none
none_after N h = ap (λ (v : ℕ). eqb v 1) (zeros_at (N + 1) N)

pub closed_passes : (N : ℕ) (h : Memory) → is_untidy N (with_none N h) ≡ false
unfolding is_untidy with_none
closed_passes N h =
    rw (none_after N h, is_untidy)
    (false_or (some_below (is_marked (with_none N h)) N) (some_below (λ k. not (eqb (get_or (replicate (N + 1) 0) k 0) 0)) (N + 1))
    (false_some (is_marked (with_none N h)) N (λ i l. ap (λ (b : ℕ). eqb b 1) (bit_all_zero (N / 8) i)))
    (false_some (λ k. not (eqb (get_or (replicate (N + 1) 0) k 0) 0)) (N + 1) (λ k l. ap (λ (v : ℕ). not (eqb v 0)) (zeros_at (N + 1) k))))
