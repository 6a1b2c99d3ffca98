-- Blocks allocated and freed: each call keeps the balance, so every list of calls does.
use mathlib.Core.Path.{◌≡◌, refl, sym, ap, ◌∙◌, subst}
use mathlib.Core.Logic.{◌≢◌, ◌⊎◌, inl, inr}
use mathlib.Core.Bool.{Bool, true, false, not, ◌&&◌}
use mathlib.Core.List.{List, [], ◌∷◌}
use mathlib.Core.Option.{Option, none, some}
use Prim.Native.Nat.{ℕ, zero, suc, ◌+◌, ◌-◌, ◌*◌, ◌/◌, ◌≤◌, ◌<◌}
use native.Mathlib.Decide.{ℕ_discrete}
use native.Mathlib.Omega.{arith}
use lib.ListN.{length, get_or, set, replicate, length-set}
use lib.Seq.{get_or-set_same, get_or-set_other}
use lib.Dec.{eqb}
use borrow.Author.Tests.{eq-eqb, ne_eqb}
use Rattle.bitmap.specs.Bit.{zeros}
use Rattle.rules.specs.Heap.{Memory, with_cells, capacity, is_first, size_at, exponent, lowest_free, is_ref, is_data}
use Rattle.rules_stores.specs.Store.{formatted, placed, put_root, put_cell, change_root, change_cell, allocate_in}
use Rattle.rules_stores.proofs.Plain.{store_root_in, store_cell_in, return_in}
use Rattle.rules_stores.specs.Collection.{collected}
use Rattle.rules_steps.specs.Steps.{is_open, opened, progress_of, steps_from, with_progress, stepped}
use Rattle.rules_calls.specs.Calls.{Call, format, check, collect, free_blocks, allocate, store_root, store_cell, look, return_roots, open_collection, take_steps}
use Rattle.rules_calls.specs.Calls.{allocate_data, write_number, read_number, write_reason, write_shape, allocate_as, Answer}
use Rattle.rules_calls.specs.Calls.{copy_from, copy_into}
use Rattle.rules_calls.specs.Calls.{reply, accepted, refused, tests_heap, Other, other_heap, Alone, freeing, settled, outcome, answer}
use Rattle.types.specs.declared.Reply.{Reply}
use Rattle.rules_calls.proofs.Replies.{answer_either, accepted_outcome, Passed, passed, allocation_alone}
use Rattle.theory_memories.proofs.Memories.Fit.{Fit}
use Rattle.rules.proofs.Tests.{test_cases_lem, false_and}
use Rattle.rules.proofs.Objects.{first_facts}
use Rattle.theory.specs.CallWords.{copied_over}
use Rattle.theory.specs.Balance.{sum_below, freed_at, freed_blocks, allocates, allocated_by, freed_by, FreedValue, BlocksAddUp}
use Rattle.theory_memories.specs.Words.{in_use}
use Rattle.theory_memories.proofs.Maps.Extents.{Represents, sizes_of, length_sizes_of, first_size, size_is_first, not_first_size, extent}
use Rattle.theory_memories.proofs.Maps.Extents.{formatted_represents}
use Rattle.theory_memories.proofs.Memories.Formatted.{zeros_at}
use Rattle.theory_memories.proofs.Maps.LowestChunk.{Room, room}
use Rattle.theory_memories.proofs.Maps.Totals.{sum, sum_set, sum_none, free_and_sizes}
use Rattle.theory_graphs.proofs.Graphs.Graph as graph
use Rattle.theory_graphs.proofs.Graphs.Graph.{Graph, size, raise, place}
use Rattle.theory_graphs.proofs.Graphs.Keep.{root}
use Rattle.theory_graphs.proofs.Graphs.Order.{runs_leave}
use Rattle.theory_graphs.proofs.Graphs.Collection.{collected_or_gone}
use Rattle.theory_graphs.proofs.Graphs.Calls.{Place, finish_ends, finish_keeps}
use Rattle.theory_graphs.proofs.Graphs.Calls.{raised_balanced, raised_waits, raised_shape, placed_balanced, placed_waits, placed_shape}
use Rattle.theory_memories.proofs.Memories.View.{view}
use Rattle.theory_memories.proofs.Memories.Healthy.{Healthy}
use Rattle.theory_memories.proofs.Memories.ViewRelease.{Shows}
use Rattle.theory_memories.proofs.Memories.ViewCollection.{is_collected, collected_shows}
use Rattle.theory_memories.proofs.Memories.Stores.{positive, ref_object, store_root_lem, cell_place, store_cell_lem, room_vacant, allocate_root}
use Rattle.theory_memories.proofs.Memories.Accepted.{accepted_fit}
use Rattle.theory.proofs.EachCall.Clearing.{InSet, returned}
use Rattle.theory.proofs.EachCall.Answers.{answer-served}
use Rattle.theory.proofs.EachCall.Shading.{Sized, shape_sized, Shading, store_root_shading_lem, store_cell_shading_lem, allocate_shading_lem, return_shading_lem}
use Rattle.theory.proofs.EachCall.StepsServed.{steps_served, steps_or_gone}

-- ---- sums

sum_below_shift : (f : ℕ → ℕ) (n : ℕ) → sum_below f (suc n) ≡ f 0 + sum_below (λ b. f (suc b)) n
unfolding sum_below
sum_below_shift f zero = omega arith
sum_below_shift f (suc n) = omega (arith, sum_below_shift f n)

sum_below_list : (l : List ℕ) → sum_below (λ b. get_or l b 0) (length l) ≡ sum l
unfolding sum sum_below
sum_below_list [] = refl
sum_below_list (x ∷ l) = sum_below_shift (λ b. get_or (x ∷ l) b 0) (length l) ∙ ap (λ (k : ℕ). x + k) (sum_below_list l)

sum_below_add : (f g k : ℕ → ℕ) (n : ℕ) → ((b : ℕ) → b < n → f b + g b ≡ k b) → sum_below f n + sum_below g n ≡ sum_below k n
unfolding sum_below
sum_below_add f g k zero h = refl
sum_below_add f g k (suc n) h = omega (arith, sum_below_add f g k n (λ b l. h b (omega arith)), h n (omega arith))

-- ---- the blocks freed between two memories, from their sizes

module _ (N : ℕ) (h g : Memory) (s t : List ℕ) (before : Represents N h.a h.b s) (after : Represents N g.a g.b t) (b : ℕ) where
  freed_none : is_first N h b ≡ false → freed_at N h g b ≡ 0
  unfolding freed_at
  freed_none f = rw (f, freed_at)

  freed_new : get_or s b 0 ≡ 0 → freed_at N h g b ≡ 0
  freed_new z = elim (test_cases_lem (is_first N h b)) [
    | inl f ↦ absurd (first_size N h.a h.b s before b f z)
    | inr f ↦ freed_none f
  ]

  freed_stands : get_or t b 0 ≡ get_or s b 0 → freed_at N h g b + get_or t b 0 ≡ get_or s b 0
  unfolding freed_at
  freed_stands e = elim (test_cases_lem (is_first N h b)) [
    | inr f ↦ omega (arith, freed_none f)
    | inl f ↦
        let some : get_or s b 0 ≢ 0 = first_size N h.a h.b s before b f in
        let left : get_or t b 0 ≢ 0 = λ z. some (sym e ∙ z) in
        let same : size_at N g b ≡ size_at N h b =
        extent N g.a g.b t after b left ∙ e ∙ sym (extent N h.a h.b s before b some) in
        let none : freed_at N h g b ≡ 0 = rw (f, size_is_first N g.a g.b t after b left, eq-eqb _ _ same, freed_at) in
        omega arith
  ]

  freed_gone : get_or t b 0 ≡ 0 → freed_at N h g b + get_or t b 0 ≡ get_or s b 0
  unfolding freed_at
  freed_gone z = elim (test_cases_lem (is_first N h b)) [
    | inr f ↦ omega (arith, freed_none f, not_first_size N h.a h.b s before b f)
    | inl f ↦
        let some : get_or s b 0 ≢ 0 = first_size N h.a h.b s before b f in
        let no : is_first N g b ≡ false = elim (test_cases_lem (is_first N g b)) [
          | inl q ↦ absurd (first_size N g.a g.b t after b q z)
          | inr q ↦ q
        ] in
        let all : freed_at N h g b ≡ size_at N h b = rw (f, no, freed_at) in
        omega (arith, all, extent N h.a h.b s before b some)
  ]

  freed_cases : (get_or t b 0 ≡ get_or s b 0) ⊎ (get_or t b 0 ≡ 0) → freed_at N h g b + get_or t b 0 ≡ get_or s b 0
  freed_cases (inl e) = freed_stands e
  freed_cases (inr z) = freed_gone z

module _ (N : ℕ) (h g : Memory) (s t : List ℕ) (before : Represents N h.a h.b s) (after : Represents N g.a g.b t) where
  freed_total : (u : List ℕ) → length u ≡ N → ((b : ℕ) → freed_at N h g b + get_or t b 0 ≡ get_or u b 0) → freed_blocks N h g + sum t ≡ sum u
  unfolding freed_blocks
  freed_total u e each =
      let left : sum_below (λ b. get_or t b 0) N ≡ sum t =
      ap (λ (n : ℕ). sum_below (λ b. get_or t b 0) n) (sym after.length_sizes) ∙ sum_below_list t in
      let all : sum_below (λ b. get_or u b 0) N ≡ sum u = ap (λ (n : ℕ). sum_below (λ b. get_or u b 0) n) (sym e) ∙ sum_below_list u in
      omega (arith, sum_below_add (freed_at N h g) (λ b. get_or t b 0) (λ b. get_or u b 0) N (λ b l. each b), left, all)

  -- nothing new stands
  pub balance_freed : ((b : ℕ) → (get_or t b 0 ≡ get_or s b 0) ⊎ (get_or t b 0 ≡ 0)) → in_use N h ≡ freed_blocks N h g + in_use N g
  balance_freed each =
      omega (
        arith,
        freed_total s before.length_sizes (λ b. freed_cases N h g s t before after b (each b)),
        free_and_sizes N h.a h.b s before,
        free_and_sizes N g.a g.b t after,
      )

  -- an object of n blocks at i is new
  pub balance_new :
      (i n : ℕ) → i < N → get_or s i 0 ≡ 0 → get_or t i 0 ≡ n
      → ((b : ℕ) → b ≢ i → (get_or t b 0 ≡ get_or s b 0) ⊎ (get_or t b 0 ≡ 0)) → in_use N h + n ≡ freed_blocks N h g + in_use N g
  balance_new i n l fresh new each =
      omega (
        arith,
        freed_total (set s i n) (length-set s i n ∙ before.length_sizes) at,
        sum_set s i n (omega (arith, before.length_sizes)),
        free_and_sizes N h.a h.b s before,
        free_and_sizes N g.a g.b t after,
      )
    where
      at : (b : ℕ) → freed_at N h g b + get_or t b 0 ≡ get_or (set s i n) b 0
      at b = elim (ℕ_discrete b i) [
        | yes e ↦
            rw e
            (omega (
              arith,
              freed_new N h g s t before after i fresh,
              new,
              get_or-set_same s i n 0 (omega (arith, before.length_sizes)),
            ))
        | no d ↦ freed_cases N h g s t before after b (each b d) ∙ sym (get_or-set_other s i b n 0 d)
      ]

-- ---- each call

-- call c on memory h, answered with x, keeps the balance
pub record Even (N : ℕ) (c : Call) (h : Memory) (x : Answer) : Type 0 where
  pub kept : in_use N h + allocated_by c x.0 ≡ freed_by N c h x.0 x.1 + in_use N x.1

-- one that is no copy into the heap
even_of :
    (N : ℕ) (c : Call) (h : Memory) (x : Reply) (g : Memory) → copied_over c x ≡ false
    → in_use N h + allocated_by c x ≡ freed_blocks N h g + in_use N g → Even N c h (x, g)
unfolding freed_by
even_of N c h x g other kept = record { kept = rw (other, freed_by) kept }

-- one on one heap is none
alone_over : (c : Call) (x : Reply) → Alone c → copied_over c x ≡ false
alone_over c x alone = rw (alone, copied_over) refl

-- a refused one is none
refused_over : (c : Call) (x : Reply) → x.number ≢ 0 → copied_over c x ≡ false
refused_over c x n = go (other_heap c)
  where
    go : (o : Option Other) → elim o [ none ↦ false | some other ↦ not (tests_heap c) && eqb x.number 0 ] ≡ false
    go none = refl
    go (some other) = false_and (not (tests_heap c)) (eqb x.number 0) (λ _. ne_eqb x.number 0 n)

module _ (N w : ℕ) (h : Memory) (fit : Fit N w h) where
  abbrev healthy : Healthy N w h
  healthy = fit.healthy

  abbrev pub sizes : List ℕ
  sizes = sizes_of N h.a h.b

  -- the heap as it was, with whatever waiting list
  same_blocks : (g : Memory) → g.a ≡ h.a → g.b ≡ h.b → in_use N h ≡ freed_blocks N h g + in_use N g
  same_blocks g a b =
      balance_freed N h g sizes sizes healthy.represents
      (rw (a, b) healthy.represents) (λ c. inl refl)

  -- an accepted call that allocates nothing, from what is in use
  plain :
      (c : Call) (x : Reply) (g : Memory) → Alone c → allocates c x ≡ 0 → in_use N h ≡ freed_blocks N h g + in_use N g
      → Even N c h (x, g)
  unfolding allocated_by
  plain c x g alone e kept = even_of N c h x g (alone_over c x alone) (omega (arith, kept, none (eqb x.number 0)))
    where
      none : (t : Bool) → ◌≡◌ {A = ℕ} (elim t [ true ↦ allocates c x | false ↦ 0 ]) 0
      none true = e
      none false = refl

  refused_even : (c : Call) (kind number : ℕ) → number ≢ 0 → Even N c h (refused kind h number)
  unfolding allocated_by
  refused_even c kind number nonzero =
      let x : Reply = (refused kind h number).0 in
      let nothing : allocated_by c x ≡ 0 = rw (ne_eqb number 0 nonzero, allocated_by) in
      even_of N c h x h (refused_over c x nonzero) (omega (arith, nothing, same_blocks h refl refl))

  -- g shows a graph in which each object stands or is gone
  shown_even :
      (r : ℕ) (g : Memory) (k : Graph) → Shows N w r g k → ((b : ℕ) → (size k b ≡ get_or sizes b 0) ⊎ (size k b ≡ 0))
      → in_use N h ≡ freed_blocks N h (settled N g) + in_use N g
  shown_even r g k shows each =
      balance_freed N h (settled N g) sizes (sizes_of N g.a g.b) healthy.represents shows.represents
      (λ b. rw (ap (λ (m : Graph). size m b) shows.view_is) (each b))

  -- a store leaves each object as it was, or frees it
  store_leaves :
      (v : ℕ) → is_ref N h v ≡ true → (i : ℕ) → Place (length h.roots) (view N w h) i → (b : ℕ)
      → let k : Graph = graph.store (capacity w) (length h.roots) (view N w h) i v in (size k b ≡ get_or sizes b 0) ⊎ (size k b ≡ 0)
  unfolding graph.store
  store_leaves v ref i slot-i b =
      let cap : ℕ = capacity w in
      let r : ℕ = length h.roots in
      let pos = positive N w h healthy in
      let named = ref_object N w h healthy v ref in
      let ends = finish_ends cap pos r (raise cap (view N w h) v) i v
      (raised_balanced cap pos r (view N w h) healthy.whole i v slot-i named)
      (raised_waits cap pos r (view N w h) healthy.whole i v slot-i named)
      (raised_shape cap pos r (view N w h) healthy.whole i v slot-i named) slot-i in
      elim ((runs_leave cap r (λ j. ⊥) pos ends.runs).objects b) [ inl e ↦ inl e | inr e ↦ inr e.0 ]

  -- a store of the value present frees nothing
  unless_present :
      (c : Call) (t : Bool) (g : Memory) (second : ℕ) → Alone c → ((x : Reply) → allocates c x ≡ 0)
      → (t ≡ false → in_use N h ≡ freed_blocks N h (settled N g) + in_use N g)
      → Even N c h (freeing N h (elim t [ true ↦ h | false ↦ g ]) second)
  unfolding freeing
  unless_present c true g second alone e kept = plain c _ (settled N h) alone (e _) (same_blocks (settled N h) refl refl)
  unless_present c false g second alone e kept = plain c _ (settled N g) alone (e _) (kept refl)

  store_root_even :
      (r v second : ℕ) → r < length h.roots → is_ref N h v ≡ true → Even N (store_root r v) h (freeing N h (store_root_in N w h r v) second)
  unfolding store_root_in change_root put_root allocates
  store_root_even r v second l ref =
      unless_present (store_root r v) (eqb (get_or h.roots r 0) v) (change_root N w h r v) second refl (λ x. refl)
      (λ e. shown_even (length h.roots) (change_root N w h r v) _ (store_root_lem N w h healthy v ref r l).shows (store_leaves v ref r (inl l)))

  store_cell_even :
      (a j v second : ℕ) → is_first N h a ≡ true → j < 4 * size_at N h a → is_data h.d a ≡ false → is_ref N h v ≡ true
      → Even N (store_cell a j v) h (freeing N h (store_cell_in N w h (4 * a + j) v) second)
  unfolding store_cell_in change_cell put_cell allocates
  store_cell_even a j v second first l ordinary ref =
      unless_present (store_cell a j v) (eqb (get_or h.cells (4 * a + j) 0) v) (change_cell N w h (4 * a + j) v) second refl (λ x. refl)
      (λ e.
      shown_even (length h.roots) (change_cell N w h (4 * a + j) v) _ (store_cell_lem N w h healthy v ref a j first l ordinary).shows
      (store_leaves v ref (length h.roots + (4 * a + j)) (cell_place N w h healthy a j first l)))

  return_even : (chosen : ℕ) → Even N (return_roots chosen) h (freeing N h (return_in N w h chosen (length h.roots)) 0)
  unfolding freeing allocates
  return_even chosen =
      let g : Memory = return_in N w h chosen (length h.roots) in
      let cleared = returned N w h healthy chosen (length h.roots) (omega arith) in
      let leaves = runs_leave (capacity w) (length h.roots) (InSet chosen (length h.roots)) (positive N w h healthy) cleared.runs in
      plain (return_roots chosen) _ (settled N g) refl refl
      (balance_freed N h (settled N g) sizes (sizes_of N g.a g.b) healthy.represents cleared.healthy.represents
      (λ b. elim (leaves.objects b) [ inl e ↦ inl e | inr e ↦ inr e.0 ]))

  collect_even : Even N collect h (freeing N h (collected N w h) 0)
  unfolding freeing allocates
  collect_even =
      plain collect _ (settled N (collected N w h)) refl refl
      (shown_even (length h.roots) (collected N w h) _ (collected_shows N w h healthy)
      (collected_or_gone (capacity w) (length h.roots) (view N w h) _ (is_collected N w h healthy)))

  -- nothing stands in a heap just formatted
  none_left : (v roots : ℕ) → in_use N h ≡ freed_blocks N h (formatted N v roots) + in_use N (formatted N v roots)
  unfolding formatted
  none_left v roots =
      balance_freed N h (formatted N v roots) sizes (replicate N 0) healthy.represents (formatted_represents N healthy.shape.whole_bytes)
      (λ b. inr (zeros_at N b))

  format_even : Even N format h (accepted (formatted N w (length h.roots)) 0)
  unfolding allocates
  format_even = plain format _ (formatted N w (length h.roots)) refl refl (none_left w (length h.roots))

  -- a copy makes what is in use after it (request U14)
  copy_even : (K u : ℕ) (first g : Memory) → Even N (copy_from K u first) h (accepted g (in_use N g))
  unfolding formatted allocated_by allocates freed_by
  copy_even K u first g =
      let none-used =
      free_and_sizes N (replicate (N / 8) 0) (replicate (N / 8) 255) (replicate N 0) (formatted_represents N healthy.shape.whole_bytes) in
      record { kept = omega (arith, none_left 0 0, none-used, sum_none N) }

  -- the new object stands, each other as it was or not at all
  module _ (n r i : ℕ) (some_blocks : 1 ≤ n) (l : r < length h.roots) (found : lowest_free N (exponent n) h.a ≡ some i) where
    space : Room N h.a n i
    space = room N h.a n i found

    pub fresh : get_or sizes i 0 ≡ 0
    fresh = elim (test_cases_lem (is_first N h i)) [
      | inl f ↦ absurd (omega (arith, (first_facts N h.a h.b i f).used, space.free i (omega arith) (omega arith)))
      | inr f ↦ not_first_size N h.a h.b sizes healthy.represents i f
    ]

    inside : i < N
    inside = omega (arith, space.inside)

    -- of either kind
    allocates_so : (asData : Bool) (x : Reply) → allocates (allocate_as asData n r) x ≡ n
    unfolding allocates
    allocates_so true x = refl
    allocates_so false x = refl

    allocate_even :
        (asData : Bool) (second : ℕ) → Even N (allocate_as asData n r) h (reply 0 i second, settled N (allocate_in N w asData h n r i))
    unfolding allocate_in put_root placed graph.allocate allocated_by
    allocate_even asData second =
        let cap : ℕ = capacity w in
        let roots : ℕ = length h.roots in
        let pos = positive N w h healthy in
        let nonzero : n ≢ 0 = omega arith in
        let free = room_vacant N w h healthy n i nonzero space in
        let shows = (allocate_root N w h healthy n i nonzero space asData r l).shows in
        let held = placed_balanced cap pos roots (view N w h) healthy.whole i n r free l in
        let waits = placed_waits cap pos roots (view N w h) healthy.whole i n r free l in
        let shape = placed_shape cap pos roots (view N w h) healthy.whole i n r free l in
        let ends = finish_ends cap pos roots (place (view N w h) i n) r (suc i) held waits shape (inl l) in
        let new = finish_keeps cap pos roots (place (view N w h) i n) r (suc i) held waits shape (inl l) i
        (root r l (get_or-set_same (view N w h).slots r (suc i) 0 (omega (arith, shape.slots_length)))) in
        let placed-size = get_or-set_same sizes i n 0 (omega (arith, length_sizes_of N h.a h.b, inside)) in
        even_of N (allocate_as asData n r) h (reply 0 i second) (settled N (allocate_in N w asData h n r i))
        (alone_over (allocate_as asData n r) (reply 0 i second) (allocation_alone asData n r))
        (ap (λ (m : ℕ). in_use N h + m) (allocates_so asData (reply 0 i second))
        ∙ balance_new N h (settled N (allocate_in N w asData h n r i)) sizes (sizes_of N (allocate_in N w asData h n r i).a (allocate_in N w asData h n r i).b)
        healthy.represents shows.represents i n inside fresh
        (ap (λ (m : Graph). size m i) shows.view_is ∙ new ∙ placed-size)
        (λ b d.
        let other = get_or-set_other sizes i b n 0 d in
        rw (ap (λ (m : Graph). size m b) shows.view_is)
        (elim ((runs_leave cap roots (λ j. ⊥) pos ends.runs).objects b) [ inl e ↦ inl (e ∙ other) | inr e ↦ inr e.0 ])))

  -- ---- request U8

  sized : Sized N h
  sized = shape_sized N w h healthy.shape

  -- the mark map and the second list are not read
  settled_even : (c : Call) (x : Reply) (g g' : Memory) → Shading N g g' → Even N c h (x, settled N g) → Even N c h (x, settled N g')
  unfolding freed_blocks freed_at freed_by
  settled_even c x g g' s even = subst (λ (k : Memory). Even N c h (x, settled N k)) (sym s.is) (record { kept = even.kept })

  freeing_even :
      (c : Call) (g g' : Memory) (second : ℕ) → Shading N g g' → Even N c h (freeing N h g second) → Even N c h (freeing N h g' second)
  unfolding freeing freed_blocks freed_at freed_by
  freeing_even c g g' second s even = subst (λ (k : Memory). Even N c h (freeing N h k second)) (sym s.is) (record { kept = even.kept })

  open_even : Even N open_collection h (accepted (opened N h) 0)
  unfolding allocates opened with_progress
  open_even = plain open_collection _ (opened N h) refl refl (same_blocks (opened N h) refl refl)

  steps_even :
      is_open N h ≡ true → (budget second : ℕ)
      → let t = steps_from budget N h (progress_of N h) in
      Even N (take_steps budget) h (reply 0 t.steps second, settled N (stepped N w h budget t.reached))
  unfolding allocates
  steps_even was_open budget second =
      let g : Memory = stepped N w h budget (steps_from budget N h (progress_of N h)).reached in
      plain (take_steps budget) _ (settled N g) refl refl
      (balance_freed N h (settled N g) sizes (sizes_of N g.a g.b) healthy.represents
      (steps_served N w h fit was_open budget second).keep.represents (steps_or_gone N w h fit was_open budget))

  outcome_even : (c : Call) → Passed N h c → Even N c h (outcome N w h c)
  unfolding outcome Passed allocated_by allocates freed_by
  outcome_even format p = format_even
  outcome_even check p = plain check _ h refl refl (same_blocks h refl refl)
  outcome_even free_blocks p = plain free_blocks _ h refl refl (same_blocks h refl refl)
  outcome_even collect p = collect_even
  outcome_even (allocate n r) (low, high, place, found) =
      settled_even (allocate n r) _ _ _ (allocate_shading_lem N w h sized false n r _) (allocate_even n r _ low place found false _)
  outcome_even (allocate_data n r) (low, high, place, found) =
      settled_even (allocate_data n r) _ _ _ (allocate_shading_lem N w h sized true n r _) (allocate_even n r _ low place found true _)
  outcome_even (write_number a j x) p =
      let g : Memory = with_cells (set h.cells (4 * a + j) x) h in
      plain (write_number a j x) (reply 0 0 0) g refl refl (same_blocks g refl refl)
  outcome_even (read_number a j) p = plain (read_number a j) _ h refl refl (same_blocks h refl refl)
  outcome_even (write_reason a room) p = plain (write_reason a room) _ h refl refl (same_blocks h refl refl)
  outcome_even (write_shape room) p = plain (write_shape room) _ h refl refl (same_blocks h refl refl)
  outcome_even (store_root r v) (place, ref) =
      freeing_even (store_root r v) _ _ _ (store_root_shading_lem N w h sized r v) (store_root_even r v _ place ref)
  outcome_even (store_cell a j v) (first, place, ordinary, ref) =
      freeing_even (store_cell a j v) _ _ _ (store_cell_shading_lem N w h sized a j v) (store_cell_even a j v _ first place ordinary ref)
  outcome_even (look a) p = plain (look a) _ h refl refl (same_blocks h refl refl)
  outcome_even (return_roots chosen) p = freeing_even (return_roots chosen) _ _ _ (return_shading_lem N w h sized chosen _) (return_even chosen)
  outcome_even (copy_from K u first) p = copy_even K u first _
  outcome_even (copy_into M v second) p = record { kept = omega (arith, same_blocks h refl refl) }
  outcome_even open_collection p = open_even
  outcome_even (take_steps budget) p = steps_even p budget _

  pub answer_even : (c : Call) → Even N c h (answer N w h c)
  answer_even c = answer_either N w h c (λ x. Even N c h x) (refused_even c _) (λ e. outcome_even c (passed N w h c e))

  -- of a call on one heap
  pub even_alone : (c : Call) → Alone c → let x = answer N w h c in in_use N h + allocated_by c x.0 ≡ freed_blocks N h x.1 + in_use N x.1
  unfolding freed_by
  even_alone c alone =
      let x : Answer = answer N w h c in
      let freed : freed_by N c h x.0 x.1 ≡ freed_blocks N h x.1 = rw (alone, copied_over, freed_by) refl in
      (answer_even c).kept ∙ ap (λ (n : ℕ). n + in_use N x.1) freed

-- ---- the values

module _ (N w : ℕ) (h : Memory) where
  zeros_within : {g : Memory} → Healthy N w g → zeros g.a ≤ N
  zeros_within {g} healthy = omega (arith, free_and_sizes N g.a g.b (sizes_of N g.a g.b) healthy.represents)

  -- the balance in zeros
  even_zeros : (c : Call) → Alone c → Fit N w h → (answer N w h c).0.number ≡ 0
      → zeros h.a + freed_blocks N h (answer N w h c).1 ≡ zeros (answer N w h c).1.a + allocates c (answer N w h c).0
  unfolding allocated_by
  even_zeros c alone fit e =
      let x : Answer = answer N w h c in
      let all : allocated_by c x.0 ≡ allocates c x.0 = rw (eq-eqb x.0.number 0 e, allocated_by) in
      omega (arith, even_alone N w h fit c alone, all, zeros_within fit.healthy, zeros_within (answer-served N w h fit c).keep)

  freed_value :
      (c : Call) → tests_heap c ≡ true → Alone c → ((x : Reply) → allocates c x ≡ 0)
      → (let x = outcome N w h c in x.0.value ≡ zeros x.1.a - zeros h.a) → (answer N w h c).0.number ≡ 0
      → FreedValue N h (answer N w h c).0 (answer N w h c).1
  freed_value c tests alone nothing value e =
      let grown =
      subst (λ (x : Answer). x.0.value ≡ zeros x.1.a - zeros h.a) (sym (accepted_outcome N w h c e)) value in
      let even = even_zeros c alone (accepted_fit N w h c tests e) e in
      let allocated = nothing (answer N w h c).0 in
      record { by_objects = omega (arith, grown, even, allocated); by_zeros = omega (arith, grown, even, allocated) }

  -- request U8: the blocks freed are the second value
  steps_value :
      (budget : ℕ) → let x = answer N w h (take_steps budget) in
      x.0.number ≡ 0 → (x.0.second ≡ freed_blocks N h x.1) × (zeros h.a + x.0.second ≡ zeros x.1.a)
  unfolding outcome allocates
  steps_value budget e =
      let c : Call = take_steps budget in
      let grown =
      subst (λ (x : Answer). x.0.second ≡ zeros x.1.a - zeros h.a) (sym (accepted_outcome N w h c e)) refl in
      let even = even_zeros c refl (accepted_fit N w h c refl e) e in
      (omega (arith, grown, even), omega (arith, grown, even))

pub blocks_add_up : BlocksAddUp
unfolding outcome freeing allocates
blocks_add_up N w h =
    record {
      store_root_lem = λ r v. freed_value N w h (store_root r v) refl refl (λ x. refl) refl;
      store_cell_lem = λ a j v. freed_value N w h (store_cell a j v) refl refl (λ x. refl) refl;
      return_roots_lem = λ chosen. freed_value N w h (return_roots chosen) refl refl (λ x. refl) refl;
      collection = freed_value N w h collect refl refl (λ x. refl) refl;
      steps = steps_value N w h;
      allocation = allocation;
    }
  where
    allocation : (asData : Bool) (n r : ℕ) → let x = answer N w h (allocate_as asData n r) in
        x.0.number ≡ 0 → zeros h.a + freed_blocks N h x.1 ≡ zeros x.1.a + n
    allocation true n r e = even_zeros N w h (allocate_data n r) refl (accepted_fit N w h (allocate_data n r) refl e) e
    allocation false n r e = even_zeros N w h (allocate n r) refl (accepted_fit N w h (allocate n r) refl e) e
