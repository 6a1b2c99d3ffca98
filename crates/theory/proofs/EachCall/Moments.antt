-- Request U5: the second value of an allocation and of the two stores tells whether the call's own reference brought an object to the
-- capacity, and a collection brings none there.
use mathlib.Core.Path.{◌≡◌, refl, sym, ap, ◌∙◌, subst}
use mathlib.Core.Logic.{◌≢◌, ◌⊎◌, ◌↔◌, inl, inr}
use mathlib.Core.Bool.{Bool, true, false, not, ◌&&◌, true≢false}
use mathlib.Core.Option.{some}
use mathlib.Core.List.{[]}
use Prim.Native.Nat.{ℕ, zero, suc, ◌+◌, ◌-◌, ◌*◌, ◌/◌, ◌≤◌, ◌<◌, min}
use native.Mathlib.Decide.{ℕ_discrete}
use native.Mathlib.Omega.{arith}
use lib.ListN.{length, get_or}
use lib.Seq.{get_or-set_same}
use lib.Dec.{eqb}
use borrow.Author.Tests.{ne_eqb, eqb-true, eqb-false}
use Rattle.bitmap.specs.Bit.{one, zeros}
use Rattle.planes.proofs.Counts.{count_lt}
use Rattle.rules.specs.Heap.{Memory, with_counts, capacity, count_of, is_first, size_at, exponent, lowest_free, is_ref, is_data}
use Rattle.rules_stores.specs.Store.{count_up, sticks, put_root, put_cell, change_root, change_cell, store_sticks, birth_sticks}
use Rattle.rules_stores.proofs.Plain.{store_root_in, store_cell_in}
use Rattle.rules_stores.specs.Store.{placed, allocate_in}
use Rattle.rules_stores.specs.Collection.{collected}
use Rattle.rules_steps.specs.Steps.{is_open}
use Rattle.rules_calls.specs.Calls.{Call, format, check, collect, free_blocks, allocate, store_root, store_cell, look, return_roots, open_collection, take_steps}
use Rattle.rules_calls.specs.Calls.{allocate_data, write_number, read_number, write_reason, write_shape, allocate_as, Answer}
use Rattle.rules_calls.specs.Calls.{copy_from, copy_into}
use Rattle.rules_calls.specs.Calls.{reply, tests_heap, own_refusals, settled, freeing, outcome, answer}
use Rattle.types.specs.declared.Reply.{Reply}
use Rattle.rules.proofs.Tests.{test_cases_lem, first_found}
use Rattle.rules_calls.proofs.Replies.{accepted_none, accepted_outcome, Passed, passed}
use Rattle.rules.proofs.Objects.{first_facts}
use Rattle.rules.proofs.Tabulate.{length_tabulate}
use Rattle.theory_memories.specs.Words.{Object}
use Rattle.theory.specs.CallWords.{copied_over}
use Rattle.theory.specs.Stuck.{writes, Wrote}
use Rattle.theory.specs.Moments.{counted, BecameStuck, Tells, StuckTold}
use Rattle.theory_memories.proofs.Maps.Extents.{sizes_of, length_sizes_of, sized_first}
use Rattle.theory_memories.proofs.Maps.LowestChunk.{room}
use Rattle.theory_graphs.proofs.Graphs.Occurrences.{nonzero_inside}
use Rattle.theory_graphs.proofs.Graphs.Graph as graph
use Rattle.theory_graphs.proofs.Graphs.Graph.{Graph, size, count, raise, place, count_up_same}
use Rattle.theory_graphs.proofs.Graphs.Balance.{all_counted}
use Rattle.theory_graphs.proofs.Graphs.Calls.{Place, raised_balanced, raised_waits, raised_shape}
use Rattle.theory_graphs.proofs.Graphs.Calls.{placed_balanced, placed_waits, placed_shape}
use Rattle.theory_graphs.proofs.Graphs.Stuck.{finish_stuck}
use Rattle.theory_memories.proofs.Memories.View.{view}
use Rattle.theory_memories.proofs.Memories.Slots.{ref_first}
use Rattle.theory_memories.proofs.Memories.Healthy.{Healthy, view_count, healthy_damage_free}
use Rattle.theory_memories.proofs.Memories.ViewRelease.{Shows}
use Rattle.theory_memories.proofs.Memories.Stores.{positive, ref_object, raised_shows, store_root_lem, cell_place, store_cell_lem}
use Rattle.theory_memories.proofs.Memories.Stores.{room_vacant, placed_shows, allocate_root}
use Rattle.theory_memories.proofs.Memories.Fit.{Fit}
use Rattle.theory_memories.proofs.Memories.Accepted.{accepted_fit, fit_accepted, fit_refused}
use Rattle.theory.proofs.EachCall.Shading.{shape_sized, Shading, store_root_shading_lem, store_cell_shading_lem, allocate_shading_lem}
use Rattle.theory.proofs.EachCall.StoresServed.{store_healthy, allocate_served}
use Rattle.theory_memories.proofs.Memories.Collected.{unstuck}
use Rattle.theory.proofs.EachCall.CollectionServed.{collect_served}
use Rattle.theory.proofs.EachCall.Answers.{answer-served}

one_or_none : (t : Bool) → (one t ≡ 1) ⊎ (one t ≡ 0)
one_or_none true = inl refl
one_or_none false = inr refl

module _ (N w : ℕ) (h : Memory) (healthy : Healthy N w h) where
  -- what is at the capacity stands
  full_stands : (g : Memory) → Healthy N w g → (b : ℕ) → b < N → count_of N w g b ≡ capacity w → is_first N g b ≡ true
  full_stands g fine b l e = elim (test_cases_lem (is_first N g b)) [
    | inl first ↦ first
    | inr gone ↦ absurd (omega (arith, (healthy_damage_free N w g fine).no_count b l gone, positive N w h healthy))
  ]

  -- the second value of x tells of the heap k
  abbrev Exactly : Call → Reply → Memory → Type 0
  Exactly call x k = (x.second ≡ 1) ↔ ((b : ℕ) × BecameStuck N w call h x k b)

  -- where nothing is counted, nothing comes to the capacity
  uncounted : (b : ℕ) → (is_first N h b ≡ false) ⊎ (count_of N w h b < capacity w) → is_first N h b ≡ true → count_of N w h b ≡ capacity w → ⊥
  uncounted b (inl gone) stands full = true≢false (sym stands ∙ gone)
  uncounted b (inr low) stands full = omega arith

  -- ---- a store of v in slot i that changes what stands there: g is the memory after it, x the reply

  module _ (v : ℕ) (ref : is_ref N h v ≡ true) (i : ℕ) (slot-i : Place (length h.roots) (view N w h) i) (g : Memory)
      (shows : Shows N w (length h.roots) g (graph.store (capacity w) (length h.roots) (view N w h) i v))
      (fine : Healthy N w (settled N g)) (call : Call) (x : Reply) (writing : writes call x ≡ v)
      (said : x.second ≡ one (sticks N w h.counts v)) where
    abbrev up : Memory
    up = with_counts (count_up N w h.counts v) h

    -- v names the object at a
    module _ (a : ℕ) (named : v ≡ suc a) where
      first : is_first N h a ≡ true
      first = ref_first N h v a ref named

      inside : a < N
      inside = (first_facts N h.a h.b a first).inside

      up_count : count_of N w up a ≡ min (capacity w) (suc (count_of N w h a))
      up_count =
          let some = all_counted (view N w h) healthy.whole.waits a (ref_object N w h healthy v ref a named) in
          sym (view_count N w up a inside)
          ∙ ap (λ (k : Graph). count k a) (raised_shows N w h healthy v ref).view_is
          ∙ rw named (count_up_same (capacity w) (view N w h).counts a (nonzero_inside (view N w h).counts a some))
          ∙ ap (λ (c : ℕ). min (capacity w) (suc c)) (view_count N w h a inside)

      -- what follows the counting up neither brings a count to the capacity nor takes it away
      full_after : (count_of N w up a ≡ capacity w) ↔ (count_of N w g a ≡ capacity w)
      unfolding graph.store
      full_after =
          let cap : ℕ = capacity w in
          let r : ℕ = length h.roots in
          let pos = positive N w h healthy in
          let names = ref_object N w h healthy v ref in
          let ends =
          finish_stuck cap pos r (raise cap (view N w h) v) i v
          (raised_balanced cap pos r (view N w h) healthy.whole i v slot-i names)
          (raised_waits cap pos r (view N w h) healthy.whole i v slot-i names)
          (raised_shape cap pos r (view N w h) healthy.whole i v slot-i names) slot-i a in
          let before : count_of N w up a ≡ count (raise cap (view N w h) v) a =
          sym (view_count N w up a inside) ∙ ap (λ (k : Graph). count k a) (raised_shows N w h healthy v ref).view_is in
          let after = sym (view_count N w g a inside) ∙ ap (λ (k : Graph). count k a) shows.view_is in
          (λ e. after ∙ ends.0 (sym before ∙ e), λ e. before ∙ ends.1 (sym after ∙ e))

      named_exactly :
          (k : Memory) → (count_of N w up a ≡ capacity w) ↔ (count_of N w k a ≡ capacity w)
          → (count_of N w k a ≡ capacity w → is_first N k a ≡ true) → Exactly call x k
      unfolding sticks
      named_exactly k same stands = go (eqb (count_of N w h a + 1) (capacity w)) refl
        where
          fact : sticks N w h.counts v ≡ eqb (count_of N w h a + 1) (capacity w)
          fact = let back : suc a - 1 ≡ a = omega arith in rw (named, ne_eqb (suc a) 0 (omega arith), back)

          go : (t : Bool) → eqb (count_of N w h a + 1) (capacity w) ≡ t → Exactly call x k
          go true e =
              let reached = eqb-true (count_of N w h a + 1) (capacity w) e in
              let full : count_of N w k a ≡ capacity w = same.0 (omega (arith, up_count)) in (
                λ yes. (a, record { reference = omega arith; below = inr (omega arith); stands = stands full; full = full }),
                λ stuck. said ∙ ap one (fact ∙ e),
              )
          go false e =
              let not-reached = eqb-false (count_of N w h a + 1) (capacity w) e in
              let no : x.second ≡ 0 = said ∙ ap one (fact ∙ e) in (
                λ yes. absurd (omega arith),
                λ stuck. absurd (never stuck.0 stuck.1 (omega (arith, stuck.1.reference)) not-reached),
              )
            where
              never : (b : ℕ) → BecameStuck N w call h x k b → b ≡ a → count_of N w h a + 1 ≢ capacity w → ⊥
              never b stuck e not-reached = elim stuck.below [
                | inl gone ↦ true≢false (sym first ∙ ap (λ (c : ℕ). is_first N h c) (sym e) ∙ gone)
                | inr low ↦
                    not-reached
                    (omega (
                      arith,
                      up_count,
                      same.1 (ap (λ (c : ℕ). count_of N w k c) (sym e) ∙ stuck.full),
                      ap (λ (c : ℕ). count_of N w h c) e,
                    ))
              ]

    exactly :
        (k : Memory) → ((a : ℕ) → v ≡ suc a → (count_of N w up a ≡ capacity w) ↔ (count_of N w k a ≡ capacity w))
        → ((a : ℕ) → v ≡ suc a → count_of N w k a ≡ capacity w → is_first N k a ≡ true) → Exactly call x k
    unfolding sticks
    exactly k same stands = go v refl
      where
        go : (u : ℕ) → v ≡ u → Exactly call x k
        go zero e =
            let no : x.second ≡ 0 = said ∙ rw e in (
              λ yes. absurd (omega arith),
              λ stuck. absurd (omega (arith, stuck.1.reference)),
            )
        go (suc a) e = named_exactly a e k (same a e) (stands a e)

    changed_once_counted : Exactly call x up
    changed_once_counted = exactly up (λ a e. (λ full. full, λ full. full)) (λ a e full. first a e)

    changed_afterwards : Exactly call x (settled N g)
    changed_afterwards = exactly (settled N g) full_after (λ a e. full_stands (settled N g) fine a (inside a e))

  -- ---- the stores

  -- a store of the value present
  same_exactly : (call : Call) (x : Reply) → x.second ≡ 0 → Exactly call x h × Exactly call x (settled N h)
  same_exactly call x none_said = (
    (λ yes. absurd (omega arith), λ stuck. absurd (uncounted stuck.0 stuck.1.below stuck.1.stands stuck.1.full)),
    (λ yes. absurd (omega arith), λ stuck. absurd (uncounted stuck.0 stuck.1.below stuck.1.stands stuck.1.full)),
  )

  -- t says whether the value is present; then the memory is kept, else g is left
  store_exactly :
      (v : ℕ) → is_ref N h v ≡ true → (i : ℕ) → Place (length h.roots) (view N w h) i → (g : Memory)
      → Shows N w (length h.roots) g (graph.store (capacity w) (length h.roots) (view N w h) i v) → (call : Call)
      → ((x : Reply) → writes call x ≡ v) → (t : Bool)
      → let left : Memory = elim t [ true ↦ h | false ↦ g ] in
      let x : Reply = reply 0 (zeros left.a - zeros h.a) (one (not t && sticks N w h.counts v)) in
      Exactly call x (elim t [ true ↦ h | false ↦ with_counts (count_up N w h.counts v) h ]) × Exactly call x (settled N left)
  store_exactly v ref i slot-i g shows call writing true = same_exactly call (reply 0 (zeros h.a - zeros h.a) 0) refl
  store_exactly v ref i slot-i g shows call writing false =
      let x : Reply = reply 0 (zeros g.a - zeros h.a) (one (sticks N w h.counts v)) in
      let fine = store_healthy N w h healthy v ref i slot-i g shows in (
        changed_once_counted v ref i slot-i g shows fine call x (writing x) refl,
        changed_afterwards v ref i slot-i g shows fine call x (writing x) refl,
      )

  root_tells :
      (r v : ℕ) → r < length h.roots → is_ref N h v ≡ true
      → let x = freeing N h (store_root_in N w h r v) (one (store_sticks N w h.counts (get_or h.roots r 0) v)) in
      Tells N w (store_root r v) h x.0 x.1
  unfolding store_root_in store_sticks change_root put_root freeing counted writes
  root_tells r v l ref =
      let shows = (store_root_lem N w h healthy v ref r l).shows in
      let both = store_exactly v ref r (inl l) (change_root N w h r v) shows (store_root r v) (λ x. refl) (eqb (get_or h.roots r 0) v) in
      record { once_counted = both.0; afterwards = both.1; yes_or_no = one_or_none (store_sticks N w h.counts (get_or h.roots r 0) v) }

  cell_tells :
      (a j v : ℕ) → is_first N h a ≡ true → j < 4 * size_at N h a → is_data h.d a ≡ false → is_ref N h v ≡ true
      → let x = freeing N h (store_cell_in N w h (4 * a + j) v) (one (store_sticks N w h.counts (get_or h.cells (4 * a + j) 0) v)) in
      Tells N w (store_cell a j v) h x.0 x.1
  unfolding store_cell_in store_sticks change_cell put_cell freeing counted writes
  cell_tells a j v owner l ordinary ref =
      let old : ℕ = get_or h.cells (4 * a + j) 0 in
      let shows = (store_cell_lem N w h healthy v ref a j owner l ordinary).shows in
      let both =
      store_exactly v ref (length h.roots + (4 * a + j)) (cell_place N w h healthy a j owner l) (change_cell N w h (4 * a + j) v) shows
      (store_cell a j v) (λ x. refl) (eqb old v) in
      record { once_counted = both.0; afterwards = both.1; yes_or_no = one_or_none (store_sticks N w h.counts old v) }

  -- ---- the new object of an allocation, of n blocks at i

  module _ (asData : Bool) (n r i : ℕ) (some_blocks : 1 ≤ n) (not_more : n ≤ N) (l : r < length h.roots)
      (found : lowest_free N (exponent n) h.a ≡ some i) where
    nonzero : n ≢ 0
    nonzero = omega arith

    within : i < N
    within = omega (arith, (room N h.a n i found).inside)

    -- it wasn't there
    new : is_first N h i ≡ false
    new = elim (test_cases_lem (is_first N h i)) [
      | inl old ↦
          absurd (omega (arith, (first_facts N h.a h.b i old).used, (room N h.a n i found).free i (omega arith) (omega arith)))
      | inr gone ↦ gone
    ]

    abbrev said : Reply
    said = reply 0 i (one (birth_sticks w))

    writes_new : writes (allocate_as asData n r) said ≡ 1 + i
    unfolding writes
    writes_new = go asData
      where
        go : (t : Bool) → writes (allocate_as t n r) said ≡ 1 + i
        go true = refl
        go false = refl

    counted_new : counted N w (allocate_as asData n r) h said ≡ placed N w asData h i n
    unfolding counted
    counted_new = go asData
      where
        go : (t : Bool) → counted N w (allocate_as t n r) h said ≡ placed N w t h i n
        go true = refl
        go false = refl

    -- in k its count is at the capacity exactly where that is 1
    born_exactly : (k : Memory) → (capacity w ≡ 1) ↔ (count_of N w k i ≡ capacity w) → (count_of N w k i ≡ capacity w → is_first N k i ≡ true)
        → Exactly (allocate_as asData n r) said k
    born_exactly k same stands = go (birth_sticks w) refl
      where
        go : (t : Bool) → birth_sticks w ≡ t → Exactly (allocate_as asData n r) said k
        go true e =
            let full = same.0 (eqb-true (capacity w) 1 e) in (
              λ yes. (i, record { reference = writes_new; below = inl new; stands = stands full; full = full }),
              λ stuck. ap one e,
            )
        go false e =
            let no : said.second ≡ 0 = ap one e in (
              λ yes. absurd (omega arith),
              λ stuck.
                  let at_i : stuck.0 ≡ i = omega (arith, stuck.1.reference, writes_new) in
                  absurd (eqb-false (capacity w) 1 e (same.1 (ap (λ (c : ℕ). count_of N w k c) (sym at_i) ∙ stuck.1.full))),
            )

    allocate_tells : Tells N w (allocate_as asData n r) h said (settled N (allocate_in N w asData h n r i))
    unfolding allocate_in put_root placed graph.allocate
    allocate_tells =
        let cap : ℕ = capacity w in
        let roots : ℕ = length h.roots in
        let pos = positive N w h healthy in
        let free = room_vacant N w h healthy n i nonzero (room N h.a n i found) in
        let shown = placed_shows N w h healthy n i nonzero (room N h.a n i found) asData in
        let shows = (allocate_root N w h healthy n i nonzero (room N h.a n i found) asData r l).shows in
        let fine = (allocate_served N w h healthy n r i some_blocks not_more l found asData (one (birth_sticks w))).keep in
        let one_there : count (place (view N w h) i n) i ≡ 1 =
        get_or-set_same (view N w h).counts i 1 0 (omega (arith, within, length_tabulate N (count_of N w h))) in
        let size_there : size (view N w (placed N w asData h i n)) i ≡ n =
        ap (λ (k : Graph). size k i) shown.view_is
        ∙ get_or-set_same (sizes_of N h.a h.b) i n 0 (omega (arith, within, length_sizes_of N h.a h.b)) in
        let before = sym (view_count N w (placed N w asData h i n) i within) ∙ ap (λ (k : Graph). count k i) shown.view_is ∙ one_there in
        let ends =
        finish_stuck cap pos roots (place (view N w h) i n) r (suc i)
        (placed_balanced cap pos roots (view N w h) healthy.whole i n r free l)
        (placed_waits cap pos roots (view N w h) healthy.whole i n r free l)
        (placed_shape cap pos roots (view N w h) healthy.whole i n r free l) (inl l) i in
        let after = sym (view_count N w (allocate_in N w asData h n r i) i within) ∙ ap (λ (k : Graph). count k i) shows.view_is in
        record {
          once_counted =
              rw counted_new
              (born_exactly (placed N w asData h i n) (λ e. before ∙ sym e, λ e. sym e ∙ before)
              (λ full. sized_first N (placed N w asData h i n).a (placed N w asData h i n).b i (λ z. nonzero (sym size_there ∙ z))));
          afterwards =
              born_exactly (settled N (allocate_in N w asData h n r i))
              (λ e. after ∙ ends.0 (one_there ∙ sym e), λ e. sym (ends.1 (sym after ∙ e)) ∙ one_there)
              (full_stands (settled N (allocate_in N w asData h n r i)) fine i within);
          yes_or_no = one_or_none (birth_sticks w);
        }

-- ---- the mark map and the second list (request U8) are not read

module _ (N w : ℕ) (c : Call) (h : Memory) where
  settled_tells : (x : Reply) (g g' : Memory) → Shading N g g' → Tells N w c h x (settled N g) → Tells N w c h x (settled N g')
  settled_tells x g g' s t =
      subst (λ (k : Memory). Tells N w c h x (settled N k)) (sym s.is)
      (record {
        once_counted = t.once_counted;
        afterwards = (
          λ yes.
              let found = t.afterwards.0 yes in
              let at = found.1 in
              (found.0, record { reference = at.reference; below = at.below; stands = at.stands; full = at.full }),
          λ stuck.
              let at = stuck.1 in
              t.afterwards.1 (stuck.0, record { reference = at.reference; below = at.below; stands = at.stands; full = at.full }),
        );
        yes_or_no = t.yes_or_no;
      })

  freeing_tells :
      (g g' : Memory) (second : ℕ) → Shading N g g' → let x = freeing N h g second in Tells N w c h x.0 x.1
      → let y = freeing N h g' second in Tells N w c h y.0 y.1
  unfolding freeing
  freeing_tells g g' second s t =
      subst (λ (k : Memory). let y = freeing N h k second in Tells N w c h y.0 y.1) (sym s.is)
      (settled_tells (freeing N h g second).0 g _
      (record { marks = s.marks; list = s.list; is = refl; length_marks = s.length_marks; length_list = s.length_list }) t)

-- ---- the calls, whatever the heap and the arguments

-- the outcome tells, on a healthy memory; so does every accepted answer
tells :
    (N w : ℕ) (h : Memory) (c : Call) → tests_heap c ≡ true
    → (Healthy N w h → Passed N h c → let x = outcome N w h c in Tells N w c h x.0 x.1)
    → let x = answer N w h c in x.0.number ≡ 0 → Tells N w c h x.0 x.1
tells N w h c tests told e =
    subst (λ (x : Answer). Tells N w c h x.0 x.1) (sym (accepted_outcome N w h c e))
    (told (accepted_fit N w h c tests e).healthy (passed N w h c (accepted_none N w h c e)))

pub stuck_told : StuckTold
unfolding outcome Passed
stuck_told N w h =
    record {
      allocation = allocation;
      store_root_lem = λ r v. tells N w h (store_root r v) refl (λ healthy p.
          freeing_tells N w (store_root r v) h _ _ _ (store_root_shading_lem N w h (shape_sized N w h healthy.shape) r v)
          (root_tells N w h healthy r v p.0 p.1));
      store_cell_lem = λ a j v. tells N w h (store_cell a j v) refl (λ healthy p.
          freeing_tells N w (store_cell a j v) h _ _ _ (store_cell_shading_lem N w h (shape_sized N w h healthy.shape) a j v)
          (cell_tells N w h healthy a j v p.0 p.1 p.2 p.3));
    }
  where
    allocation : (asData : Bool) (n r : ℕ) → let x = answer N w h (allocate_as asData n r) in
        x.0.number ≡ 0 → Tells N w (allocate_as asData n r) h x.0 x.1
    allocation true n r =
        tells N w h (allocate_data n r) refl (λ healthy p.
        settled_tells N w (allocate_data n r) h _ _ _ (allocate_shading_lem N w h (shape_sized N w h healthy.shape) true n r _)
        (allocate_tells N w h healthy true n r _ p.0 p.1 p.2 p.3))
    allocation false n r =
        tells N w h (allocate n r) refl (λ healthy p.
        settled_tells N w (allocate n r) h _ _ _ (allocate_shading_lem N w h (shape_sized N w h healthy.shape) false n r _)
        (allocate_tells N w h healthy false n r _ p.0 p.1 p.2 p.3))

-- ---- no moment goes untold

module _ (N w : ℕ) (h : Memory) (fit : Fit N w h) where
  abbrev healthy : Healthy N w h
  healthy = fit.healthy

  pub none_untold :
      (call : Call) (b n : ℕ) → let x = answer N w h call in
      copied_over call x.0 ≡ false → Object N h b n → Object N x.1 b n → count_of N w h b < capacity w
      → count_of N w x.1 b ≡ capacity w → x.0.second ≡ 1
  unfolding writes
  none_untold call b n living was is low top = go call was is low top ((answer-served N w h fit call).sticks living b n was is low top)
    where
      go : (c : Call) → let x = answer N w h c in
          Object N h b n → Object N x.1 b n → count_of N w h b < capacity w → count_of N w x.1 b ≡ capacity w
          → Wrote N w b c h x.0 → x.0.second ≡ 1
      go (allocate m r) was is low top wrote =
          ((stuck_told N w h).allocation false m r wrote.accepted).afterwards.1
          (b, record { reference = wrote.reference; below = inr low; stands = is.first; full = top })
      go (allocate_data m r) was is low top wrote =
          ((stuck_told N w h).allocation true m r wrote.accepted).afterwards.1
          (b, record { reference = wrote.reference; below = inr low; stands = is.first; full = top })
      go (store_root r v) was is low top wrote =
          ((stuck_told N w h).store_root_lem r v wrote.accepted).afterwards.1
          (b, record { reference = wrote.reference; below = inr low; stands = is.first; full = top })
      go (store_cell a j v) was is low top wrote =
          ((stuck_told N w h).store_cell_lem a j v wrote.accepted).afterwards.1
          (b, record { reference = wrote.reference; below = inr low; stands = is.first; full = top })
      go format was is low top wrote = absurd (omega (arith, wrote.reference))
      go check was is low top wrote = absurd (omega (arith, wrote.reference))
      go collect was is low top wrote = absurd (omega (arith, wrote.reference))
      go free_blocks was is low top wrote = absurd (omega (arith, wrote.reference))
      go (look a) was is low top wrote = absurd (omega (arith, wrote.reference))
      go (return_roots chosen) was is low top wrote = absurd (omega (arith, wrote.reference))
      go (write_number a j x) was is low top wrote = absurd (omega (arith, wrote.reference))
      go (read_number a j) was is low top wrote = absurd (omega (arith, wrote.reference))
      go (write_reason a room) was is low top wrote = absurd (omega (arith, wrote.reference))
      go (write_shape room) was is low top wrote = absurd (omega (arith, wrote.reference))
      go open_collection was is low top wrote = absurd (omega (arith, wrote.reference))
      go (take_steps budget) was is low top wrote = absurd (omega (arith, wrote.reference))
      go (copy_into M v second) was is low top wrote = absurd (omega (arith, wrote.reference))
      go (copy_from K u first) was is low top wrote = absurd (omega (arith, wrote.reference))

  -- ---- the collection

  accepted_none_stuck :
      is_open N h ≡ false → (b : ℕ) → is_first N h b ≡ true → count_of N w h b < capacity w → count_of N w (answer N w h collect).1 b < capacity w
  unfolding outcome freeing Passed
  accepted_none_stuck none b was low =
      let left : Memory = settled N (collected N w h) in
      let answered = ap (λ (x : Answer). count_of N w x.1 b) (fit_accepted N w h fit collect refl none) in
      let bounded = count_lt (N / 8) w left.counts b in
      elim (test_cases_lem (is_first N left b)) [
        | inl is ↦ elim (ℕ_discrete (count_of N w left b) (capacity w)) [
          | yes top ↦ absurd (unstuck N w h healthy b was is low top)
          | no other ↦ omega (arith, answered, bounded)
        ]
        | inr gone ↦
            omega (
              arith,
              answered,
              (healthy_damage_free N w left (collect_served N w h healthy).keep
                  ).no_count b (first_facts N h.a h.b b was).inside gone,
              positive N w h healthy,
            )
      ]

  -- with one open it is refused
  pub collection_sticks_none :
      (b : ℕ) → is_first N h b ≡ true → count_of N w h b < capacity w → count_of N w (answer N w h collect).1 b < capacity w
  unfolding own_refusals
  collection_sticks_none b was low =
      elim (test_cases_lem (is_open N h)) [
        | inl e ↦
            let refused = fit_refused N w h fit collect refl (λ z. omega (arith, first_found 14 (is_open N h) [] e, z)) in
            rw (ap (λ (x : Answer). count_of N w x.1 b) refused) low
        | inr e ↦ accepted_none_stuck e b was low
      ]
