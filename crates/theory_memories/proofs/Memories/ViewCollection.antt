-- The collection of the rules is, seen in the object graph, the collection of the graph's machine.
use mathlib.Core.Path.{◌≡◌, refl, sym, ap, ◌∙◌, subst}
use mathlib.Core.Logic.{◌≢◌, ◌⊎◌, inl, inr}
use mathlib.Core.Bool.{Bool, true, false, not, ◌&&◌, false≢true}
use mathlib.Core.List.{List}
use Prim.Native.Nat.{ℕ, suc, ◌+◌, ◌*◌, ◌<◌, min}
use native.Mathlib.Decide.{ℕ_discrete}
use native.Mathlib.Omega.{arith}
use lib.ListN.{length, get_or}
use lib.Seq.{ext_get_or}
use lib.Dec.{eqb}
use borrow.Author.Tests.{eqb-false, ne_eqb, not-true}
use Rattle.bitmap.specs.Bit.{count_below}
use Rattle.bitmap.proofs.Zeros.{count_same}
use Rattle.rules.specs.Tools.{holding, tabulate}
use Rattle.rules.specs.Heap.{Memory, capacity, count_of, is_first, reference}
use Rattle.rules_stores.specs.Collection.{cell_of_chosen, references_from, marked, reached, swept, collected}
use Rattle.rules.proofs.Tests.{test_cases_lem, true_and}
use Rattle.rules.proofs.Counting.{then_all, then_none}
use Rattle.rules.proofs.Tabulate.{length_tabulate, get_d_tabulate}
use Rattle.theory_memories.proofs.Maps.Extents.{length_sizes_of, size_first, size_not_first, sized_first, represents_is}
use Rattle.theory_graphs.proofs.Graphs.Occurrences.{occurrences}
use Rattle.theory_graphs.proofs.Graphs.Graph.{Graph, count, slot}
use Rattle.theory_graphs.proofs.Graphs.Balance.{named_object}
use Rattle.theory_graphs.proofs.Graphs.Keep.{Reach}
use Rattle.theory_graphs.proofs.Graphs.Marking as marking
use Rattle.theory_graphs.proofs.Graphs.Marking.{Markable, is_reached, reached_sound, reached_complete}
use Rattle.theory_graphs.proofs.Graphs.Collection.{Live, Collected}
use Rattle.theory_graphs.proofs.Graphs.Sweep.{sweep, marked_graph, collect}
use Rattle.theory_graphs.proofs.Graphs.Calls.{whole_markable, collect_is, collect_whole}
use Rattle.theory_memories.proofs.Memories.View.{slots_in, view}
use Rattle.theory_memories.proofs.Memories.Slots.{cell_slot, references_slots}
use Rattle.theory_memories.proofs.Memories.Healthy.{Healthy, view_count}
use Rattle.theory_memories.proofs.Memories.Leads.{leads_reach, reach_leads}
use Rattle.theory_memories.proofs.Memories.Rounds.{cell_of_set, of_set_cell, names_from, reached_led, led_reached}
use Rattle.theory_memories.proofs.Memories.ViewRelease.{reshaped, Shows, graph_is}
use Rattle.theory_memories.proofs.Memories.Stores.{positive}
use Rattle.theory_memories.proofs.Memories.ViewSweep.{Swept, sweep_swept}
use Rattle.theory_memories.proofs.Memories.Recount.{swept_uncounted, recounted_length, recounted_marked, recounted_other}

module _ (N w : ℕ) (h : Memory) (healthy : Healthy N w h) where
  abbrev r : ℕ
  r = length h.roots

  abbrev marks : List Bool
  marks = reached N h

  abbrev before : Graph
  before = view N w h

  abbrev after : Graph
  after = collect (capacity w) r before

  pub is_collected : Collected (capacity w) r before after
  is_collected = collect_is (capacity w) (positive N w h healthy) r before healthy.whole

  -- ---- what is marked

  marked_reach : (b : ℕ) → marked marks b ≡ true → Reach r before.sizes before.slots b
  marked_reach b e = leads_reach N h before.sizes healthy.represents (reached_led N h b e)

  pub reach_marked : (b : ℕ) → Reach r before.sizes before.slots b → marked marks b ≡ true
  reach_marked b reach =
      led_reached N h b
      (reach_leads N h before.sizes healthy.represents
      (named_object (capacity w) (positive N w h healthy) before healthy.whole.balanced)
      b
      reach)

  markable : Markable r before.sizes before.slots
  markable = whole_markable (capacity w) (positive N w h healthy) r before healthy.whole

  -- the graph's machine counts what is marked, and nothing else
  counted : (b : ℕ) → marked marks b ≡ true → get_or (marking.marked (capacity w) r before) b 0 ≢ 0
  unfolding is_reached
  counted b e =
      eqb-false (get_or (marking.marked (capacity w) r before) b 0) 0
      (not-true (eqb (get_or (marking.marked (capacity w) r before) b 0) 0)
      (reached_complete (capacity w) (positive N w h healthy) r before markable b (marked_reach b e)))

  uncounted : (b : ℕ) → marked marks b ≡ false → get_or (marking.marked (capacity w) r before) b 0 ≡ 0
  unfolding is_reached
  uncounted b e =
      elim (ℕ_discrete (get_or (marking.marked (capacity w) r before) b 0) 0) [
        | yes z ↦ z
        | no c ↦
            absurd
            (false≢true
            (sym e
            ∙ reach_marked b
            (reached_sound (capacity w) (positive N w h healthy) r before markable b
            (rw (ne_eqb (get_or (marking.marked (capacity w) r before) b 0) 0 c)))))
      ]

  -- ---- the objects and the slots that are left

  pub collect_swept : Swept N w h (swept N w h marks N) after
  unfolding collect
  collect_swept =
      subst (λ (n : ℕ). Swept N w h (swept N w h marks N) (sweep r (marked_graph (capacity w) r before) n)) (sym (length_sizes_of N h.a h.b))
      (sweep_swept N w h healthy.shape healthy.represents healthy.bare marks (marking.marked (capacity w) r before) counted uncounted N (omega arith))

  -- ---- the references that are left

  abbrev left : Memory
  left = swept N w h marks N

  cell_left : (j : ℕ) → j < 4 * N → reference N left j ≡ slot after (r + j)
  cell_left j l =
      sym (cell_slot N left j l)
      ∙ ap (λ (roots : List ℕ). get_or (slots_in N left) (length roots + j) 0) collect_swept.same_roots
      ∙ ap (λ (slots : List ℕ). get_or slots (r + j) 0) collect_swept.slots_are

  -- a cell of an object that is marked stands, any other is 0
  live : (j : ℕ) → cell_of_chosen N h (marked marks) j ≡ true → Live r before (r + j)
  live j e =
      let owner = cell_of_set N h (marked marks) j e in
      let a = owner.0 in
      let c = owner.1 in
      let same = size_first N h.a h.b a c.first in
      inr (a, marked_reach a c.chosen, (omega (arith, c.from), omega (arith, c.below)))

  dead : (j : ℕ) → cell_of_chosen N h (marked marks) j ≡ false → Live r before (r + j) → ⊥
  dead j e (inl l) = omega arith
  dead j e (inr (x, reach, own)) =
      let first = sized_first N h.a h.b x (omega (arith, own)) in
      let same = size_first N h.a h.b x first in
      false≢true
      (sym e
      ∙ of_set_cell N h (marked marks) j x
      (record { first = first; chosen = reach_marked x reach; from = omega (arith, own); below = omega (arith, own) }))

  names_left :
      (b j : ℕ) → j < 4 * N → eqb (reference N left j) (b + 1) ≡ names_from N h (marked marks) b j
  names_left b j l =
      elim (test_cases_lem (cell_of_chosen N h (marked marks) j)) [
        | inl e ↦
            ap (λ (v : ℕ). eqb v (b + 1)) (cell_left j l ∙ is_collected.live (r + j) (live j e) ∙ cell_slot N h j l)
            ∙ sym (then_all (eqb (reference N h j) (b + 1)) (cell_of_chosen N h (marked marks) j) e)
        | inr e ↦
            ne_eqb (reference N left j) (b + 1) (λ q. omega (arith, cell_left j l, is_collected.dead (r + j) (dead j e)))
            ∙ sym (then_none (eqb (reference N h j) (b + 1)) (cell_of_chosen N h (marked marks) j) e)
      ]

  cells_left :
      (b : ℕ) → count_below (λ j. eqb (reference N left j) (b + 1)) (4 * N)
      ≡ count_below (names_from N h (marked marks) b) (4 * N)
  cells_left b =
      count_same (λ j. eqb (reference N left j) (b + 1))
      (names_from N h (marked marks) b)
      (4 * N)
      (names_left b)

  -- each reference that is left is one from a root or from a cell of a marked object
  pub references_left : (b : ℕ) → references_from N h (marked marks) b ≡ occurrences (suc b) after.slots
  unfolding references_from
  references_left b =
      omega (
        arith,
        cells_left b,
        ap (holding (b + 1)) collect_swept.same_roots,
        references_slots N left b,
        ap (occurrences (suc b)) collect_swept.slots_are,
      )

  -- ---- the counts

  count_after : (b : ℕ) → b < N → count_of N w (collected N w h) b ≡ count after b
  unfolding collected
  count_after b l =
      elim (test_cases_lem (marked marks b)) [
        | inl e ↦
            recounted_marked N w healthy.shape.whole_bytes h marks left.counts collect_swept.shape.length_counts N b (omega arith) l e
            ∙ ap (min (capacity w)) (references_left b)
            ∙ sym (is_collected.counted b)
        | inr e ↦
            recounted_other N w healthy.shape.whole_bytes h marks left.counts N b (omega arith) l e
            ∙ swept_uncounted N w healthy.shape.whole_bytes h marks healthy.shape.length_counts N b (omega arith) l (goes_or_zero e)
            ∙ sym (((collect_whole (capacity w) (positive N w h healthy) r before healthy.whole).balanced b).absent
            (is_collected.unreached b (λ reach. false≢true (sym e ∙ reach_marked b reach))))
      ]
    where
      goes_or_zero : marked marks b ≡ false → (count_of N w h b ≡ 0) ⊎ ((b < N) × (is_first N h b && not (marked marks b) ≡ true))
      goes_or_zero e =
          elim (test_cases_lem (is_first N h b)) [
            | inl f ↦ inr (l, true_and (is_first N h b) (not (marked marks b)) f (ap not e))
            | inr f ↦
                inl (sym (view_count N w h b l) ∙ (healthy.whole.balanced b).absent (size_not_first N h.a h.b b f))
          ]

  -- ---- the whole graph

  view_collected : view N w (collected N w h) ≡ after
  unfolding collected
  view_collected =
      graph_is
      (sym (represents_is N left.a left.b after.sizes collect_swept.represents))
      (ext_get_or 0 (tabulate N (count_of N w (collected N w h))) after.counts
      (length_tabulate N (count_of N w (collected N w h)) ∙ sym (is_collected.counts_length ∙ length_sizes_of N h.a h.b))
      (λ b l.
      let inside : b < N = omega (arith, length_tabulate N (count_of N w (collected N w h))) in
      get_d_tabulate 0 N (count_of N w (collected N w h)) b inside ∙ count_after b inside))
      collect_swept.slots_are

  pub collected_shows : Shows N w r (collected N w h) after
  unfolding collected
  collected_shows =
      record {
        shape =
            reshaped N w left (collected N w h) collect_swept.shape refl refl
            (recounted_length N w healthy.shape.whole_bytes h marks left.counts N)
            refl
            refl
            refl
            refl
            refl
            refl
            refl;
        represents =
            rw (← represents_is N left.a left.b after.sizes collect_swept.represents) collect_swept.represents;
        roots_are = ap length collect_swept.same_roots;
        view_is = view_collected;
        bare = collect_swept.bare;
      }
