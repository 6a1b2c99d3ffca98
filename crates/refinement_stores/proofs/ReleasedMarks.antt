-- The mark map that code keeps along a release (request U8): its bits are the rule's marks, so it is the rule's map.
use mathlib.Core.Path.{◌≡◌, refl, sym, ap, ◌∙◌, subst}
use mathlib.Core.Logic.{◌≢◌, inl, inr}
use mathlib.Core.Bool.{Bool, true, false, not, ◌&&◌, ◌||◌, and-true, and-false}
use mathlib.Core.List.{List, [], ◌∷◌}
use Prim.Native.Nat.{ℕ, zero, suc, ◌+◌, ◌*◌, ◌≤◌, ◌<◌}
use native.Mathlib.Decide.{ℕ_discrete, dec_lt}
use native.Mathlib.Omega.{arith}
use lib.Dec.{eqb}
use lib.ListN.{length}
use borrow.Author.Tests.{eq-eqb, ne_eqb, eqb-true, eqb-false}
use Rattle.bitmap.specs.Bit.{bit_at, set_bit, one}
use Rattle.bitmap.proofs.Maps.{bit_at_lt, bit_past_end, length_set_bit}
use Rattle.bitmap.proofs.Rewrites.{Rewritten, bit, rewritten_length, rewritten_ext}
use Rattle.rules.specs.Heap.{Memory, size_at}
use Rattle.rules_stores.specs.Store.{naming_cells, work_after, memory_after, release}
use Rattle.rules_steps.specs.Steps.{names, is_marked, is_listed, map_of, marks_after}
use Rattle.rules.proofs.Tests.{test_cases_lem, false_unless, false_or}
use Rattle.rules_steps.proofs.Progress.{map_of_rewritten, bit_map_of}
use Rattle.step_marks.specs.Marks.{freed_marks}
use Rattle.step_list.specs.Lists.{is_set}
use Rattle.step_list.proofs.Bits.{zero_is, made_clear, others_same}
use Rattle.release.specs.Marks.{released_marks}
use Rattle.theory_memories.specs.Marks.{Frees, TakenMarking, first_marks, first_list}
use Rattle.theory_memories.proofs.Maps.Extents.{sizes_of, length_sizes_of}
use Rattle.theory_graphs.proofs.Graphs.Occurrences.{occurrences}
use Rattle.theory_graphs.proofs.Graphs.Graph.{size}
use Rattle.theory_graphs.proofs.Graphs.Balance.{waits_head, waits_bound, named_object}
use Rattle.theory_memories.proofs.Memories.View.{view}
use Rattle.theory_memories.proofs.Memories.Naming.{names_cells}
use Rattle.theory_memories.proofs.Memories.TidyHeap.{some_first, some_inside, names_slot}
use Rattle.theory_memories.proofs.Memories.ViewRelease.{Releasing, releasing_next}
use Rattle.theory_memories.proofs.Memories.Orders.{fewer_objects}
use Rattle.theory_memories.proofs.Memories.MarkOrders.{in_any_order}
use Rattle.refinement_stores.proofs.MarkBits.{named_rewritten, named_bits}

-- ---- along a release

module _ (N w : ℕ) where
  -- the map once the object at i is freed
  abbrev next_marks : Memory → ℕ → List ℕ → List ℕ
  next_marks h i marks = freed_marks true N marks h.cells i (naming_cells h.d i (size_at N h i))

  next_rewritten : (h : Memory) (i : ℕ) {old marks : List ℕ} → Rewritten old marks → Rewritten old (next_marks h i marks)
  unfolding freed_marks
  next_rewritten h i r = named_rewritten N _ h.cells (4 * i) (bit i 0 (omega arith) r) (naming_cells h.d i (size_at N h i))

  next_long : (h : Memory) (i : ℕ) (marks : List ℕ) → 8 * length marks ≡ N → 8 * length (next_marks h i marks) ≡ N
  next_long h i marks long = omega (arith, long, rewritten_length (next_rewritten h i {old = marks} Rewritten.same))

  pub released_rewritten :
      (fuel : ℕ) (h : Memory) (stack : List ℕ) {old marks : List ℕ} → Rewritten old marks
      → Rewritten old (released_marks true fuel N w h stack marks)
  unfolding released_marks
  released_rewritten zero h stack r = r
  released_rewritten (suc fuel) h [] r = r
  released_rewritten (suc fuel) h (i ∷ rest) r =
      released_rewritten fuel (memory_after N w h i rest) (work_after N w h i rest).stack (next_rewritten h i r)

  -- one object is freed: its bit goes, and those of what its cells name come
  frees_next :
      (h : Memory) (i : ℕ) (rest : List ℕ) → Releasing N w h (i ∷ rest) → (marks : List ℕ) → 8 * length marks ≡ N → (l : ℕ → Bool)
      → Frees N h i (is_set marks) l (is_set (next_marks h i marks)) (λ b. (l b && not (eqb b i)) || (names N h i b && not (is_set marks b)))
  unfolding freed_marks
  frees_next h i rest releasing marks long l = record { marks_are = λ b. at b (dec_lt b N); list_are = λ b. refl }
    where
      object : size (view N w h) i ≢ 0
      object = (waits_head (view N w h) i rest releasing.waits).0

      within : i < N
      within = some_inside N w h i object

      none_past : (b : ℕ) → ¬ (b < N) → names N h i b ≡ false
      none_past b u =
          false_unless (names N h i b)
          (λ e.
          let found = names_slot N w h i b (some_first N w h i object) e in
          u (some_inside N w h b (named_object _ releasing.positive (view N w h) releasing.balanced found.0 b found.2)))

      cleared : (b : ℕ) → is_set (set_bit marks i 0) b ≡ is_set marks b && not (eqb b i)
      cleared b =
          elim (ℕ_discrete b i) [
            | yes q ↦
                ap (is_set (set_bit marks i 0)) q ∙ made_clear marks i (omega (arith, within, long))
                ∙ sym (ap (λ (t : Bool). is_set marks b && not t) (eq-eqb b i q) ∙ and-false (is_set marks b))
            | no q ↦
                others_same marks i 0 b (omega arith) q
                ∙ sym (ap (λ (t : Bool). is_set marks b && not t) (ne_eqb b i q) ∙ and-true (is_set marks b))
          ]

      past : (b : ℕ) → ¬ (b < N) → (m : List ℕ) → 8 * length m ≡ N → is_set m b ≡ false
      past b u m e = zero_is m b (bit_past_end m b (omega arith))

      at : (b : ℕ) → Dec (b < N) → is_set (next_marks h i marks) b ≡ (is_set marks b && not (eqb b i)) || names N h i b
      at b (yes u) =
          named_bits N (set_bit marks i 0) h.cells (4 * i) (omega (arith, length_set_bit marks i 0))
          (naming_cells h.d i (size_at N h i)) b u
          ∙ ap (λ (t : Bool). is_set (set_bit marks i 0) b || t)
          (sym (names_cells N h releasing.represents i (some_first N w h i object) b))
          ∙ ap (λ (t : Bool). t || names N h i b) (cleared b)
      at b (no u) =
          past b u (next_marks h i marks) (next_long h i marks long)
          ∙ sym (false_or _ (names N h i b) (ap (λ (s : Bool). s && not (eqb b i)) (past b u marks long)) (none_past b u))

  -- the rules' own order, with the map
  taken_marks :
      (fuel : ℕ) (h : Memory) (stack : List ℕ) → Releasing N w h stack → N ≤ occurrences 0 (sizes_of N h.a h.b) + fuel
      → (marks : List ℕ) → 8 * length marks ≡ N → (l : ℕ → Bool)
      → (l' : ℕ → Bool)
      × TakenMarking N w h stack (is_set marks) l (release fuel N w h stack) [] (is_set (released_marks true fuel N w h stack marks)) l'
  unfolding release released_marks
  taken_marks zero h [] before f marks long l = (l, TakenMarking.none)
  taken_marks zero h (x ∷ rest) before f marks long l =
      absurd (omega (arith, waits_bound (x ∷ rest) (view N w h) before.waits, length_sizes_of N h.a h.b))
  taken_marks (suc fuel) h [] before f marks long l = (l, TakenMarking.none)
  taken_marks (suc fuel) h (x ∷ rest) before f marks long l =
      let more =
      taken_marks fuel (memory_after N w h x rest) (work_after N w h x rest).stack (releasing_next N w h x rest before)
      (omega (arith, fewer_objects N w h x rest before)) (next_marks h x marks) (next_long h x marks long)
      (λ b. (l b && not (eqb b x)) || (names N h x b && not (is_set marks b))) in
      (more.0, TakenMarking.next [] x rest refl (frees_next h x rest before marks long l) more.1)

-- The map that is left is the rule's. h, k, touched, start and stack as in MarkOrders.antt of the theory; `first` is the map of h with the
-- bits of the new and the touched objects set.
module _ (N w : ℕ) (h k : Memory) (touched : List ℕ) (start : Memory) (stack : List ℕ) (releasing : Releasing N w start stack)
    (roots_are : length start.roots ≡ length k.roots) (sizes_are : (view N w start).sizes ≡ (view N w k).sizes)
    (slots_are : (view N w start).slots ≡ (view N w k).slots)
    (objects : (b : ℕ) → first_marks N h k touched (release N N w start stack) b ≡ true → size (view N w k) b ≢ 0)
    (marked : (b : ℕ) → is_listed N h b ≡ true → is_marked h b ≡ true) (first : List ℕ) (from : Rewritten h.marks first)
    (long : 8 * length h.marks ≡ N) (bits : (b : ℕ) → is_set first b ≡ first_marks N h k touched (release N N w start stack) b) where
  abbrev end : Memory
  end = release N N w start stack

  first_long : 8 * length first ≡ N
  first_long = omega (arith, long, rewritten_length from)

  pub released_bits : (b : ℕ) → is_set (released_marks true N N w start stack first) b ≡ marks_after N h k touched end b
  released_bits b =
      let order = taken_marks N w N start stack releasing (omega arith) first first_long (first_list N h k touched end) in
      (in_any_order N w h k touched start stack releasing roots_are sizes_are slots_are objects marked end
      (is_set (released_marks true N N w start stack first)) order.0
      (subst
      (λ (m : ℕ → Bool).
      TakenMarking N w start stack m (first_list N h k touched end) end [] (is_set (released_marks true N N w start stack first)) order.0)
      (λ i. λ c. bits c i) order.1)
      b).0

  pub released_map : released_marks true N N w start stack first ≡ map_of h.marks (marks_after N h k touched end) N
  released_map =
      rewritten_ext (released_rewritten N w N start stack from) (map_of_rewritten h.marks (marks_after N h k touched end) N)
      (λ i l.
      same i (released_bits i) ∙ sym (bit_map_of h.marks (marks_after N h k touched end) N i (omega (arith, long)) (omega (arith, long))))
    where
      same : (i : ℕ) → is_set (released_marks true N N w start stack first) i ≡ marks_after N h k touched end i
          → bit_at (released_marks true N N w start stack first) i ≡ one (marks_after N h k touched end i)
      same i e =
          elim (test_cases_lem (marks_after N h k touched end i)) [
            | inl t ↦ eqb-true (bit_at (released_marks true N N w start stack first) i) 1 (e ∙ t) ∙ sym (ap one t)
            | inr t ↦
                omega (
                  arith,
                  eqb-false (bit_at (released_marks true N N w start stack first) i) 1 (e ∙ t),
                  bit_at_lt (released_marks true N N w start stack first) i,
                  ap one t,
                )
          ]
