-- The marks and the second list along any order of freeing are the rule's (request U8): an order with its
-- marks is one of the object graph (`Marking`, Graphs/MarkOrders.antt), and all orders end in one memory.
use mathlib.Core.Path.{◌≡◌, refl, sym, ap, ◌∙◌, subst}
use mathlib.Core.Logic.{◌≢◌, inl, inr}
use mathlib.Core.Bool.{Bool, true, false, not, ◌&&◌, ◌||◌, true≢false, false≢true}
use mathlib.Core.List.{List, [], ◌∷◌, ◌++◌}
use Prim.Native.Nat.{ℕ, suc, ◌+◌}
use lib.Dec.{ltb, eqb}
use lib.ListN.{length, get_or}
use borrow.Author.Tests.{ne_eqb, eqb-false, not-true}
use Rattle.rules.specs.Tools.{holding}
use Rattle.rules.specs.Heap.{Memory, capacity, size_at}
use Rattle.rules_stores.specs.Store.{freed, memory_after, release}
use Rattle.rules_steps.specs.Steps.{names, is_marked, is_listed, was_marked, marks_after, list_after}
use Rattle.rules.proofs.Tests.{test_cases_lem, false_unless, and_true, true_and, or_true, true_or}
use Rattle.theory_memories.specs.Orders.{Taken}
use Rattle.theory_memories.specs.Marks.{Frees, TakenMarking, first_marks, first_list}
use Rattle.theory_graphs.proofs.Graphs.Graph.{Graph, size, count, Owns}
use Rattle.theory_graphs.proofs.Graphs.Balance.{waits_head, named_object, unnamed}
use Rattle.theory_graphs.proofs.Graphs.Keep.{free_size_same, free_size_other}
use Rattle.theory_graphs.proofs.Graphs.Order.{runs_leave}
use Rattle.theory_graphs.proofs.Graphs.Tidy.{FreedNames, Shades}
use Rattle.theory_graphs.proofs.Graphs.MarkOrders.{Marks, Marking, runs_of, Marked, marking_marked}
use Rattle.theory_memories.proofs.Memories.View.{view}
use Rattle.theory_memories.proofs.Memories.TidyHeap.{some_first, names_slot, slot_names}
use Rattle.theory_memories.proofs.Memories.Shades.{Among, shades, was_facts, facts_was}
use Rattle.theory_memories.proofs.Memories.ViewRelease.{Releasing, releasing_next, view_after}
use Rattle.theory_memories.proofs.Memories.Orders.{taken_first, one_end}

-- tests that pass together are equal
pub alike : (s t : Bool) → (s ≡ true → t ≡ true) → (t ≡ true → s ≡ true) → s ≡ t
alike s t there back =
    elim (test_cases_lem s) [ inl e ↦ e ∙ sym (there e) | inr e ↦ e ∙ sym (false_unless t (λ f. true≢false (sym (back f) ∙ e))) ]

-- what is listed after one step and what was listed before, of an object that is marked in the end
step_list : (l m named : Bool) → (l ≡ true → m ≡ true) → (l || (named && not m)) || not (m || named) ≡ l || not m
step_list true true named sub = refl
step_list true false named sub = absurd (false≢true (sub refl))
step_list false true named sub = and_none named
  where
    and_none : (n : Bool) → (n && false) || false ≡ false
    and_none true = refl
    and_none false = refl
step_list false false true sub = refl
step_list false false false sub = refl

-- what is known after an order
record Along (N w : ℕ) (h : Memory) (waiting : List ℕ) (m l : ℕ → Bool) (g : Memory) (left : List ℕ) (m' l' : ℕ → Bool) : Type 0 where
  marking : Marking (capacity w) (length h.roots) (view N w h) m (view N w g) m'
  taken : (k : ℕ) × (n : ℕ) × Taken N w k n h waiting g left
  lists : (b : ℕ) → l' b ≡ m' b && (l b || not (m b))

module _ (N w : ℕ) where
  first_step :
      (h : Memory) (i : ℕ) (m l m₁ l₁ : ℕ → Bool) → size (view N w h) i ≢ 0 → Frees N h i m l m₁ l₁ → Marks (length h.roots) (view N w h) i m m₁
  first_step h i m l m₁ l₁ object frees =
      record {
        now = λ b e.
            elim (or_true (m b && not (eqb b i)) (names N h i b) (sym (frees.marks_are b) ∙ e)) [
              | inl q ↦
                  let both = and_true (m b) (not (eqb b i)) q in
                  inl (eqb-false b i (not-true (eqb b i) both.1), both.0)
              | inr q ↦ inr (names_slot N w h i b (some_first N w h i object) q)
            ];
        also = λ b o.
            frees.marks_are b
            ∙ true_or (m b && not (eqb b i)) (names N h i b)
            (elim o [
              | inl q ↦ inl (true_and (m b) (not (eqb b i)) q.1 (ap not (ne_eqb b i q.0)))
              | inr q ↦ inr (slot_names N w h i b q.0 (some_first N w h i object) q.1 q.2)
            ]);
      }

  subset_next : (h : Memory) (i : ℕ) (m l m₁ l₁ : ℕ → Bool) → Frees N h i m l m₁ l₁ → ((b : ℕ) → l b ≡ true → m b ≡ true) → (b : ℕ) → l₁ b ≡ true → m₁ b ≡ true
  subset_next h i m l m₁ l₁ frees sub b e =
      frees.marks_are b
      ∙ true_or (m b && not (eqb b i)) (names N h i b)
      (elim (or_true (l b && not (eqb b i)) (names N h i b && not (m b)) (sym (frees.list_are b) ∙ e)) [
        | inl q ↦ let both = and_true (l b) (not (eqb b i)) q in inl (true_and (m b) (not (eqb b i)) (sub b both.0) both.1)
        | inr q ↦ inr (and_true (names N h i b) (not (m b)) q).0
      ])

  -- of another object than the one that is freed
  other_list : (h : Memory) (i : ℕ) (m l m₁ l₁ : ℕ → Bool) → Frees N h i m l m₁ l₁ → ((b : ℕ) → l b ≡ true → m b ≡ true) → (b : ℕ) → b ≢ i
      → l₁ b || not (m₁ b) ≡ l b || not (m b)
  other_list h i m l m₁ l₁ frees sub b d =
      rw (frees.list_are b, frees.marks_are b, ne_eqb b i d)
      (rw (all (l b), all (m b)) (step_list (l b) (m b) (names N h i b) (sub b)))
    where
      all : (t : Bool) → t && true ≡ t
      all true = refl
      all false = refl

  -- what is marked is an object
  objects_next :
      (h : Memory) (i : ℕ) (rest : List ℕ) → Releasing N w h (i ∷ rest) → (m m₁ : ℕ → Bool) → Marks (length h.roots) (view N w h) i m m₁
      → ((b : ℕ) → m b ≡ true → size (view N w h) b ≢ 0) → (b : ℕ) → m₁ b ≡ true → size (view N w (memory_after N w h i rest)) b ≢ 0
  objects_next h i rest releasing m m₁ marks objects b e z =
      elim (marks.now b e) [
        | inl q ↦ objects b q.1 (sym (kept q.0) ∙ z)
        | inr q ↦
            named_object (capacity w) releasing.positive (view N w h) releasing.balanced q.0 b q.2
            (sym (kept (λ same. unnamed (capacity w) releasing.positive (view N w h) i q.0 releasing.balanced head (q.2 ∙ ap suc same))) ∙ z)
      ]
    where
      head : count (view N w h) i ≡ 0
      head = (waits_head (view N w h) i rest releasing.waits).1

      kept : b ≢ i → size (view N w (memory_after N w h i rest)) b ≡ size (view N w h) b
      kept d =
          ap (λ (k : Graph). size k b) (view_after N w h i rest releasing)
          ∙ free_size_other (capacity w) (length h.roots) (view N w h) i b d

  none_list : (l m : Bool) → (l ≡ true → m ≡ true) → l ≡ m && (l || not m)
  none_list true true sub = refl
  none_list true false sub = absurd (false≢true (sub refl))
  none_list false true sub = refl
  none_list false false sub = refl

  -- the list in the end, from the list one step before
  last_list : (m' : Bool) (x y : Bool) → (m' ≡ true → x ≡ y) → m' && x ≡ m' && y
  last_list true x y e = e refl
  last_list false x y e = refl

  along :
      {h g : Memory} {waiting left : List ℕ} {m l m' l' : ℕ → Bool} → TakenMarking N w h waiting m l g left m' l' → Releasing N w h waiting
      → ((b : ℕ) → m b ≡ true → size (view N w h) b ≢ 0) → ((b : ℕ) → l b ≡ true → m b ≡ true) → Along N w h waiting m l g left m' l'
  unfolding freed
  along {m = m} {l = l} TakenMarking.none releasing objects sub =
      record { marking = Marking.ends; taken = (0, 0, Taken.none); lists = λ b. none_list (l b) (m b) (sub b) }
  along (TakenMarking.next {h} {g} {waiting} {left} {marks = m} {list = l} {marks₁ = m₁} {list₁ = l₁} {marks' = m'} {list' = l'} front i back e frees rest) releasing objects sub =
      let first : Releasing N w h (i ∷ (front ++ back)) = taken_first N w h front back i (subst (λ (q : List ℕ). Releasing N w h q) e releasing) in
      let head = waits_head (view N w h) i (front ++ back) first.waits in
      let marks = first_step h i m l m₁ l₁ head.0 frees in
      let later = releasing_next N w h i (front ++ back) first in
      let objects₁ = objects_next h i (front ++ back) first m m₁ marks objects in
      let more = along rest later objects₁ (subset_next h i m l m₁ l₁ frees sub) in
      let view_is = view_after N w h i (front ++ back) first in
      let end = marking_marked (capacity w) first.positive (length h.roots) more.marking later.balanced later.represents.apart objects₁ in
      let leaves = runs_leave (capacity w) (length h.roots) (λ j. ⊥) first.positive (runs_of more.marking) in
      let gone : size (view N w (memory_after N w h i (front ++ back))) i ≡ 0 =
      ap (λ (k : Graph). size k i) view_is ∙ free_size_same (capacity w) (length h.roots) (view N w h) i in
      let absent : size (view N w g) i ≡ 0 = elim (leaves.objects i) [ inl q ↦ q ∙ gone | inr q ↦ q.0 ] in
      record {
        marking =
            Marking.frees {m₁ = m₁} i head.0 head.1 marks
            (subst (λ (k : Graph). Marking (capacity w) (length h.roots) k m₁ (view N w g) m') view_is more.marking);
        taken = (suc more.taken.0, size_at N h i + more.taken.1, Taken.next front i back e refl more.taken.2);
        lists = λ b.
            more.lists b
            ∙ last_list (m' b) (l₁ b || not (m₁ b)) (l b || not (m b))
            (λ on. other_list h i m l m₁ l₁ frees sub b (λ same. (end.now b on).0 (ap (size (view N w g)) same ∙ absent)));
      }

-- the tests of the first list, the marks and the touched come to the rule's
rule_list : (l was touched : Bool) → (l || (touched && not was)) || not (was || touched) ≡ l || not was
rule_list true true touched = refl
rule_list true false touched = refl
rule_list false true true = refl
rule_list false true false = refl
rule_list false false true = refl
rule_list false false false = refl

-- h before the call, k with its store written in; from the memory `start`, which shows k's objects and slots,
-- objects are freed in any order
module _ (N w : ℕ) (h k : Memory) (touched : List ℕ) (start : Memory) (stack : List ℕ) (releasing : Releasing N w start stack)
    (roots_are : length start.roots ≡ length k.roots) (sizes_are : (view N w start).sizes ≡ (view N w k).sizes)
    (slots_are : (view N w start).slots ≡ (view N w k).slots) where
  abbrev end : Memory
  end = release N N w start stack

  module _ (objects : (b : ℕ) → first_marks N h k touched end b ≡ true → size (view N w k) b ≢ 0)
      (marked : (b : ℕ) → is_listed N h b ≡ true → is_marked h b ≡ true) where
    size_is : (b : ℕ) → size (view N w start) b ≡ size (view N w k) b
    size_is b = ap (λ (l : List ℕ). get_or l b 0) sizes_are

    subset : (b : ℕ) → first_list N h k touched end b ≡ true → first_marks N h k touched end b ≡ true
    subset b e =
        true_or (was_marked N h k touched end b) (ltb 0 (holding (b + 1) touched))
        (elim (or_true (is_listed N h b) (ltb 0 (holding (b + 1) touched) && not (was_marked N h k touched end b)) e) [
          | inl q ↦ inl (facts_was N w h k touched end b (inl (marked b q)))
          | inr q ↦ inr (and_true (ltb 0 (holding (b + 1) touched)) (not (was_marked N h k touched end b)) q).0
        ])

    abbrev Freed : ℕ → Type 0
    Freed b = FreedNames (length k.roots) (view N w k) (view N w end) b

    freed_there : (b : ℕ) → FreedNames (length start.roots) (view N w start) (view N w end) b → Freed b
    freed_there b f =
        record {
          object = f.object;
          place = f.place;
          stood = λ z. f.stood (size_is f.object ∙ z);
          gone = f.gone;
          owns = subst (λ (q : ℕ). Owns q (view N w k).sizes f.object f.place) roots_are (rw (size_is f.object) at f.owns);
          names = ap (λ (l : List ℕ). get_or l f.place 0) (sym slots_are) ∙ f.names;
        }

    freed_back : (b : ℕ) → Freed b → FreedNames (length start.roots) (view N w start) (view N w end) b
    freed_back b f =
        record {
          object = f.object;
          place = f.place;
          stood = λ z. f.stood (sym (size_is f.object) ∙ z);
          gone = f.gone;
          owns = subst (λ (q : ℕ). Owns q (view N w start).sizes f.object f.place) (sym roots_are) (rw (size_is f.object) f.owns);
          names = ap (λ (l : List ℕ). get_or l f.place 0) slots_are ∙ f.names;
        }

    pub in_any_order :
        (g : Memory) (m' l' : ℕ → Bool)
        → TakenMarking N w start stack (first_marks N h k touched end) (first_list N h k touched end) g [] m' l'
        → (b : ℕ) → (m' b ≡ marks_after N h k touched end b) × (l' b ≡ list_after N h k touched end b)
    unfolding list_after
    in_any_order g m' l' order b = (
      same,
      all.lists b ∙ ap (λ (t : Bool). m' b && t) (rule_list (is_listed N h b) (was_marked N h k touched end b) (ltb 0 (holding (b + 1) touched)))
          ∙ ap (λ (t : Bool). t && (is_listed N h b || not (was_marked N h k touched end b))) same,
    )
      where
        all : Along N w start stack (first_marks N h k touched end) (first_list N h k touched end) g [] m' l'
        all = along N w order releasing (λ b e z. objects b e (sym (size_is b) ∙ z)) subset

        is_end : g ≡ end
        is_end = ((one_end N w start stack releasing).alike all.taken.0 all.taken.1 g all.taken.2).0

        done : Marked (length start.roots) (view N w start) (view N w end) (first_marks N h k touched end) m'
        done =
            subst (λ (q : Memory). Marked (length start.roots) (view N w start) (view N w q) (first_marks N h k touched end) m') is_end
            (marking_marked (capacity w) releasing.positive (length start.roots) all.marking releasing.balanced releasing.represents.apart
            (λ b e z. objects b e (sym (size_is b) ∙ z)))

        shade : Shades (length k.roots) (view N w h) (view N w k) (view N w end) (Among touched) (is_marked h) (is_listed N h)
            (marks_after N h k touched end) (list_after N h k touched end)
        shade = shades N w h k touched end

        same : m' b ≡ marks_after N h k touched end b
        same =
            alike (m' b) (marks_after N h k touched end b)
            (λ e.
            let now = done.now b e in
            shade.also b now.0
            (elim now.1 [
              | inr f ↦ inr (inr (freed_there b f))
              | inl first ↦ elim (or_true (was_marked N h k touched end b) (ltb 0 (holding (b + 1) touched)) first) [
                | inl was ↦ inl (was_facts N w h k touched end b was)
                | inr t ↦ inr (inl t)
              ]
            ]))
            (λ e.
            let now = shade.now b e in
            done.also b now.0
            (elim now.1 [
              | inl was ↦ inl (true_or (was_marked N h k touched end b) (ltb 0 (holding (b + 1) touched)) (inl (facts_was N w h k touched end b was)))
              | inr (inl t) ↦ inl (true_or (was_marked N h k touched end b) (ltb 0 (holding (b + 1) touched)) (inr t))
              | inr (inr f) ↦ inr (freed_back b f)
            ]))
