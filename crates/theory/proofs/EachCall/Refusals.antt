-- Numbers 13 and 14 exactly (request U8): which clause is met where the test passes, and where one is met,
-- that it passes.
use mathlib.Core.Path.{◌≡◌, refl, sym, ap, ◌∙◌}
use mathlib.Core.Logic.{◌≢◌, inl, inr}
use mathlib.Core.Bool.{Bool, true, false, not, ◌&&◌, ◌||◌, true≢false}
use mathlib.Core.List.{[], ◌∷◌}
use mathlib.Core.Option.{some-ne-none}
use Prim.Native.Nat.{ℕ, ◌+◌, ◌-◌, ◌*◌, ◌<◌}
use native.Mathlib.Omega.{arith}
use lib.Dec.{leb, eqb}
use lib.ListN.{length, get_or}
use borrow.Author.Tests.{eq-eqb, ne_eqb, eqb-true, eqb-false, leb-true, le-leb, not-true, not-false}
use Rattle.rules.specs.Tools.{some_below, first_number}
use Rattle.rules.specs.Heap.{Memory, shaped, is_first, size_at, reference}
use Rattle.rules.specs.Damage.{damage}
use Rattle.rules.specs.Sections.{stale_figures}
use Rattle.rules_steps.specs.Steps.{names, is_open, is_marked, is_listed, bad_next, bad_place, stray_mark, root_missed, cell_missed, is_untidy}
use Rattle.rules_calls.specs.Calls.{format, check, collect, free_blocks, allocate, store_root, store_cell, look, return_roots, allocate_data, write_number, read_number, write_reason, write_shape}
use Rattle.rules_calls.specs.Calls.{open_collection, take_steps, copy_from, copy_into, Call, tests_heap, Alone, other_shaped, own_refusals, refusals, refused_with, answer}
use Rattle.rules.proofs.Tests.{Each, done, also, test_cases_lem, and_true, true_and, and_false, false_and, or_true, true_or, some_true, true_some}
use Rattle.rules.proofs.Tests.{first_past, first_found, first_other, first_after}
use Rattle.rules_calls.proofs.Replies.{number_is, alone_shaped, own_number}
use Rattle.theory_memories.specs.Heaps.{Intact, Undamaged}
use Rattle.theory.specs.Refusals.{Untidy, not_rising, no_first_block, unmarked_listed, stray_mark_lem, root_missed_lem, cell_missed_lem, mark_left, place_left}
use Rattle.theory.specs.Refusals.{ThirteenExactly, OutOfTurn, step, opening, collection, FourteenExactly}
use Rattle.theory_memories.proofs.Memories.Healthy.{Healthy, healthy_facts}
use Rattle.theory_memories.proofs.Memories.TidyHeap.{marked_inside, cell_inside}

-- ---- the clauses of 13

-- the block before that of a reference
before : {v : ℕ} → v ≢ 0 → v ≡ 1 + (v - 1)
before some = omega (arith, some)

module _ (N : ℕ) (h : Memory) where
  -- the five tests of a memory with one open
  abbrev nexts : Bool
  nexts = some_below (bad_next h) (N - 1)

  abbrev places : Bool
  places = some_below (bad_place N h) N

  abbrev strays : Bool
  strays = some_below (stray_mark N h) N

  abbrev missed_roots : Bool
  missed_roots = some_below (root_missed h) (length h.roots)

  abbrev missed_cells : Bool
  missed_cells = some_below (cell_missed N h) N

  pub when_open : is_open N h ≡ true → is_untidy N h ≡ nexts || places || strays || missed_roots || missed_cells
  unfolding is_untidy
  when_open was_open = rw (was_open, is_untidy)

  pub when_none : is_open N h ≡ false → is_untidy N h ≡ some_below (is_marked h) N || some_below (λ k. not (eqb (get_or h.list k 0) 0)) (N + 1)
  unfolding is_untidy
  when_none none = rw (none, is_untidy)

  module _ (was_open : is_open N h ≡ true) where
    next_met : nexts ≡ true → Untidy N h
    unfolding bad_next
    next_met e =
        let found = some_true (bad_next h) (N - 1) e in
        let k : ℕ = found.0 in
        let v : ℕ = get_or h.list k 0 in
        let next : ℕ = get_or h.list (k + 1) 0 in
        let both = and_true (not (eqb next 0)) (eqb v 0 || leb next v) found.2 in
        not_rising was_open k (omega (arith, found.1)) (eqb-false next 0 (not-true (eqb next 0) both.0))
        (elim (or_true (eqb v 0) (leb next v) both.1) [ inl z ↦ inl (eqb-true v 0 z) | inr l ↦ inr (leb-true next v l) ])

    place_met : places ≡ true → Untidy N h
    unfolding bad_place
    place_met e =
        let found = some_true (bad_place N h) N e in
        let k : ℕ = found.0 in
        let v : ℕ = get_or h.list k 0 in
        let both = and_true (not (eqb v 0)) (not (is_first N h (v - 1) && is_marked h (v - 1))) found.2 in
        let is = before (eqb-false v 0 (not-true (eqb v 0) both.0)) in
        elim (test_cases_lem (is_first N h (v - 1))) [
          | inl f ↦
              unmarked_listed was_open k (v - 1) found.1 is
              (and_false (is_first N h (v - 1)) (is_marked h (v - 1)) (not-true (is_first N h (v - 1) && is_marked h (v - 1)) both.1) f)
          | inr f ↦ no_first_block was_open k (v - 1) found.1 is f
        ]

    stray_met : strays ≡ true → Untidy N h
    unfolding stray_mark
    stray_met e =
        let found = some_true (stray_mark N h) N e in
        let both = and_true (is_marked h found.0) (not (is_first N h found.0)) found.2 in
        stray_mark_lem was_open found.0 both.0 (not-true (is_first N h found.0) both.1)

    root_met : missed_roots ≡ true → Untidy N h
    unfolding root_missed
    root_met e =
        let found = some_true (root_missed h) (length h.roots) e in
        let v : ℕ = get_or h.roots found.0 0 in
        let both = and_true (not (eqb v 0)) (not (is_marked h (v - 1))) found.2 in
        root_missed_lem was_open found.0 (v - 1) found.1 (before (eqb-false v 0 (not-true (eqb v 0) both.0)))
        (not-true (is_marked h (v - 1)) both.1)

    cell_met : missed_cells ≡ true → Untidy N h
    unfolding cell_missed names
    cell_met e =
        let found = some_true (cell_missed N h) N e in
        let a : ℕ = found.0 in
        let all =
        and_true (is_first N h a && is_marked h a && not (is_listed N h a)) (some_below (λ i. names N h a i && not (is_marked h i)) N) found.2 in
        let object = and_true (is_first N h a && is_marked h a) (not (is_listed N h a)) all.0 in
        let first = and_true (is_first N h a) (is_marked h a) object.0 in
        let missed = some_true (λ i. names N h a i && not (is_marked h i)) N all.1 in
        let b : ℕ = missed.0 in
        let named = and_true (names N h a b) (not (is_marked h b)) missed.2 in
        let cell = some_true (λ j. eqb (reference N h (4 * a + j)) (b + 1)) (4 * size_at N h a) named.0 in
        cell_missed_lem was_open a (size_at N h a) cell.0 b (record { first = first.0; size = refl })
        (first.1, not-true (is_listed N h a) object.1) cell.1
        (omega (arith, eqb-true (reference N h (4 * a + cell.0)) (b + 1) cell.2)) (not-true (is_marked h b) named.1)

    -- where one of them passes, all together do
    next_bad : nexts ≡ true → is_untidy N h ≡ true
    next_bad e =
        when_open was_open
        ∙ true_or (nexts || places || strays || missed_roots) missed_cells
        (inl (true_or (nexts || places || strays) missed_roots (inl (true_or (nexts || places) strays (inl (true_or nexts places (inl e)))))))

    place_bad : places ≡ true → is_untidy N h ≡ true
    place_bad e =
        when_open was_open
        ∙ true_or (nexts || places || strays || missed_roots) missed_cells
        (inl (true_or (nexts || places || strays) missed_roots (inl (true_or (nexts || places) strays (inl (true_or nexts places (inr e)))))))

    stray_bad : strays ≡ true → is_untidy N h ≡ true
    stray_bad e =
        when_open was_open
        ∙ true_or (nexts || places || strays || missed_roots) missed_cells
        (inl (true_or (nexts || places || strays) missed_roots (inl (true_or (nexts || places) strays (inr e)))))

    root_bad : missed_roots ≡ true → is_untidy N h ≡ true
    root_bad e =
        when_open was_open
        ∙ true_or (nexts || places || strays || missed_roots) missed_cells (inl (true_or (nexts || places || strays) missed_roots (inr e)))

    cell_bad : missed_cells ≡ true → is_untidy N h ≡ true
    cell_bad e = when_open was_open ∙ true_or (nexts || places || strays || missed_roots) missed_cells (inr e)

  pub clause_met : is_untidy N h ≡ true → Untidy N h
  clause_met e = elim (test_cases_lem (is_open N h)) [ inl was_open ↦ one_open was_open (sym (when_open was_open) ∙ e) | inr none ↦ none_open none (sym (when_none none) ∙ e) ]
    where
      one_open : is_open N h ≡ true → nexts || places || strays || missed_roots || missed_cells ≡ true → Untidy N h
      one_open was_open e = elim (or_true (nexts || places || strays || missed_roots) missed_cells e) [
        | inr five ↦ cell_met was_open five
        | inl rest ↦ elim (or_true (nexts || places || strays) missed_roots rest) [
          | inr four ↦ root_met was_open four
          | inl rest ↦ elim (or_true (nexts || places) strays rest) [
            | inr three ↦ stray_met was_open three
            | inl rest ↦ elim (or_true nexts places rest) [ inl one ↦ next_met was_open one | inr two ↦ place_met was_open two ]
          ]
        ]
      ]

      none_open : is_open N h ≡ false → some_below (is_marked h) N || some_below (λ k. not (eqb (get_or h.list k 0) 0)) (N + 1) ≡ true → Untidy N h
      none_open none e = elim (or_true (some_below (is_marked h) N) (some_below (λ k. not (eqb (get_or h.list k 0) 0)) (N + 1)) e) [
        | inl m ↦ let found = some_true (is_marked h) N m in mark_left none found.0 found.2
        | inr p ↦
            let found = some_true (λ k. not (eqb (get_or h.list k 0) 0)) (N + 1) p in
            let v : ℕ = get_or h.list found.0 0 in
            place_left none found.0 (omega (arith, found.1)) (eqb-false v 0 (not-true (eqb v 0) found.2))
      ]

-- ---- and the other way

module _ (N w : ℕ) (h : Memory) (healthy : Healthy N w h) where
  -- a place that holds 1 + b
  held_wrongly : (k b : ℕ) → get_or h.list k 0 ≡ 1 + b → is_first N h b && is_marked h b ≡ false → bad_place N h k ≡ true
  unfolding bad_place
  held_wrongly k b e bad =
      let v : ℕ = get_or h.list k 0 in
      let at : v - 1 ≡ b = omega arith in
      true_and (not (eqb v 0)) (not (is_first N h (v - 1) && is_marked h (v - 1))) (ap not (ne_eqb v 0 (omega arith)))
      (ap (λ (i : ℕ). not (is_first N h i && is_marked h i)) at ∙ ap not bad)

  pub met_clause : Untidy N h → is_untidy N h ≡ true
  unfolding bad_next stray_mark root_missed cell_missed names
  met_clause (not_rising was_open k l some o) =
      let v : ℕ = get_or h.list k 0 in
      let next : ℕ = get_or h.list (k + 1) 0 in
      next_bad N h was_open
      (true_some (bad_next h) (N - 1) k (omega arith)
      (true_and (not (eqb next 0)) (eqb v 0 || leb next v) (ap not (ne_eqb next 0 some))
      (true_or (eqb v 0) (leb next v) (elim o [ inl z ↦ inl (eq-eqb v 0 z) | inr q ↦ inr (le-leb next v q) ]))))
  met_clause (no_first_block was_open k b l e bad) =
      place_bad N h was_open
      (true_some (bad_place N h) N k l
      (held_wrongly k b e (false_and (is_first N h b) (is_marked h b) (λ f. absurd (true≢false (sym f ∙ bad))))))
  met_clause (unmarked_listed was_open k b l e bad) =
      place_bad N h was_open (true_some (bad_place N h) N k l (held_wrongly k b e (false_and (is_first N h b) (is_marked h b) (λ f. bad))))
  met_clause (stray_mark_lem was_open i m bad) =
      stray_bad N h was_open
      (true_some (stray_mark N h) N i (marked_inside N w h healthy i m) (true_and (is_marked h i) (not (is_first N h i)) m (ap not bad)))
  met_clause (root_missed_lem was_open r b l e bad) =
      let v : ℕ = get_or h.roots r 0 in
      let at : v - 1 ≡ b = omega arith in
      root_bad N h was_open
      (true_some (root_missed h) (length h.roots) r l
      (true_and (not (eqb v 0)) (not (is_marked h (v - 1))) (ap not (ne_eqb v 0 (omega arith)))
      (ap (λ (i : ℕ). not (is_marked h i)) at ∙ ap not bad)))
  met_clause (cell_missed_lem was_open a n j b object mark l e bad) =
      let within : j < 4 * size_at N h a = omega (arith, l, object.size) in
      let is : reference N h (4 * a + j) ≡ b + 1 = omega arith in
      let named = true_some (λ j. eqb (reference N h (4 * a + j)) (b + 1)) (4 * size_at N h a) j within (eq-eqb _ (b + 1) is) in
      cell_bad N h was_open
      (true_some (cell_missed N h) N a (marked_inside N w h healthy a mark.0)
      (true_and (is_first N h a && is_marked h a && not (is_listed N h a)) (some_below (λ i. names N h a i && not (is_marked h i)) N)
      (true_and (is_first N h a && is_marked h a) (not (is_listed N h a)) (true_and (is_first N h a) (is_marked h a) object.first mark.0)
      (ap not mark.1))
      (true_some (λ i. names N h a i && not (is_marked h i)) N b (cell_inside N w h healthy a j b object.first within is)
      (true_and (names N h a b) (not (is_marked h b)) named (ap not bad)))))
  met_clause (mark_left none i m) =
      when_none N h none
      ∙ true_or (some_below (is_marked h) N) (some_below (λ k. not (eqb (get_or h.list k 0) 0)) (N + 1))
      (inl (true_some (is_marked h) N i (marked_inside N w h healthy i m) m))
  met_clause (place_left none k l some) =
      when_none N h none
      ∙ true_or (some_below (is_marked h) N) (some_below (λ k. not (eqb (get_or h.list k 0) 0)) (N + 1))
      (inr (true_some (λ k. not (eqb (get_or h.list k 0) 0)) (N + 1) k (omega arith) (ap not (ne_eqb (get_or h.list k 0) 0 some))))

-- ---- the numbers

module _ (N w : ℕ) (h : Memory) where
  abbrev stale : Bool
  stale = stale_figures N h.a h.sections

  -- a call that is answered with n, which is none of 1, 2 and 11
  heap_past : (n : ℕ) (c : Call) → 11 < n → (answer N w h c).0.number ≡ n
      → (shaped N w h ≡ true) × (tests_heap c && not (eqb (damage N w h) 0) ≡ false) × (tests_heap c && stale ≡ false)
      × (first_number ((13, tests_heap c && is_untidy N h) ∷ own_refusals N h c) ≡ n)
  unfolding refused_with refusals
  heap_past n c l e =
      let shape = first_after n 1 (not (other_shaped h c && shaped N w h)) _ (omega arith) (sym (number_is N w h c) ∙ e) in
      let kind = first_after n 2 (tests_heap c && not (eqb (damage N w h) 0)) _ (omega arith) shape.1 in
      let list = first_after n 11 (tests_heap c && stale) _ (omega arith) kind.1 in
      ((and_true (other_shaped h c) (shaped N w h) (not-false (other_shaped h c && shaped N w h) shape.0)).1, kind.0, list.0, list.1)

  -- .. by a call that tests the heap
  intact : (c : Call) → tests_heap c ≡ true → shaped N w h ≡ true → tests_heap c && not (eqb (damage N w h) 0) ≡ false → Intact N w h
  intact c tests shape kind =
      record {
        right_shape = shape;
        no_damage = eqb-true (damage N w h) 0 (not-false (eqb (damage N w h) 0) (and_false (tests_heap c) _ kind tests));
      }

  -- a number that none of the call's own tests has
  own_other : (n : ℕ) (c : Call) → 11 < n → Each (λ k. k.0 ≢ n) (own_refusals N h c) → first_number (own_refusals N h c) ≢ n
  own_other n c l others = first_other n (own_refusals N h c) (omega arith) others

  own_not_thirteen : (c : Call) → Alone c → first_number (own_refusals N h c) ≢ 13
  unfolding own_refusals
  own_not_thirteen format alone = own_other 13 format (omega arith) done
  own_not_thirteen check alone = own_other 13 check (omega arith) done
  own_not_thirteen free_blocks alone = own_other 13 free_blocks (omega arith) done
  own_not_thirteen collect alone = own_other 13 collect (omega arith) (also (omega arith) done)
  own_not_thirteen open_collection alone = own_other 13 open_collection (omega arith) (also (omega arith) done)
  own_not_thirteen (take_steps budget) alone = own_other 13 (take_steps budget) (omega arith) (also (omega arith) done)
  own_not_thirteen (look a) alone = own_other 13 (look a) (omega arith) (also (omega arith) done)
  own_not_thirteen (return_roots chosen) alone = own_other 13 (return_roots chosen) (omega arith) (also (omega arith) done)
  own_not_thirteen (store_root r v) alone = own_other 13 (store_root r v) (omega arith) (also (omega arith) (also (omega arith) done))
  own_not_thirteen (store_cell a j v) alone =
      own_other 13 (store_cell a j v) (omega arith) (also (omega arith) (also (omega arith) (also (omega arith) (also (omega arith) done))))
  own_not_thirteen (allocate n r) alone = own_other 13 (allocate n r) (omega arith) (also (omega arith) (also (omega arith) (also (omega arith) done)))
  own_not_thirteen (allocate_data n r) alone =
      own_other 13 (allocate_data n r) (omega arith) (also (omega arith) (also (omega arith) (also (omega arith) done)))
  own_not_thirteen (write_number a j x) alone =
      own_other 13 (write_number a j x) (omega arith) (also (omega arith) (also (omega arith) (also (omega arith) done)))
  own_not_thirteen (read_number a j) alone =
      own_other 13 (read_number a j) (omega arith) (also (omega arith) (also (omega arith) (also (omega arith) done)))
  own_not_thirteen (write_reason a room) alone = own_other 13 (write_reason a room) (omega arith) (also (omega arith) (also (omega arith) done))
  own_not_thirteen (write_shape room) alone = own_other 13 (write_shape room) (omega arith) (also (omega arith) done)
  own_not_thirteen (copy_from K u first) alone = absurd (some-ne-none _ alone)
  own_not_thirteen (copy_into M v second) alone = absurd (some-ne-none _ alone)

  thirteen_there : (c : Call) → Alone c → (answer N w h c).0.number ≡ 13
      → (tests_heap c ≡ true) × Intact N w h × (stale ≡ false) × Untidy N h
  thirteen_there c alone e =
      let past = heap_past 13 c (omega arith) e in
      let both = and_true (tests_heap c) (is_untidy N h) (thirteen (tests_heap c && is_untidy N h) past.3) in
      (both.0, intact c both.0 past.0 past.1, and_false (tests_heap c) stale past.2 both.0, clause_met N h both.1)
    where
      thirteen : (t : Bool) → first_number ((13, t) ∷ own_refusals N h c) ≡ 13 → t ≡ true
      thirteen true e = refl
      thirteen false e =
          absurd (own_not_thirteen c alone (sym (first_past 13 false (own_refusals N h c) refl) ∙ e))

  thirteen_back : (c : Call) → Alone c → tests_heap c ≡ true → Intact N w h → stale ≡ false → Untidy N h → (answer N w h c).0.number ≡ 13
  unfolding refused_with refusals
  thirteen_back c alone tests u fresh met =
      number_is N w h c
      ∙ first_past 1 (not (other_shaped h c && shaped N w h)) _ (ap not (true_and (other_shaped h c) (shaped N w h) (alone_shaped h c alone) u.right_shape))
      ∙ first_past 2 (tests_heap c && not (eqb (damage N w h) 0)) _ (false_and (tests_heap c) _ (λ _. ap not (eq-eqb (damage N w h) 0 u.no_damage)))
      ∙ first_past 11 (tests_heap c && stale) _ (false_and (tests_heap c) stale (λ _. fresh))
      ∙ first_found 13 (tests_heap c && is_untidy N h) _
      (true_and (tests_heap c) (is_untidy N h) tests (met_clause N w h (healthy_facts N w h u.right_shape u.no_damage) met))

  -- ---- 14

  -- the call is answered by its own numbers
  past_thirteen : (c : Call) → tests_heap c ≡ true → (answer N w h c).0.number ≡ 14 → Undamaged N w h × (first_number (own_refusals N h c) ≡ 14)
  past_thirteen c tests e =
      let past = heap_past 14 c (omega arith) e in
      let marks = first_after 14 13 (tests_heap c && is_untidy N h) _ (omega arith) past.3 in (
        record {
          intact = intact c tests past.0 past.1;
          true_list = and_false (tests_heap c) stale past.2 tests;
          tidy = and_false (tests_heap c) (is_untidy N h) marks.0 tests;
        },
        marks.1,
      )

  fourteen_alone : (t : Bool) → first_number ((14, t) ∷ []) ≡ 14 → t ≡ true
  unfolding first_number
  fourteen_alone true e = refl
  fourteen_alone false e = absurd (omega arith)

  never : (c : Call) → Each (λ k. k.0 ≢ 14) (own_refusals N h c) → (answer N w h c).0.number ≢ 14
  never c others e =
      let past = heap_past 14 c (omega arith) e in
      let marks = first_after 14 13 (tests_heap c && is_untidy N h) _ (omega arith) past.3 in
      own_other 14 c (omega arith) others marks.1

  fourteen_there : (c : Call) → Alone c → (answer N w h c).0.number ≡ 14 → Undamaged N w h × OutOfTurn N h c
  unfolding own_refusals
  fourteen_there collect alone e = let p = past_thirteen collect refl e in (p.0, collection (fourteen_alone (is_open N h) p.1))
  fourteen_there open_collection alone e = let p = past_thirteen open_collection refl e in (p.0, opening (fourteen_alone (is_open N h) p.1))
  fourteen_there (take_steps budget) alone e =
      let p = past_thirteen (take_steps budget) refl e in
      (p.0, step budget (not-true (is_open N h) (fourteen_alone (not (is_open N h)) p.1)))
  fourteen_there format alone e = absurd (never format done e)
  fourteen_there check alone e = absurd (never check done e)
  fourteen_there free_blocks alone e = absurd (never free_blocks done e)
  fourteen_there (look a) alone e = absurd (never (look a) (also (omega arith) done) e)
  fourteen_there (return_roots chosen) alone e = absurd (never (return_roots chosen) (also (omega arith) done) e)
  fourteen_there (store_root r v) alone e = absurd (never (store_root r v) (also (omega arith) (also (omega arith) done)) e)
  fourteen_there (store_cell a j v) alone e =
      absurd (never (store_cell a j v) (also (omega arith) (also (omega arith) (also (omega arith) (also (omega arith) done)))) e)
  fourteen_there (allocate n r) alone e = absurd (never (allocate n r) (also (omega arith) (also (omega arith) (also (omega arith) done))) e)
  fourteen_there (allocate_data n r) alone e = absurd (never (allocate_data n r) (also (omega arith) (also (omega arith) (also (omega arith) done))) e)
  fourteen_there (write_number a j x) alone e = absurd (never (write_number a j x) (also (omega arith) (also (omega arith) (also (omega arith) done))) e)
  fourteen_there (read_number a j) alone e = absurd (never (read_number a j) (also (omega arith) (also (omega arith) (also (omega arith) done))) e)
  fourteen_there (write_reason a room) alone e = absurd (never (write_reason a room) (also (omega arith) (also (omega arith) done)) e)
  fourteen_there (write_shape room) alone e = absurd (never (write_shape room) (also (omega arith) done) e)
  fourteen_there (copy_from K u first) alone e = absurd (some-ne-none _ alone)
  fourteen_there (copy_into M v second) alone e = absurd (some-ne-none _ alone)

  fourteen_own : {c : Call} → OutOfTurn N h c → first_number (own_refusals N h c) ≡ 14
  unfolding own_refusals
  fourteen_own (step budget none) = first_found 14 (not (is_open N h)) [] (ap not none)
  fourteen_own (opening was_open) = first_found 14 (is_open N h) [] was_open
  fourteen_own (collection was_open) = first_found 14 (is_open N h) [] was_open

  fourteen_back : (c : Call) → Alone c → Undamaged N w h → OutOfTurn N h c → (answer N w h c).0.number ≡ 14
  fourteen_back c alone u turn =
      number_is N w h c ∙ own_number N w h c (alone_shaped h c alone) u.intact.right_shape u.intact.no_damage u.true_list u.tidy ∙ fourteen_own turn

pub thirteen_exactly : ThirteenExactly
thirteen_exactly N w h call alone = (thirteen_there N w h call alone, λ p. thirteen_back N w h call alone p.0 p.1 p.2 p.3)

pub fourteen_exactly : FourteenExactly
fourteen_exactly N w h call alone = (fourteen_there N w h call alone, λ p. fourteen_back N w h call alone p.0 p.1)
