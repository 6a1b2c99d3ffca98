-- Number 13 as code tests it is the rules' while a collection is open: five tests, one after the other.
use mathlib.Core.Path.{◌≡◌, refl, sym, ◌∙◌}
use mathlib.Core.Logic.{inl, inr}
use mathlib.Core.Bool.{Bool, true, false, not, ◌&&◌, ◌||◌}
use mathlib.Core.List.{List, []}
use Prim.Native.Nat.{ℕ, ◌-◌, ◌<◌}
use lib.ListN.{length, get_or}
use borrow.Author.Tests.{eq-eqb, not-true, not-false}
use Rattle.rules.specs.Tools.{some_below}
use Rattle.rules.specs.Heap.{Memory, lent_memory, is_first}
use Rattle.rules.specs.Damage.{stray_data}
use Rattle.rules_steps.specs.Steps.{is_marked, is_listed, bad_next, bad_place, stray_mark, root_missed, cell_missed, is_untidy}
use Rattle.rules.proofs.Tests.{test_cases_lem, and_true, and_false, some_true, some_false, false_some, true_some}
use Rattle.check_maps.proofs.Chains.{some_same}
use Rattle.step_list.specs.Lists.{is_set, listed_in}
use Rattle.check_marks.specs.Tidy.{bad_next_in, bad_place_in, stray_mark_in, root_missed_in, missed_at, cell_missed_in, missed_apart, Read}
use Rattle.check_marks.proofs.Tests.{place_past, place_unmarked, places_good, apart_same}
use Rattle.theory_memories.specs.Heaps.{Intact}
use Rattle.check_marks.proofs.TidySame.{intact_healthy, names_same}

module _ {N w : ℕ} (h : Memory) (intact : Intact N w h) (opened : get_or h.list N 0 ≡ 1) where
  abbrev test_1 : Bool
  test_1 = some_below (bad_next_in h.list) (N - 1)

  abbrev test_2 : Bool
  test_2 = some_below (bad_place_in N h.a h.b h.marks h.list) N

  abbrev test_3 : Bool
  test_3 = some_below (stray_mark_in N h.a h.b h.marks) N

  abbrev test_4 : Bool
  test_4 = some_below (root_missed_in h.roots h.marks) (length h.roots)

  abbrev test_5 : Bool
  test_5 = some_below (cell_missed_in N h.a h.b h.d h.cells h.marks h.list) N

  -- the tests of block x, for any test of what it names
  missed_by : (ℕ → Bool) → (x : ℕ) → Bool
  missed_by named x = is_first N h x && is_marked h x && not (is_listed N h x) && some_below (λ i. named i && not (is_marked h i)) N

  cell_same : (x : ℕ) → cell_missed_in N h.a h.b h.d h.cells h.marks h.list x ≡ cell_missed N h x
  unfolding cell_missed_in missed_at cell_missed listed_in is_listed missed_by
  cell_same x =
      elim (test_cases_lem (is_first N h x)) [
        | inl first ↦ λ k. missed_by (λ i. names_same N w h (intact_healthy intact) x first i k) x
        | inr other ↦ rw other
      ]

  untidy_open : is_untidy N h ≡ (test_1 || test_2 || test_3 || test_4 || test_5)
  unfolding is_untidy bad_next bad_place stray_mark root_missed
  untidy_open =
      rw (eq-eqb (get_or h.list N 0) 1 opened, is_untidy)
      (λ k. test_1 || test_2 || test_3 || test_4 || sym (λ m. some_below (λ x. cell_same x m) N) k)

  untidy_1 : true ≡ test_1 → true ≡ is_untidy N h
  untidy_1 e₁ = sym (untidy_open ∙ rw (← e₁))

  untidy_2 : false ≡ test_1 → true ≡ test_2 → true ≡ is_untidy N h
  untidy_2 e₁ e₂ = sym (untidy_open ∙ rw (← e₁, ← e₂))

  untidy_3 : false ≡ test_1 → false ≡ test_2 → true ≡ test_3 → true ≡ is_untidy N h
  untidy_3 e₁ e₂ e₃ = sym (untidy_open ∙ rw (← e₁, ← e₂, ← e₃))

  untidy_4 : false ≡ test_1 → false ≡ test_2 → false ≡ test_3 → true ≡ test_4 → true ≡ is_untidy N h
  untidy_4 e₁ e₂ e₃ e₄ = sym (untidy_open ∙ rw (← e₁, ← e₂, ← e₃, ← e₄))

  untidy_5 :
      false ≡ test_1 → false ≡ test_2 → false ≡ test_3 → false ≡ test_4 → {t : Bool} → t ≡ test_5 → t ≡ is_untidy N h
  untidy_5 e₁ e₂ e₃ e₄ e₅ = sym (untidy_open ∙ rw (← e₁, ← e₂, ← e₃, ← e₄) (sym e₅))

  -- a number of the list may not stand where it does
  untidy_place : true ≡ test_2 → true ≡ is_untidy N h
  untidy_place e = elim (test_cases_lem test_1) [ inl t ↦ untidy_1 (sym t) | inr f ↦ untidy_2 (sym f) e ]

  -- ---- the same as code goes: the list read into a map, then the maps by bytes, then roots and cells

  unread_list : {map : List ℕ} → Read N h.list map false → true ≡ is_untidy N h
  unread_list r = elim (r.refused refl) [
    | inl e ↦ untidy_1 (sym e)
    | inr past ↦
        untidy_place
        (sym
        (true_some (bad_place_in N h.a h.b h.marks h.list) N past.0 past.1
        (place_past N h.a h.b h.marks h.list past.0 past.2)))
  ]

  -- a mark is to the mark map what a D bit is to the D-map
  stray_same : some_below (stray_data N (lent_memory h.a h.b [] [] [] [] [] h.marks [] [])) N ≡ test_3
  unfolding stray_data stray_mark
  stray_same = refl

  module _ {map : List ℕ} (r : Read N h.list map true) where
    risen : false ≡ test_1
    risen = sym (false_some (bad_next_in h.list) (N - 1) (r.rises refl))

    stray_mark_lem : true ≡ some_below (stray_data N (lent_memory h.a h.b [] [] [] [] [] h.marks [] [])) N → true ≡ is_untidy N h
    stray_mark_lem e =
        elim (test_cases_lem test_2) [ inl t ↦ untidy_2 risen (sym t) | inr f ↦ untidy_3 risen (sym f) (e ∙ stray_same) ]

    unmarked_listed : true ≡ some_below (λ i. is_set map i && not (is_set h.marks i)) N → true ≡ is_untidy N h
    unmarked_listed e =
        let found = some_true (λ i. is_set map i && not (is_set h.marks i)) N (sym e) in
        let parts = and_true (is_set map found.0) (not (is_set h.marks found.0)) found.2 in
        untidy_place
        (sym
        (place_unmarked N h.a h.b h.marks h.list found.0 (sym ((r.shown refl).bits found.0 found.1) ∙ parts.0)
        (not-true (is_set h.marks found.0) parts.1)))

    module _ (none : false ≡ some_below (stray_data N (lent_memory h.a h.b [] [] [] [] [] h.marks [] [])) N) where
      on_first : (i : ℕ) → i < N → is_set h.marks i ≡ true → is_first N h i ≡ true
      unfolding stray_mark
      on_first i l e =
          not-false (is_first N h i)
          (and_false (is_set h.marks i) (not (is_first N h i))
          (some_false (stray_mark_in N h.a h.b h.marks) N (sym (none ∙ stray_same)) i l) e)

      module _ (all : false ≡ some_below (λ i. is_set map i && not (is_set h.marks i)) N) where
        placed : false ≡ test_2
        placed =
            sym
            (places_good N h.a h.b h.marks h.list (r.low refl)
            (λ i l on.
            let marked : is_set h.marks i ≡ true =
            not-false (is_set h.marks i)
            (and_false (is_set map i) (not (is_set h.marks i))
            (some_false (λ i. is_set map i && not (is_set h.marks i)) N (sym all) i l) ((r.shown refl).bits i l ∙ on)) in
            (on_first i l marked, marked)))

        missed_root : true ≡ test_4 → true ≡ is_untidy N h
        missed_root e = untidy_4 risen placed (none ∙ stray_same) e

        missed_cell : false ≡ test_4 → {t : Bool} → t ≡ some_below (missed_apart N h.b h.d h.cells h.marks map) N → t ≡ is_untidy N h
        missed_cell e {t} f =
            untidy_5 risen placed (none ∙ stray_same) e
            (f ∙ some_same (missed_apart N h.b h.d h.cells h.marks map)
            (cell_missed_in N h.a h.b h.d h.cells h.marks h.list) N
            (λ x l. apart_same N h.b h.d h.cells h.marks h.a h.list map x ((r.shown refl).bits x l) (on_first x l)))

  -- all of it, as the code joins it
  pub untidy_all :
      {map : List ℕ} (r : Bool) → Read N h.list map r
      → (not r || some_below (stray_data N (lent_memory h.a h.b [] [] [] [] [] h.marks [] [])) N
      || some_below (λ i. is_set map i && not (is_set h.marks i)) N
      || test_4
      || some_below (missed_apart N h.b h.d h.cells h.marks map) N)
      ≡ is_untidy N h
  untidy_all {map} false read = unread_list read
  untidy_all {map} true read =
      elim (test_cases_lem (some_below (stray_data N (lent_memory h.a h.b [] [] [] [] [] h.marks [] [])) N)) [
        | inl s ↦ rw s (stray_mark_lem read (sym s))
        | inr s ↦ elim (test_cases_lem (some_below (λ i. is_set map i && not (is_set h.marks i)) N)) [
          | inl u ↦ rw (s, u) (unmarked_listed read (sym u))
          | inr u ↦ elim (test_cases_lem test_4) [
            | inl t ↦ rw (s, u, t) (missed_root read (sym s) (sym u) (sym t))
            | inr t ↦ rw (s, u, t) (missed_cell read (sym s) (sym u) (sym t) refl)
          ]
        ]
      ]
