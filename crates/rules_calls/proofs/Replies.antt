-- Laws of the answer: it is a refusal with the first number that applies, or the call's outcome. Every call but format is refused as the check is,
-- and where the check accepts by its own numbers alone.
use mathlib.Core.Path.{◌≡◌, refl, sym, ap, ◌∙◌, subst}
use mathlib.Core.Logic.{◌≢◌}
use mathlib.Core.Bool.{Bool, true, false, not, ◌&&◌, true≢false, false≢true}
use mathlib.Core.Option.{Option, none, some, get_or}
use mathlib.Core.List.{List, [], ◌∷◌}
use Prim.Native.Nat.{ℕ, ◌*◌, ◌≤◌, ◌<◌}
use native.Mathlib.Decide.{ℕ_discrete}
use native.Mathlib.Omega.{arith}
use lib.Dec.{leb, ltb, eqb}
use lib.ListN.{length}
use borrow.Author.Tests.{eq-eqb, ne_eqb, eqb-true, leb-true, le-leb, ltb-true, ltb-false, lt-ltb, le-ltb}
use Rattle.rules.specs.Tools.{is_some, first_number}
use Rattle.rules.specs.Heap.{Memory, shaped, is_first, size_at, exponent, lowest_free, is_ref, is_data}
use Rattle.rules.specs.Damage.{damage}
use Rattle.rules.specs.Sections.{stale_figures}
use Rattle.rules_stores.specs.Store.{chosen_below}
use Rattle.rules_steps.specs.Steps.{is_open, is_untidy}
use Rattle.rules_output.specs.Shape.{shape_of}
use Rattle.rules_output.specs.Sentence.{sentence_for}
use Rattle.rules_calls.specs.Calls.{Call, format, check, collect, free_blocks, allocate, store_root, store_cell, look, return_roots, allocate_data, write_number, read_number, write_reason, write_shape}
use Rattle.rules_calls.specs.Calls.{open_collection, take_steps, Answer, tests_heap, allocation_refusals, cell_refusals, own_refusals, refusals, refused_with, refused}
use Rattle.rules_calls.specs.Calls.{copy_from, copy_into, allocate_as, Alone, other_shaped, damage_told}
use Rattle.rules_calls.specs.Calls.{freeing, outcome, answer}
use Rattle.rules_copy.specs.Copy.{lay_all, all_laid}
use Rattle.rules.proofs.Tests.{and_true, true_and, and_false, false_and, first_past, first_no, first_not}

-- ---- accepted or refused

module _ (N w : ℕ) (h : Memory) where
  -- an outcome is an acceptance
  pub outcome_accepts : (c : Call) → (outcome N w h c).0.number ≡ 0
  unfolding outcome freeing
  outcome_accepts format = refl
  outcome_accepts check = refl
  outcome_accepts collect = refl
  outcome_accepts free_blocks = refl
  outcome_accepts (allocate n r) = refl
  outcome_accepts (store_root r v) = refl
  outcome_accepts (store_cell a j v) = refl
  outcome_accepts (look a) = refl
  outcome_accepts (return_roots chosen) = refl
  outcome_accepts (allocate_data n r) = refl
  outcome_accepts (write_number a j x) = refl
  outcome_accepts (read_number a j) = refl
  outcome_accepts (write_reason a room) = refl
  outcome_accepts (write_shape room) = refl
  outcome_accepts open_collection = refl
  outcome_accepts (take_steps budget) = refl
  outcome_accepts (copy_from K u first) = refl
  outcome_accepts (copy_into M v second) = refl

  module _ (c : Call) where
    pub none_applies : refused_with N w h c ≡ 0 → answer N w h c ≡ outcome N w h c
    unfolding answer
    none_applies e = rw (eq-eqb (refused_with N w h c) 0 e, answer)

    pub one_applies : refused_with N w h c ≢ 0 → answer N w h c ≡ refused (damage_told N w h c) h (refused_with N w h c)
    unfolding answer
    one_applies n = rw (ne_eqb (refused_with N w h c) 0 n, answer)

    pub refused_with_lem : (number : ℕ) → number ≢ 0 → refused_with N w h c ≡ number → answer N w h c ≡ refused (damage_told N w h c) h number
    refused_with_lem number nonzero is = one_applies (λ e. nonzero (sym is ∙ e)) ∙ ap (refused (damage_told N w h c) h) is

    -- what holds of every refusal, and of the outcome where no number applies, holds of the answer
    pub answer_either :
        (P : Answer → Type 0) → ((number : ℕ) → number ≢ 0 → P (refused (damage_told N w h c) h number)) → (refused_with N w h c ≡ 0 → P (outcome N w h c))
        → P (answer N w h c)
    answer_either P refusal accepted = elim (ℕ_discrete (refused_with N w h c) 0) [
      | yes e ↦ subst P (sym (none_applies e)) (accepted e)
      | no n ↦ subst P (sym (one_applies n)) (refusal (refused_with N w h c) n)
    ]

    pub number_is : (answer N w h c).0.number ≡ refused_with N w h c
    number_is = elim (ℕ_discrete (refused_with N w h c) 0) [
      | yes e ↦ ap (λ (x : Answer). x.0.number) (none_applies e) ∙ outcome_accepts c ∙ sym e
      | no n ↦ ap (λ (x : Answer). x.0.number) (one_applies n)
    ]

    -- an accepted answer is the outcome
    pub accepted_none : (answer N w h c).0.number ≡ 0 → refused_with N w h c ≡ 0
    accepted_none e = sym number_is ∙ e

    pub accepted_outcome : (answer N w h c).0.number ≡ 0 → answer N w h c ≡ outcome N w h c
    accepted_outcome e = none_applies (accepted_none e)

-- ---- the call's own numbers

-- what an allocation asks for where its numbers don't apply
abbrev pub AllocationPassed : ℕ → Memory → (n r : ℕ) → Type 0
AllocationPassed N h n r =
    let o = lowest_free N (exponent n) h.a in (1 ≤ n) × (n ≤ N) × (r < length h.roots) × (o ≡ some (get_or o 0))

-- what a copy into g, of M blocks, asks of the first heap, and that each of its objects finds a chunk
pub record CopyPassed (M : ℕ) (g : Memory) (N w : ℕ) (h : Memory) : Type 0 where
  pub right_shape : shaped N w h ≡ true
  pub as_many : length h.roots ≡ length g.roots
  pub no_damage : damage N w h ≡ 0
  pub true_list : stale_figures N h.a h.sections ≡ false
  pub tidy : is_untidy N h ≡ false
  pub none_open : is_open N h ≡ false
  pub room : all_laid (lay_all N h M) ≡ true

-- what a call asks for where its own numbers don't apply, and the other heap of a copy is shaped
unfoldable pub Passed : ℕ → Memory → Call → Type 0
Passed N h (allocate n r) = AllocationPassed N h n r
Passed N h (store_root r v) = (r < length h.roots) × (is_ref N h v ≡ true)
Passed N h (store_cell a j v) = (is_first N h a ≡ true) × (j < 4 * size_at N h a) × (is_data h.d a ≡ false) × (is_ref N h v ≡ true)
Passed N h (look a) = is_first N h a ≡ true
Passed N h (return_roots chosen) = chosen_below chosen (length h.roots) ≡ true
Passed N h (allocate_data n r) = AllocationPassed N h n r
Passed N h (write_number a j x) = (is_first N h a ≡ true) × (j < 4 * size_at N h a) × (is_data h.d a ≡ true)
Passed N h (read_number a j) = (is_first N h a ≡ true) × (j < 4 * size_at N h a) × (is_data h.d a ≡ true)
Passed N h (write_reason a room) = (is_first N h a ≡ true) × (length (sentence_for N h a) ≤ room)
Passed N h (write_shape room) = length (shape_of N h) ≤ room
Passed N h format = Unit {0}
Passed N h check = Unit {0}
Passed N h free_blocks = Unit {0}
Passed N h collect = is_open N h ≡ false
Passed N h open_collection = is_open N h ≡ false
Passed N h (take_steps budget) = is_open N h ≡ true
Passed N h (copy_from K u first) = CopyPassed N h K u first
Passed N h (copy_into M v second) = (is_open N h ≡ false) × (all_laid (lay_all N h M) ≡ true)

some_found : (o : Option ℕ) → is_some o ≡ true → o ≡ some (get_or o 0)
unfolding is_some
some_found none e = absurd (false≢true e)
some_found (some i) e = refl

module _ (N : ℕ) (h : Memory) where
  allocation_passed : (n r : ℕ) → first_number (allocation_refusals N h n r) ≡ 0 → AllocationPassed N h n r
  allocation_passed n r e =
      let size = first_not 3 (leb 1 n && leb n N) _ (omega arith) e in
      let place = first_not 4 (ltb r (length h.roots)) _ (omega arith) size.1 in
      let found = first_not 5 (is_some (lowest_free N (exponent n) h.a)) _ (omega arith) place.1 in
      let sizes = and_true (leb 1 n) (leb n N) size.0 in (
        leb-true 1 n sizes.0,
        leb-true n N sizes.1,
        ltb-true r (length h.roots) place.0,
        some_found (lowest_free N (exponent n) h.a) found.0,
      )

  -- of a cell, and of the numbers that come then
  cell_passed :
      (a j : ℕ) (more : List (ℕ × Bool)) → first_number (cell_refusals N h a j more) ≡ 0
      → (is_first N h a ≡ true) × (j < 4 * size_at N h a) × (first_number more ≡ 0)
  cell_passed a j more e =
      let first = first_not 6 (is_first N h a) _ (omega arith) e in
      let place = first_not 7 (ltb j (4 * size_at N h a)) _ (omega arith) first.1 in
      (first.0, ltb-true j (4 * size_at N h a) place.0, place.1)

  pub own_passed : (c : Call) → other_shaped h c ≡ true → first_number (own_refusals N h c) ≡ 0 → Passed N h c
  unfolding own_refusals Passed
  own_passed (allocate n r) other e = allocation_passed n r e
  own_passed (store_root r v) other e =
      let place = first_not 4 (ltb r (length h.roots)) _ (omega arith) e in
      (ltb-true r (length h.roots) place.0, (first_not 8 (is_ref N h v) _ (omega arith) place.1).0)
  own_passed (store_cell a j v) other e =
      let cell = cell_passed a j _ e in
      let ordinary = first_no 12 (is_data h.d a) _ (omega arith) cell.2 in
      (cell.0, cell.1, ordinary.0, (first_not 8 (is_ref N h v) _ (omega arith) ordinary.1).0)
  own_passed (look a) other e = (first_not 6 (is_first N h a) _ (omega arith) e).0
  own_passed (return_roots chosen) other e = (first_not 4 (chosen_below chosen (length h.roots)) _ (omega arith) e).0
  own_passed (allocate_data n r) other e = allocation_passed n r e
  own_passed (write_number a j x) other e =
      let cell = cell_passed a j _ e in
      (cell.0, cell.1, (first_not 12 (is_data h.d a) _ (omega arith) cell.2).0)
  own_passed (read_number a j) other e =
      let cell = cell_passed a j _ e in
      (cell.0, cell.1, (first_not 12 (is_data h.d a) _ (omega arith) cell.2).0)
  own_passed format other e = tt
  own_passed check other e = tt
  own_passed free_blocks other e = tt
  own_passed collect other e = (first_no 14 (is_open N h) _ (omega arith) e).0
  own_passed open_collection other e = (first_no 14 (is_open N h) _ (omega arith) e).0
  own_passed (take_steps budget) other e = (first_not 14 (is_open N h) _ (omega arith) e).0
  own_passed (write_reason a room) other e =
      let first = first_not 6 (is_first N h a) _ (omega arith) e in
      (first.0, ltb-false room (length (sentence_for N h a)) (first_no 15 (ltb room (length (sentence_for N h a))) _ (omega arith) first.1).0)
  own_passed (write_shape room) other e =
      ltb-false room (length (shape_of N h)) (first_no 16 (ltb room (length (shape_of N h))) _ (omega arith) e).0
  own_passed (copy_from K u first) other e =
      let both = and_true (shaped K u first) (eqb (length h.roots) (length first.roots)) other in
      let kind = first_not 2 (eqb (damage K u first) 0) _ (omega arith) e in
      let list = first_no 11 (stale_figures K first.a first.sections) _ (omega arith) kind.1 in
      let marks = first_no 13 (is_untidy K first) _ (omega arith) list.1 in
      let shut = first_no 14 (is_open K first) _ (omega arith) marks.1 in
      record {
        right_shape = both.0;
        as_many = sym (eqb-true (length h.roots) (length first.roots) both.1);
        no_damage = eqb-true (damage K u first) 0 kind.0;
        true_list = list.0;
        tidy = marks.0;
        none_open = shut.0;
        room = (first_not 17 (all_laid (lay_all K first N)) _ (omega arith) shut.1).0;
      }
  own_passed (copy_into M v second) other e =
      let shut = first_no 14 (is_open N h) _ (omega arith) e in
      (shut.0, (first_not 17 (all_laid (lay_all N h M)) _ (omega arith) shut.1).0)

  pub passed_own : (c : Call) → Passed N h c → first_number (own_refusals N h c) ≡ 0
  unfolding own_refusals first_number Passed is_some
  passed_own (allocate n r) (low, high, place, found) =
      rw (true_and (leb 1 n) (leb n N) (le-leb 1 n low) (le-leb n N high), lt-ltb r (length h.roots) place, found)
  passed_own (store_root r v) (place, ref) = rw (lt-ltb r (length h.roots) place, ref)
  passed_own (store_cell a j v) (first, place, ordinary, ref) = rw (first, lt-ltb j (4 * size_at N h a) place, ordinary, ref)
  passed_own (look a) first = rw first
  passed_own (return_roots chosen) below = rw below
  passed_own (allocate_data n r) (low, high, place, found) =
      rw (true_and (leb 1 n) (leb n N) (le-leb 1 n low) (le-leb n N high), lt-ltb r (length h.roots) place, found)
  passed_own (write_number a j x) (first, place, made) = rw (first, lt-ltb j (4 * size_at N h a) place, made)
  passed_own (read_number a j) (first, place, made) = rw (first, lt-ltb j (4 * size_at N h a) place, made)
  passed_own format p = refl
  passed_own check p = refl
  passed_own free_blocks p = refl
  passed_own collect shut = rw shut
  passed_own open_collection shut = rw shut
  passed_own (take_steps budget) was_open = rw was_open
  passed_own (write_reason a room) (first, long) = rw (first, le-ltb room (length (sentence_for N h a)) long)
  passed_own (write_shape room) long = rw (le-ltb room (length (shape_of N h)) long)
  passed_own (copy_from K u first) p =
      rw (eq-eqb (damage K u first) 0 p.no_damage, p.true_list, p.tidy, p.none_open, p.room)
  passed_own (copy_into M v second) (shut, room) = rw (shut, room)

-- ---- the numbers of the heap

-- a call on one heap asks for the shape of no other
pub alone_shaped : (h : Memory) (c : Call) → Alone c → other_shaped h c ≡ true
alone_shaped h c alone = rw (alone, other_shaped) refl

pub allocation_alone : (asData : Bool) (n r : ℕ) → Alone (allocate_as asData n r)
allocation_alone true n r = refl
allocation_alone false n r = refl

module _ (N w : ℕ) (h : Memory) where
  abbrev stale : Bool
  stale = stale_figures N h.a h.sections

  module _ (c : Call) where
    -- where no number applies: 1 does not, 2, 11 and 13 don't where the call tests for them, its own don't
    heap_passed : refused_with N w h c ≡ 0
        → (other_shaped h c && shaped N w h ≡ true) × (tests_heap c && not (eqb (damage N w h) 0) ≡ false) × (tests_heap c && stale ≡ false)
        × (tests_heap c && is_untidy N h ≡ false) × (first_number (own_refusals N h c) ≡ 0)
    unfolding refused_with refusals
    heap_passed e =
        let shape = first_not 1 (other_shaped h c && shaped N w h) _ (omega arith) e in
        let kind = first_no 2 (tests_heap c && not (eqb (damage N w h) 0)) _ (omega arith) shape.1 in
        let list = first_no 11 (tests_heap c && stale) _ (omega arith) kind.1 in
        let marks = first_no 13 (tests_heap c && is_untidy N h) _ (omega arith) list.1 in
        (shape.0, kind.0, list.0, marks.0, marks.1)

    pub shape_passed : refused_with N w h c ≡ 0 → shaped N w h ≡ true
    shape_passed e = (and_true (other_shaped h c) (shaped N w h) (heap_passed e).0).1

    pub other_passed : refused_with N w h c ≡ 0 → other_shaped h c ≡ true
    other_passed e = (and_true (other_shaped h c) (shaped N w h) (heap_passed e).0).0

    pub passed : refused_with N w h c ≡ 0 → Passed N h c
    passed e = own_passed N h c (other_passed e) (heap_passed e).4

    -- an undamaged heap is answered by the call's own numbers
    pub own_number :
        other_shaped h c ≡ true → shaped N w h ≡ true → damage N w h ≡ 0 → stale ≡ false → is_untidy N h ≡ false
        → refused_with N w h c ≡ first_number (own_refusals N h c)
    unfolding refused_with refusals
    own_number other shape undamaged fresh tidy =
        first_past 1 (not (other_shaped h c && shaped N w h)) _ (ap not (true_and (other_shaped h c) (shaped N w h) other shape))
        ∙ first_past 2 (tests_heap c && not (eqb (damage N w h) 0)) _ (false_and (tests_heap c) _ (λ _. ap not (eq-eqb (damage N w h) 0 undamaged)))
        ∙ first_past 11 (tests_heap c && stale) _ (false_and (tests_heap c) stale (λ _. fresh))
        ∙ first_past 13 (tests_heap c && is_untidy N h) _ (false_and (tests_heap c) (is_untidy N h) (λ _. tidy))

  -- format tests the shape alone
  pub format_accepted : shaped N w h ≡ true → answer N w h format ≡ outcome N w h format
  unfolding refused_with refusals own_refusals first_number
  format_accepted shape = none_applies N w h format (none shape)
    where
      none : shaped N w h ≡ true → refused_with N w h format ≡ 0
      none shape = rw shape

  -- of the heap that a copy is made into the shape alone is tested; the copy's own numbers are about the other
  pub copy_number :
      shaped N w h ≡ true → (K u : ℕ) (first : Memory) → shaped K u first ≡ true → length first.roots ≡ length h.roots
      → refused_with N w h (copy_from K u first) ≡ first_number (own_refusals N h (copy_from K u first))
  unfolding refused_with refusals first_number
  copy_number shape K u first other as_many = rw (other, eq-eqb (length h.roots) (length first.roots) (sym as_many), shape) refl

  module _ (c : Call) (tests : tests_heap c ≡ true) where
    -- what is accepted by a call that tests the heap is undamaged
    pub undamaged_passed : refused_with N w h c ≡ 0 → (shaped N w h ≡ true) × (damage N w h ≡ 0) × (stale ≡ false) × (is_untidy N h ≡ false)
    undamaged_passed e =
        let all = heap_passed c e in (
          shape_passed c e,
          eqb-true (damage N w h) 0 (not_no _ (and_false (tests_heap c) _ all.1 tests)),
          and_false (tests_heap c) stale all.2 tests,
          and_false (tests_heap c) (is_untidy N h) all.3 tests,
        )
      where
        not_no : (t : Bool) → not t ≡ false → t ≡ true
        not_no true e = refl
        not_no false e = absurd (true≢false e)

    same_number : other_shaped h c ≡ true → refused_with N w h check ≢ 0 → refused_with N w h c ≡ refused_with N w h check
    unfolding refused_with refusals own_refusals first_number
    same_number other = rw (tests, other) (go (shaped N w h) (eqb (damage N w h) 0) stale (is_untidy N h))
      where
        heap : (s t u v : Bool) → List (ℕ × Bool) → ℕ
        heap s t u v own = first_number ((1, not s) ∷ (2, not t) ∷ (11, u) ∷ (13, v) ∷ own)

        go : (s t u v : Bool) → heap s t u v [] ≢ 0 → heap s t u v (own_refusals N h c) ≡ heap s t u v []
        go true true false false p = absurd (p refl)
        go true true false true p = refl
        go true true true v p = refl
        go true false u v p = refl
        go false t u v p = refl

    -- number 2 of a call that tests the heap tells of its damage
    pub own_damage : damage_told N w h c ≡ damage N w h
    own_damage = rw (tests, damage_told) refl

    -- where the check refuses, the call is refused alike
    pub refused_as_check : other_shaped h c ≡ true → ((answer N w h check).0.number ≡ 0 → ⊥) → answer N w h c ≡ answer N w h check
    refused_as_check other fails =
        let n : refused_with N w h check ≢ 0 = λ e. fails (number_is N w h check ∙ e) in
        let same = same_number other n in
        one_applies N w h c (λ e. n (sym same ∙ e)) ∙ ap (λ (kind : ℕ). refused kind h (refused_with N w h c)) own_damage
        ∙ ap (refused (damage N w h) h) same ∙ sym (one_applies N w h check n)
