-- The tests of a call's own arguments, passed or not: what is passed gives facts, and where one fails the answer of the call is the
-- test's reply, with nothing written.
use mathlib.Core.Path.{◌≡◌, refl, sym, ap, ◌∙◌}
use mathlib.Core.Logic.{inl, inr}
use mathlib.Core.Bool.{Bool, true, false, not}
use mathlib.Core.List.{List, [], ◌∷◌}
use Prim.Native.Nat.{ℕ, ◌+◌, ◌-◌, ◌*◌, ◌≤◌, ◌<◌}
use native.Mathlib.Decide.{ℕ_discrete}
use native.Mathlib.Omega.{arith}
use lib.Dec.{ltb}
use lib.ListN.{length, get_or}
use borrow.Author.Tests.{eq-eqb, ne_eqb, ltb-true}
use Rattle.rules.specs.Tools.{first_number}
use Rattle.rules.specs.Heap.{Memory, memory, lent_memory, count_of, is_first, size_at, is_ref, is_data}
use Rattle.rules_calls.specs.Calls.{Call, collect, store_root, store_cell, look, return_roots, write_number, read_number, open_collection, take_steps, Answer}
use Rattle.rules_steps.specs.Steps.{is_open}
use Rattle.rules_calls.specs.Calls.{reply, Alone, cell_refusals, own_refusals, outcome, answer}
use Rattle.rules_calls.specs.Promise.{Promise}
use Rattle.types.specs.declared.Reply.{Reply}
use Rattle.types.specs.declared.refusals.Refusal.{Refusal}
use Rattle.types.specs.Told.{accepted, refused}
use Rattle.types.proofs.Refused.{refused_ne0}
use Rattle.rules_calls.proofs.Replies.{Passed, own_passed, alone_shaped}
use Rattle.rules.proofs.Tests.{test_cases_lem, first_found, first_not}
use Rattle.rules.proofs.Objects.{first_facts, size_le, ref_facts}
use Rattle.rules_calls.proofs.Promised.{promised}
use Rattle.theory_memories.proofs.Memories.Fit.{Fit}
use Rattle.theory_memories.proofs.Memories.Accepted.{fit_accepted, fit_refused}
use Rattle.test_arguments.specs.Replies.{own_test, store_root_test, store_cell_test, cell_test, number_test, read_reply}
use Rattle.test_arguments.specs.Replies.{return_test, shut_test, open_test, look_reply}

-- ---- any call

-- x is what the own test of a call on one heap answers
pub record Tested (N : ℕ) (h : Memory) (c : Call) (x : Reply) : Type 0 where
  pub is_test : x ≡ own_test N h c
  pub alone : Alone c

test_passed : (N : ℕ) (h : Memory) (c : Call) → Alone c → (own_test N h c).number ≡ 0 → Passed N h c
unfolding own_test
test_passed N h c alone = own_passed N h c (alone_shaped h c alone)

module _ {N : ℕ} {h : Memory} {c : Call} {x : Reply} (tested : Tested N h c x) where
  pub goes_on : x.number ≡ 0 → (own_test N h c).number ≡ 0
  goes_on accepts = ap (λ (y : Reply). y.number) (sym tested.is_test) ∙ accepts

  pub own_refused : {w : ℕ} → Fit N w h → (x.number ≡ 0 → ⊥) → Promise N w c h x h
  unfolding own_test
  own_refused {w} fit fails =
      promised N w h c (own_test N h c, h) (fit_refused N w h fit c tested.alone (λ e. fails (ap (λ (y : Reply). y.number) tested.is_test ∙ e)))
      x h tested.is_test refl

-- a reference points to a block
ref_inside : (N : ℕ) (h : Memory) (v : ℕ) → is_ref N h v ≡ true → v ≤ N
ref_inside N h v e = elim (ref_facts N h.a h.b v e) [ inl z ↦ omega arith | inr f ↦ omega (arith, (first_facts N h.a h.b (v - 1) f).inside) ]

-- ---- a store in a root

pub record RootPassed (N : ℕ) (h : Memory) (r v : ℕ) : Type 0 where
  pub place : r < length h.roots
  pub ref : is_ref N h v ≡ true
  pub inside : v ≤ N

pub root_passed : {N : ℕ} {h : Memory} {r v : ℕ} → (store_root_test N h r v).number ≡ 0 → RootPassed N h r v
unfolding Passed
root_passed {N} {h} {r} {v} e =
    let passed = test_passed N h (store_root r v) refl e in
    record { place = passed.0; ref = passed.1; inside = ref_inside N h v passed.1 }

-- the test reads the maps and the roots alone
pub root_tested :
    {N : ℕ} {h : Memory} {r v : ℕ} {x : Reply} → x ≡ store_root_test N (memory h.a h.b [] [] h.roots []) r v
    → Tested N h (store_root r v) x
unfolding own_test own_refusals
root_tested tested = record { is_test = tested; alone = refl }

-- ---- a cell

-- what the first two tests answer is what the call answers, or nothing
pub cell_first : (N : ℕ) (h : Memory) (a j : ℕ) (more : List (ℕ × Bool)) → ((cell_test N h a j).number ≡ 0 → ⊥)
    → reply (first_number (cell_refusals N h a j more)) 0 0 ≡ cell_test N h a j
unfolding cell_test first_number
cell_first N h a j more fails = go (is_first N h a) (ltb j (4 * size_at N h a)) fails
  where
    go : (s t : Bool) → (first_number ((6, not s) ∷ (7, not t) ∷ []) ≡ 0 → ⊥)
        → reply (first_number ((6, not s) ∷ (7, not t) ∷ more)) 0 0 ≡ reply (first_number ((6, not s) ∷ (7, not t) ∷ [])) 0 0
    go true true none = absurd (none refl)
    go true false some = refl
    go false t some = refl

pub cell_then : (N : ℕ) (h : Memory) (a j : ℕ) (more : List (ℕ × Bool)) → (cell_test N h a j).number ≡ 0
    → first_number (cell_refusals N h a j more) ≡ first_number more
unfolding cell_test first_number
cell_then N h a j more e = go (is_first N h a) (ltb j (4 * size_at N h a)) e
  where
    go : (s t : Bool) → first_number ((6, not s) ∷ (7, not t) ∷ []) ≡ 0
        → first_number ((6, not s) ∷ (7, not t) ∷ more) ≡ first_number more
    go true true none = refl
    go true false some = absurd (omega arith)
    go false t some = absurd (omega arith)

-- so of a store, and of a number
module _ (N : ℕ) (h : Memory) (a j : ℕ) where
  pub store_early : (v : ℕ) → ((cell_test N h a j).number ≡ 0 → ⊥) → cell_test N h a j ≡ store_cell_test N h a j v
  unfolding own_test own_refusals
  store_early v fails = sym (cell_first N h a j _ fails)

  pub store_refused : (v : ℕ) (refusal : Refusal) → refused refusal ≡ cell_test N h a j → refused refusal ≡ store_cell_test N h a j v
  store_refused v refusal tested = tested ∙ store_early v (refused_ne0 refusal tested)

  pub store_then : (v : ℕ) → (cell_test N h a j).number ≡ 0
      → store_cell_test N h a j v ≡ reply (first_number ((12, is_data h.d a) ∷ (8, not (is_ref N h v)) ∷ [])) 0 0
  unfolding own_test own_refusals
  store_then v e = ap (λ (k : ℕ). reply k 0 0) (cell_then N h a j _ e)

  pub number_early : ((cell_test N h a j).number ≡ 0 → ⊥) → cell_test N h a j ≡ number_test N h a j
  unfolding own_test own_refusals
  number_early fails = sym (cell_first N h a j _ fails)

  pub number_refused : (refusal : Refusal) → refused refusal ≡ cell_test N h a j → refused refusal ≡ number_test N h a j
  number_refused refusal tested = tested ∙ number_early (refused_ne0 refusal tested)

  pub number_then : (cell_test N h a j).number ≡ 0 → number_test N h a j ≡ reply (first_number ((12, not (is_data h.d a)) ∷ [])) 0 0
  unfolding own_test own_refusals
  number_then e = ap (λ (k : ℕ). reply k 0 0) (cell_then N h a j _ e)

-- what the tests of a cell read
abbrev pub maps : (a b d : List ℕ) → Memory
maps a b d = lent_memory a b [] [] [] [] [] d [] []

-- the first two read the A-map and the B-map alone
pub first_tested : (N : ℕ) (a b d : List ℕ) (at j : ℕ) {x : Reply} → x ≡ cell_test N (memory a b [] [] [] []) at j
    → x ≡ cell_test N (maps a b d) at j
unfolding cell_test
first_tested N a b d at j tested = tested

pub test_accepted : {x : Reply} → accepted 0 ≡ x → x.number ≡ 0
test_accepted tested = sym (ap (λ (y : Reply). y.number) tested)

-- where they pass
pub first_passed : (N : ℕ) (a b d : List ℕ) (at j : ℕ) → accepted 0 ≡ cell_test N (memory a b [] [] [] []) at j
    → (cell_test N (maps a b d) at j).number ≡ 0
first_passed N a b d at j tested = test_accepted (first_tested N a b d at j tested)

-- past them there is such a cell
pub cell_there : (N : ℕ) (h : Memory) (a j : ℕ) → (cell_test N h a j).number ≡ 0 → (is_first N h a ≡ true) × (j < 4 * size_at N h a)
unfolding cell_test
cell_there N h a j e =
    let six = first_not 6 (is_first N h a) _ (omega arith) e in
    let seven = first_not 7 (ltb j (4 * size_at N h a)) _ (omega arith) six.1 in
    (six.0, ltb-true j (4 * size_at N h a) seven.0)

cell_below : (N : ℕ) (h : Memory) (a j : ℕ) → is_first N h a ≡ true → j < 4 * size_at N h a → 4 * a + j < 4 * N
cell_below N h a j first place = omega (arith, place, (first_facts N h.a h.b a first).inside, size_le (N - a) h.b a)

-- ---- a store in a cell

pub record CellPassed (N : ℕ) (h : Memory) (a j v : ℕ) : Type 0 where
  pub first : is_first N h a ≡ true
  pub place : j < 4 * size_at N h a
  pub ordinary : is_data h.d a ≡ false
  pub ref : is_ref N h v ≡ true
  pub cell_inside : 4 * a + j < 4 * N
  pub inside : v ≤ N

pub cell_passed : {N : ℕ} {h : Memory} {a j v : ℕ} → (store_cell_test N h a j v).number ≡ 0 → CellPassed N h a j v
unfolding Passed
cell_passed {N} {h} {a} {j} {v} e =
    let passed = test_passed N h (store_cell a j v) refl e in
    record {
      first = passed.0;
      place = passed.1;
      ordinary = passed.2;
      ref = passed.3;
      cell_inside = cell_below N h a j passed.0 passed.1;
      inside = ref_inside N h v passed.3;
    }

-- the test reads the maps alone
pub cell_tested :
    {N : ℕ} {h : Memory} {a j v : ℕ} {x : Reply} → x ≡ store_cell_test N (lent_memory h.a h.b [] [] [] [] [] h.d [] []) a j v
    → Tested N h (store_cell a j v) x
unfolding own_test own_refusals
cell_tested tested = record { is_test = tested; alone = refl }

-- ---- a number

pub record NumberPassed (N : ℕ) (h : Memory) (a j : ℕ) : Type 0 where
  pub first : is_first N h a ≡ true
  pub place : j < 4 * size_at N h a
  pub made : is_data h.d a ≡ true
  pub cell_inside : 4 * a + j < 4 * N

pub number_passed : {N : ℕ} {h : Memory} {a j : ℕ} → (number_test N h a j).number ≡ 0 → NumberPassed N h a j
unfolding Passed
number_passed {N} {h} {a} {j} e =
    let passed = test_passed N h (read_number a j) refl e in
    record {
      first = passed.0;
      place = passed.1;
      made = passed.2;
      cell_inside = cell_below N h a j passed.0 passed.1;
    }

-- the test reads the maps alone, whatever number is written
pub number_tested :
    {N : ℕ} {h : Memory} {a j v : ℕ} {x : Reply} → x ≡ number_test N (lent_memory h.a h.b [] [] [] [] [] h.d [] []) a j
    → Tested N h (write_number a j v) x
unfolding own_test own_refusals
number_tested tested = record { is_test = tested; alone = refl }

-- a read reads the cells too
module _ (N w : ℕ) (h : Memory) (fit : Fit N w h) (a j : ℕ) where
  pub read_answered : answer N w h (read_number a j) ≡ (read_reply N (lent_memory h.a h.b [] h.cells [] [] [] h.d [] []) a j, h)
  unfolding outcome own_test own_refusals read_reply
  read_answered = elim (ℕ_discrete (first_number (own_refusals N h (read_number a j))) 0) [
    | yes e ↦ fit_accepted N w h fit (read_number a j) refl (own_passed N h (read_number a j) refl e) ∙ ap {B = Answer} (λ t. (read t, h)) (sym (eq-eqb _ 0 e))
    | no n ↦ fit_refused N w h fit (read_number a j) refl n ∙ ap {B = Answer} (λ t. (read t, h)) (sym (ne_eqb _ 0 n))
  ]
    where
      read : Bool → Reply
      read t = elim t [
        | true ↦ reply 0 (get_or h.cells (4 * a + j) 0) 0
        | false ↦ reply (first_number (own_refusals N h (read_number a j))) 0 0
      ]

-- ---- a return

pub return_tested :
    {N : ℕ} {h : Memory} {chosen : ℕ} {x : Reply} → x ≡ return_test (length h.roots) chosen → Tested N h (return_roots chosen) x
unfolding own_test own_refusals return_test
return_tested tested = record { is_test = tested; alone = refl }

-- ---- a collection (request U8)

-- the tests read the second list alone
pub collect_tested : {N : ℕ} {h : Memory} {x : Reply} → x ≡ shut_test N h.list → Tested N h collect x
unfolding own_test own_refusals shut_test
collect_tested tested = record { is_test = tested; alone = refl }

pub open_tested : {N : ℕ} {h : Memory} {x : Reply} → x ≡ shut_test N h.list → Tested N h open_collection x
unfolding own_test own_refusals shut_test
open_tested tested = record { is_test = tested; alone = refl }

pub step_tested : {N : ℕ} {h : Memory} {budget : ℕ} {x : Reply} → x ≡ open_test N h.list → Tested N h (take_steps budget) x
unfolding own_test own_refusals open_test
step_tested tested = record { is_test = tested; alone = refl }

-- past them it is known whether one is open
pub none_open : {N : ℕ} {h : Memory} {x : Reply} → Tested N h collect x → x.number ≡ 0 → is_open N h ≡ false
unfolding Passed
none_open {N} {h} tested accepts = test_passed N h collect refl (goes_on tested accepts)

pub one_open : {N : ℕ} {h : Memory} {budget : ℕ} {x : Reply} → Tested N h (take_steps budget) x → x.number ≡ 0 → is_open N h ≡ true
unfolding Passed
one_open {N} {h} {budget} tested accepts = test_passed N h (take_steps budget) refl (goes_on tested accepts)

-- ---- a look

module _ (N w : ℕ) (h : Memory) (fit : Fit N w h) (a : ℕ) where
  -- it reads the maps and the counts alone
  pub look_answered : answer N w h (look a) ≡ (look_reply N w (memory h.a h.b h.counts [] [] []) a, h)
  unfolding outcome Passed own_refusals look_reply
  look_answered = elim (test_cases_lem (is_first N h a)) [
    | inl first ↦ fit_accepted N w h fit (look a) refl first ∙ ap {B = Answer} (λ t. (read t, h)) (sym first)
    | inr other ↦
        let six = first_found 6 (not (is_first N h a)) [] (ap not other) in
        fit_refused N w h fit (look a) refl (λ e. absurd (omega (arith, six, e))) ∙ ap {B = Answer} (λ k. (reply k 0 0, h)) six
        ∙ ap {B = Answer} (λ t. (read t, h)) (sym other)
  ]
    where
      read : Bool → Reply
      read t = elim t [ true ↦ reply 0 (size_at N h a) (count_of N w h a) | false ↦ reply 6 0 0 ]
