-- A search over the cells of an object.
use mathlib.Core.Path.{◌≡◌, sym, ap, ◌∙◌}
use mathlib.Core.Logic.{◌⊎◌, inl, inr}
use mathlib.Core.Bool.{Bool, true, false, not, ◌&&◌}
use mathlib.Core.List.{List}
use Prim.Native.Nat.{ℕ, ◌+◌, ◌-◌, ◌*◌, ◌<◌}
use native.Mathlib.Decide.{dec_lt}
use native.Mathlib.Omega.{arith}
use lib.Dec.{eqb, leb}
use lib.ListN.{get_or}
use borrow.Author.Tests.{eqb-true, eqb-false, leb-true, eq-eqb, ne_eqb, le-leb, not-true}
use Rattle.rules.specs.Tools.{some_below}
use Rattle.rules.proofs.Tests.{test_cases_lem, and_true, and_false, true_and, false_and, some_true, some_false, true_some, false_some}
use Rattle.step_list.specs.Lists.{is_set}
use Rattle.rules.specs.Heap.{size_from}
use Rattle.rules_stores.specs.Store.{naming_cells}
use Rattle.step_list.specs.Naming.{named_from, cell_names}
use Rattle.check_marks.specs.Tidy.{missed_at}

-- what a cell holds names an unmarked block
abbrev pub missed : ℕ → List ℕ → ℕ → Bool
missed N marks v = not (eqb v 0) && (leb v N && not (is_set marks (v - 1)))

pub missed_any : (N : ℕ) (cells marks : List ℕ) (j n : ℕ)
    → some_below (λ m. missed N marks (get_or cells (j + m) 0)) n ≡ some_below (λ i. named_from cells j n i && not (is_set marks i)) N
unfolding named_from
missed_any N cells marks j n = go (test_cases_lem (some_below test n))
  where
    test : ℕ → Bool
    test m = missed N marks (get_or cells (j + m) 0)

    seen : ℕ → Bool
    seen i = named_from cells j n i && not (is_set marks i)

    go : (some_below test n ≡ true) ⊎ (some_below test n ≡ false) → some_below test n ≡ some_below seen N
    go (inl e) =
        let found = some_true test n e in
        let m : ℕ = found.0 in
        let v : ℕ = get_or cells (j + m) 0 in
        let parts = and_true (not (eqb v 0)) (leb v N && not (is_set marks (v - 1))) found.2 in
        let rest = and_true (leb v N) (not (is_set marks (v - 1))) parts.1 in
        let positive = eqb-false v 0 (not-true (eqb v 0) parts.0) in
        let within = leb-true v N rest.0 in
        let below : v - 1 < N = elim (dec_lt (v - 1) N) [ yes l ↦ l | no l ↦ absurd (positive (omega arith)) ] in
        let some : v ≡ v - 1 + 1 = elim (dec_lt 0 v) [ yes l ↦ omega arith | no l ↦ absurd (positive (omega arith)) ] in
        let named : named_from cells j n (v - 1) ≡ true =
        true_some (λ k. eqb (get_or cells (j + k) 0) (v - 1 + 1)) n m found.1 (eq-eqb v (v - 1 + 1) some) in
        e ∙ sym (true_some seen N (v - 1) below (true_and (named_from cells j n (v - 1)) (not (is_set marks (v - 1))) named rest.1))
    go (inr e) =
        e ∙ sym
        (false_some seen N
        (λ i l.
        false_and (named_from cells j n i) (not (is_set marks i))
        (λ q.
        let found = some_true (λ k. eqb (get_or cells (j + k) 0) (i + 1)) n q in
        let m : ℕ = found.0 in
        let v : ℕ = get_or cells (j + m) 0 in
        let at : v ≡ i + 1 = eqb-true v (i + 1) found.2 in
        let fails = some_false test n e m found.1 in
        let later = and_false (not (eqb v 0)) (leb v N && not (is_set marks (v - 1))) fails (ap not (ne_eqb v 0 (λ z. omega arith))) in
        let last = and_false (leb v N) (not (is_set marks (v - 1))) later (le-leb v N (omega arith)) in
        let same : v - 1 ≡ i = omega arith in
        ap (λ (k : ℕ). not (is_set marks k)) (sym same) ∙ last)))

-- the cells of the object at block x, its kind being looked at once
pub missed_read : (N : ℕ) (b d cells marks : List ℕ) (x : ℕ) {n named : ℕ} → n ≡ size_from (N - x) b x → named ≡ naming_cells d x n
    → some_below (λ i. named_from cells (4 * x) named i && not (is_set marks i)) N ≡ missed_at N b d cells marks x
unfolding missed_at cell_names
missed_read N b d cells marks x size naming =
    ap (λ (m : ℕ). some_below (λ i. named_from cells (4 * x) m i && not (is_set marks i)) N) (naming ∙ ap (naming_cells d x) size)
