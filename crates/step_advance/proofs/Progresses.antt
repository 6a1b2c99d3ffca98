-- The lent mark map and second list, and what they hold of a collection's progress.
use mathlib.Core.Path.{◌≡◌, refl, sym, ap, ◌∙◌}
use mathlib.Core.Logic.{inl, inr}
use mathlib.Core.Bool.{Bool, true, false, not, false≢true}
use mathlib.Core.List.{List}
use Prim.Native.Nat.{ℕ, ◌+◌, ◌*◌, ◌/◌, ◌≤◌, ◌<◌}
use native.Mathlib.Decide.{dec_lt}
use native.Mathlib.Omega.{arith}
use lib.Dec.{eqb, ltb}
use lib.ListN.{length, get_or, take, length-take}
use borrow.Author.Tests.{lt-ltb, le-ltb, ltb-true, eqb-true, ne_eqb}
use Rattle.bitmap.specs.Bit.{Bytes}
use Rattle.rules.specs.Tools.{some_below, tabulate}
use Rattle.rules.specs.Tools
use Rattle.rules_stores.specs.Collection.{marked}
use Rattle.rules.proofs.Tests.{test_cases_lem, some_true, true_some, some_false, false_some}
use Rattle.rules.proofs.Tabulate.{get_d_tabulate}
use Rattle.std.proofs.Common.{Option, None, Some}
use Rattle.std.specs.Option.{is_some, unwrap_or}
use Rattle.std.specs.List.{position, position_or_len}
use Rattle.std.proofs.lemmas.List.{get_or-take}
use Rattle.std.proofs.lemmas.List.Sums.{passes_at_first}
use Rattle.step_list.specs.Lists.{is_set, listed_in, Shows, NextBit}
use Rattle.step_list.proofs.Rising.{list_same}
use Rattle.step_list.proofs.MapOf.{map_of_lem}
use Rattle.rules_steps.specs.Steps.{list_of, Progress, progress, StepsTaken, closes}
use Rattle.step_advance.specs.Steps.{progress_in, progress_at, steps_by, Went, Holding, Ended, Holds}
use Rattle.step_advance.proofs.Goings.{tabulate_same, lowest_at, lowest_none}

-- the list up to its first 0
pub ended_at : {N : ℕ} {list : List ℕ} {n : ℕ} → Ended N list → n ≤ N → (n < N → get_or list n 0 ≡ 0) → Holds N list n
unfolding listed_in
ended_at {N} {list} {n} ended within first = record {
  within = within;
  same = λ i.
      let test : ℕ → Bool = λ k. eqb (get_or list k 0) (i + 1) in
      elim (test_cases_lem (some_below test n)) [
        | inl e ↦
            let found = some_true test n e in
            e ∙ sym (true_some test N found.0 (omega (arith, found.1)) found.2)
        | inr e ↦
            e ∙ sym
            (false_some test N
            (λ k l.
            elim (dec_lt k n) [
              | yes u ↦ some_false test n e k u
              | no u ↦
                  let none : get_or list k 0 ≡ 0 = ended.zeros n (first (omega arith)) k (omega arith) l in
                  ne_eqb (get_or list k 0) (i + 1) (λ q. omega arith)
            ]))
      ];
}

-- .. as the search for that 0 tells it
pub ended_first : {N : ℕ} {list : List ℕ} → length list ≡ N + 1 → Ended N list → Holds N list (unwrap_or (position (λ v. eqb v 0) (take N list)) N)
ended_first {N} {list} long ended =
    let is_end : ℕ → Bool = λ v. eqb v 0 in
    let xs : List ℕ = take N list in
    let at : ℕ = position_or_len is_end xs in
    let all : length xs ≡ N = omega (arith, length-take N list) in
    elim (test_cases_lem (ltb at (length xs))) [
      | inl e ↦
          let inside = ltb-true at (length xs) e in
          rw e
          (ended_at ended (omega arith) (λ l. sym (get_or-take N list at 0 l) ∙ eqb-true (get_or xs at 0) 0 (passes_at_first is_end xs 0 inside)))
      | inr e ↦ rw e (ended_at ended (omega arith) (λ l. absurd (omega arith)))
    ]

-- the list read into a map
pub progress_read : (N : ℕ) (marks list : List ℕ) {map : List ℕ} → Shows N (listed_in N list) map → progress_in N marks map ≡ progress_at N marks list
unfolding progress_in progress_at
progress_read N marks list {map} s = ap (progress (tabulate N (is_set marks))) (tabulate_same N (is_set map) (listed_in N list) s.bits)

-- maps that show the progress, written
pub holding_written : {N : ℕ} {p : Progress} {old marks list : List ℕ} (map : List ℕ) → N ≡ 8 * (N / 8) → Bytes old → length old ≡ N / 8 → Bytes marks → length marks ≡ N / 8
    → progress_in N marks map ≡ p → list ≡ list_of N (is_set map) → Holding N p old marks list
unfolding progress_in
holding_written {N} {p} {old} {marks} {list} map whole was had bytes long e written = record {
  marks_are = map_of_lem old (marked p.marks) N whole was had bytes long (record { bits = λ i l. shown (λ q. q.marks) (is_set marks) refl i l });
  list_is = written ∙ list_same N (is_set map) (marked p.list) (λ i l. shown (λ q. q.list) (is_set map) refl i l);
}
  where
    shown : (part : Progress → List Bool) (test : ℕ → Bool) → part (progress_in N marks map) ≡ tabulate N test → (i : ℕ) → i < N
        → test i ≡ marked (part p) i
    shown part test at i l = sym (get_d_tabulate false N test i l) ∙ ap (λ (l : List Bool). get_or l i false) (sym at ∙ ap part e)

-- ---- the close

-- without a budget
pub done_never : (budget : ℕ) (p : Progress) → budget ≤ 0 → ltb 0 budget ≡ closes budget p
unfolding closes
done_never budget p l = rw (le-ltb 0 budget l)

-- with one
pub done_is : (budget N : ℕ) (marks map : List ℕ) → 0 < budget → (r : Option ℕ) → NextBit map 0 N r → (done : Bool) → is_some r ≡ not done
    → done ≡ closes budget (progress_in N marks map)
unfolding closes progress_in Tools.is_some
done_is budget N marks map l None n true e = rw (lt-ltb 0 budget l, lowest_none N (is_set map) 0 (λ i u. n.clear i (omega arith) u))
done_is budget N marks map l (Some x) n false e =
    rw (lt-ltb 0 budget l, lowest_at N (is_set map) 0 x n.below n.found (λ i u. n.clear i (omega arith) u))
done_is budget N marks map l None n false e = absurd (false≢true e)
done_is budget N marks map l (Some x) n true e = absurd (false≢true (sym e))

-- ---- a call's steps

pub advanced : (N budget : ℕ) (names : ℕ → ℕ → Bool) (marks list : List ℕ) {map marks' map' list' : List ℕ} {steps : ℕ} {done : Bool}
    → N ≡ 8 * (N / 8) → {n : ℕ} → Holds N list n → Shows N (listed_in n list) map → Went N (steps_by budget N names (progress_in N marks map)) steps marks' map'
    → Bytes marks → length marks ≡ N / 8 → Bytes marks' → length marks' ≡ N / 8 → list' ≡ list_of N (is_set map') → done ≡ closes budget (progress_in N marks' map')
    → (steps ≡ (steps_by budget N names (progress_at N marks list)).steps)
    × (done ≡ closes budget (steps_by budget N names (progress_at N marks list)).reached)
    × Holding N (steps_by budget N names (progress_at N marks list)).reached marks marks' list'
advanced N budget names marks list {map} {marks'} {map'} whole h s w was had bytes long written e =
    let read : Shows N (listed_in N list) map = record { bits = λ i l. s.bits i l ∙ h.same i } in
    let same = ap (steps_by budget N names) (progress_read N marks list read) in
    let reached = w.reached_is ∙ ap (λ (t : StepsTaken). t.reached) same in (
      w.steps_are ∙ ap (λ (t : StepsTaken). t.steps) same,
      e ∙ ap (closes budget) reached,
      holding_written map' whole was had bytes long reached written,
    )
