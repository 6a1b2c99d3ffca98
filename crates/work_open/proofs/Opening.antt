-- The maps that the opening's code leaves, and the rules' promise of them.
use mathlib.Core.Path.{◌≡◌, refl, sym, ap₂, ◌∙◌}
use mathlib.Core.Logic.{◌⊎◌, inl, inr}
use mathlib.Core.Bool.{Bool, true, false}
use mathlib.Core.List.{List}
use Prim.Native.Nat.{ℕ, zero, suc, ◌+◌, ◌*◌, ◌/◌, ◌<◌}
use native.Mathlib.Omega.{arith}
use lib.Dec.{eqb, ltb}
use lib.ListN.{length, get_or}
use borrow.Author.Tests.{ltb-true, ltb-false, lt-ltb, le-ltb}
use Rattle.bitmap.specs.Bit.{one, count_below, Bytes}
use Rattle.rules.specs.Tools.{some_below, holding}
use Rattle.rules.specs.Heap.{Memory, with_marks, with_list}
use Rattle.rules_steps.specs.Steps.{is_open, list_of, with_progress, root_names, opened}
use Rattle.rules_calls.specs.Calls.{open_collection, reply, accepted, outcome, answer}
use Rattle.rules_calls.specs.Promise.{Promise}
use Rattle.types.specs.declared.Reply.{Reply}
use Rattle.rules.proofs.Tests.{test_cases_lem}
use Rattle.rules_calls.proofs.Replies.{Passed}
use Rattle.rules_calls.proofs.Promised.{promised}
use Rattle.step_list.specs.Lists.{is_set, listed_in, Shows}
use Rattle.step_list.proofs.Rising.{list_same}
use Rattle.step_list.proofs.MapOf.{map_of_lem}
use Rattle.theory_memories.specs.Heaps.{Undamaged}
use Rattle.theory_memories.proofs.Memories.Fit.{undamaged_fit}
use Rattle.theory_memories.proofs.Memories.Accepted.{fit_accepted}
use Rattle.work_open.specs.Opened.{root_names_in, Opened}

-- some are counted where one passes
counted : (test : ℕ → Bool) (n : ℕ) → ltb 0 (count_below test n) ≡ some_below test n
unfolding count_below some_below
counted test zero = refl
counted test (suc n) = go (counted test n) (test_cases_lem (some_below test n)) (test n)
  where
    go : ltb 0 (count_below test n) ≡ some_below test n → (some_below test n ≡ true) ⊎ (some_below test n ≡ false) → (t : Bool)
        → ltb 0 (count_below test n + one t) ≡ elim (some_below test n) [ true ↦ true | false ↦ t ]
    go e (inl q) t = rw q (lt-ltb 0 (count_below test n + one t) (omega (arith, ltb-true 0 (count_below test n) (e ∙ q))))
    go e (inr q) true = rw q (lt-ltb 0 (count_below test n + 1) (omega arith))
    go e (inr q) false = rw q (le-ltb 0 (count_below test n + 0) (omega (arith, ltb-false 0 (count_below test n) (e ∙ q))))

-- what the roots name, by a search or by their number
root_named : (roots : List ℕ) (i : ℕ) → listed_in (length roots) roots i ≡ root_names_in roots i
unfolding listed_in root_names holding
root_named roots i = sym (counted (λ j. eqb (get_or roots j 0) (i + 1)) (length roots))

-- what the code leaves: the map shows what the roots name, and the list is written from the map
pub opened_by :
    (N : ℕ) (roots old : List ℕ) → N ≡ 8 * (N / 8) → Bytes old → length old ≡ N / 8 → {marks list : List ℕ} {told : Reply}
    → Bytes marks → length marks ≡ N / 8 → Shows N (listed_in (length roots) roots) marks → list ≡ list_of N (is_set marks)
    → told ≡ reply 0 0 0 → Opened N roots old told marks list
opened_by N roots old whole was had {marks} bytes long shows written told =
    let shown : (i : ℕ) → i < N → is_set marks i ≡ root_names_in roots i = λ i l. shows.bits i l ∙ root_named roots i in
    record {
      told_is = told;
      marks_are = map_of_lem old (root_names_in roots) N whole was had bytes long (record { bits = shown });
      list_is = written ∙ list_same N (is_set marks) (root_names_in roots) shown;
    }

-- .. and that is the call's promise, on an undamaged heap with none open
pub open_promised :
    {N w : ℕ} {h : Memory} → Undamaged N w h → is_open N h ≡ false → {told : Reply} {marks list : List ℕ}
    → Opened N h.roots h.marks told marks list → Promise N w open_collection h told (with_marks marks (with_list list h))
unfolding opened with_progress root_names outcome Passed
open_promised {N} {w} {h} undamaged shut {told} {marks} {list} done =
    promised N w h open_collection (accepted (opened N h) 0) (fit_accepted N w h (undamaged_fit N w h undamaged) open_collection refl shut) told
    (with_marks marks (with_list list h)) done.told_is
    (ap₂ (λ (m l : List ℕ). with_marks m (with_list l h)) done.marks_are done.list_is)
