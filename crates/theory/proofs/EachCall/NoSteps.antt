-- A call that is given no steps changes no buffer but the waiting list (request U8): the map and the list are
-- those that are written for their own sets.
use mathlib.Core.Path.{◌≡◌, refl, sym, ap, ◌∙◌, subst}
use mathlib.Core.Bool.{true, false}
use mathlib.Core.List.{List}
use mathlib.Core.Option.{Option, none, some}
use Prim.Native.Nat.{ℕ, zero, suc, ◌-◌, ◌≤◌, ◌<◌}
use native.Mathlib.Omega.{arith}
use lib.ListN.{replicate}
use borrow.Author.Tests.{lt-ltb}
use Rattle.bitmap.specs.Bit.{zeros}
use Rattle.rules.specs.Heap.{Memory, with_waiting, with_sections, with_marks, with_list}
use Rattle.rules_stores.specs.Collection.{marked}
use Rattle.rules.specs.Tools.{is_some}
use Rattle.rules_steps.specs.Steps.{is_open, is_marked, is_listed, map_of, list_of, with_progress, Progress, progress_of, lowest, scanned, StepsTaken, taken}
use Rattle.rules_steps.specs.Steps.{steps_from, unmarked_freed, closed, closes, stepped}
use Rattle.rules_calls.specs.Calls.{take_steps, Answer, reply, settled, outcome}
use Rattle.rules_steps.proofs.Progress.{map_of_same, list_of_same}
use Rattle.rules_calls.proofs.Replies.{accepted_none, accepted_outcome, Passed, passed}
use Rattle.theory.specs.Steps.{NoStepsNoChange, AllUnlessRanOut}
use Rattle.theory_memories.proofs.Memories.Fit.{Fit}
use Rattle.theory_memories.proofs.Memories.TidyHeap.{progress_same, none_after}
use Rattle.theory_memories.proofs.Memories.Scanning.{marked_progress, listed_progress}
use Rattle.theory_memories.proofs.Memories.Accepted.{accepted_fit}

module _ (N w : ℕ) (h : Memory) (fit : Fit N w h) (was_open : is_open N h ≡ true) where
  -- the lists written anew
  kept : stepped N w h 0 (progress_of N h) ≡ h
  unfolding stepped closes with_progress
  kept =
      let p : Progress = progress_of N h in
      ap (λ (m : List ℕ). with_marks m (with_list (list_of N (marked p.list)) h))
      (map_of_same h.marks (marked p.marks) (is_marked h) N (marked_progress N w h fit.healthy was_open fit.tidy))
      ∙ ap (λ (l : List ℕ). with_marks (map_of h.marks (is_marked h) N) (with_list l h))
      (list_of_same N (marked p.list) (is_listed N h) (listed_progress N w h fit.healthy was_open fit.tidy))
      ∙ progress_same N w h fit.healthy was_open fit.tidy

  nothing_taken : outcome N w h (take_steps 0) ≡ (reply 0 0 0, with_waiting (replicate N 0) h)
  unfolding outcome steps_from
  nothing_taken =
      let nothing : zeros h.a - zeros h.a ≡ 0 = omega arith in
      ap {B = Answer} (λ (g : Memory). (reply 0 0 (zeros g.a - zeros h.a), settled N g)) kept
      ∙ ap {B = Answer} (λ (n : ℕ). (reply 0 0 n, settled N h)) nothing
      ∙ ap {B = Answer} (λ (l : List ℕ). (reply 0 0 0, with_sections l (with_waiting (replicate N 0) h))) (sym fit.listed)

pub no_steps_no_change : NoStepsNoChange
unfolding Passed
no_steps_no_change N w h e =
    let fit = accepted_fit N w h (take_steps 0) refl e in
    let was_open : is_open N h ≡ true = passed N w h (take_steps 0) (accepted_none N w h (take_steps 0) e) in
    let is = accepted_outcome N w h (take_steps 0) e ∙ nothing_taken N w h fit was_open in
    (ap (λ (x : Answer). x.0) is, ap (λ (x : Answer). x.1) is)

-- ---- all of them unless the list ran out

module _ (N : ℕ) (h : Memory) where
  -- the steps are at most the budget, and where they are fewer the list is empty then
  steps_given :
      (budget : ℕ) (p : Progress)
      → let t = steps_from budget N h p in
      (t.steps ≤ budget) × (t.steps < budget → is_some (lowest t.reached.list 0) ≡ false)
  unfolding steps_from is_some
  steps_given zero p = (omega arith, λ l. absurd (omega arith))
  steps_given (suc k) p = go (λ q. steps_given k q) (lowest p.list 0) refl
    where
      go : ((q : Progress) → let t = steps_from k N h q in (t.steps ≤ k) × (t.steps < k → is_some (lowest t.reached.list 0) ≡ false))
          → (o : Option ℕ) → lowest p.list 0 ≡ o
          → let t : StepsTaken = elim o [
            | none ↦ taken 0 p
            | some x ↦ let t = steps_from k N h (scanned N h p x) in taken (suc t.steps) t.reached
          ] in
          (t.steps ≤ suc k) × (t.steps < suc k → is_some (lowest t.reached.list 0) ≡ false)
      go rest none e = (omega arith, λ l. ap is_some e)
      go rest (some x) e = let more = rest (scanned N h p x) in (omega (arith, more.0), λ l. more.1 (omega arith))

  -- a call that leaves the list empty leaves none open
  shut_after : (w budget : ℕ) (p : Progress) → 0 < budget → is_some (lowest p.list 0) ≡ false → is_open N (stepped N w h budget p) ≡ false
  unfolding stepped closes closed
  shut_after w budget p positive empty =
      rw (lt-ltb 0 budget positive, empty, stepped) (none_after N (unmarked_freed N w p.marks h))

pub all_unless_ran_out : AllUnlessRanOut
unfolding outcome
all_unless_ran_out N w h budget e =
    let given = steps_given N h budget (progress_of N h) in
    let t : StepsTaken = steps_from budget N h (progress_of N h) in
    subst
    (λ (x : Answer). (x.0.value ≤ budget) × (x.0.value < budget → is_open N x.1 ≡ false))
    (sym (accepted_outcome N w h (take_steps budget) e))
    (given.0, λ l. shut_after N h w budget t.reached (omega arith) (given.1 l))
