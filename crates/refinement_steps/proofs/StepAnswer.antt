-- The answer of steps, and that of the code: where the list has not run out, and where the collection closes.
use mathlib.Core.Path.{◌≡◌, refl, sym, ap, ◌∙◌}
use mathlib.Core.Bool.{Bool, true, false}
use mathlib.Core.List.{List, []}
use Prim.Native.Nat.{ℕ, ◌+◌, ◌-◌, ◌/◌, ◌<◌}
use native.Mathlib.Decide.{dec_lt}
use native.Mathlib.Omega.{arith}
use lib.ListN.{length, replicate}
use Rattle.bitmap.specs.Bit.{zeros}
use Rattle.rules.specs.Heap.{Memory, with_roots, with_waiting, with_sections, with_marks, with_list}
use Rattle.rules.specs.Sections.{figures}
use Rattle.rules_stores.specs.Collection.{marked}
use Rattle.rules_steps.specs.Steps.{is_open, map_of, with_progress, with_none, Progress, progress_of, StepsTaken, steps_from, unmarked_freed, closed, closes, stepped}
use Rattle.rules_calls.specs.Calls.{take_steps, reply, settled, outcome, answer}
use Rattle.rules_calls.specs.Promise.{Promise}
use Rattle.types.specs.declared.Reply.{Reply}
use Rattle.rules.proofs.Tests.{false_unless}
use Rattle.rules_calls.proofs.Replies.{Passed}
use Rattle.rules_calls.proofs.Promised.{promised}
use Rattle.rules_steps.proofs.Progress.{map_of_test, map_of_past}
use Rattle.rules_calls.proofs.Unread.{beside}
use Rattle.step_list.specs.Lists.{is_set}
use Rattle.step_advance.specs.Steps.{progress_at, steps_by, Holding}
use Rattle.count_up.specs.Ready.{part_memory}
use Rattle.step_close.specs.Close.{close_below, close_blocks, released, released_after, untouched}
use Rattle.theory_graphs.proofs.Graphs.Tidy.{Tidy}
use Rattle.theory_memories.proofs.Memories.View.{view}
use Rattle.theory_memories.proofs.Memories.Healthy.{Healthy}
use Rattle.theory_memories.proofs.Memories.Fit.{Fit}
use Rattle.theory_memories.proofs.Memories.TidyHeap.{some_inside}
use Rattle.theory_memories.proofs.Memories.Scanning.{progress_tidy, steps_from_open, list_empty}
use Rattle.theory_memories.proofs.Memories.Accepted.{fit_accepted}
use Rattle.theory_memories.specs.Heaps.{Usable}
use Rattle.theory.proofs.Usable.UsableHeap.{usable_fit}
use Rattle.refinement_steps.proofs.StepsSame.{code_names, steps_same, progress_same}
use Rattle.refinement_steps.proofs.CloseSame.{close_left}
use Rattle.refinement_steps.proofs.CloseBlocks.{close_blocks_are}

module _ {N w : ℕ} {h : Memory} (budget : ℕ) (usable : Usable N w h) (was_open : is_open N h ≡ true) where
  fit : Fit N w h
  fit = usable_fit usable

  healthy : Healthy N w h
  healthy = fit.healthy

  -- the steps of the code and of the rules
  abbrev coded : StepsTaken
  coded = steps_by budget N (code_names N w h (usable_fit usable).healthy) (progress_at N h.marks h.list)

  abbrev all : StepsTaken
  all = steps_from budget N h (progress_of N h)

  coded_is : coded ≡ all
  coded_is =
      ap (steps_by budget N (code_names N w h healthy)) (progress_same N h)
      ∙ steps_same N w h healthy budget (progress_of N h) (progress_tidy N w h healthy was_open fit.tidy)

  abbrev reached : Progress
  reached = all.reached

  tidy : Tidy (length h.roots) (view N w h) (marked reached.marks) (marked reached.list)
  tidy = (steps_from_open N w h healthy was_open fit.tidy budget).tidy

  answered : answer N w h (take_steps budget)
      ≡ (reply 0 all.steps (zeros (stepped N w h budget reached).a - zeros h.a), settled N (stepped N w h budget reached))
  unfolding outcome Passed
  answered = fit_accepted N w h fit (take_steps budget) refl was_open

  module _ {steps : ℕ} {done : Bool} {marks list : List ℕ} (counted : steps ≡ coded.steps) (told : done ≡ closes budget coded.reached)
      (holds : Holding N coded.reached h.marks marks list) where
    closes_is : done ≡ closes budget reached
    closes_is = told ∙ ap (λ (t : StepsTaken). closes budget t.reached) coded_is

    steps_are : steps ≡ all.steps
    steps_are = counted ∙ ap (λ (t : StepsTaken). t.steps) coded_is

    marks_are : marks ≡ map_of h.marks (marked reached.marks) N
    marks_are = holds.marks_are ∙ ap (λ (t : StepsTaken). map_of h.marks (marked t.reached.marks) N) coded_is

    -- ---- the list has not run out

    goes_on : done ≡ false → with_marks marks (with_list list h) ≡ stepped N w h budget reached
    unfolding stepped with_progress
    goes_on e =
        let progressed : Memory = with_progress N (marked reached.marks) (marked reached.list) h in
        let left : with_marks marks (with_list list h) ≡ with_progress N (marked coded.reached.marks) (marked coded.reached.list) h =
        λ i. with_marks (holds.marks_are i) (with_list (holds.list_is i) h) in
        left ∙ ap (λ (t : StepsTaken). with_progress N (marked t.reached.marks) (marked t.reached.list) h) coded_is
        ∙ rw (sym closes_is ∙ e, stepped)

    pub steps_promised : done ≡ false → {x : Reply} → x ≡ reply 0 steps 0 → Promise N w (take_steps budget) h x (with_marks marks (with_list list h))
    steps_promised e {x} replied =
        let end : Memory = stepped N w h budget reached in
        let same_map : h.a ≡ end.a = ap (λ (m : Memory). m.a) (goes_on e) in
        let none : 0 ≡ zeros end.a - zeros h.a = omega (arith, ap zeros same_map) in
        let listed : h.sections ≡ figures N end.a = fit.listed ∙ ap (figures N) same_map in
        let idle = usable.idle in
        let kept : with_marks marks (with_list list h) ≡ settled N end =
        ap (λ (s : List ℕ). with_sections s (with_marks marks (with_list list h))) listed
        ∙ ap (λ (v : List ℕ). with_sections (figures N end.a) (with_waiting v (with_marks marks (with_list list h)))) idle
        ∙ ap (λ (m : Memory). with_sections (figures N end.a) (with_waiting (replicate N 0) m)) (goes_on e) in
        promised N w h (take_steps budget) (reply 0 all.steps (zeros end.a - zeros h.a), settled N end) answered x (with_marks marks (with_list list h))
        (replied ∙ (λ i. reply 0 (steps_are i) (none i))) kept

    -- ---- it has, and the collection closes

    inside : (b : ℕ) → marked reached.marks b ≡ true → b < N
    inside b m = some_inside N w h b (tidy.objects b m)

    agrees : (i : ℕ) → marked reached.marks i ≡ is_set marks i
    agrees i =
        elim (dec_lt i N) [
          | yes l ↦
              sym (map_of_test h.marks (marked reached.marks) N i (omega (arith, healthy.shape.length_marks, healthy.shape.whole_bytes)) l)
              ∙ ap (λ (m : List ℕ). is_set m i) (sym marks_are)
          | no l ↦
              false_unless (marked reached.marks i) (λ m. l (inside i m))
              ∙ sym (map_of_past h.marks (marked reached.marks) N i (omega (arith, healthy.shape.length_marks, healthy.shape.whole_bytes)))
              ∙ ap (λ (m : List ℕ). is_set m i) (sym marks_are)
        ]

    ends : done ≡ true → closed N w reached.marks h ≡ stepped N w h budget reached
    unfolding stepped
    ends e = rw (sym closes_is ∙ e, stepped)

    -- k is what is left, and `freed` the number of blocks counted
    pub close_promised : done ≡ true → (k : Memory) {freed : ℕ} {x : Reply}
        → part_memory k.a k.b k.counts k.cells [] k.d
        ≡ released N w (close_below N w marks (untouched h.a h.b h.counts h.cells h.d) N)
        → freed ≡ close_blocks N w marks (untouched h.a h.b h.counts h.cells h.d) N
        + released_after N w (close_below N w marks (untouched h.a h.b h.counts h.cells h.d) N)
        → k.roots ≡ h.roots → k.waiting ≡ replicate N 0 → k.sections ≡ figures N k.a → k.marks ≡ replicate (N / 8) 0
        → k.list ≡ replicate (N + 1) 0 → x ≡ reply 0 steps freed → Promise N w (take_steps budget) h x k
    unfolding closed with_none
    close_promised e k {freed} {x} left blocks roots idle listed cleared emptied replied =
        let end : Memory = stepped N w h budget reached in
        let u : Memory = unmarked_freed N w reached.marks h in
        let beside_is : beside (λ _. h) (part_memory k.a k.b k.counts k.cells [] k.d) ≡ u =
        close_left N w h healthy reached.marks marks agrees inside left in
        let freed_is : freed ≡ zeros u.a - zeros h.a =
        close_blocks_are N w h healthy reached.marks marks agrees inside
        (list_empty N w h healthy was_open fit.tidy budget reached tidy (sym closes_is ∙ e)) blocks in
        let second : freed ≡ zeros end.a - zeros h.a = freed_is ∙ ap (λ (m : Memory). zeros m.a - zeros h.a) (ends e) in
        let kept : k ≡ settled N (with_none N (beside (λ _. h) (part_memory k.a k.b k.counts k.cells [] k.d))) =
        λ i. with_sections (listed i) (with_waiting (idle i) (with_marks (cleared i) (with_list (emptied i) (with_roots (roots i) k)))) in
        promised N w h (take_steps budget) (reply 0 all.steps (zeros end.a - zeros h.a), settled N end) answered x k
        (replied ∙ (λ i. reply 0 (steps_are i) (second i)))
        (kept ∙ ap (λ (m : Memory). settled N (with_none N m)) beside_is ∙ ap (settled N) (ends e))
