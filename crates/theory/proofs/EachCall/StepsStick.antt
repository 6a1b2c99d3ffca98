-- Steps and the close bring no count to the capacity (requests U5 and U8): counts only fall there.
use mathlib.Core.Path.{◌≡◌, refl, sym, ap, ◌∙◌}
use mathlib.Core.Bool.{Bool, true, false}
use mathlib.Core.List.{List}
use Prim.Native.Nat.{ℕ, ◌<◌}
use native.Mathlib.Decide.{ℕ_discrete}
use native.Mathlib.Omega.{arith}
use lib.ListN.{length}
use Rattle.rules.specs.Heap.{Memory, capacity, count_of, is_first}
use Rattle.rules_stores.specs.Collection.{marked}
use Rattle.rules_steps.specs.Steps.{is_open, with_progress, with_none, Progress, progress_of, steps_from, unmarked_freed, closed, closes, stepped}
use Rattle.rules_calls.specs.Calls.{take_steps, outcome, answer}
use Rattle.rules.proofs.Objects.{first_facts}
use Rattle.rules_calls.proofs.Replies.{answer_either, Passed, passed}
use Rattle.theory_graphs.proofs.Graphs.Graph.{Graph, size, count}
use Rattle.theory_graphs.proofs.Graphs.Tidy.{Tidy}
use Rattle.theory_memories.proofs.Memories.View.{view}
use Rattle.theory_memories.proofs.Memories.Healthy.{view_count}
use Rattle.theory_memories.proofs.Memories.Fit.{Fit}
use Rattle.theory_memories.proofs.Memories.Stores.{positive}
use Rattle.theory_memories.proofs.Memories.ViewClose as close
use Rattle.theory_memories.proofs.Memories.ViewClose.{close_shows, close_whole, close_lowered}
use Rattle.theory_memories.proofs.Memories.Scanning.{steps_from_open, list_empty}

module _ (N w : ℕ) (h : Memory) (fit : Fit N w h) (b : ℕ) (first : is_first N h b ≡ true) (low : count_of N w h b < capacity w) where
  inside : b < N
  inside = (first_facts N h.a h.b b first).inside

  close_sticks_none : (marks : List Bool) → Tidy (length h.roots) (view N w h) (marked marks) (λ b. false) → count_of N w (unmarked_freed N w marks h) b < capacity w
  close_sticks_none marks tidy =
      let after : Graph = close.after N w h fit.healthy marks tidy in
      let same : count_of N w (unmarked_freed N w marks h) b ≡ count after b =
      sym (view_count N w (unmarked_freed N w marks h) b inside) ∙ ap (λ (k : Graph). count k b) (close_shows N w h fit.healthy marks tidy).view_is in
      elim (ℕ_discrete (size after b) 0) [
        | yes z ↦ omega (arith, same, ((close_whole N w h fit.healthy marks tidy).balanced b).absent z, positive N w h fit.healthy)
        | no n ↦ omega (arith, same, close_lowered N w h fit.healthy marks tidy b n, view_count N w h b inside, low)
      ]

  steps_stick : (budget : ℕ) → is_open N h ≡ true → count_of N w (outcome N w h (take_steps budget)).1 b < capacity w
  unfolding outcome stepped closed with_none with_progress
  steps_stick budget was_open = go (closes budget reached) refl
    where
      reached : Progress
      reached = (steps_from budget N h (progress_of N h)).reached

      go : (t : Bool) → closes budget reached ≡ t
          → count_of N w (elim t [ true ↦ closed N w reached.marks h | false ↦ with_progress N (marked reached.marks) (marked reached.list) h ]) b
          < capacity w
      go true e =
          close_sticks_none reached.marks
          (list_empty N w h fit.healthy was_open fit.tidy budget reached (steps_from_open N w h fit.healthy was_open fit.tidy budget).tidy e)
      go false e = low

  pub steps_stick_none : (budget : ℕ) → count_of N w (answer N w h (take_steps budget)).1 b < capacity w
  unfolding Passed
  steps_stick_none budget =
      answer_either N w h (take_steps budget) (λ x. count_of N w x.1 b < capacity w) (λ number nonzero. low)
      (λ e. steps_stick budget (passed N w h (take_steps budget) e))
