-- Letting go, as the rules have it, touches neither the roots, the waiting list, the list of sections, the mark map nor the second list: it
-- is the same whatever stands there, and so are the blocks that it frees and the marks that code writes beside it.
use mathlib.Core.Path.{◌≡◌, refl, sym, ap, ◌∙◌}
use mathlib.Core.Bool.{Bool}
use mathlib.Core.List.{List, [], ◌∷◌}
use Prim.Native.Nat.{ℕ, zero, suc, ◌+◌}
use lib.ListN.{replicate}
use Rattle.rules.specs.Heap.{Memory, with_a, with_b, with_counts, with_cells, with_waiting, with_d, size_at}
use Rattle.rules_stores.specs.Store.{Work, work, count_down, freed, naming_cells, work_after, memory_after, release, let_go}
use Rattle.rules_calls.proofs.Unread as unread
use Rattle.rules_calls.proofs.Unread.{beside, release_beside}
use Rattle.count_up.specs.Stack.{top_first}
use Rattle.step_marks.specs.Marks.{freed_marks}
use Rattle.release.specs.Blocks.{part, released_blocks, let_go_blocks}
use Rattle.release.specs.Marks.{released_marks, let_go_marks}

released_beside : (N w : ℕ) (other : Memory → Memory) (f : ℕ) (h : Memory) (stack : List ℕ)
    → released_blocks f N w (beside other h) stack ≡ released_blocks f N w h stack
unfolding released_blocks freed
released_beside N w other zero h stack = refl
released_beside N w other (suc f) h [] = refl
released_beside N w other (suc f) h (i ∷ rest) =
    ap (λ (k : ℕ). size_at N h i + k) (released_beside N w other f (memory_after N w h i rest) (work_after N w h i rest).stack)

released_marks_beside :
    (N w : ℕ) (other : Memory → Memory) (shade : Bool) (f : ℕ) (h : Memory) (stack marks : List ℕ)
    → released_marks shade f N w (beside other h) stack marks ≡ released_marks shade f N w h stack marks
unfolding released_marks freed
released_marks_beside N w other shade zero h stack marks = refl
released_marks_beside N w other shade (suc f) h [] marks = refl
released_marks_beside N w other shade (suc f) h (i ∷ rest) marks =
    released_marks_beside N w other shade f (memory_after N w h i rest) (work_after N w h i rest).stack
    (freed_marks shade N marks h.cells i (naming_cells h.d i (size_at N h i)))

-- ---- letting go, in the code's two steps: v counted down on an empty stack, then what waits is freed

module _ (N w : ℕ) (h : Memory) (v : ℕ) {counts stack : List ℕ}
    (down : work counts stack ≡ count_down N w (work h.counts (top_first h.waiting 0)) v) where
  -- what the second step starts from; the waiting list is stated apart
  abbrev handed : Memory
  handed = with_waiting [] (with_counts counts h)

  pub let_go_done : {g : Memory} {waiting : List ℕ} → g ≡ release N N w handed stack → h.waiting ≡ replicate N 0 → waiting ≡ replicate N 0
      → with_waiting waiting g ≡ let_go N w h v
  unfolding let_go top_first
  let_go_done {waiting = waiting} released idle idle' =
      ap (with_waiting waiting) released
      ∙ sym (release_beside N w (with_waiting waiting) N handed stack)
      ∙ ap (λ (x : List ℕ). release N N w (with_waiting x handed) stack) (idle' ∙ sym idle)
      ∙ ap (λ (s : Work). release N N w (with_counts s.counts h) s.stack) down

  pub let_go_blocks_done : {n : ℕ} → n ≡ released_blocks N N w handed stack → n ≡ let_go_blocks N w h v
  unfolding let_go_blocks top_first
  let_go_blocks_done released =
      released
      ∙ sym (released_beside N w (with_waiting h.waiting) N handed stack)
      ∙ ap (λ (s : Work). released_blocks N N w (with_counts s.counts h) s.stack) down

  pub let_go_marks_done : (shade : Bool) (marks : List ℕ) {marks' : List ℕ} → marks' ≡ released_marks shade N N w handed stack marks
      → marks' ≡ let_go_marks shade N w h v marks
  unfolding let_go_marks top_first
  let_go_marks_done shade marks released =
      released
      ∙ sym (released_marks_beside N w (with_waiting h.waiting) shade N handed stack marks)
      ∙ ap (λ (s : Work). released_marks shade N N w (with_counts s.counts h) s.stack marks) down

-- ---- the same beside the other lists

-- h with the lists that are lent to it, as g has them
abbrev pub lent_again : Memory → Memory → Memory
lent_again h g =
    with_a g.a (with_b g.b (with_counts g.counts (with_cells g.cells (with_waiting g.waiting (with_d g.d h)))))

pub let_go_beside : (N w : ℕ) (h : Memory) (v : ℕ) {g : Memory} → g ≡ let_go N w (part h) v → lent_again h g ≡ let_go N w h v
let_go_beside N w h v e = ap (lent_again h) e ∙ sym (unread.let_go_beside N w (lent_again h) (part h) v)

pub let_go_blocks_beside : (N w : ℕ) (h : Memory) (v : ℕ) {n : ℕ} → n ≡ let_go_blocks N w (part h) v → n ≡ let_go_blocks N w h v
unfolding let_go_blocks
let_go_blocks_beside N w h v e =
    let s = count_down N w (work h.counts []) v in
    e ∙ sym (released_beside N w (lent_again h) N (with_counts s.counts (part h)) s.stack)

pub let_go_marks_beside : (shade : Bool) (N w : ℕ) (h : Memory) (v : ℕ) (marks : List ℕ) {marks' : List ℕ}
    → marks' ≡ let_go_marks shade N w (part h) v marks → marks' ≡ let_go_marks shade N w h v marks
unfolding let_go_marks
let_go_marks_beside shade N w h v marks e =
    let s = count_down N w (work h.counts []) v in
    e ∙ sym (released_marks_beside N w (lent_again h) shade N (with_counts s.counts (part h)) s.stack marks)
