-- The collection as a marking and a sweep that each know only some of the buffers.
use mathlib.Core.Path.{◌≡◌, refl, sym, ap, ap₂, ◌∙◌}
use mathlib.Core.List.{List, []}
use Prim.Native.Nat.{ℕ, zero, suc, ◌+◌}
use lib.ListN.{replicate}
use Rattle.rules.specs.Heap.{Memory, lent_memory, with_a, with_b, with_counts, with_cells, with_waiting, with_d, size_at}
use Rattle.rules_stores.specs.Store.{freed}
use Rattle.rules.proofs.Tests.{choose_both}
use Rattle.rules_calls.proofs.Unread.{beside}
use Rattle.count_up.specs.Ready.{part_memory}
use Rattle.collect_mark.specs.Mark.{mark_counts}
use Rattle.collect_mark.proofs.Scans.{mark_reads}
use Rattle.collect_sweep.specs.Sweep.{is_unmarked, sweep_one, sweep_one_blocks, sweep, sweep_blocks}
use Rattle.refinement.proofs.Collection.{collect_by, collect_blocks}

-- a sweep carries along whatever stands in the lists that it isn't lent
module _ (N w : ℕ) (other : Memory → Memory) where
  sweep_beside : (h : Memory) (n : ℕ) → sweep N w (beside other h) n ≡ beside other (sweep N w h n)
  unfolding sweep sweep_one is_unmarked freed
  sweep_beside h zero = refl
  sweep_beside h (suc n) =
      let g = sweep N w h n in
      ap (λ (k : Memory). sweep_one N w k n) (sweep_beside h n)
      ∙ choose_both (beside other) (is_unmarked N w g n) (freed N w g n (size_at N g n)) g refl refl

  blocks_beside : (h : Memory) (n : ℕ) → sweep_blocks N w (beside other h) n ≡ sweep_blocks N w h n
  unfolding sweep_blocks sweep_one_blocks is_unmarked
  blocks_beside h zero = refl
  blocks_beside h (suc n) = ap₂ (λ (k : ℕ) (g : Memory). k + sweep_one_blocks N w g n) (blocks_beside h n) (sweep_beside h n)

-- what the marking reads of a memory
abbrev read : Memory → Memory
read h = lent_memory [] h.b [] h.cells h.roots [] [] h.d [] []

-- what the two parts give is the collection, whatever stands in the other lists
module _ (N w : ℕ) (h : Memory) (idle : h.waiting ≡ replicate N 0) {counts waiting : List ℕ}
    (marked : counts ≡ mark_counts N w (read h)) (cleared : waiting ≡ replicate N 0) where
  -- what is handed on to the sweep
  abbrev handed : Memory
  handed = part_memory h.a h.b counts h.cells [] h.d

  -- h with what it leaves, and the waiting list that the marking leaves
  abbrev whole : Memory → Memory
  whole g = with_a g.a (with_b g.b (with_counts g.counts (with_cells g.cells (with_d g.d (with_waiting waiting h)))))

  marked_memory : whole handed ≡ with_counts (mark_counts N w h) h
  marked_memory t =
      with_counts ((marked ∙ mark_reads N w (read h) h) t) (with_waiting ((cleared ∙ sym idle) t) h)

  pub collected_memory : {g : Memory} → g ≡ sweep N w handed N → whole g ≡ collect_by N w h
  unfolding collect_by
  collected_memory swept =
      ap whole swept ∙ sym (sweep_beside N w whole handed N) ∙ ap (λ (g : Memory). sweep N w g N) marked_memory

  pub collected_blocks : {freed : ℕ} → freed ≡ sweep_blocks N w handed N → freed ≡ collect_blocks N w h
  unfolding collect_blocks
  collected_blocks swept =
      swept ∙ sym (blocks_beside N w whole handed N) ∙ ap (λ (g : Memory). sweep_blocks N w g N) marked_memory
