-- A usable heap is fit, and an undamaged one is usable once its waiting list is cleared. And what the work of a call leaves, from what it left
-- beside its list of sections.
use mathlib.Core.Path.{◌≡◌, refl, sym, ap, ◌∙◌}
use mathlib.Core.List.{List}
use Prim.Native.Nat.{ℕ}
use lib.ListN.{length-replicate, replicate}
use Rattle.rules.specs.Heap.{Memory, with_waiting, with_sections}
use Rattle.rules.specs.Damage.{end_on_free, open_end, unaligned, bad_cell, bad_root, bad_count, stray_data, damage}
use Rattle.rules.specs.Sections.{figures}
use Rattle.rules_calls.specs.Calls.{settled}
use Rattle.rules.proofs.Shape.{shape_facts, shape_test}
use Rattle.theory_memories.specs.Heaps.{Undamaged}
use Rattle.theory_memories.proofs.Memories.Healthy.{Healthy}
use Rattle.theory_memories.proofs.Memories.Fit.{Fit, undamaged_fit}
use Rattle.theory_memories.proofs.Memories.ViewRelease.{reshaped}
use Rattle.theory_memories.proofs.Memories.TidyHeap.{waiting_untidy}
use Rattle.theory_memories.specs.Heaps.{Usable}

module _ {N w : ℕ} {h : Memory} where
  pub cleared_usable : Undamaged N w h → Usable N w (with_waiting (replicate N 0) h)
  unfolding damage end_on_free open_end unaligned bad_cell bad_root bad_count stray_data
  cleared_usable fit =
      let facts = shape_facts N w h fit.intact.right_shape in
      let cleared : Memory = with_waiting (replicate N 0) h in
      record {
        undamaged = record {
          intact = record {
            right_shape =
                shape_test N w cleared
                (reshaped N w h cleared facts refl refl refl refl refl (length-replicate N 0 ∙ sym facts.length_waiting) refl refl refl refl);
            no_damage = fit.intact.no_damage;
          };
          true_list = fit.true_list;
          tidy = waiting_untidy N (replicate N 0) h ∙ fit.tidy;
        };
        idle = refl;
      }

  module _ (usable : Usable N w h) where
    pub cleared_same : with_waiting (replicate N 0) h ≡ h
    cleared_same = ap (λ (x : List ℕ). with_waiting x h) (sym usable.idle)

    pub usable_fit : Fit N w h
    usable_fit = undamaged_fit N w h usable.undamaged

    pub usable_healthy : Healthy N w h
    usable_healthy = usable_fit.healthy

    -- what a call leaves, from what it left beside its list of sections: it handed the waiting list on, and the list is true
    pub left_settled :
        {sections : List ℕ} {g k : Memory} → with_sections sections g ≡ k → k ≡ with_waiting h.waiting k
        → g.sections ≡ figures N g.a → g ≡ settled N k
    left_settled {sections} {g} {k} left unread listed =
        ap (λ (x : List ℕ). with_sections x g) listed
        ∙ ap (λ (m : Memory). with_sections (figures N m.a) m) (left ∙ unread ∙ ap (λ (x : List ℕ). with_waiting x k) usable.idle)
