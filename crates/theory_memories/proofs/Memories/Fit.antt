-- What is carried from call to call: a healthy memory whose list of sections is true and whose marks and
-- second list are as they have to be. Exactly the memories that no test of the heap refuses (numbers 1, 2, 11
-- and 13) are fit.
use mathlib.Core.Path.{◌≡◌, refl, ap, ◌∙◌}
use mathlib.Core.Bool.{false}
use Prim.Native.Nat.{ℕ}
use lib.ListN.{length}
use Rattle.rules.specs.Heap.{Memory}
use Rattle.rules.specs.Sections.{figures, stale_figures}
use Rattle.rules_stores.specs.Store.{formatted}
use Rattle.rules_steps.specs.Steps.{is_untidy, with_none}
use Rattle.rules.proofs.Shape.{Shaped}
use Rattle.rules.proofs.TrueList.{fresh_true, true_fresh}
use Rattle.theory_memories.specs.Heaps.{Undamaged}
use Rattle.theory_memories.proofs.Memories.Healthy.{Healthy, healthy_facts, healthy_shaped, healthy_no_damage}
use Rattle.theory_memories.proofs.Memories.Formatted.{formatted_healthy}
use Rattle.theory_memories.proofs.Memories.TidyHeap.{closed_passes}

-- "holds the size of its largest free aligned chunk", for each section
abbrev pub Listed : ℕ → Memory → Type 0
Listed N h = h.sections ≡ figures N h.a

pub record Fit (N w : ℕ) (h : Memory) : Type 0 where
  pub healthy : Healthy N w h
  pub listed : Listed N h
  pub tidy : is_untidy N h ≡ false

pub undamaged_fit : (N w : ℕ) (h : Memory) → Undamaged N w h → Fit N w h
undamaged_fit N w h u =
    let healthy = healthy_facts N w h u.intact.right_shape u.intact.no_damage in
    record {
      healthy = healthy;
      listed = fresh_true N h.a h.sections healthy.shape.length_sections u.true_list;
      tidy = u.tidy;
    }

pub fit_undamaged : (N w : ℕ) (h : Memory) → Fit N w h → Undamaged N w h
fit_undamaged N w h fit =
    record {
      intact = record { right_shape = healthy_shaped N w h fit.healthy; no_damage = healthy_no_damage N w h fit.healthy };
      true_list = ap (stale_figures N h.a) fit.listed ∙ true_fresh N h.a;
      tidy = fit.tidy;
    }

pub formatted_fit : (N w : ℕ) (h : Memory) → Shaped N w h → Fit N w (formatted N w (length h.roots))
unfolding formatted with_none
formatted_fit N w h shape =
    record { healthy = formatted_healthy N w h shape; listed = refl; tidy = closed_passes N (formatted N w (length h.roots)) }
