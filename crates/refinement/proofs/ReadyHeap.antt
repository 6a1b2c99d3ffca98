-- The work of a call is handed a usable memory: it is ready for what the work calls, and where nothing was freed the list of sections is left
-- true.
use mathlib.Core.Path.{◌≡◌, refl, sym, ap, ◌∙◌, subst}
use mathlib.Core.List.{List}
use Prim.Native.Nat.{ℕ}
use lib.ListN.{replicate}
use Rattle.rules.specs.Heap.{Memory, with_waiting}
use Rattle.rules.specs.Sections.{figures}
use Rattle.rules.proofs.Shape.{shaped_blocks}
use Rattle.section_figures.specs.Figures.{Upkeep}
use Rattle.section_figures.proofs.Lists.{coherent_true}
use Rattle.count_up.specs.Ready.{Ready}
use Rattle.theory_memories.specs.Heaps.{Usable}
use Rattle.theory_memories.proofs.Memories.Fit.{Fit}
use Rattle.theory.proofs.Usable.UsableHeap.{cleared_same, usable_fit}

fit_ready : (N w : ℕ) (h : Memory) → Fit N w h → Ready N w (with_waiting (replicate N 0) h)
fit_ready N w h fit =
    let shape = fit.healthy.shape in
    record {
      planes =
          record {
            eighths = sym shape.whole_bytes;
            most = shape.blocks_max;
            some = shape.width_min;
            width = shape.width_max;
            length_is = shape.length_counts;
          };
      extents = record {
        a_length = shape.length_a;
        b_length = shape.length_b;
        cells_length = shape.length_cells;
        d_length = shape.length_d;
      };
      idle = refl;
      coherent = coherent_true N h.a h.sections (shaped_blocks N w h shape) fit.listed;
      marks_length = shape.length_marks;
      list_length = shape.length_list;
    }

module _ {N w : ℕ} {h : Memory} (usable : Usable N w h) where
  pub usable_ready : Ready N w h
  usable_ready = subst (λ (g : Memory). Ready N w g) (cleared_same usable) (fit_ready N w h (usable_fit usable))

  -- where nothing was freed, the list is the true one still
  pub list_untouched : {freed : ℕ} {a sections : List ℕ} → Upkeep N freed h.a h.sections a sections → freed ≡ 0 → sections ≡ figures N a
  list_untouched upkeep none =
      let same = upkeep.untouched none in
      same.1 ∙ (usable_fit usable).listed ∙ ap (figures N) (sym same.0)
