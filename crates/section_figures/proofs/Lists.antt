-- The list of figures: that its known ones are all, what a search through it finds, and that the true list is coherent.
use mathlib.Core.Path.{◌≡◌, refl, sym, ap, ◌∙◌}
use mathlib.Core.Logic.{◌≢◌, inl}
use mathlib.Core.Bool.{Bool, true, false, not}
use mathlib.Core.List.{List}
use Prim.Native.Nat.{ℕ, ◌≤◌, ◌<◌}
use native.Mathlib.Omega.{arith}
use lib.ListN.{length, get_or}
use lib.Dec.{eqb}
use Rattle.rules.specs.Heap.{is_blocks, section_count}
use Rattle.rules.specs.Sections.{figure, figures, stale_figures}
use borrow.Author.Tests.{eq-eqb, ne_eqb}
use Rattle.rules.proofs.Tests.{true_some, false_some}
use Rattle.rules.proofs.TrueList.{length_figures, figure_at, true_list}
use Rattle.section_figures.specs.Figures.{Coherent, Renewed}

pub renewed_all : (N : ℕ) (a sections : List ℕ) (s : ℕ) → Renewed N a sections s → section_count N ≤ s → sections ≡ figures N a
renewed_all N a sections s r end = true_list N a sections r.rest.length_is (λ j l. r.known j (omega (arith, r.within)))

-- a search through the list that finds a number which is not its section's figure
pub found_stale :
    (N : ℕ) (a sections : List ℕ) (found : Bool) → length sections ≡ section_count N
    → (found ≡ true → (s : ℕ) × (s < length sections) × (get_or sections s 0 ≢ figure N a s))
    → (found ≡ false → (s : ℕ) → s < length sections → get_or sections s 0 ≡ figure N a s) → found ≡ stale_figures N a sections
unfolding stale_figures
found_stale N a sections true long hit none =
    let at = hit refl in
    sym (true_some (λ s. not (eqb (get_or sections s 0) (figure N a s))) (section_count N) at.0 (omega (arith, at.1)) (ap not (ne_eqb (get_or sections at.0 0) (figure N a at.0) at.2)))
found_stale N a sections false long hit none =
    sym (false_some (λ s. not (eqb (get_or sections s 0) (figure N a s))) (section_count N) (λ s l. ap not (eq-eqb (get_or sections s 0) (figure N a s) (none refl s (omega arith)))))

-- the true list is coherent
pub coherent_true : (N : ℕ) (a sections : List ℕ) → is_blocks N ≡ true → sections ≡ figures N a → Coherent N a sections
coherent_true N a sections blocks e = record {
  blocks = blocks;
  length_is = ap length e ∙ length_figures N a;
  each = λ s l. inl (ap (λ (x : List ℕ). get_or x s 0) e ∙ figure_at N a s l);
}
