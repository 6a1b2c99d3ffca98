-- The list of sections' figures (request U4): one that is not stale is the true list, and the true list is not stale.
use mathlib.Core.Path.{◌≡◌, sym, ◌∙◌}
use mathlib.Core.Bool.{not, false}
use mathlib.Core.List.{List}
use Prim.Native.Nat.{ℕ, ◌<◌}
use native.Mathlib.Omega.{arith}
use lib.Dec.{eqb}
use lib.ListN.{length, get_or}
use lib.Seq.{ext_get_or}
use borrow.Author.Tests.{eqb-true, eq-eqb, not-false}
use Rattle.rules.specs.Heap.{section_count}
use Rattle.rules.specs.Sections.{figure, figures, stale_figures}
use Rattle.rules.proofs.Tests.{some_false, false_some}
use Rattle.rules.proofs.Tabulate.{length_tabulate, get_d_tabulate}

pub length_figures : (N : ℕ) (a : List ℕ) → length (figures N a) ≡ section_count N
unfolding figures
length_figures N a = length_tabulate (section_count N) (figure N a)

pub figure_at : (N : ℕ) (a : List ℕ) (s : ℕ) → s < section_count N → get_or (figures N a) s 0 ≡ figure N a s
unfolding figures
figure_at N a s l = get_d_tabulate 0 (section_count N) (figure N a) s l

-- a list that has each section's figure is the true list
pub true_list :
    (N : ℕ) (a sections : List ℕ) → length sections ≡ section_count N
    → ((s : ℕ) → s < section_count N → get_or sections s 0 ≡ figure N a s) → sections ≡ figures N a
true_list N a sections long each =
    ext_get_or 0 sections (figures N a) (long ∙ sym (length_figures N a))
    (λ s l. each s (omega arith) ∙ sym (figure_at N a s (omega arith)))

pub fresh_true : (N : ℕ) (a sections : List ℕ) → length sections ≡ section_count N → stale_figures N a sections ≡ false → sections ≡ figures N a
unfolding stale_figures
fresh_true N a sections long fresh =
    true_list N a sections long
    (λ s l.
    eqb-true (get_or sections s 0) (figure N a s)
    (not-false (eqb (get_or sections s 0) (figure N a s))
    (some_false (λ s. not (eqb (get_or sections s 0) (figure N a s))) (section_count N) fresh s l)))

pub true_fresh : (N : ℕ) (a : List ℕ) → stale_figures N a (figures N a) ≡ false
unfolding stale_figures
true_fresh N a =
    false_some (λ s. not (eqb (get_or (figures N a) s 0) (figure N a s))) (section_count N)
    (λ s l. rw (eq-eqb (get_or (figures N a) s 0) (figure N a s) (figure_at N a s l)))
