-- The figures of a heap without objects: every section is one free chunk.
use mathlib.Core.Path.{◌≡◌, ap, sym, ◌∙◌}
use mathlib.Core.Bool.{true}
use mathlib.Core.List.{List}
use Prim.Native.Nat.{ℕ, ◌+◌, ◌*◌, ◌/◌, ◌<◌}
use native.Mathlib.Decide.{ℕ_discrete}
use native.Mathlib.Omega.{arith}
use lib.ListN.{length, get_or, set, replicate}
use Rattle.std.proofs.lemmas.List.{length-replicate, get_or-replicate}
use lib.Seq.{get_or-set_same, get_or-set_other}
use Rattle.bitmap.proofs.Maps.{bit_all_zero}
use Rattle.rules.specs.Heap.{is_blocks, exponent, section_length, section_count}
use Rattle.rules.specs.Sections.{figure, figures}
use Rattle.rules.proofs.Chunks.{free_chunk}
use Rattle.rules.proofs.Figures.{figure_free}
use Rattle.rules.proofs.Sections.{divided}
use Rattle.rules.proofs.TrueList.{true_list}

whole_section : (N s : ℕ) → is_blocks N ≡ true → figure N (replicate (N / 8) 0) s ≡ section_length N
unfolding figure
whole_section N s blocks =
    figure_free (exponent (section_length N)) (replicate (N / 8) 0) (s * section_length N)
    (free_chunk (exponent (section_length N)) (replicate (N / 8) 0) (s * section_length N) (λ j l u. bit_all_zero (N / 8) j))
    ∙ (divided N blocks).exponent_is

-- the first s numbers are a section's length
pub record Filled (size s : ℕ) (sections : List ℕ) : Type 0 where
  pub full : (j : ℕ) → j < s → get_or sections j 0 ≡ size

pub filled_start : (size : ℕ) (sections : List ℕ) → Filled size 0 sections
filled_start size sections = record { full = λ j l. absurd (omega arith) }

pub filled_next : (size s : ℕ) (sections : List ℕ) → s < length sections → Filled size s sections → Filled size (s + 1) (set sections s size)
filled_next size s sections inside filled = record {
  full = λ j l. elim (ℕ_discrete j s) [
    | yes e ↦ ap (λ (x : ℕ). get_or (set sections s size) x 0) e ∙ get_or-set_same sections s size 0 inside
    | no m ↦ get_or-set_other sections s j size 0 m ∙ filled.full j (omega arith)
  ];
}

pub whole_sections :
    (N size n : ℕ) → is_blocks N ≡ true → n ≡ section_count N → size ≡ section_length N → replicate n size ≡ figures N (replicate (N / 8) 0)
whole_sections N size n blocks long size_is =
    true_list N (replicate (N / 8) 0) (replicate n size) (length-replicate n size ∙ long)
    (λ j l. get_or-replicate n j size 0 (omega arith) ∙ size_is ∙ sym (whole_section N j blocks))
