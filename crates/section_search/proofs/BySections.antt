-- The search by sections, as its loop goes, and what the search of one section answers for the heap.
use mathlib.Core.Path.{◌≡◌, refl, sym, ap, ap₂, ◌∙◌}
use mathlib.Core.Bool.{true}
use mathlib.Core.List.{List}
use mathlib.Core.Option.{Option, none, some}
use Rattle.std.specs.Prelude.{Option as CodeOption, None, Some}
use Prim.Native.Nat.{ℕ, zero, suc, ◌+◌, ◌-◌, ◌*◌, ◌/◌, ◌^◌, ◌≤◌, ◌<◌}
use native.Mathlib.Nat.{sub-zero}
use native.Mathlib.Omega.{arith}
use lib.ListN.{length, get_or}
use borrow.Author.Tests.{le-leb, lt-leb}
use Rattle.rules.specs.Heap.{is_blocks, lowest_from, lowest_free, section_length, section_count}
use Rattle.rules.specs.Sections.{figure, figures, suffices_from, lowest_in_section, lowest_by_sections}
use Rattle.rules.proofs.Tabulate.{length_tabulate}
use Rattle.rules.proofs.Sections.{sections_find_lowest, section_has, suffices_facts}
use Rattle.search_walk.specs.Search.{answered, looks_for, lowest_in, Search}
use Rattle.search_walk.proofs.Answered.{answered_some}
use Rattle.search_walk.proofs.LowestChunk.{lowest_whole}
use Rattle.section_search.specs.Search.{looks_in_section, looks_by_sections, Found}

-- ---- the lowest section, as the loop goes: number s is tried, and n - s more

module _ (sections : List ℕ) (size n : ℕ) where
  pub suffices_start : suffices_from (n - 0) sections size 0 ≡ suffices_from n sections size 0
  suffices_start = ap (λ (m : ℕ). suffices_from m sections size 0) (sub-zero n)

  pub suffices_here : (s : ℕ) → s < n → size ≤ get_or sections s 0 → suffices_from (n - s) sections size s ≡ some s
  unfolding suffices_from
  suffices_here s l h =
      let more : n - s ≡ suc (n - (s + 1)) = omega arith in
      ap (λ (m : ℕ). suffices_from m sections size s) more ∙ rw (le-leb size (get_or sections s 0) h, suffices_from)

  pub suffices_next : (s : ℕ) → s < n → get_or sections s 0 < size → suffices_from (n - s) sections size s ≡ suffices_from (n - (s + 1)) sections size (s + 1)
  unfolding suffices_from
  suffices_next s l h =
      let more : n - s ≡ suc (n - (s + 1)) = omega arith in
      ap (λ (m : ℕ). suffices_from m sections size s) more ∙ rw (lt-leb size (get_or sections s 0) h, suffices_from)

  -- m of them passed over, up to number t
  pub suffices_past : (m s t : ℕ) → t ≡ s + m → t ≤ n → ((j : ℕ) → s ≤ j → j < t → get_or sections j 0 < size)
      → suffices_from (n - s) sections size s ≡ suffices_from (n - t) sections size t
  suffices_past zero s t e l less =
      let here : s ≡ t = omega arith in
      ap (λ (x : ℕ). suffices_from (n - x) sections size x) here
  suffices_past (suc m) s t e l less =
      let next : s + m + 1 ≡ t = omega arith in
      suffices_past m s (s + m) refl (omega arith) (λ j p q. less j p (omega arith))
      ∙ suffices_next (s + m) (omega arith) (less (s + m) (omega arith) (omega arith))
      ∙ ap (λ (x : ℕ). suffices_from (n - x) sections size x) next

  pub suffices_none : (s : ℕ) → n ≤ s → suffices_from (n - s) sections size s ≡ none
  unfolding suffices_from
  suffices_none s l =
      let end : n - s ≡ 0 = omega arith in
      ap (λ (m : ℕ). suffices_from m sections size s) end

-- the section that it answers

pub chosen_some : (sections : List ℕ) (size s : ℕ) → Some s ≡ answered (suffices_from (length sections) sections size 0)
    → (suffices_from (length sections) sections size 0 ≡ some s) × (s < length sections)
chosen_some sections size s e =
    let chosen = answered_some _ s e in
    (chosen, omega (arith, (suffices_facts (length sections) sections size 0 s chosen).0))

pub figures_length : (N : ℕ) (a sections : List ℕ) → sections ≡ figures N a → length sections ≡ section_count N
unfolding figures
figures_length N a sections e = ap length e ∙ length_tabulate (section_count N) (figure N a)

-- .. on a true list
pub on_figures : (N k : ℕ) (a sections : List ℕ) (size : ℕ) → sections ≡ figures N a → size ≡ 2 ^ k
    → suffices_from (length sections) sections size 0 ≡ suffices_from (section_count N) (figures N a) (2 ^ k) 0
on_figures N k a sections size e p =
    ap₂ (λ (n m : ℕ). suffices_from n sections m 0) (figures_length N a sections e) p
    ∙ ap (λ (l : List ℕ). suffices_from (section_count N) l (2 ^ k) 0) e

-- ---- what a search answers for the heap

module _ (N k : ℕ) (a : List ℕ) (blocks : is_blocks N ≡ true) where
  -- a size of more than a section: the whole map was searched
  pub found_longer : (at : CodeOption ℕ) (looks : ℕ) → section_length N < 2 ^ k → Search 0 N k (lowest_in 0 N k a) at looks → Found N k a at looks
  unfolding looks_by_sections
  found_longer at looks long s =
      let whole = lowest_whole N k a in
      record {
        at_is = s.at_is ∙ ap answered whole;
        looks_is = s.looks_is ∙ ap (looks_for 0 N k) whole ∙ sym (rw (lt-leb (2 ^ k) (section_length N) long, looks_by_sections));
      }

  module _ (short : 2 ^ k ≤ section_length N) where
    address : (s : Option ℕ) → suffices_from (section_count N) (figures N a) (2 ^ k) 0 ≡ s → lowest_in_section N k a s ≡ lowest_free N k a
    unfolding lowest_by_sections
    address s e = ap (lowest_in_section N k a) (sym e) ∙ sections_find_lowest N k a blocks short

    looked : (s : Option ℕ) → suffices_from (section_count N) (figures N a) (2 ^ k) 0 ≡ s → looks_by_sections N k a ≡ looks_in_section N k a s
    unfolding looks_by_sections
    looked s e = rw (le-leb (2 ^ k) (section_length N) short, looks_by_sections) (ap (looks_in_section N k a) e)

    -- no figure suffices
    pub found_none : suffices_from (section_count N) (figures N a) (2 ^ k) 0 ≡ none → Found N k a None 0
    unfolding lowest_in_section looks_in_section
    found_none e = record { at_is = ap answered (address none e); looks_is = sym (looked none e) }

    -- the lowest section that suffices was searched
    pub found_within : (s : ℕ) (at : CodeOption ℕ) (looks : ℕ) → suffices_from (section_count N) (figures N a) (2 ^ k) 0 ≡ some s
        → let from = s * section_length N in
        let to = from + section_length N in
        Search from to k (lowest_in from to k a) at looks → Found N k a at looks
    unfolding lowest_in_section looks_in_section lowest_in
    found_within s at looks e found =
        let from : ℕ = s * section_length N in
        let to : ℕ = from + section_length N in
        let has = (section_has N k a s blocks short e).1 in
        let size : to - from ≡ section_length N = omega arith in
        let same : lowest_in from to k a ≡ lowest_in_section N k a (some s) = ap (λ (n : ℕ). lowest_from (n / 2 ^ k) k a from) size in
        record {
          at_is = found.at_is ∙ ap answered (same ∙ address (some s) e);
          looks_is = found.looks_is ∙ ap (looks_for from to k) same ∙ sym (looked (some s) e);
        }
