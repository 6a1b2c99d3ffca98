-- `find_chunk` meets its contract: the lowest section whose figure suffices has the heap's lowest free chunk.
use mathlib.Core.Path.{sym, subst, ◌∙◌}
use Prim.Native.Nat.{ℕ, ◌+◌, ◌*◌, ◌^◌, ◌<◌}
use native.Mathlib.Omega.{arith}
use Rattle.rules.specs.Heap.{section_length, section_count}
use Rattle.rules.proofs.Shape.{blocks_le}
use Rattle.search_walk.specs.Search.{lowest_in, Search}
use Rattle.search_walk.proofs.Answered.{answered_none}
use Rattle.section_search.proofs.BySections.{found_longer, found_none, found_within, chosen_some, figures_length, on_figures}
use Rattle.section_figures.proofs.SectionPlaces.{Place, place}
use Rattle.section_search.proofs.SearchedParts.{whole_heap, whole_section}
use Rattle.section_search.proofs.find_chunk.Goals.{In-Some}
use Rattle.section_search.proofs.find_chunk.Goals as goal

pub lowest_chunk-requires : goal.lowest_chunk-requires
lowest_chunk-requires c =
    record {
      part = whole_heap _ _ c.requires.by_index.0 c.requires.blocks_value.0 c.requires.by_index.1 c.requires.blocks_value.2;
      to_bound = (omega (arith, c.requires.blocks_value.1), omega (arith, blocks_le c.args.blocks c.requires.blocks_value.0));
    }

pub returns-then-length-size : goal.returns-then-length-size
returns-then-length-size c = λ k e.
    let long : section_length c.args.blocks < 2 ^ k = omega (arith, c.section_length-length.ensures, c.if-length-size.true) in
    found_longer _ k _ c.requires.blocks_value.0 _ _ long (c.lowest_chunk.ensures k e)

-- the section that is searched
section : (c : In-Some) → Place c.args.blocks c.in-Some.s c.section_length-length.result
section c =
    let chosen = chosen_some c.args.sections.now c.args.size c.in-Some.s c.in-Some.ensures in
    let below : c.in-Some.s < section_count c.args.blocks = omega (arith, chosen.1, figures_length _ _ _ c.requires.blocks_value.3) in
    place _ _ _ c.requires.blocks_value.0 below c.section_length-length.ensures

pub overflow_mul-from : goal.overflow_mul-from
overflow_mul-from c = let at = section c in omega (arith, at.inside, at.few)

pub overflow_add-from : goal.overflow_add-from
overflow_add-from c = let at = section (goal.at.overflow_add-from c).In-Some in omega (arith, at.inside, at.few)

pub lowest_chunk-requires-in-Some : goal.lowest_chunk-requires-in-Some
lowest_chunk-requires-in-Some c =
    let at = section (goal.at.lowest_chunk-requires-in-Some c).In-Some in
    record {
      part = whole_section _ _ _ _ c.requires.by_index.0 at c.requires.by_index.1 (omega arith);
      to_bound = (omega (arith, at.inside, c.requires.blocks_value.1), omega (arith, at.inside, at.few));
    }

pub returns-in-Some : goal.returns-in-Some
returns-in-Some c = λ k e.
    let r : ℕ = c.in-Some.s in
    let size = c.section_length-length in
    let chosen = (chosen_some c.args.sections.now c.args.size r c.in-Some.ensures).0 in
    found_within _ k _ c.requires.blocks_value.0 (omega (arith, size.ensures, c.if-length-size.false)) r _ _
    (sym (on_figures _ k _ _ _ c.requires.blocks_value.3 e) ∙ chosen)
    (subst (λ (n : ℕ). Search (r * n) (r * n + n) k (lowest_in (r * n) (r * n + n) k c.args.a.now) c.lowest_chunk-in-Some.result.at c.lowest_chunk-in-Some.result.looks)
    size.ensures (c.lowest_chunk-in-Some.ensures k e))

pub returns-in_default : goal.returns-in_default
returns-in_default c = λ k e.
    found_none _ k _ c.requires.blocks_value.0 (omega (arith, c.section_length-length.ensures, c.if-length-size.false))
    (sym (on_figures _ k _ _ _ c.requires.blocks_value.3 e) ∙ answered_none _ (sym c.in_default.is ∙ c.lowest_section.ensures))
