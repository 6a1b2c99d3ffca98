-- What letting go leaves of the mark map and the second list, as code writes them: the references that the store touches are marked
-- first, then the map goes along the release; the list is then written from the marks before and after. That these are the rules' is shown
-- on undamaged heaps in crate `refinement_stores`. For contracts of inner functions.
use Rattle.std.specs.Prelude.{ℕ, ◌≡◌, true, false, List}
use Rattle.rules.specs.Heap.{Memory}
use Rattle.rules_stores.specs.Store.{let_go}
use Rattle.rules_steps.specs.Steps.{is_open, list_of}
use Rattle.section_figures.specs.Figures.{Upkeep}
use Rattle.step_marks.specs.Marks.{mark_touched}
use Rattle.step_list.specs.Lists.{relisted, Listing}
use Rattle.release.specs.Blocks.{part, let_go_blocks}
use Rattle.release.specs.Marks.{let_go_marks}

-- where a collection is open, the second list is one and its objects are marked
abbrev pub Listable : ℕ → Memory → Type 0
Listable N h = is_open N h ≡ true → Listing N h.marks h.list

-- `old` is let go in h, by a store of `new` in a cell of `owner`
unfoldable pub marks_left : ℕ → ℕ → Memory → (owner old new : ℕ) → List ℕ
marks_left N w h owner old new =
    elim (is_open N h) [
      | true ↦ let_go_marks true N w (part h) old (mark_touched N h.marks owner old new)
      | false ↦ h.marks
    ]

unfoldable pub list_left : ℕ → ℕ → Memory → (owner old new : ℕ) → List ℕ
list_left N w h owner old new =
    elim (is_open N h) [
      | true ↦ list_of N (relisted N h.marks (marks_left N w h owner old new) h.list)
      | false ↦ h.list
    ]

-- the memory left, and the number of blocks freed
pub record LetGo (N w : ℕ) (h : Memory) (owner old new : ℕ) (g : Memory) (freed : ℕ) : Type 0 where
  pub part_is : part g ≡ let_go N w (part h) old
  pub freed_is : freed ≡ let_go_blocks N w (part h) old
  pub upkeep : Upkeep N freed h.a h.sections g.a g.sections
  pub marks_are : g.marks ≡ marks_left N w h owner old new
  pub list_is : g.list ≡ list_left N w h owner old new
