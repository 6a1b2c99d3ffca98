-- Where no collection is open nothing is marked or listed; where one is, the copy of the marks serves as the marks.
use mathlib.Core.Path.{◌≡◌, refl, ap, ◌∙◌}
use mathlib.Core.Logic.{◌≢◌}
use mathlib.Core.Bool.{Bool, true, false, not, ◌&&◌, ◌||◌}
use mathlib.Core.List.{List, [], ◌∷◌}
use Prim.Native.Nat.{ℕ, zero, suc, ◌*◌, ◌/◌, ◌<◌}
use native.Mathlib.Omega.{arith}
use lib.ListN.{length, get_or}
use borrow.Author.Tests.{eq-eqb, ne_eqb}
use Rattle.rules.specs.Heap.{Memory, with_counts}
use Rattle.rules_stores.specs.Store.{work, count_down, work_after, memory_after, let_go}
use Rattle.rules_steps.specs.Steps.{list_of}
use Rattle.section_figures.specs.Figures.{Upkeep}
use Rattle.step_marks.specs.Marks.{freed_marks, mark_touched}
use Rattle.step_list.specs.Lists.{is_set, listed_in, relisted, Listing}
use Rattle.step_list.proofs.Bits.{byte_equal}
use Rattle.step_list.proofs.Rising.{list_same}
use Rattle.release.specs.Blocks.{part, let_go_blocks}
use Rattle.release.specs.Marks.{released_marks, let_go_marks}
use Rattle.step_release.specs.Left.{marks_left, list_left, LetGo}

-- ---- no collection open

none_released : (f N w : ℕ) (h : Memory) (stack marks : List ℕ) → released_marks false f N w h stack marks ≡ marks
unfolding released_marks freed_marks
none_released zero N w h stack marks = refl
none_released (suc f) N w h [] marks = refl
none_released (suc f) N w h (i ∷ rest) marks =
    none_released f N w (memory_after N w h i rest) (work_after N w h i rest).stack marks

none_marked : (N w : ℕ) (h : Memory) (v : ℕ) (marks : List ℕ) → let_go_marks false N w h v marks ≡ marks
unfolding let_go_marks
none_marked N w h v marks =
    let s = count_down N w (work h.counts []) v in
    none_released N N w (with_counts s.counts h) s.stack marks

module _ (N w : ℕ) (h : Memory) (owner old new : ℕ) {g : Memory} {freed : ℕ}
    (gone : part g ≡ let_go N w (part h) old) (counted : freed ≡ let_go_blocks N w (part h) old)
    (upkeep : Upkeep N freed h.a h.sections g.a g.sections) where
  pub left_shut : get_or h.list N 0 ≢ 1 → g.marks ≡ let_go_marks false N w (part h) old h.marks → g.list ≡ h.list
      → LetGo N w h owner old new g freed
  unfolding marks_left list_left
  left_shut shut marks list =
      let closed = ne_eqb (get_or h.list N 0) 1 shut in
      record {
        part_is = gone;
        freed_is = counted;
        upkeep = upkeep;
        marks_are = rw (closed, marks_left) (marks ∙ none_marked N w (part h) old h.marks);
        list_is = rw (closed, list_left) list;
      }

  pub left_open : get_or h.list N 0 ≡ 1 → (was : List ℕ) → ((i : ℕ) → i < N → is_set was i ≡ is_set h.marks i)
      → {touched : List ℕ} → touched ≡ mark_touched N h.marks owner old new → g.marks ≡ let_go_marks true N w (part h) old touched
      → g.list ≡ list_of N (relisted N was g.marks h.list) → LetGo N w h owner old new g freed
  unfolding marks_left list_left relisted
  left_open was_open was same touches marks list =
      let opened = eq-eqb (get_or h.list N 0) 1 was_open in
      let all : g.marks ≡ marks_left N w h owner old new =
      rw (opened, marks_left) (marks ∙ ap (λ (m : List ℕ). let_go_marks true N w (part h) old m) touches) in
      record {
        part_is = gone;
        freed_is = counted;
        upkeep = upkeep;
        marks_are = all;
        list_is =
            rw (opened, list_left)
            (list
            ∙ list_same N (relisted N was g.marks h.list) (relisted N h.marks g.marks h.list)
            (λ i l. ap (λ (t : Bool). is_set g.marks i && (listed_in N h.list i || not t)) (same i l))
            ∙ ap (λ (m : List ℕ). list_of N (relisted N h.marks m h.list)) all);
      }

-- ---- the copy

module _ {N : ℕ} (marks was : List ℕ) (whole : N ≡ 8 * (N / 8)) (long : length marks ≡ N / 8)
    (copied : (j : ℕ) → j < length marks → get_or was j 0 ≡ get_or marks j 0) where
  pub copied_bits : (i : ℕ) → i < N → is_set was i ≡ is_set marks i
  copied_bits i l = byte_equal was marks i (copied (i / 8) (omega arith))

  pub copied_listing : {list : List ℕ} → Listing N marks list → Listing N was list
  copied_listing good = record {
    form = good.form;
    marked = λ i l e. copied_bits i l ∙ good.marked i l e;
  }
