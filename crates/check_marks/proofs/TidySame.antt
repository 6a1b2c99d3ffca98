-- Number 13 as code tests it is the rules' where the maps stand for objects: on a heap that 1 and 2 don't
-- refuse.
use mathlib.Core.Path.{◌≡◌, refl, sym, ap, ◌∙◌}
use mathlib.Core.Logic.{◌≢◌}
use mathlib.Core.Bool.{Bool, true, false, not, ◌||◌, false≢true}
use mathlib.Core.List.{List}
use Prim.Native.Nat.{ℕ, ◌+◌, ◌-◌, ◌<◌}
use native.Mathlib.Omega.{arith}
use lib.Dec.{eqb}
use lib.ListN.{get_or}
use borrow.Author.Tests.{ne_eqb}
use Rattle.std.proofs.Common.{Option, None, Some}
use Rattle.std.specs.Option.{is_some}
use Rattle.rules.specs.Tools.{some_below}
use Rattle.rules.specs.Heap.{Memory, lent_memory, is_first}
use Rattle.rules_steps.specs.Steps.{names, is_marked, is_listed, bad_next, bad_place, stray_mark, root_missed, cell_missed, is_untidy}
use Rattle.rules.proofs.Tests.{false_some, true_some}
use Rattle.step_list.specs.Lists.{NextBit}
use Rattle.step_list.specs.Naming.{named_from, cell_names}
use Rattle.theory_memories.specs.Heaps.{Intact}
use Rattle.theory_memories.proofs.Memories.Healthy.{Healthy, healthy_facts}
use Rattle.theory_memories.proofs.Memories.Naming.{names_cells}

pub intact_healthy : {N w : ℕ} {h : Memory} → Intact N w h → Healthy N w h
intact_healthy {N} {w} {h} intact = healthy_facts N w h intact.right_shape intact.no_damage

-- what an object names, its kind being looked at once
pub names_same :
    (N w : ℕ) (h : Memory) → Healthy N w h → (x : ℕ) → is_first N h x ≡ true → (i : ℕ)
    → cell_names N h.b h.d h.cells x i ≡ names N h x i
unfolding cell_names named_from
names_same N w h healthy x first i = sym (names_cells N h healthy.represents x first i)

-- it reads neither counts nor waiting list nor sections
pub unread :
    (N : ℕ) (h : Memory) (counts waiting sections : List ℕ)
    → is_untidy N h
    ≡ is_untidy N (lent_memory h.a h.b counts h.cells h.roots waiting sections h.d h.marks h.list)
unfolding is_untidy bad_next bad_place stray_mark root_missed cell_missed is_listed names
unread N h counts waiting sections = refl

-- ---- none is open: no mark and no number of the list is left

module _ (N : ℕ) (h : Memory) (shut : get_or h.list N 0 ≢ 1) where
  pub remains_marked : (r : Option ℕ) → NextBit h.marks 0 N r → is_some r ≡ true → true ≡ is_untidy N h
  unfolding is_untidy
  remains_marked None none some = absurd (false≢true some)
  remains_marked (Some r) next some =
      rw (ne_eqb (get_or h.list N 0) 1 shut, is_untidy)
      (ap (λ (t : Bool). t || some_below (λ k. not (eqb (get_or h.list k 0) 0)) (N + 1))
      (sym (true_some (is_marked h) N r next.below next.found)))

  pub remains_listed :
      (r : Option ℕ) → NextBit h.marks 0 N r → is_some r ≡ false → {t : Bool}
      → t ≡ some_below (λ k. not (eqb (get_or h.list k 0) 0)) (N + 1) → t ≡ is_untidy N h
  unfolding is_untidy
  remains_listed (Some r) next none e = absurd (false≢true (sym none))
  remains_listed None next none e =
      rw (ne_eqb (get_or h.list N 0) 1 shut, is_untidy)
      (e ∙ ap (λ (t : Bool). t || some_below (λ k. not (eqb (get_or h.list k 0) 0)) (N + 1))
      (sym (false_some (is_marked h) N (λ i u. next.clear i (omega arith) u))))
