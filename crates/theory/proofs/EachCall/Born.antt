-- While a collection is open objects are born marked, data too, and not listed (request U8).
use mathlib.Core.Path.{◌≡◌, refl, sym, ◌∙◌, subst}
use mathlib.Core.Logic.{◌≢◌, inl, inr}
use mathlib.Core.Bool.{Bool, true, false}
use mathlib.Core.List.{List, [], ◌∷◌}
use mathlib.Core.Option.{some}
use Prim.Native.Nat.{ℕ, ◌+◌, ◌≤◌, ◌<◌}
use native.Mathlib.Omega.{arith}
use lib.ListN.{length, get_or, set}
use Rattle.rules.specs.Heap.{Memory, with_roots, exponent, lowest_free}
use Rattle.rules_stores.specs.Store.{placed, allocate_in}
use Rattle.rules_steps.specs.Steps.{is_open, is_marked, is_listed, marks_after, list_after, allocate_shading}
use Rattle.rules_calls.specs.Calls.{Call, allocate, allocate_data, Answer, settled, outcome}
use Rattle.rules.proofs.Tests.{false_unless}
use Rattle.rules_calls.proofs.Replies.{accepted_none, accepted_outcome, Passed, passed}
use Rattle.theory.specs.Steps.{MarkedUnlisted, BornMarked}
use Rattle.theory_memories.proofs.Maps.LowestChunk.{Room, room}
use Rattle.theory_graphs.proofs.Graphs.Tidy.{Was, Shades}
use Rattle.theory_memories.proofs.Memories.View.{view}
use Rattle.theory_memories.proofs.Memories.Healthy.{Healthy}
use Rattle.theory_memories.proofs.Memories.Fit.{Fit}
use Rattle.theory_memories.proofs.Memories.TidyHeap.{first_some, tidy_facts, marked_after, listed_after}
use Rattle.theory_memories.proofs.Memories.Shades.{Among}
use Rattle.theory_memories.proofs.Memories.Events.{Event, allocate_event, allocate_fresh}
use Rattle.theory_memories.proofs.Memories.Accepted.{accepted_fit}
use Rattle.theory.proofs.EachCall.Open.{Open, shade, tidy_left, is_shaded, allocate_left}
use Rattle.theory.proofs.EachCall.Makes.{stands_there}

module _ (N w : ℕ) (h : Memory) (fit : Fit N w h) (was_open : is_open N h ≡ true) (asData : Bool) (n r i : ℕ) (low : 1 ≤ n) (high : n ≤ N)
    (l : r < length h.roots) (found : lowest_free N (exponent n) h.a ≡ some i) where
  before : Open N w h
  before = record { healthy = fit.healthy; was_open = was_open; tidy = fit.tidy }

  space : Room N h.a n i
  space = room N h.a n i found

  nonzero : n ≢ 0
  nonzero = omega arith

  abbrev k : Memory
  k = with_roots (set h.roots r (i + 1)) (placed N w asData h i n)

  abbrev touched : List ℕ
  touched = get_or h.roots r 0 ∷ (i + 1) ∷ []

  abbrev g : Memory
  g = allocate_in N w asData h n r i

  left : Healthy N w g
  left = allocate_left N w h before asData n r i low high l found

  event : Event N w h k touched g
  event = allocate_event N w h fit.healthy n i nonzero space asData r l left

  shaded_so :
      Shades (length h.roots) (view N w h) (view N w k) (view N w g) (Among touched) (is_marked h) (is_listed N h)
      (marks_after N h k touched g) (list_after N h k touched g)
  shaded_so = shade N w h before k touched g event

  -- it stood nowhere before, and stands where it is placed
  born : Was (view N w h) (view N w k) (is_marked h) i
  born = inr (allocate_fresh N w h fit.healthy n i nonzero space asData)

  is_marked_lem : marks_after N h k touched g i ≡ true
  is_marked_lem = shaded_so.also i (first_some N w g i (stands_there N w h fit.healthy asData n r i low l found).first) (inl born)

  not_listed : list_after N h k touched g i ≡ false
  not_listed =
      let tidy = tidy_facts N w h fit.healthy was_open fit.tidy in
      false_unless (list_after N h k touched g i)
      (λ e.
      elim (shaded_so.listed i e).1 [
        | inl was ↦
            tidy.objects i (tidy.listed_marked i was) (allocate_fresh N w h fit.healthy n i nonzero space asData).0
        | inr never ↦ never born
      ])

  born_so : MarkedUnlisted N (settled N (allocate_shading N w asData h n r i)) i
  unfolding allocate_shading is_listed
  born_so =
      let tidy = tidy_left N w h before k touched g event in
      subst (λ (m : Memory). MarkedUnlisted N (settled N m) i) (sym (is_shaded N w h before k touched g event)) (
        marked_after N w g left (marks_after N h k touched g) (list_after N h k touched g) tidy i ∙ is_marked_lem,
        listed_after N w g left (marks_after N h k touched g) (list_after N h k touched g) tidy i ∙ not_listed,
      )

pub born_marked : BornMarked
unfolding outcome Passed
born_marked N w h true n r was_open accepted =
    let c : Call = allocate_data n r in
    let p = passed N w h c (accepted_none N w h c accepted) in
    subst (λ (x : Answer). MarkedUnlisted N x.1 x.0.value) (sym (accepted_outcome N w h c accepted))
    (born_so N w h (accepted_fit N w h c refl accepted) was_open true n r _ p.0 p.1 p.2 p.3)
born_marked N w h false n r was_open accepted =
    let c : Call = allocate n r in
    let p = passed N w h c (accepted_none N w h c accepted) in
    subst (λ (x : Answer). MarkedUnlisted N x.1 x.0.value) (sym (accepted_outcome N w h c accepted))
    (born_so N w h (accepted_fit N w h c refl accepted) was_open false n r _ p.0 p.1 p.2 p.3)
