-- What letting go in a store leaves, as code has it, is the rules' `shaded`: for any store, from what is known of it where a collection is
-- open.
use mathlib.Core.Path.{◌≡◌, refl, sym, ap, ap₂, ◌∙◌}
use mathlib.Core.Logic.{◌≢◌, inl, inr}
use mathlib.Core.Bool.{Bool, true, false, not, ◌&&◌, ◌||◌}
use mathlib.Core.List.{List, []}
use Prim.Native.Nat.{ℕ, ◌+◌, ◌*◌, ◌≤◌}
use native.Mathlib.Omega.{arith}
use lib.Dec.{ltb, eqb}
use lib.ListN.{length, get_or}
use Rattle.bitmap.proofs.Rewrites.{Rewritten, rewritten_length}
use Rattle.rules.specs.Tools.{holding}
use Rattle.rules.specs.Heap.{Memory, with_counts, with_roots, with_sections, with_marks, with_list}
use Rattle.rules_stores.specs.Store.{Work, work, count_down, let_go}
use Rattle.rules_steps.specs.Steps.{is_open, is_marked, is_listed, map_of, list_of, with_progress, was_marked, marks_after, list_after, shaded}
use Rattle.rules.proofs.Tests.{test_cases_lem}
use Rattle.rules_calls.proofs.Unread.{let_go_beside}
use Rattle.step_marks.specs.Marks.{mark_touched}
use Rattle.step_list.specs.Lists.{is_set, listed_in, relisted}
use Rattle.step_list.proofs.Rising.{list_same}
use Rattle.release.specs.Marks.{let_go_marks}
use Rattle.release.proofs.OtherBuffers as other-buffers
use Rattle.release.proofs.OtherBuffers.{lent_again}
use Rattle.release.specs.Blocks.{part}
use Rattle.step_release.specs.Left.{marks_left, list_left, LetGo}
use Rattle.theory_memories.specs.Marks.{first_marks}
use Rattle.theory_graphs.proofs.Graphs.Graph.{size}
use Rattle.theory_memories.proofs.Memories.View.{view}
use Rattle.theory_memories.proofs.Memories.ViewRelease.{Releasing}
use Rattle.refinement_stores.proofs.MarkBits.{touched_rewritten, touched_bits}
use Rattle.refinement_stores.proofs.ReleasedMarks.{released_bits, released_map}

-- the counts, and what waits, once `old` is counted down in W
abbrev pub down_in : ℕ → ℕ → Memory → ℕ → Work
down_in N w W old = count_down N w (work W.counts []) old

abbrev pub start_of : ℕ → ℕ → Memory → ℕ → Memory
start_of N w W old = with_counts (down_in N w W old).counts W

-- Of a store on h while a collection is open: k has its value written in, W besides counts its reference, and `old` is let go there; `map`
-- has the marks before it, the new object's included.
pub record Storing (N w : ℕ) (h k W : Memory) (map : List ℕ) (owner old new : ℕ) (touched : List ℕ) : Type 0 where
  pub releasing : Releasing N w (start_of N w W old) (down_in N w W old).stack
  pub roots_are : length W.roots ≡ length k.roots
  pub sizes_are : (view N w (start_of N w W old)).sizes ≡ (view N w k).sizes
  pub slots_are : (view N w (start_of N w W old)).slots ≡ (view N w k).slots
  pub objects : (b : ℕ) → first_marks N h k touched (let_go N w W old) b ≡ true → size (view N w k) b ≢ 0
  pub listed : (b : ℕ) → is_listed N h b ≡ true → is_marked h b ≡ true
  pub long : 8 * length h.marks ≡ N
  pub from : Rewritten h.marks map
  pub was : (b : ℕ) → is_set map b ≡ was_marked N h k touched (let_go N w W old) b
  pub owner_le : owner ≤ N
  pub old_le : old ≤ N
  pub new_le : new ≤ N
  pub among : (b : ℕ) → ltb 0 (holding (b + 1) touched) ≡ (eqb owner (b + 1) || eqb old (b + 1)) || eqb new (b + 1)

module _ (N w : ℕ) (h k W : Memory) (map : List ℕ) (owner old new : ℕ) (touched : List ℕ)
    (st : Storing N w h k W map owner old new touched) where
  abbrev end : Memory
  end = let_go N w W old

  abbrev first : List ℕ
  first = mark_touched N map owner old new

  map_long : 8 * length map ≡ N
  map_long = omega (arith, st.long, rewritten_length st.from)

  from_first : Rewritten h.marks first
  from_first = touched_rewritten N map owner old new st.from

  first_bits : (b : ℕ) → is_set first b ≡ first_marks N h k touched end b
  first_bits b =
      touched_bits N map owner old new map_long st.owner_le st.old_le st.new_le b
      ∙ ap₂ (λ (s t : Bool). s || t) (st.was b) (sym (st.among b))

  marks_bits : (b : ℕ) → is_set (let_go_marks true N w W old first) b ≡ marks_after N h k touched end b
  unfolding let_go_marks let_go
  marks_bits b =
      released_bits N w h k touched (start_of N w W old) (down_in N w W old).stack st.releasing st.roots_are
      st.sizes_are st.slots_are st.objects st.listed first from_first st.long first_bits b

  pub marks_map : let_go_marks true N w W old first ≡ map_of h.marks (marks_after N h k touched end) N
  unfolding let_go_marks let_go
  marks_map =
      released_map N w h k touched (start_of N w W old) (down_in N w W old).stack st.releasing st.roots_are
      st.sizes_are st.slots_are st.objects st.listed first from_first st.long first_bits

  pub list_map : list_of N (relisted N map (let_go_marks true N w W old first) h.list) ≡ list_of N (list_after N h k touched end)
  unfolding relisted list_after listed_in is_listed
  list_map =
      list_same N (relisted N map (let_go_marks true N w W old first) h.list) (list_after N h k touched end)
      (λ i l. ap₂ (λ (s t : Bool). s && (is_listed N h i || not t)) (marks_bits i) (st.was i))

-- ---- the memory

-- what code leaves of all lists but that of sections
pub record Gone (N w : ℕ) (h : Memory) (owner old new : ℕ) (g : Memory) : Type 0 where
  pub part_is : part g ≡ let_go N w (part h) old
  pub marks_are : g.marks ≡ marks_left N w h owner old new
  pub list_is : g.list ≡ list_left N w h owner old new

-- whatever list of sections stands beside it
pub gone_of : (N w : ℕ) (h : Memory) (sections : List ℕ) {owner old new : ℕ} {g : Memory} {freed : ℕ}
    → LetGo N w (with_sections sections h) owner old new g freed → Gone N w h owner old new g
unfolding marks_left list_left
gone_of N w h sections gone = record { part_is = gone.part_is; marks_are = gone.marks_are; list_is = gone.list_is }

-- the memory that is lent on without its roots, with the new object's mark
abbrev pub handed : List ℕ → Memory → Memory
handed map W = with_marks map (with_roots [] W)

module _ (N w : ℕ) (h k W : Memory) (map : List ℕ) (owner old new : ℕ) (touched : List ℕ)
    (same_marks : W.marks ≡ h.marks) (same_list : W.list ≡ h.list)
    (shut : is_open N h ≡ false → map ≡ h.marks) (opened : is_open N h ≡ true → Storing N w h k W map owner old new touched)
    {g : Memory} (gone : Gone N w (handed map W) owner old new g) where
  abbrev rule : Memory
  rule = let_go N w W old

  -- the rules' letting go keeps both lists
  rule_marks : rule.marks ≡ h.marks
  rule_marks = ap (λ (x : Memory). x.marks) (let_go_beside N w (λ x. W) W old) ∙ same_marks

  rule_list : rule.list ≡ h.list
  rule_list = ap (λ (x : Memory). x.list) (let_go_beside N w (λ x. W) W old) ∙ same_list

  lists_are : is_open N (handed map W) ≡ is_open N h
  lists_are = ap (λ (l : List ℕ). eqb (get_or l N 0) 1) same_list

  closed_marks : is_open N h ≡ false → g.marks ≡ rule.marks
  unfolding marks_left
  closed_marks e = gone.marks_are ∙ rw (lists_are ∙ e, marks_left) (shut e ∙ sym rule_marks)

  closed_list : is_open N h ≡ false → g.list ≡ rule.list
  unfolding list_left
  closed_list e = gone.list_is ∙ rw (lists_are ∙ e, list_left) (same_list ∙ sym rule_list)

  open_left : is_open N h ≡ true → marks_left N w (handed map W) owner old new ≡ let_go_marks true N w W old (mark_touched N map owner old new)
  unfolding marks_left
  open_left e =
      rw (lists_are ∙ e, marks_left)
      (other-buffers.let_go_marks_beside true N w W old (mark_touched N map owner old new) refl)

  open_marks : is_open N h ≡ true → g.marks ≡ map_of rule.marks (marks_after N h k touched rule) N
  open_marks e =
      gone.marks_are ∙ open_left e ∙ marks_map N w h k W map owner old new touched (opened e)
      ∙ ap (λ (m : List ℕ). map_of m (marks_after N h k touched rule) N) (sym rule_marks)

  open_list_lem : is_open N h ≡ true → g.list ≡ list_of N (list_after N h k touched rule)
  unfolding list_left
  open_list_lem e =
      gone.list_is
      ∙ rw (lists_are ∙ e, list_left)
      (ap₂ (λ (m l : List ℕ). list_of N (relisted N map m l)) (open_left e) same_list
      ∙ list_map N w h k W map owner old new touched (opened e))

  pub shaded_left : with_marks g.marks (with_list g.list (lent_again W g)) ≡ shaded N h k touched rule
  unfolding shaded with_progress
  shaded_left =
      let kept = other-buffers.let_go_beside N w W old gone.part_is in
      elim (test_cases_lem (is_open N h)) [
        | inl e ↦
            rw (e, shaded)
            (λ i. with_marks (open_marks e i) (with_list (open_list_lem e i) (kept i)))
        | inr e ↦
            rw (e, shaded)
            (λ i. with_marks (closed_marks e i) (with_list (closed_list e i) (kept i)))
      ]
