-- A return leaves the heap that clearing its roots singly leaves, in whatever order (request U10): both are runs of the object graph that let
-- go of the same slots, and by `same_end` such runs end alike. And it is refused exactly where a bit lies past the roots.
use mathlib.Core.Path.{◌≡◌, refl, sym, ap, ◌∙◌, subst}
use mathlib.Core.Logic.{◌↔◌, inl, inr}
use mathlib.Core.Bool.{Bool, true, false, not}
use mathlib.Core.List.{List, [], ◌∷◌}
use Prim.Native.Nat.{ℕ, ◌+◌, ◌-◌, ◌/◌, ◌^◌, ◌≤◌, ◌<◌}
use native.Mathlib.Decide.{dec_lt}
use native.Mathlib.Omega.{arith}
use lib.ListN.{length, get_or, replicate}
use borrow.Author.Tests.{eqb-true, eqb-false}
use Rattle.bitmap.specs.Bit.{bit_of, one, zeros}
use Rattle.bitmap.proofs.Bits.{bit_lt, bits_past, some_bit_past}
use Rattle.rules.specs.Tools.{first_number}
use Rattle.rules.specs.Heap.{Memory, capacity, with_waiting, with_sections}
use Rattle.rules.specs.Sections.{figures}
use Rattle.rules_stores.specs.Store.{store_sticks, chosen_below}
use Rattle.rules_stores.proofs.Plain.{store_root_in, return_in}
use Rattle.rules_steps.specs.Steps.{is_open}
use Rattle.rules_calls.specs.Calls.{store_root, return_roots, Answer, own_refusals, settled, freeing, outcome, answer, run, last_memory}
use Rattle.rules_calls.proofs.Unread.{Keeps, store_root_keeps, return_keeps}
use Rattle.rules_calls.proofs.Replies.{number_is, accepted_none, accepted_outcome, Passed, passed}
use Rattle.theory.specs.Returns.{freed_in_all, cleared_singly, EachOnce, SameAsSingly}
use Rattle.theory_graphs.proofs.Graphs.Occurrences.{equals_same, equals_cases, occurrences, occurrences_nil, occurrences_cons}
use Rattle.theory_graphs.proofs.Graphs.Order.{same_end}
use Rattle.theory_memories.proofs.Memories.View.{view}
use Rattle.theory_memories.proofs.Memories.Slots.{occurrences_holding}
use Rattle.theory_memories.proofs.Memories.Healthy.{Healthy}
use Rattle.theory_memories.proofs.Memories.Fit.{Listed, Fit}
use Rattle.theory_memories.proofs.Memories.TidyHeap.{settled_untidy, none_passes}
use Rattle.theory.proofs.EachCall.TidyKept.{store_root_none, return_none, keeps_none}
use Rattle.theory_memories.proofs.Memories.SameView.{same_memory_lem}
use Rattle.theory_memories.proofs.Memories.Stores.{positive}
use Rattle.theory_memories.proofs.Memories.Accepted.{fit_number, fit_accepted}
use Rattle.theory.proofs.EachCall.Clearing.{none_ref, Cleared, cleared_none, cleared_then, cleared_settled, root_cleared, InSet, returned}

-- ---- roots cleared singly

clear_answered :
    (N w : ℕ) (g : Memory) → Fit N w g → is_open N g ≡ false → (r : ℕ) → r < length g.roots
    → answer N w g (store_root r 0) ≡ freeing N g (store_root_in N w g r 0) (one (store_sticks N w g.counts (get_or g.roots r 0) 0))
unfolding outcome Passed
clear_answered N w g fit none r l =
    fit_accepted N w g fit (store_root r 0) refl (l, none_ref N g)
    ∙ ap (λ (k : Memory). freeing N g k (one (store_sticks N w g.counts (get_or g.roots r 0) 0))) (store_root_none N w g none r 0)

-- root i stands in the list
abbrev Ordered : List ℕ → ℕ → Type 0
Ordered order i = 1 ≤ occurrences i order

-- the roots of the list, cleared in g by the answers: g' is the memory after the last, and their values add up to what they freed
record ClearedBy (N w : ℕ) (S : ℕ → Type 0) (order : List ℕ) (g g' : Memory) (answers : List Answer) : Type 0 where
  cleared : Cleared N w S (Ordered order) g g'
  blocks : zeros g'.a ≡ zeros g.a + freed_in_all answers
  listed : Listed N g'
  keeps : Keeps g g'

singly :
    (N w : ℕ) (S : ℕ → Type 0) (order : List ℕ) (g : Memory) → Fit N w g → is_open N g ≡ false
    → ((i : ℕ) → Ordered order i → (i < length g.roots) × S i)
    → ClearedBy N w S order g (last_memory g (cleared_singly N w g order)) (cleared_singly N w g order)
unfolding run last_memory freed_in_all freeing
singly N w S [] g fit shut each =
    let none = cleared_none N w S g fit.healthy in
    record {
      cleared = cleared_then N w S (λ i. ⊥) (λ i. ⊥) (Ordered []) g g g none none (λ i o. absurd (omega (arith, occurrences_nil i)));
      blocks = omega arith;
      listed = fit.listed;
      keeps = record { marks = refl; list = refl };
    }
singly N w S (r ∷ order) g fit shut each =
    let here = each r (omega (arith, occurrences_cons r r order, equals_same r r refl)) in
    let one = root_cleared N w S g fit.healthy r here.0 here.1 in
    let next : Memory = settled N (store_root_in N w g r 0) in
    let first = cleared_settled N w S (λ i. i ≡ r) g (store_root_in N w g r 0) one in
    let same = store_root_keeps N w g r 0 in
    let tidied = settled_untidy N (store_root_in N w g r 0) ∙ none_passes N g (store_root_in N w g r 0) shut same.marks same.list fit.tidy in
    let more =
    singly N w S order next (record { healthy = first.healthy; listed = refl; tidy = tidied }) (keeps_none N g (store_root_in N w g r 0) same shut)
    (λ i o. let at = each i (omega (arith, occurrences_cons i r order)) in (omega (arith, first.roots_are, at.0), at.1)) in
    subst
    (λ (x : Answer). ClearedBy N w S (r ∷ order) g (last_memory x.1 (cleared_singly N w x.1 order)) (x ∷ cleared_singly N w x.1 order))
    (sym (clear_answered N w g fit shut r here.0))
    (record {
      cleared =
          cleared_then N w S (λ i. i ≡ r) (Ordered order) (Ordered (r ∷ order)) g next (last_memory next (cleared_singly N w next order)) first
          more.cleared
          (λ i o. elim (equals_cases r i) [ inl c ↦ inl (sym c.0) | inr c ↦ inr (omega (arith, occurrences_cons i r order, c.1)) ]);
      blocks = omega (arith, more.blocks, one.grows);
      listed = more.listed;
      keeps = record { marks = more.keeps.marks ∙ same.marks; list = more.keeps.list ∙ same.list };
    })

-- ---- the return

module _ (N w : ℕ) (h : Memory) (fit : Fit N w h) (shut : is_open N h ≡ false) (chosen : ℕ) (passed : chosen / 2 ^ length h.roots ≡ 0)
    (order : List ℕ)
    (each : EachOnce chosen order) where
  abbrev healthy : Healthy N w h
  healthy = fit.healthy

  abbrev Chosen : ℕ → Type 0
  Chosen i = InSet chosen (length h.roots) i

  abbrev end : Memory
  end = return_in N w h chosen (length h.roots)

  abbrev last : Memory
  last = last_memory h (cleared_singly N w h order)

  all : Cleared N w Chosen Chosen h end
  all = returned N w h healthy chosen (length h.roots) (omega arith)

  -- what stands in the list is a root of the set, and each root of the set stands in it
  listed_chosen : (i : ℕ) → Ordered order i → Chosen i
  listed_chosen i o =
      let bit : bit_of chosen i ≡ 1 = omega (arith, each i, occurrences_holding i order, bit_lt chosen i) in (
        elim (dec_lt i (length h.roots)) [
          | yes l ↦ l
          | no l ↦ absurd (omega (arith, bits_past chosen (length h.roots) i passed (omega arith)))
        ],
        bit,
      )

  chosen_listed : (i : ℕ) → Chosen i → Ordered order i
  chosen_listed i s = omega (arith, each i, occurrences_holding i order, s.1)

  ran : ClearedBy N w Chosen order h last (cleared_singly N w h order)
  ran = singly N w Chosen order h fit shut (λ i o. ((listed_chosen i o).0, listed_chosen i o))

  same_view : view N w last ≡ view N w end
  same_view =
      same_end (capacity w) (positive N w h healthy) (length h.roots) Chosen (view N w h) healthy.whole.balanced
      (view N w last) (view N w end)
      (record {
        runs = ran.cleared.runs;
        waits = ran.cleared.healthy.whole.waits;
        dropped = λ i s. ran.cleared.clear i (chosen_listed i s);
      })
      (record { runs = all.runs; waits = all.healthy.whole.waits; dropped = all.clear })

  same_heap : settled N last ≡ settled N end
  same_heap =
      let singles = cleared_settled N w Chosen (Ordered order) h last ran.cleared in
      let together = cleared_settled N w Chosen Chosen h end all in
      same_memory_lem N w h singles.healthy.shape together.healthy.shape singles.healthy.represents together.healthy.represents
      singles.healthy.bare together.healthy.bare singles.rewrites together.rewrites
      (singles.roots_are ∙ sym together.roots_are) refl (ap (figures N))
      (ran.keeps.marks ∙ sym left.marks) (ran.keeps.list ∙ sym left.list) same_view
    where
      left : Keeps h end
      left = return_keeps N w h chosen (length h.roots)

  same_blocks : freed_in_all (cleared_singly N w h order) ≡ zeros end.a - zeros h.a
  same_blocks = omega (arith, ran.blocks, ap (λ (m : Memory). zeros m.a) same_heap)

  pub return_is :
      answer N w h (return_roots chosen) ≡ freeing N h end 0 → SameAsSingly N w h chosen order
  unfolding freeing
  return_is is =
      record {
        heap = ap (λ (l : List ℕ). with_sections l (with_waiting (replicate N 0) last)) ran.listed ∙ same_heap ∙ sym (ap (λ (x : Answer). x.1) is);
        value = same_blocks ∙ sym (ap (λ (x : Answer). x.0.value) is);
      }

-- ---- accepted and refused

module _ (N w : ℕ) (h : Memory) (fit : Fit N w h) (chosen : ℕ) where
  abbrev test : Bool
  test = chosen_below chosen (length h.roots)

  pub same_as_singly :
      is_open N h ≡ false → (answer N w h (return_roots chosen)).0.number ≡ 0 → (order : List ℕ) → EachOnce chosen order → SameAsSingly N w h chosen order
  unfolding outcome Passed
  same_as_singly shut accepted order each =
      let passes : test ≡ true = passed N w h (return_roots chosen) (accepted_none N w h (return_roots chosen) accepted) in
      return_is N w h fit shut chosen (eqb-true (chosen / 2 ^ length h.roots) 0 passes) order each
      (accepted_outcome N w h (return_roots chosen) accepted
      ∙ ap (λ (k : Memory). freeing N h k 0) (return_none N w h shut chosen (length h.roots)))

  pub return_refused : ((answer N w h (return_roots chosen)).0.number ≡ 4) ↔ ((r : ℕ) × (length h.roots ≤ r) × (bit_of chosen r ≡ 1))
  unfolding own_refusals first_number
  return_refused = rw (number_is N w h (return_roots chosen) ∙ fit_number N w h fit (return_roots chosen) refl) (there test refl, back test refl)
    where
      number : Bool → ℕ
      number t = first_number ((4, not t) ∷ [])

      there : (t : Bool) → test ≡ t → number t ≡ 4 → (r : ℕ) × (length h.roots ≤ r) × (bit_of chosen r ≡ 1)
      there true e z = absurd (omega arith)
      there false e z = some_bit_past chosen (length h.roots) (eqb-false (chosen / 2 ^ length h.roots) 0 e)

      back : (t : Bool) → test ≡ t → (r : ℕ) × (length h.roots ≤ r) × (bit_of chosen r ≡ 1) → number t ≡ 4
      back true e (r, l, b) = absurd (omega (arith, bits_past chosen (length h.roots) r (eqb-true (chosen / 2 ^ length h.roots) 0 e) l))
      back false e q = refl
