-- A call that is lent a waiting list of another length is refused with 1 and changes nothing, so the calls around it are a chain without it.
use mathlib.Core.Path.{◌≡◌, refl, sym, ap, ◌∙◌, subst}
use mathlib.Core.Logic.{◌≢◌}
use mathlib.Core.Bool.{not, ◌&&◌}
use mathlib.Core.List.{List, [], ◌∷◌, ◌++◌}
use Prim.Native.Nat.{ℕ}
use native.Mathlib.Decide.{ℕ_discrete}
use native.Mathlib.Omega.{arith}
use lib.ListN.{length}
use borrow.Author.Tests.{eq-eqb, ne_eqb}
use Rattle.rules.specs.Heap.{Memory, with_waiting, shaped}
use Rattle.rules_calls.specs.Calls.{Call, Answer, reply, other_shaped, refusals, refused_with, answer, last_memory}
use Rattle.rules_calls.specs.Promise.{Promise}
use Rattle.rules.proofs.Tests.{false_unless, false_and, first_found}
use Rattle.rules.proofs.Shape.{shape_facts}
use Rattle.rules_calls.proofs.Replies.{refused_with_lem}
use Rattle.theory_memories.specs.Words.{heap_of}
use Rattle.theory.specs.CallWords.{Made, left_by}
use Rattle.theory.specs.Demand.{Chain}
use Rattle.theory.specs.Spaces.{AnySpaces, with_space, ClaimOfAll, EveryListWithAnySpaces}
use Rattle.theory_memories.proofs.Memories.Fit.{Fit}
use Rattle.theory.proofs.Demand.{claim}

-- ---- one call

other_space : (N w : ℕ) (h : Memory) (c : Call) → length h.waiting ≢ N → ◌≡◌ {A = Answer} (answer N w h c) (reply 1 0 0, h)
unfolding refused_with refusals
other_space N w h c other =
    let misshapen = false_unless (shaped N w h) (λ e. other (shape_facts N w h e).length_waiting) in
    refused_with_lem N w h c 1 (omega arith)
    (first_found 1 (not (other_shaped h c && shaped N w h)) _ (ap not (false_and (other_shaped h c) (shaped N w h) (λ _. misshapen))))

refused_space :
    (N w : ℕ) (m : Made) → Promise N w m.call m.before m.reply m.after → length m.before.waiting ≢ N
    → (m.reply ≡ reply 1 0 0) × (m.after ≡ m.before)
refused_space N w m promise other =
    let answered = other_space N w m.before m.call other in (
      promise.reply_is ∙ ap (λ (x : Answer). x.0) answered,
      promise.after_is ∙ ap (λ (x : Answer). x.1) answered,
    )

-- ---- a list of calls

others_refused :
    (N w : ℕ) {h : Memory} {made : List Made} → AnySpaces N w h made → (earlier : List Made) (m : Made) (later : List Made)
    → made ≡ earlier ++ (m ∷ later) → length m.before.waiting ≢ N → (m.reply ≡ reply 1 0 0) × (m.after ≡ m.before)
others_refused N w {h} {made} all earlier m later e other = go earlier (subst (λ (l : List Made). AnySpaces N w h l) e all)
  where
    go : {k : Memory} (earlier : List Made) → AnySpaces N w k (earlier ++ (m ∷ later)) → (m.reply ≡ reply 1 0 0) × (m.after ≡ m.before)
    go [] (AnySpaces.next same promise rest) = refused_space N w m promise other
    go (x ∷ earlier) (AnySpaces.next same promise rest) = go earlier rest

-- the calls that were lent N numbers
with_space_lem : (N : ℕ) (m : Made) (ms : List Made) → length m.before.waiting ≡ N → with_space N (m ∷ ms) ≡ m ∷ with_space N ms
unfolding with_space
with_space_lem N m ms e = rw (eq-eqb (length m.before.waiting) N e, with_space)

without_space : (N : ℕ) (m : Made) (ms : List Made) → length m.before.waiting ≢ N → with_space N (m ∷ ms) ≡ with_space N ms
unfolding with_space
without_space N m ms e = rw (ne_eqb (length m.before.waiting) N e, with_space)

-- these are a chain, from any memory with the same heap, and leave the heap that all leave
record Kept (N w : ℕ) (h k : Memory) (made these : List Made) : Type 0 where
  chain : Chain N w k these
  heap_is : heap_of (left_by h made) ≡ heap_of (left_by k these)

kept : (N w : ℕ) {h k : Memory} {made : List Made} → heap_of h ≡ heap_of k → AnySpaces N w h made → Kept N w h k made (with_space N made)
unfolding with_space last_memory
kept N w same AnySpaces.none = record { chain = Chain.none; heap_is = same }
kept N w {h} {k} same (AnySpaces.next {m} {ms} found promise rest) = elim (ℕ_discrete (length m.before.waiting) N) [
  | yes e ↦
      let more = kept N w {k = m.after} refl rest in
      subst (λ (l : List Made). Kept N w h k (m ∷ ms) l) (sym (with_space_lem N m ms e))
      record {
        chain = Chain.next (record { same_heap = found ∙ same; space = e }) promise more.chain;
        heap_is = more.heap_is;
      }
  | no e ↦
      let left = ap (λ (g : Memory). heap_of g) (refused_space N w m promise e).1 in
      let more = kept N w {k = k} (left ∙ found ∙ same) rest in
      subst (λ (l : List Made). Kept N w h k (m ∷ ms) l) (sym (without_space N m ms e))
      record { chain = more.chain; heap_is = more.heap_is }
]

pub claim_of_all : (N w : ℕ) (h : Memory) → Fit N w h → (made : List Made) → AnySpaces N w h made → ClaimOfAll N w h made
claim_of_all N w h fit made all =
    let these = kept N w {k = h} refl all in
    record {
      chain = these.chain;
      claim = claim N w h fit (with_space N made) these.chain;
      others = others_refused N w all;
      heap_is = these.heap_is;
    }

pub every_list_with_any_spaces : EveryListWithAnySpaces
every_list_with_any_spaces N w h [] = ([], refl, AnySpaces.none)
every_list_with_any_spaces N w h ((c, waiting) ∷ lent) =
    let found : Memory = with_waiting waiting h in
    let x : Answer = answer N w found c in
    let rest = every_list_with_any_spaces N w x.1 lent in (
      record { call = c; before = found; reply = x.0; after = x.1 } ∷ rest.0,
      ap {B = List (Call × List ℕ)} (λ l. (c, waiting) ∷ l) rest.1,
      AnySpaces.next refl (record { reply_is = refl; after_is = refl }) rest.2,
    )
