-- The reason that code finds is that of the rules.
use mathlib.Core.Path.{◌≡◌, refl, sym, ap, ◌∙◌}
use mathlib.Core.Logic.{◌≢◌}
use mathlib.Core.Bool.{true, false, not}
use Rattle.std.specs.Prelude.{Some, None}
use mathlib.Core.List.{List, [], ◌∷◌, ◌++◌, reverse, reverse_aux, append-nil, append_assoc}
use mathlib.Core.Option.{some}
use Prim.Native.Nat.{ℕ, zero, suc, ◌-◌, ◌≤◌, ◌<◌}
use native.Mathlib.Decide.{ℕ_discrete}
use native.Mathlib.Omega.{arith}
use lib.ListN.{length, get_or, take}
use lib.Seq.{length-take-le}
use lib.Dec.{ltb}
use borrow.Author.Tests.{ne_eqb, lt-ltb}
use Rattle.rules.specs.Heap.{Memory, max_blocks, is_first}
use Rattle.rules_output.specs.Walk.{number_in, followed, references_of, numbered}
use Rattle.rules_output.specs.Reason.{Reason, reason_from, reason_of}
use Rattle.rules_output.specs.Sentence.{sentence, sentence_for}
use Rattle.rules_calls.specs.Calls.{reply, write_reason, outcome, own_refusals}
use Rattle.rules_calls.specs.Promise.{ReasonPromise}
use Rattle.rules.proofs.Tests.{first_past, first_found}
use Rattle.rules_calls.proofs.Replies.{Passed}
use Rattle.types.specs.declared.Reply.{Reply}
use Rattle.text.proofs.Writing.{put_as}
use Rattle.theory_memories.specs.Heaps.{Intact, Undamaged}
use Rattle.theory_walks.specs.Trail.{trail, links_to}
use Rattle.theory.proofs.EachCall.Outputs.{output_refused, output_accepted}
use Rattle.theory_walks.proofs.Walks.Numbers.{number_le}
use Rattle.theory_walks.proofs.Walks.Steps.{distinct_length}
use Rattle.theory_walks.proofs.Walks.Trails.{word_zero}
use Rattle.theory_walks.proofs.Walks.Best.{none_exactly, walk_finds_chain}
use Rattle.theory_walks.proofs.Walks.Reached.{Named, intact_named, led_met}
use Rattle.walk_objects.specs.Walking.{walked_heap, last_first, entries, Traced}
use Rattle.walk_objects.proofs.Meeting.{top_length}
use Rattle.walk_objects.proofs.TracedHeap.{all_walked, owners_before, links_found_lem}
use Rattle.walk_reason.specs.Telling.{reason_in, walked_reason, Told}

-- ---- links from their end

last_cons : (x : ℕ) (l : List ℕ) (n : ℕ) → last_first (x ∷ l) (suc n) ≡ last_first l n ++ (x ∷ [])
unfolding last_first
last_cons x l zero = refl
last_cons x l (suc n) = ap (λ (m : List ℕ). get_or l n 0 ∷ m) (last_cons x l n)

reverse_onto : (l m : List ℕ) → reverse_aux l m ≡ last_first l (length l) ++ m
unfolding last_first
reverse_onto [] m = refl
reverse_onto (x ∷ l) m =
    reverse_onto l (x ∷ m) ∙ sym (append_assoc (last_first l (length l)) (x ∷ []) m) ∙ ap (λ (k : List ℕ). k ++ m) (sym (last_cons x l (length l)))

reverse_is : (l : List ℕ) → reverse l ≡ last_first l (length l)
reverse_is l = reverse_onto l [] ∙ append-nil (last_first l (length l))

pub reason_in_lem : (l : List ℕ) → reason_in l ≡ reason_from (some (reverse l))
unfolding reason_in reason_from last_first
reason_in_lem [] = refl
reason_in_lem (x ∷ l) =
    let some_links : suc (length l) ≢ 0 = omega arith in
    let place : suc (length l) - 1 ≡ length l = omega arith in
    rw (ne_eqb (suc (length l)) 0 some_links, place, reason_in)
    (sym (ap (λ (m : List ℕ). reason_from (some m)) (reverse_is (x ∷ l))))

-- ---- the walk's reason is the rules'

pub walked_is : (N w : ℕ) (h : Memory) → Intact N w h → (at : ℕ) → walked_reason N h at ≡ reason_of N h at
unfolding walked_reason reason_from
walked_is N w h u at = elim (ℕ_discrete (number_in (numbered N h) (suc at)) 0) [
  | yes z ↦
      ap (λ (n : ℕ). reason_from (some (reverse (links_to (trail h.roots (followed N h) N) n)))) z
      ∙ ap (λ (l : List ℕ). reason_from (some (reverse l))) (word_zero (trail h.roots (followed N h) N))
      ∙ sym (ap reason_from ((none_exactly N w h u at).1 (λ led. let met = led_met N h (intact_named N w h u) led in omega (arith, met.1))))
  | no s ↦
      let number : number_in (numbered N h) (suc at) ≡ suc (number_in (numbered N h) (suc at) - 1) = omega arith in
      ap (λ (n : ℕ). reason_from (some (reverse (links_to (trail h.roots (followed N h) N) n)))) number
      ∙ sym (ap reason_from (walk_finds_chain N w h u at (number_in (numbered N h) (suc at) - 1) number))
]

-- ---- what the walk leaves in the arrays

-- the first t links are those of the reason
pub record Found (N : ℕ) (h : Memory) (at : ℕ) (links : List ℕ) (t : ℕ) : Type 0 where
  pub few : t ≤ max_blocks
  pub long : t ≤ length links
  pub is : reason_in (take t links) ≡ walked_reason N h at

module _ (N : ℕ) (a b d cells roots : List ℕ) (named : Named N (walked_heap a b d cells roots)) (order numbers owners vias : List ℕ) (met at : ℕ)
    (traced : Traced N (trail roots (followed N (walked_heap a b d cells roots)) N) order numbers owners vias met) (inside : at < N) where
  abbrev heap : Memory
  heap = walked_heap a b d cells roots

  number_is : get_or numbers at 0 ≡ number_in (numbered N heap) (suc at)
  number_is =
      traced.tracing.walking.numbers_are at inside
      ∙ ap (λ (l : List ℕ). number_in l (suc at)) (all_walked N a b d cells roots named order numbers owners vias met traced).is

  pub number_few : (get_or numbers at 0 ≤ met) × (met ≤ N) × (N ≤ max_blocks)
  number_few =
      let w = traced.tracing.walking in (
        omega (arith, w.numbers_are at inside, number_le (last_first order met) (suc at), top_length order met),
        omega (arith, distinct_length N w.distinct w.below, top_length order met),
        w.small,
      )

  pub owners_below : (i : ℕ) → i < get_or numbers at 0 → get_or owners i 0 ≤ i
  owners_below i l = owners_before N a b d cells roots named order numbers owners vias met traced i (omega (arith, number_few))

  pub found : (links : List ℕ) (t : ℕ) → (take t links ≡ links_to (entries [] owners vias (get_or numbers at 0)) (get_or numbers at 0)) × (t ≤ get_or numbers at 0) × (t ≤ length links)
      → Found N heap at links t
  unfolding walked_reason
  found links t (is, few, long) =
      let whole : take t links ≡ links_to (trail roots (followed N heap) N) (number_in (numbered N heap) (suc at)) =
      is ∙ links_found_lem N a b d cells roots named order numbers owners vias met (get_or numbers at 0) traced number_few.0
      ∙ ap (links_to (trail roots (followed N heap) N)) number_is in
      record {
        few = omega (arith, number_few);
        long = long;
        is = reason_in_lem (take t links) ∙ ap (λ (l : List ℕ). reason_from (some (reverse l))) whole;
      }

take_few : (t : ℕ) (l : List ℕ) → length (take t l) ≤ t
take_few zero l = omega arith
take_few (suc t) [] = omega arith
take_few (suc t) (x ∷ l) = omega (arith, take_few t l)

pub links_few : (N : ℕ) (h : Memory) (at : ℕ) (links : List ℕ) (t : ℕ) → Found N h at links t → length (take t links) ≤ max_blocks
links_few N h at links t f = omega (arith, take_few t links, f.few)

pub links_whole : (N : ℕ) (h : Memory) (at : ℕ) (links : List ℕ) (t : ℕ) → Found N h at links t → (t ≤ length links) × (t ≡ length (take t links))
links_whole N h at links t f =
    (f.long, sym (length-take-le t links f.long))

-- ---- the call

module _ {N w : ℕ} {h : Memory} (u : Undamaged N w h) (at : ℕ) where
  same_walk : walked_reason N (walked_heap h.a h.b h.d h.cells h.roots) at ≡ walked_reason N h at
  unfolding walked_reason numbered followed references_of
  same_walk = refl

  pub refused_six : (out : List ℕ) (r : Reply) → is_first N h at ≡ false → r ≡ reply 6 0 0 → ReasonPromise N w at h out r h out
  unfolding own_refusals
  refused_six out r other reply =
      output_refused N w h u (write_reason at (length out)) refl (sentence_for N h at) out r 6 (omega arith)
      (first_found 6 (not (is_first N h at)) _ (ap not other)) reply

  made : sentence (walked_reason N (walked_heap h.a h.b h.d h.cells h.roots) at) at ≡ sentence_for N h at
  unfolding sentence_for
  made = ap (λ (x : Reason). sentence x at) (same_walk ∙ walked_is N w h u.intact at)

  module _ (first : is_first N h at ≡ true) {out left : List ℕ} where
    pub refused_short : (r : Reply) → Told N (walked_heap h.a h.b h.d h.cells h.roots) at out left None → r ≡ reply 15 0 0 → ReasonPromise N w at h out r h left
    unfolding own_refusals
    refused_short r (short, same) reply =
        let long : length out < length (sentence_for N h at) = omega (arith, ap length made) in
        rw same
        (output_refused N w h u (write_reason at (length out)) refl (sentence_for N h at) out r 15 (omega arith)
        (first_past 6 (not (is_first N h at)) _ (ap not first)
        ∙ first_found 15 (ltb (length out) (length (sentence_for N h at))) [] (lt-ltb (length out) (length (sentence_for N h at)) long)) reply)

    pub accepted_long : {n : ℕ} (r : Reply) → Told N (walked_heap h.a h.b h.d h.cells h.roots) at out left (Some n) → r ≡ reply 0 n 0 → ReasonPromise N w at h out r h left
    unfolding outcome Passed
    accepted_long {n} r (long, put) reply =
        let passed : length (sentence_for N h at) ≤ length out = omega (arith, ap length made) in
        output_accepted N w h u (write_reason at (length out)) refl (sentence_for N h at) out r left n (first, passed) refl (put_as made refl put) reply
