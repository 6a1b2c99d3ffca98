-- What a call that stores marks and lists while a collection is open (request U8), as sets of objects of the
-- graph. h is the memory before the call, k the one with a new object placed and the slot written, g what is
-- left when all is let go.
use mathlib.Core.Path.{◌≡◌, sym, ap, ◌∙◌}
use mathlib.Core.Logic.{◌≢◌, ◌⊎◌, inl, inr}
use mathlib.Core.Bool.{true, false, not, ◌&&◌, ◌||◌, true≢false}
use mathlib.Core.List.{List}
use Prim.Native.Nat.{ℕ, ◌+◌}
use native.Mathlib.Decide.{ℕ_discrete}
use lib.Dec.{ltb}
use lib.ListN.{length}
use borrow.Author.Tests.{not-true, not-false}
use Rattle.rules.specs.Tools.{holding}
use Rattle.rules.specs.Heap.{Memory, is_first}
use Rattle.rules_steps.specs.Steps.{names, is_marked, is_listed, was_marked, named_by_freed, marks_after, list_after}
use Rattle.rules.proofs.Tests.{false_unless, and_true, true_and, and_false, or_true, true_or, or_false, some_true, true_some}
use Rattle.theory_graphs.proofs.Graphs.Graph.{size}
use Rattle.theory_graphs.proofs.Graphs.Tidy.{Was, FreedNames, Shades}
use Rattle.theory_memories.proofs.Memories.View.{view}
use Rattle.theory_memories.proofs.Memories.TidyHeap.{first_some, some_first, some_inside, names_slot, slot_names}

-- the object at block b is one of those that are touched
abbrev pub Among : List ℕ → ℕ → Type 0
Among touched b = ltb 0 (holding (b + 1) touched) ≡ true

module _ (N w : ℕ) (h k : Memory) (touched : List ℕ) (g : Memory) where
  gone_size : (m : Memory) (x : ℕ) → is_first N m x ≡ false → size (view N w m) x ≡ 0
  gone_size m x f =
      elim (ℕ_discrete (size (view N w m) x) 0) [ yes z ↦ z | no n ↦ absurd (true≢false (sym (some_first N w m x n) ∙ f)) ]

  size_gone : (m : Memory) (x : ℕ) → size (view N w m) x ≡ 0 → is_first N m x ≡ false
  size_gone m x z = false_unless (is_first N m x) (λ f. first_some N w m x f z)

  pub was_facts : (b : ℕ) → was_marked N h k touched g b ≡ true → Was (view N w h) (view N w k) (is_marked h) b
  unfolding was_marked
  was_facts b e = go (or_true (is_marked h b) (is_first N k b && not (is_first N h b)) e)
    where
      go : (is_marked h b ≡ true) ⊎ (is_first N k b && not (is_first N h b) ≡ true) → Was (view N w h) (view N w k) (is_marked h) b
      go (inl m) = inl m
      go (inr q) =
          let both = and_true (is_first N k b) (not (is_first N h b)) q in
          inr (gone_size h b (not-true (is_first N h b) both.1), first_some N w k b both.0)

  pub facts_was : (b : ℕ) → Was (view N w h) (view N w k) (is_marked h) b → was_marked N h k touched g b ≡ true
  unfolding was_marked
  facts_was b (inl m) = true_or (is_marked h b) (is_first N k b && not (is_first N h b)) (inl m)
  facts_was b (inr (z, n)) =
      true_or (is_marked h b) (is_first N k b && not (is_first N h b))
      (inr (true_and (is_first N k b) (not (is_first N h b)) (some_first N w k b n) (ap not (size_gone h b z))))

  abbrev Freed : ℕ → Type 0
  Freed b = FreedNames (length k.roots) (view N w k) (view N w g) b

  freed_facts : (b : ℕ) → named_by_freed N h k touched g b ≡ true → Freed b
  unfolding named_by_freed
  freed_facts b e =
      let found = some_true (λ x. is_first N k x && not (is_first N g x) && names N k x b) N e in
      let x : ℕ = found.0 in
      let outer = and_true (is_first N k x && not (is_first N g x)) (names N k x b) found.2 in
      let inner = and_true (is_first N k x) (not (is_first N g x)) outer.0 in
      let there = names_slot N w k x b inner.0 outer.1 in
      record {
        object = x;
        place = there.0;
        stood = first_some N w k x inner.0;
        gone = gone_size g x (not-true (is_first N g x) inner.1);
        owns = there.1;
        names = there.2;
      }

  facts_freed : (b : ℕ) → Freed b → named_by_freed N h k touched g b ≡ true
  unfolding named_by_freed
  facts_freed b f =
      let x : ℕ = f.object in
      let first = some_first N w k x f.stood in
      true_some (λ x. is_first N k x && not (is_first N g x) && names N k x b) N x (some_inside N w k x f.stood)
      (true_and (is_first N k x && not (is_first N g x)) (names N k x b)
      (true_and (is_first N k x) (not (is_first N g x)) first (ap not (size_gone g x f.gone)))
      (slot_names N w k x b f.place first f.owns f.names))

  abbrev Met : ℕ → Type 0
  Met b = Was (view N w h) (view N w k) (is_marked h) b ⊎ (Among touched b ⊎ Freed b)

  marks_facts : (b : ℕ) → marks_after N h k touched g b ≡ true → (size (view N w g) b ≢ 0) × Met b
  unfolding marks_after
  marks_facts b e =
      let both =
      and_true (is_first N g b) (was_marked N h k touched g b || ltb 0 (holding (b + 1) touched) || named_by_freed N h k touched g b) e in
      (first_some N w g b both.0, go (or_true (was_marked N h k touched g b || ltb 0 (holding (b + 1) touched)) (named_by_freed N h k touched g b) both.1))
    where
      go : (was_marked N h k touched g b || ltb 0 (holding (b + 1) touched) ≡ true) ⊎ (named_by_freed N h k touched g b ≡ true) → Met b
      go (inr f) = inr (inr (freed_facts b f))
      go (inl q) =
          elim (or_true (was_marked N h k touched g b) (ltb 0 (holding (b + 1) touched)) q) [
            | inl m ↦ inl (was_facts b m)
            | inr t ↦ inr (inl t)
          ]

  facts_marks : (b : ℕ) → size (view N w g) b ≢ 0 → Met b → marks_after N h k touched g b ≡ true
  unfolding marks_after
  facts_marks b n met =
      true_and (is_first N g b) (was_marked N h k touched g b || ltb 0 (holding (b + 1) touched) || named_by_freed N h k touched g b)
      (some_first N w g b n)
      (true_or (was_marked N h k touched g b || ltb 0 (holding (b + 1) touched)) (named_by_freed N h k touched g b) (go met))
    where
      go : Met b → (was_marked N h k touched g b || ltb 0 (holding (b + 1) touched) ≡ true) ⊎ (named_by_freed N h k touched g b ≡ true)
      go (inl m) = inl (true_or (was_marked N h k touched g b) (ltb 0 (holding (b + 1) touched)) (inl (facts_was b m)))
      go (inr (inl t)) = inl (true_or (was_marked N h k touched g b) (ltb 0 (holding (b + 1) touched)) (inr t))
      go (inr (inr f)) = inr (facts_freed b f)

  pub shades :
      Shades (length k.roots) (view N w h) (view N w k) (view N w g) (Among touched) (is_marked h) (is_listed N h)
      (marks_after N h k touched g) (list_after N h k touched g)
  unfolding list_after
  shades =
      record {
        now = marks_facts;
        also = facts_marks;
        listed = λ b e.
            let both = and_true (marks_after N h k touched g b) (is_listed N h b || not (was_marked N h k touched g b)) e in
            (both.0, new b (or_true (is_listed N h b) (not (was_marked N h k touched g b)) both.1));
        unlisted = λ b m u.
            let both = or_false (is_listed N h b) (not (was_marked N h k touched g b)) (and_false (marks_after N h k touched g b) _ u m) in
            (was_facts b (not-false (was_marked N h k touched g b) both.1), both.0);
      }
    where
      new : (b : ℕ) → (is_listed N h b ≡ true) ⊎ (not (was_marked N h k touched g b) ≡ true)
          → (is_listed N h b ≡ true) ⊎ ¬ (Was (view N w h) (view N w k) (is_marked h) b)
      new b (inl l) = inl l
      new b (inr u) = inr (λ was. true≢false (sym (facts_was b was) ∙ not-true (was_marked N h k touched g b) u))
