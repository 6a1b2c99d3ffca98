-- A heap of which a root leads to every object: a collection frees nothing of it, and where each count is the number of references or the
-- capacity it changes nothing.
use mathlib.Core.Path.{◌≡◌, refl, sym, ap, ◌∙◌}
use mathlib.Core.Logic.{◌↔◌, inl, inr}
use mathlib.Core.Bool.{Bool, true, not}
use mathlib.Core.List.{List}
use Prim.Native.Nat.{ℕ, zero, suc, ◌/◌, min}
use Rattle.planes.proofs.Counts.{set_count_there}
use Rattle.rules.specs.Heap.{Memory, with_counts, capacity, count_of, is_first}
use Rattle.rules_stores.specs.Collection.{references_from, marked, reached, swept, recounted, collected}
use Rattle.rules.proofs.Tests.{test_cases_lem, false_and}
use Rattle.theory_memories.specs.Words.{Leads, number_of_references}
use Rattle.theory_memories.proofs.Memories.MarkOrders.{alike}
use Rattle.theory_memories.proofs.Memories.Rounds.{reached_led, led_reached}
use Rattle.theory_walks.proofs.Walks.Reached.{led_first}

module _ (M v : ℕ) (g : Memory) (all_led : (b : ℕ) → is_first M g b ≡ true → Leads M g b) where
  pub swept_none : (n : ℕ) → swept M v g (reached M g) n ≡ g
  unfolding swept
  swept_none zero = refl
  swept_none (suc n) =
      rw (false_and (is_first M g n) (not (marked (reached M g) n)) (λ f. ap not (led_reached M g n (all_led n f))), swept) (swept_none n)

-- a set of all that is led to is the set of all objects
pub all_references :
    (M : ℕ) (g : Memory) → ((b : ℕ) → is_first M g b ≡ true → Leads M g b) → (led : ℕ → Bool) → ((b : ℕ) → (led b ≡ true) ↔ Leads M g b)
    → (b : ℕ) → references_from M g led b ≡ number_of_references M g b
all_references M g all_led led led_is b = ap (λ (chosen : ℕ → Bool). references_from M g chosen b) (λ i. λ x. same x i)
  where
    same : (x : ℕ) → led x ≡ is_first M g x
    same x = alike (led x) (is_first M g x) (λ e. led_first M g ((led_is x).0 e)) (λ f. (led_is x).1 (all_led x f))

module _ (M v : ℕ) (g : Memory) (all_led : (b : ℕ) → is_first M g b ≡ true → Leads M g b)
    (counted : (b : ℕ) → is_first M g b ≡ true → count_of M v g b ≡ min (capacity v) (number_of_references M g b)) where
  recounted_same : (n : ℕ) → recounted M v g (reached M g) g.counts n ≡ g.counts
  unfolding recounted
  recounted_same zero = refl
  recounted_same (suc n) = elim (test_cases_lem (marked (reached M g) n)) [
    | inr e ↦ rw (e, recounted) (recounted_same n)
    | inl e ↦
        let references = all_references M g all_led (marked (reached M g)) (λ b. (reached_led M g b, led_reached M g b)) n in
        let there = counted n (led_first M g (reached_led M g n e)) ∙ ap (min (capacity v)) (sym references) in
        rw (e, recounted, recounted_same n) (set_count_there (M / 8) v g.counts n _ there)
  ]

  pub collected_same : collected M v g ≡ g
  unfolding collected
  collected_same =
      ap (λ (k : Memory). with_counts (recounted M v g (reached M g) k.counts M) k) (swept_none M v g all_led M)
      ∙ ap (λ (counts : List ℕ). with_counts counts g) (recounted_same M)
