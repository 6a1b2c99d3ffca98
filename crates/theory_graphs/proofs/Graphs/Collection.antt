-- What a collection leaves: the objects that a root leads to, as they were, with their slots; nothing else; and counts that are exact up to
-- the capacity. What follows of such a graph: it is balanced, and nothing waits.
use mathlib.Core.Path.{◌≡◌, sym, ◌∙◌}
use mathlib.Core.Logic.{◌≢◌, ◌⊎◌, inl, inr}
use mathlib.Core.List.{[]}
use Prim.Native.Nat.{ℕ, suc, ◌<◌, min}
use native.Mathlib.Decide.{ℕ_discrete}
use native.Mathlib.Omega.{arith}
use lib.ListN.{length}
use Rattle.theory_graphs.proofs.Graphs.Occurrences.{equals_none, occurrences_nil, occurrences_name, occurrences_find}
use Rattle.theory_graphs.proofs.Graphs.Graph.{Graph, size, count, slot, references, Owns}
use Rattle.theory_graphs.proofs.Graphs.Balance.{Balanced, Waits, unreferenced_absent, unreferenced_counted}
use Rattle.theory_graphs.proofs.Graphs.Keep.{Reach, root, link}

-- slot s is a root, or one of an object that a root leads to
abbrev pub Live : ℕ → Graph → ℕ → Type 0
Live r h s = (s < r) ⊎ ((x : ℕ) × Reach r h.sizes h.slots x × Owns r h.sizes x s)

pub record Collected (cap r : ℕ) (h k : Graph) : Type 0 where
  pub reached : (b : ℕ) → Reach r h.sizes h.slots b → size k b ≡ size h b
  pub unreached : (b : ℕ) → ¬ (Reach r h.sizes h.slots b) → size k b ≡ 0
  pub live : (s : ℕ) → Live r h s → slot k s ≡ slot h s
  pub dead : (s : ℕ) → ¬ (Live r h s) → slot k s ≡ 0
  pub counted : (b : ℕ) → count k b ≡ min cap (references k b)
  pub sizes_length : length k.sizes ≡ length h.sizes
  pub counts_length : length k.counts ≡ length h.sizes
  pub slots_length : length k.slots ≡ length h.slots

module _ (cap r : ℕ) (h k : Graph) (collected : Collected cap r h k) where
  -- an object that stood is as it was or gone
  pub collected_or_gone : (b : ℕ) → (size k b ≡ size h b) ⊎ (size k b ≡ 0)
  collected_or_gone b =
      elim (ℕ_discrete (size k b) (size h b)) [
        | yes e ↦ inl e
        | no n ↦ inr (collected.unreached b (λ a. n (collected.reached b a)))
      ]

  -- a reference that is left was there before
  pub collected_slot : (s : ℕ) → slot k s ≢ 0 → slot k s ≡ slot h s
  collected_slot s n =
      elim (ℕ_discrete (slot k s) (slot h s)) [ yes e ↦ e | no d ↦ absurd (n (collected.dead s (λ a. d (collected.live s a)))) ]

  -- what is reached is still named
  reached_counted : 0 < cap → (b : ℕ) → Reach r h.sizes h.slots b → count k b ≢ 0
  reached_counted pos b reach z = go reach
    where
      by : (s : ℕ) → Live r h s → slot h s ≡ suc b → ⊥
      by s a e = omega (arith, collected.counted b, occurrences_name b k.slots s (collected.live s a ∙ e))

      go : Reach r h.sizes h.slots b → ⊥
      go (root s l e) = by s (inl l) e
      go (link x s q own e) = by s (inr (x, q, own)) e

  module _ (objects : (s b : ℕ) → slot h s ≡ suc b → size h b ≢ 0) where
    -- what is named was reached, so it stands
    absent : (b : ℕ) → size k b ≡ 0 → references k b ≡ 0
    absent b z = elim (ℕ_discrete (references k b) 0) [ yes e ↦ e | no n ↦ absurd (go (occurrences_find (suc b) k.slots (omega arith))) ]
      where
        go : (s : ℕ) × (s < length k.slots) × (slot k s ≡ suc b) → ⊥
        go (s, l, e) =
            let f : slot h s ≡ suc b = sym (collected_slot s (omega arith)) ∙ e in
            let d : ¬ (Live r h s) = λ a. objects s b f (sym (collected.reached b (by a f)) ∙ z) in
            omega (arith, collected.dead s d)
          where
            by : Live r h s → slot h s ≡ suc b → Reach r h.sizes h.slots b
            by (inl u) f = root s u f
            by (inr (x, q, own)) f = link x s q own f

    pub collected_balanced : Balanced cap k 0
    collected_balanced b =
        record {
          bounded = omega (arith, collected.counted b);
          exact = λ l. omega (arith, collected.counted b, equals_none b);
          absent = λ z. omega (arith, collected.counted b, absent b z);
        }

    pub collected_waits : 0 < cap → Waits k []
    collected_waits pos b =
        occurrences_nil b
        ∙ sym
        (elim (ℕ_discrete (count k b) 0) [
          | yes z ↦ unreferenced_absent (size k b) (count k b) (collected.unreached b (λ a. reached_counted pos b a z))
          | no n ↦ unreferenced_counted (size k b) (count k b) n
        ])
