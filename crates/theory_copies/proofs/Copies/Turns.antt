-- No place for all objects exactly where one finds no chunk at its turn.
use mathlib.Core.Path.{subst, ◌≡◌, refl, sym, ap, ◌∙◌}
use mathlib.Core.List.{List, [], ◌∷◌, ◌++◌}
use mathlib.Core.Option.{Option, none, some, none-ne-some}
use Prim.Native.Nat.{ℕ, zero, suc, ◌/◌, ◌<◌}
use native.Mathlib.Omega.{arith}
use native.Mathlib.Decide.{ℕ_discrete}
use Rattle.rules.specs.Heap.{exponent, lowest_free}
use lib.ListN.{replicate}
use Rattle.bitmap.specs.Bit.{fill_bits}
use Rattle.rules_copy.specs.Copy.{Laid, laid, lay_one, lay_next, lay_first}
use Rattle.theory_memories.specs.Heaps.{NoneFree}
use Rattle.theory_copies.specs.Copies.{map_with, InTurn}
use Rattle.theory_memories.proofs.Maps.LowestChunk.{lowest_some, some_lowest, lowest_none, none_lowest}
use Rattle.theory_copies.proofs.Copies.Laying.{listed, map_same, LaidOut}

module _ (M : ℕ) (sizes : ℕ → ℕ) where
  -- the turn at which the search ends
  abbrev Stops : ℕ → Type 0
  Stops K = (k : ℕ) × (k < K) × (s : Laid) × (lay_first M sizes k ≡ some s) × NoneFree M (exponent (sizes k)) s.a

  one_none : (n : ℕ) (s : Laid) (o : Option ℕ) → lowest_free M (exponent n) s.a ≡ o → lay_one M n s ≡ none → NoneFree M (exponent n) s.a
  unfolding lay_one
  one_none n s none f e = lowest_none M (exponent n) s.a f
  one_none n s (some i) f e = absurd (none-ne-some _ (sym (rw (f, lay_one) at e)))

  none_one : (n : ℕ) (s : Laid) → NoneFree M (exponent n) s.a → lay_one M n s ≡ none
  unfolding lay_one
  none_one n s free = rw (none_lowest M (exponent n) s.a free, lay_one)

  pub none_stops : (K : ℕ) → lay_first M sizes K ≡ none → Stops K
  unfolding lay_first lay_next
  none_stops zero e = absurd (none-ne-some _ (sym e))
  none_stops (suc K) e = go (lay_first M sizes K) refl (none_stops K)
    where
      go : (o : Option Laid) → lay_first M sizes K ≡ o → (lay_first M sizes K ≡ none → Stops K) → Stops (suc K)
      go none f before = let stops = before f in (stops.0, omega (arith, stops.1), stops.2, stops.3, stops.4)
      go (some s) f before =
          (K, omega arith, s, f, one_none (sizes K) s (lowest_free M (exponent (sizes K)) s.a) refl (rw (f, lay_next) at e))

  -- once ended, it stays so
  pub stops_none : (K : ℕ) → Stops K → lay_first M sizes K ≡ none
  unfolding lay_first lay_next
  stops_none zero (k, l, s, is, free) = absurd (omega arith)
  stops_none (suc K) (k, l, s, is, free) =
      elim (ℕ_discrete k K) [
        | yes e ↦
            rw (sym (ap (lay_first M sizes) e) ∙ is, lay_next)
            (subst (λ (x : ℕ). lay_one M (sizes x) s ≡ none) e (none_one (sizes k) s free))
        | no d ↦ rw (stops_none K (k, omega arith, s, is, free), lay_next) refl
      ]

  -- objects that lie in turn are those of the plan
  pub turns_laid : (places : ℕ → ℕ) (k : ℕ) → InTurn M sizes places k → (s : Laid) × (lay_first M sizes k ≡ some s) × (s.a ≡ map_with M sizes places k)
  unfolding lay_first lay_next lay_one map_with
  turns_laid places zero turns = (laid (replicate (M / 8) 0) [], refl, refl)
  turns_laid places (suc k) turns =
      let before = turns_laid places k (λ i l. turns i (omega arith)) in
      let s = before.0 in
      let at : lowest_free M (exponent (sizes k)) s.a ≡ some (places k) =
      ap (lowest_free M (exponent (sizes k))) before.2 ∙ some_lowest M (exponent (sizes k)) (map_with M sizes places k) (places k) (turns k (omega arith)) in (
        laid (fill_bits s.a (places k) (sizes k) 1) (s.places ++ (places k ∷ [])),
        rw (before.1, lay_next, at, lay_one) refl,
        ap (λ (a : List ℕ). fill_bits a (places k) (sizes k) 1) before.2,
      )

  -- and the other way
  pub laid_turns : (k : ℕ) (s : Laid) → LaidOut M sizes k s → InTurn M sizes (listed s.places) k
  laid_turns k s out i l = lowest_some M (exponent (sizes i)) (map_with M sizes (listed s.places) i) (listed s.places i) (out.found i l)

  pub turns_same : (p q : ℕ → ℕ) (k : ℕ) → ((i : ℕ) → i < k → p i ≡ q i) → InTurn M sizes p k → InTurn M sizes q k
  turns_same p q k same turns i l =
      rw (sym (map_same M sizes p q i (λ j u. same j (omega arith))), sym (same i l)) (turns i l)
