-- The walk over a heap in the local arrays, with the place of each first meeting.
use mathlib.Core.Path.{◌≡◌, refl, sym, ap, ◌∙◌, subst}
use mathlib.Core.Logic.{inl, inr}
use mathlib.Core.List.{List, [], ◌∷◌}
use mathlib.Core.Bool.{true}
use Prim.Native.Nat.{ℕ, zero, suc, ◌+◌, ◌-◌, ◌*◌, ◌≤◌, ◌<◌}
use native.Mathlib.Numerals.{add-one}
use native.Mathlib.Decide.{ℕ_discrete}
use native.Mathlib.Omega.{arith}
use lib.ListN.{length, get_or}
use Rattle.rules.specs.Heap.{Memory, is_first, size_at}
use Rattle.rules_stores.specs.Store.{naming_cells}
use Rattle.rules_output.specs.Walk.{object_at, walk, references_of, followed, numbered}
use Rattle.theory_walks.specs.Trail.{Entry, met_in, meet_each_at, trail, links_to}
use Rattle.theory_walks.proofs.Walks.Numbers.{object_past}
use Rattle.theory_walks.proofs.Walks.Least.{trail_settled}
use Rattle.theory_walks.proofs.Walks.Trails.{Owned, met_length, MetAt, nothing, again, new, met_at_cases, trail_met}
use Rattle.theory_walks.proofs.Walks.Reached.{followed_zero, followed_block, Named}
use Rattle.walk_objects.specs.Walking.{Walked, walked_heap, part}
use Rattle.walk_objects.specs.Walking.{entries, Traced}
use Rattle.walk_objects.proofs.Tracing.{entries_met}
use Rattle.walk_objects.proofs.Linking.{entries_length, later}
use Rattle.walk_objects.proofs.Numbering.{Taken, taken, data_zeros, cells_list, cells_count}

each_zeros_at : (l : List Entry) (p j : ℕ) (vs : List ℕ) → ((i : ℕ) → i < length vs → get_or vs i 0 ≡ 0) → meet_each_at l p j vs ≡ l
unfolding meet_each_at
each_zeros_at l p j [] z = refl
each_zeros_at l p j (v ∷ vs) z =
    ap (λ (m : List Entry). meet_each_at m p (suc j) vs) (same (met_at_cases l p j v)) ∙ each_zeros_at l p (suc j) vs (λ i b. z (suc i) (omega arith))
  where
    same : {next : List Entry} → MetAt l p j v next → next ≡ l
    same (nothing e) = refl
    same (again n d e) = refl
    same (new d e) = absurd (d (z 0 (omega arith)))

module _ (N : ℕ) (a b d cells roots : List ℕ) (named : Named N (walked_heap a b d cells roots)) where
  abbrev heap : Memory
  heap = walked_heap a b d cells roots

  abbrev turns : ℕ → List Entry
  turns k = trail roots (followed N heap) k

  pub walked : (order numbers owners vias : List ℕ) (met k : ℕ) → Traced N (turns k) order numbers owners vias met
      → Walked N (walk roots (followed N heap) k) order numbers met
  walked order numbers owners vias met k t =
      record {
        is = sym (entries_met order owners vias met) ∙ ap met_in t.is ∙ trail_met roots (followed N heap) k;
        walking = t.tracing.walking;
      }

  pub object_of : (order numbers owners vias : List ℕ) (met k : ℕ) → Traced N (turns k) order numbers owners vias met → k < met
      → Taken N a b d cells roots named order k
  object_of order numbers owners vias met k t h = taken N a b d cells roots named order numbers met k (walked order numbers owners vias met k t) h

  cells_at_met : (at : ℕ) → is_first N heap at ≡ true → (l : List Entry) (p n : ℕ) → n ≡ naming_cells d at (size_at N heap at)
      → meet_each_at l p 0 (part cells (4 * at) n) ≡ meet_each_at l p 0 (references_of N heap at)
  unfolding part
  cells_at_met at first l p n count = elim (cells_count N a b d cells roots named at first n count) [
    | inl (made, none) ↦
        ap (λ (k : ℕ). meet_each_at l p 0 (part cells (4 * at) k)) none
        ∙ each_zeros_at l p 0 [] (λ j b. absurd (omega arith))
        ∙ sym (each_zeros_at l p 0 (references_of N heap at) (data_zeros N a b d cells roots named at first made))
    | inr (other, all) ↦
        ap (λ (k : ℕ). meet_each_at l p 0 (part cells (4 * at) k)) all
        ∙ ap (meet_each_at l p 0) (cells_list N a b d cells roots named at first other)
  ]

  pub start_at : (order order₀ numbers owners owners₀ vias vias₀ : List ℕ) (met : ℕ)
      → Traced N (meet_each_at (entries order₀ owners₀ vias₀ 0) 0 0 roots) order numbers owners vias met
      → Traced N (turns 0) order numbers owners vias met
  unfolding trail entries
  start_at order order₀ numbers owners owners₀ vias vias₀ met t =
      record { is = t.is; tracing = t.tracing }

  pub next_at :
      (order numbers owners vias order' numbers' owners' vias' : List ℕ) (met met' k n : ℕ) → Traced N (turns k) order numbers owners vias met → k < met
      → n ≡ naming_cells d (get_or order k 0 - 1) (size_at N heap (get_or order k 0 - 1))
      → Traced N (meet_each_at (entries order owners vias met) (k + 1) 0 (part cells (4 * (get_or order k 0 - 1)) n)) order' numbers' owners' vias' met'
      → Traced N (turns (k + 1)) order' numbers' owners' vias' met'
  unfolding trail
  next_at order numbers owners vias order' numbers' owners' vias' met met' k n t h count t' =
      let o = object_of order numbers owners vias met k t h in
      let at : ℕ = get_or order k 0 - 1 in
      let whole : suc at ≡ get_or order k 0 = omega (arith, o.some) in
      let object : object_at (met_in (turns k)) (suc k) ≡ get_or order k 0 =
      ap (λ (l : List ℕ). object_at l (suc k)) (trail_met roots (followed N heap) k) ∙ o.object in
      let list : references_of N heap at ≡ followed N heap (object_at (met_in (turns k)) (suc k)) =
      sym (followed_block N heap at) ∙ ap (followed N heap) (whole ∙ sym object) in
      rw (add-one k)
      (record {
        is =
            t'.is
            ∙ ap (λ (l : List Entry). meet_each_at l (k + 1) 0 (part cells (4 * at) n)) t.is
            ∙ cells_at_met at o.first (turns k) (k + 1) n count
            ∙ ap (λ (p : ℕ). meet_each_at (turns k) p 0 (references_of N heap at)) (add-one k)
            ∙ ap (meet_each_at (turns k) (suc k) 0) list;
        tracing = t'.tracing;
      })

  turn_stands : (k : ℕ) → length (turns k) ≤ k → turns (suc k) ≡ turns k
  unfolding trail
  turn_stands k h =
      let past = object_past (met_in (turns k)) (suc k) (omega (arith, met_length (turns k))) in
      ap (λ (v : ℕ). meet_each_at (turns k) (suc k) 0 (followed N heap v)) past
      ∙ ap (meet_each_at (turns k) (suc k) 0) (followed_zero N heap)
      ∙ each_zeros_at (turns k) (suc k) 0 [] (λ j b. absurd (omega arith))

  stands : (k n : ℕ) → length (turns k) ≤ k → turns (n + k) ≡ turns k
  stands k zero h = ap turns (omega arith)
  stands k (suc n) h =
      let before = stands k n h in
      let place : suc n + k ≡ suc (n + k) = omega arith in
      ap turns place ∙ turn_stands (n + k) (omega (arith, ap length before)) ∙ before

  pub finish_at : (order numbers owners vias : List ℕ) (met k : ℕ) → Traced N (turns k) order numbers owners vias met → met ≤ k → k ≤ N
      → Traced N (turns N) order numbers owners vias met
  finish_at order numbers owners vias met k t h l =
      let place : (N - k) + k ≡ N = omega arith in
      record {
        is = t.is ∙ sym (stands k (N - k) (omega (arith, ap length t.is, entries_length order owners vias met))) ∙ ap turns place;
        tracing = t.tracing;
      }

  -- ---- after the whole walk

  pub all_walked : (order numbers owners vias : List ℕ) (met : ℕ) → Traced N (turns N) order numbers owners vias met
      → Walked N (numbered N heap) order numbers met
  unfolding numbered
  all_walked order numbers owners vias met t = walked order numbers owners vias met N t

  -- ---- what `links_to` asks for and gives, after the whole walk

  owned_at : (order owners vias : List ℕ) (n : ℕ) → Owned (entries order owners vias n) → (i : ℕ) → i < n → get_or owners i 0 ≤ i
  unfolding entries
  owned_at order owners vias zero owned i l = absurd (omega arith)
  owned_at order owners vias (suc n) (Owned.cons own owned) i l = elim (ℕ_discrete i n) [
    | yes e ↦ omega (arith, own, entries_length order owners vias n, ap (λ (k : ℕ). get_or owners k 0) e)
    | no d ↦ owned_at order owners vias n owned i (omega arith)
  ]

  pub owners_before : (order numbers owners vias : List ℕ) (met : ℕ) → Traced N (turns N) order numbers owners vias met → (i : ℕ) → i < met → get_or owners i 0 ≤ i
  owners_before order numbers owners vias met t =
      owned_at order owners vias met (subst Owned (sym t.is) (trail_settled roots (followed N heap) (followed_zero N heap) N).owned)

  -- so what is written is what `WalkFindsChain` (theory_walks/specs/Reason.antt) turns round into the chain
  pub links_found_lem : (order numbers owners vias : List ℕ) (met n : ℕ) → Traced N (turns N) order numbers owners vias met → n ≤ met
      → links_to (entries [] owners vias n) n ≡ links_to (turns N) n
  links_found_lem order numbers owners vias met n t l =
      sym (later owners vias order met n l (owners_before order numbers owners vias met t)) ∙ ap (λ (e : List Entry). links_to e n) t.is
