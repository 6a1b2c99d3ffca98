-- Where the objects of a copy go: each found its chunk at its turn, in the A-map that those before it leave; or one finds none.
use mathlib.Core.Path.{◌≡◌, refl, sym, ap, ◌∙◌, subst}
use mathlib.Core.List.{List, [], ◌∷◌, ◌++◌}
use mathlib.Core.Option.{Option, none, some, none-ne-some, some-injective}
use Prim.Native.Nat.{ℕ, zero, suc, ◌+◌, ◌/◌, ◌≤◌, ◌<◌}
use native.Mathlib.Decide.{ℕ_discrete}
use native.Mathlib.Omega.{arith}
use lib.ListN.{length, get_or, replicate, length-append, get_or-append}
use lib.Seq.{get_or-append_seam}
use Rattle.bitmap.specs.Bit.{fill_bits}
use Rattle.rules.specs.Heap.{exponent, lowest_free}
use Rattle.rules_copy.specs.Copy.{Laid, laid, lay_one, lay_next, lay_first}
use Rattle.theory_copies.specs.Copies.{map_with}

-- the places of a list, by number
abbrev pub listed : List ℕ → ℕ → ℕ
listed places k = get_or places k 0

module _ (M : ℕ) (sizes : ℕ → ℕ) where
  -- later places don't matter
  pub map_same : (p q : ℕ → ℕ) (k : ℕ) → ((i : ℕ) → i < k → p i ≡ q i) → map_with M sizes p k ≡ map_with M sizes q k
  unfolding map_with
  map_same p q zero same = refl
  map_same p q (suc k) same = rw (map_same p q k (λ i l. same i (omega arith)), same k (omega arith)) refl

  pub record LaidOut (K : ℕ) (s : Laid) : Type 0 where
    pub long : length s.places ≡ K
    pub map_is : s.a ≡ map_with M sizes (listed s.places) K
    pub found : (k : ℕ) → k < K → lowest_free M (exponent (sizes k)) (map_with M sizes (listed s.places) k) ≡ some (listed s.places k)

  -- one more
  laid_more : (K : ℕ) (t : Laid) (i : ℕ) → LaidOut K t → lowest_free M (exponent (sizes K)) t.a ≡ some i
      → LaidOut (suc K) (laid (fill_bits t.a i (sizes K) 1) (t.places ++ (i ∷ [])))
  unfolding map_with
  laid_more K t i out at =
      let places : List ℕ = t.places ++ (i ∷ []) in
      let last : get_or places K 0 ≡ i =
      ap (λ (k : ℕ). get_or places k 0) (sym out.long) ∙ get_or-append_seam t.places i [] 0 in
      let earlier : (k : ℕ) → k < K → get_or places k 0 ≡ get_or t.places k 0 =
      λ k l. get_or-append t.places (i ∷ []) 0 k (omega (arith, out.long)) in
      let before : (k : ℕ) → k ≤ K → map_with M sizes (listed places) k ≡ map_with M sizes (listed t.places) k =
      λ k l. map_same (listed places) (listed t.places) k (λ j u. earlier j (omega arith)) in
      record {
        long = omega (arith, length-append t.places (i ∷ []), out.long);
        map_is = rw (last, before K (omega arith), out.map_is) refl;
        found = λ k l. elim (ℕ_discrete k K) [
          | yes e ↦ rw (e, last, before K (omega arith), ← out.map_is) at
          | no d ↦ rw (earlier k (omega arith), before k (omega arith)) (out.found k (omega arith))
        ];
      }

  -- what was laid before the last
  one_before : (n : ℕ) (t s : Laid) (o : Option ℕ) → lowest_free M (exponent n) t.a ≡ o → lay_one M n t ≡ some s
      → (i : ℕ) × (lowest_free M (exponent n) t.a ≡ some i) × (s ≡ laid (fill_bits t.a i n 1) (t.places ++ (i ∷ [])))
  unfolding lay_one
  one_before n t s none f e = absurd (none-ne-some s (rw (f, lay_one) at e))
  one_before n t s (some i) f e = (i, f, sym (some-injective _ s (rw (f, lay_one) at e)))

  pub laid_out : (K : ℕ) (s : Laid) → lay_first M sizes K ≡ some s → LaidOut K s
  unfolding lay_first lay_next map_with
  laid_out zero s e =
      subst (LaidOut 0) (some-injective _ s e)
      (record { long = refl; map_is = refl; found = λ k l. absurd (omega arith) })
  laid_out (suc K) s e = go (lay_first M sizes K) refl (laid_out K)
    where
      go : (o : Option Laid) → lay_first M sizes K ≡ o → ((t : Laid) → lay_first M sizes K ≡ some t → LaidOut K t) → LaidOut (suc K) s
      go none f before = absurd (none-ne-some s (rw (f, lay_next) at e))
      go (some t) f before =
          let one = one_before (sizes K) t s (lowest_free M (exponent (sizes K)) t.a) refl (rw (f, lay_next) at e) in
          subst (LaidOut (suc K)) (sym one.2) (laid_more K t one.0 (before t f) one.1)
