-- The counts that a collection of the rules leaves, block by block: the sweep makes them 0 at the objects that go, and the recount writes
-- those of the objects that stay.
use mathlib.Core.Path.{◌≡◌, refl, sym, ap, ◌∙◌}
use mathlib.Core.Logic.{◌≢◌, ◌⊎◌, inl, inr}
use mathlib.Core.Bool.{Bool, true, false, not, ◌&&◌, true≢false}
use mathlib.Core.List.{List}
use Prim.Native.Nat.{ℕ, zero, suc, ◌*◌, ◌/◌, ◌≤◌, ◌<◌, min}
use native.Mathlib.Decide.{ℕ_discrete}
use native.Mathlib.Omega.{arith}
use lib.ListN.{length}
use lib.Pow.{pow_pos}
use borrow.Author.Tests.{not-true}
use Rattle.planes.specs.Plane.{count_at, set_count}
use Rattle.planes.proofs.Counts.{count_set_same, count_set_other, length_set_count}
use Rattle.rules.specs.Heap.{Memory, capacity, count_of, is_first, size_at}
use Rattle.rules_stores.specs.Store.{freed}
use Rattle.rules_stores.specs.Collection.{marked, references_from, swept, recounted}
use Rattle.rules.proofs.Tests.{test_cases_lem, and_true}
use Rattle.theory_memories.proofs.Memories.ViewSweep.{swept_goes, swept_stays}

module _ (N w : ℕ) (whole : 8 * (N / 8) ≡ N) (h : Memory) (marks : List Bool) where
  -- ---- the sweep

  freed_same : (g : Memory) (x n : ℕ) → length g.counts ≡ w * (N / 8) → x < N → count_of N w (freed N w g x n) x ≡ 0
  unfolding freed
  freed_same g x n len l = count_set_same (N / 8) w g.counts x 0 (omega arith) (omega arith) (pow_pos w)

  freed_other : (g : Memory) (x n b : ℕ) → x < N → b < N → b ≢ x → count_of N w (freed N w g x n) b ≡ count_of N w g b
  unfolding freed
  freed_other g x n b l u d = count_set_other (N / 8) w g.counts x 0 b (omega arith) (omega arith) d

  freed_length : (g : Memory) (x n : ℕ) → length (freed N w g x n).counts ≡ length g.counts
  unfolding freed
  freed_length g x n = length_set_count (N / 8) w g.counts x 0

  module _ (len : length h.counts ≡ w * (N / 8)) where
    swept_length : (n : ℕ) → length (swept N w h marks n).counts ≡ w * (N / 8)
    unfolding swept
    swept_length zero = len
    swept_length (suc n) =
        elim (test_cases_lem (is_first N h n && not (marked marks n))) [
          | inl e ↦
              ap (λ (g : Memory). length g.counts) (swept_goes N w h marks n e)
              ∙ freed_length (swept N w h marks n) n (size_at N h n)
              ∙ swept_length n
          | inr e ↦ ap (λ (g : Memory). length g.counts) (swept_stays N w h marks n e) ∙ swept_length n
        ]

    -- a count of 0 stays, and that of an object that goes becomes 0
    pub swept_uncounted :
        (n b : ℕ) → n ≤ N → b < N → (count_of N w h b ≡ 0) ⊎ ((b < n) × (is_first N h b && not (marked marks b) ≡ true))
        → count_of N w (swept N w h marks n) b ≡ 0
    unfolding swept
    swept_uncounted zero b l u (inl z) = z
    swept_uncounted zero b l u (inr (v, e)) = absurd (omega arith)
    swept_uncounted (suc n) b l u o =
        elim (test_cases_lem (is_first N h n && not (marked marks n))) [
          | inl e ↦
              ap (λ (g : Memory). count_of N w g b) (swept_goes N w h marks n e)
              ∙ elim (ℕ_discrete b n) [
                | yes q ↦
                    ap (count_of N w (freed N w (swept N w h marks n) n (size_at N h n))) q
                    ∙ freed_same (swept N w h marks n) n (size_at N h n) (swept_length n) l
                | no q ↦
                    freed_other (swept N w h marks n) n (size_at N h n) b l u q
                    ∙ swept_uncounted n b (omega arith) u (earlier o (λ same. absurd (q same)))
              ]
          | inr e ↦
              ap (λ (g : Memory). count_of N w g b) (swept_stays N w h marks n e)
              ∙ swept_uncounted n b (omega arith) u (earlier o (λ same goes. true≢false (sym (rw same at goes) ∙ e)))
        ]
      where
        earlier :
            (count_of N w h b ≡ 0) ⊎ ((b < suc n) × (is_first N h b && not (marked marks b) ≡ true))
            → (b ≡ n → is_first N h b && not (marked marks b) ≡ true → ⊥)
            → (count_of N w h b ≡ 0) ⊎ ((b < n) × (is_first N h b && not (marked marks b) ≡ true))
        earlier (inl z) d = inl z
        earlier (inr (v, e)) d = elim (ℕ_discrete b n) [ yes q ↦ absurd (d q e) | no q ↦ inr (omega arith, e) ]

    -- and that of a marked object stays
    pub swept_counted : (n b : ℕ) → n ≤ N → b < N → marked marks b ≡ true → count_of N w (swept N w h marks n) b ≡ count_of N w h b
    unfolding swept
    swept_counted zero b l u m = refl
    swept_counted (suc n) b l u m =
        elim (test_cases_lem (is_first N h n && not (marked marks n))) [
          | inl e ↦
              let d : b ≢ n =
              λ q. true≢false (sym m ∙ ap (marked marks) q ∙ not-true (marked marks n) (and_true (is_first N h n) (not (marked marks n)) e).1) in
              ap (λ (g : Memory). count_of N w g b) (swept_goes N w h marks n e)
              ∙ freed_other (swept N w h marks n) n (size_at N h n) b l u d ∙ swept_counted n b (omega arith) u m
          | inr e ↦ ap (λ (g : Memory). count_of N w g b) (swept_stays N w h marks n e) ∙ swept_counted n b (omega arith) u m
        ]

  -- ---- the recount

  module _ (counts : List ℕ) where
    recounted_goes : (n : ℕ) → marked marks n ≡ true
        → recounted N w h marks counts (suc n)
        ≡ set_count (N / 8) w (recounted N w h marks counts n) n (min (capacity w) (references_from N h (marked marks) n))
    unfolding recounted
    recounted_goes n e = rw (e, recounted)

    recounted_stays : (n : ℕ) → marked marks n ≡ false → recounted N w h marks counts (suc n) ≡ recounted N w h marks counts n
    unfolding recounted
    recounted_stays n e = rw (e, recounted)

    pub recounted_length : (n : ℕ) → length (recounted N w h marks counts n) ≡ length counts
    unfolding recounted
    recounted_length zero = refl
    recounted_length (suc n) =
        elim (test_cases_lem (marked marks n)) [
          | inl e ↦
              ap length (recounted_goes n e)
              ∙ length_set_count (N / 8) w (recounted N w h marks counts n) n (min (capacity w) (references_from N h (marked marks) n))
              ∙ recounted_length n
          | inr e ↦ ap length (recounted_stays n e) ∙ recounted_length n
        ]

    pub recounted_other :
        (n b : ℕ) → n ≤ N → b < N → marked marks b ≡ false → count_at (N / 8) w (recounted N w h marks counts n) b ≡ count_at (N / 8) w counts b
    unfolding recounted
    recounted_other zero b l u f = refl
    recounted_other (suc n) b l u f =
        elim (test_cases_lem (marked marks n)) [
          | inl e ↦
              ap (λ (c : List ℕ). count_at (N / 8) w c b) (recounted_goes n e)
              ∙ count_set_other (N / 8) w (recounted N w h marks counts n) n (min (capacity w) (references_from N h (marked marks) n)) b
              (omega arith)
              (omega arith)
              (λ q. true≢false (sym e ∙ ap (marked marks) (sym q) ∙ f))
              ∙ recounted_other n b (omega arith) u f
          | inr e ↦ ap (λ (c : List ℕ). count_at (N / 8) w c b) (recounted_stays n e) ∙ recounted_other n b (omega arith) u f
        ]

    pub recounted_marked :
        length counts ≡ w * (N / 8) → (n b : ℕ) → n ≤ N → b < n → marked marks b ≡ true
        → count_at (N / 8) w (recounted N w h marks counts n) b ≡ min (capacity w) (references_from N h (marked marks) b)
    recounted_marked len zero b l u m = absurd (omega arith)
    recounted_marked len (suc n) b l u m =
        elim (test_cases_lem (marked marks n)) [
          | inl e ↦
              ap (λ (c : List ℕ). count_at (N / 8) w c b) (recounted_goes n e)
              ∙ elim (ℕ_discrete b n) [
                | yes q ↦
                    rw q
                    (count_set_same (N / 8) w (recounted N w h marks counts n) n (min (capacity w) (references_from N h (marked marks) n))
                    (omega arith)
                    (omega (arith, recounted_length n))
                    (omega (arith, pow_pos w)))
                | no q ↦
                    count_set_other (N / 8) w (recounted N w h marks counts n) n (min (capacity w) (references_from N h (marked marks) n)) b
                    (omega arith)
                    (omega arith)
                    q
                    ∙ recounted_marked len n b (omega arith) (omega arith) m
              ]
          | inr e ↦
              ap (λ (c : List ℕ). count_at (N / 8) w c b) (recounted_stays n e)
              ∙ recounted_marked len n b (omega arith) (earlier (λ q. true≢false (sym m ∙ ap (marked marks) q ∙ e))) m
        ]
      where
        earlier : b ≢ n → b < n
        earlier d = omega arith
