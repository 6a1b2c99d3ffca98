-- Totals of the two maps: free blocks and sizes make up the heap, and there are as many objects as 0 bits in the B-map (request U9).
use mathlib.Core.Path.{◌≡◌, refl, sym, ap, ◌∙◌}
use mathlib.Core.Logic.{◌≢◌, ◌⊎◌, inl, inr}
use mathlib.Core.Bool.{Bool, true, false, not}
use mathlib.Core.List.{List, [], ◌∷◌}
use Prim.Native.Nat.{ℕ, zero, suc, ◌+◌, ◌-◌, ◌*◌, ◌≤◌, ◌<◌}
use native.Mathlib.Decide.{ℕ_discrete}
use native.Mathlib.Omega.{arith}
use lib.Dec.{eqb}
use lib.ListN.{length, get_or, set, replicate, length-replicate}
use lib.Seq.{get_or-set_same, get_or-set_other}
use borrow.Author.Tests.{eq-eqb, ne_eqb}
use Rattle.bitmap.specs.Bit.{bit_at, one, set_bit, fill_bits, count_below, zeros}
use Rattle.bitmap.proofs.Maps.{bit_all_zero}
use Rattle.bitmap.proofs.Zeros.{count_same, count_change, zeros_same_bits, zeros_set_bit, zeros_fill_zeros, zeros_all_zero}
use Rattle.rules.specs.Heap.{first_in}
use Rattle.rules.proofs.Tests.{test_cases_lem}
use Rattle.rules.proofs.Objects.{bit_cases}
use Rattle.theory_memories.proofs.Maps.Extents.{Represents, first_size, not_first_size}
use Rattle.theory_memories.proofs.Maps.Moves.{freed_represents}

-- ---- sums

unfoldable pub sum : List ℕ → ℕ
sum [] = 0
sum (x ∷ l) = x + sum l

pub sum_none : (n : ℕ) → sum (replicate n 0) ≡ 0
unfolding sum
sum_none zero = refl
sum_none (suc n) = omega (arith, sum_none n)

pub sum_set : (l : List ℕ) (i x : ℕ) → i < length l → sum (set l i x) + get_or l i 0 ≡ sum l + x
unfolding sum
sum_set [] i x h = absurd (omega arith)
sum_set (y ∷ l) zero x h = omega arith
sum_set (y ∷ l) (suc i) x h = omega (arith, sum_set l i x (omega arith))

-- all numbers are 0, or one is not
sum_cases : (l : List ℕ) → ((sum l ≡ 0) × ((i : ℕ) → get_or l i 0 ≡ 0)) ⊎ ((i : ℕ) × (i < length l) × (get_or l i 0 ≢ 0))
unfolding sum
sum_cases [] = inl (refl, λ i. refl)
sum_cases (x ∷ l) = elim (ℕ_discrete x 0) [
  | no n ↦ inr (0, omega arith, n)
  | yes z ↦ elim (sum_cases l) [
    | inr t ↦ inr (suc t.0, omega (arith, t.1), t.2)
    | inl t ↦ inl (omega (arith, t.0), λ i. elim i as (λ k. get_or (x ∷ l) k 0 ≡ 0) [ zero ↦ z | suc i ↦ t.1 i ])
  ]
]

-- ---- both totals, one object freed after the other

-- an object starts at i
abbrev sized : List ℕ → ℕ → Bool
sized sizes i = not (eqb (get_or sizes i 0) 0)

count_none : (test : ℕ → Bool) (n : ℕ) → ((i : ℕ) → i < n → test i ≡ false) → count_below test n ≡ 0
unfolding count_below
count_none test zero h = refl
count_none test (suc n) h = omega (arith, count_none test n (λ i l. h i (omega arith)), ap one (h n (omega arith)))

record Totals (N : ℕ) (a b sizes : List ℕ) : Type 0 where
  blocks : zeros a + sum sizes ≡ N
  objects : count_below (sized sizes) N ≡ zeros b

module _ (N : ℕ) (a b sizes : List ℕ) (rep : Represents N a b sizes) where
  totals_empty : sum sizes ≡ 0 → ((i : ℕ) → get_or sizes i 0 ≡ 0) → Totals N a b sizes
  unfolding zeros
  totals_empty e none = record {
    blocks = omega (arith, rep.length_a, all_free);
    objects =
        count_none (sized sizes) N (λ i l. ap not (eq-eqb (get_or sizes i 0) 0 (none i)))
        ∙ sym (count_none (λ i. eqb (bit_at b i) 0) (8 * length b) (λ i l. ne_eqb (bit_at b i) 0 (omega (arith, ones i (omega (arith, rep.length_b))))));
  }
    where
      ones : (i : ℕ) → i < N → bit_at b i ≡ 1
      ones i l = rep.other i l (λ x n. absurd (n (none x)))

      free : (i : ℕ) → bit_at a i ≡ 0
      free i = elim (bit_cases a i) [ inl z ↦ z | inr o ↦ let t = rep.owner i o in absurd (omega (arith, t.1, t.2, none t.0)) ]

      all_free : zeros a ≡ 8 * length a
      all_free =
          zeros_same_bits a (replicate (length a) 0) (sym (length-replicate (length a) 0)) (λ i l. free i ∙ sym (bit_all_zero (length a) i))
          ∙ zeros_all_zero (length a)

  totals_freed : (x n : ℕ) → x < N → get_or sizes x 0 ≡ n → n ≢ 0
      → Totals N (fill_bits a x n 0) (set_bit b (x + n - 1) 1) (set sizes x 0) → Totals N a b sizes
  totals_freed x n l e some t = record {
    blocks =
        omega (
          arith,
          t.blocks,
          sum_set sizes x 0 (omega (arith, rep.length_sizes)),
          zeros_fill_zeros a x n (omega (arith, rep.length_a, fits)) (λ i p q. rep.used x i p (omega arith)),
        );
    objects =
        omega (
          arith,
          t.objects,
          count_change (sized (set sizes x 0)) (sized sizes) N x l (λ j p m. ap (λ (y : ℕ). not (eqb y 0)) (get_or-set_other sizes x j 0 0 m)),
          ap (λ (y : ℕ). one (not (eqb y 0))) (get_or-set_same sizes x 0 0 (omega (arith, rep.length_sizes))),
          ap (λ (y : Bool). one (not y)) (ne_eqb (get_or sizes x 0) 0 (omega arith)),
          zeros_set_bit b (x + n - 1) 1 (omega (arith, rep.length_b, fits)) (omega arith),
          ap (λ (y : ℕ). one (eqb y 0)) (rep.last x (x + n - 1) (omega arith) (omega arith)),
        );
  }
    where
      fits : x + n ≤ N
      fits = omega (arith, rep.inside x (omega arith))

totals : (fuel N : ℕ) (a b sizes : List ℕ) → Represents N a b sizes → sum sizes ≤ fuel → Totals N a b sizes
totals zero N a b sizes rep bound = elim (sum_cases sizes) [
  | inl t ↦ totals_empty N a b sizes rep t.0 t.1
  | inr t ↦ absurd (omega (arith, t.2, sum_set sizes t.0 0 t.1))
]
totals (suc fuel) N a b sizes rep bound = elim (sum_cases sizes) [
  | inl t ↦ totals_empty N a b sizes rep t.0 t.1
  | inr t ↦
      let x : ℕ = t.0 in
      let n : ℕ = get_or sizes x 0 in
      totals_freed N a b sizes rep x n (omega (arith, t.1, rep.length_sizes)) refl t.2
      (totals fuel N (fill_bits a x n 0) (set_bit b (x + n - 1) 1) (set sizes x 0)
      (freed_represents N a b sizes rep x n refl t.2) (omega (arith, t.2, sum_set sizes x 0 t.1)))
]

-- ---- the two laws

pub free_and_sizes : (N : ℕ) (a b sizes : List ℕ) → Represents N a b sizes → zeros a + sum sizes ≡ N
free_and_sizes N a b sizes rep = (totals (sum sizes) N a b sizes rep (omega arith)).blocks

pub objects_ends : (N : ℕ) (a b sizes : List ℕ) → Represents N a b sizes → count_below (first_in N a b) N ≡ zeros b
objects_ends N a b sizes rep =
    count_same (first_in N a b) (sized sizes) N (λ i l. agree i (test_cases_lem (first_in N a b i)))
    ∙ (totals (sum sizes) N a b sizes rep (omega arith)).objects
  where
    agree : (i : ℕ) → (first_in N a b i ≡ true) ⊎ (first_in N a b i ≡ false) → first_in N a b i ≡ sized sizes i
    agree i (inl f) = f ∙ sym (ap not (ne_eqb (get_or sizes i 0) 0 (first_size N a b sizes rep i f)))
    agree i (inr f) = f ∙ sym (ap not (eq-eqb (get_or sizes i 0) 0 (not_first_size N a b sizes rep i f)))
