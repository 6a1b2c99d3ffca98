-- Figures of chunks (request U4): the largest free chunk of a chunk's blocks, by its halves, and that it is the largest.
use mathlib.Core.Path.{◌≡◌, refl, sym, ap, ◌∙◌}
use mathlib.Core.Logic.{◌≢◌, inl, inr}
use mathlib.Core.Bool.{Bool, true, false, true≢false}
use mathlib.Core.List.{List}
use Prim.Native.Nat.{ℕ, zero, suc, ◌+◌, ◌-◌, ◌*◌, ◌^◌, ◌≤◌, ◌<◌, max}
use native.Mathlib.Nat.{zero-add, suc-add, zero-mul, add-mul, pow-suc}
use native.Mathlib.Decide.{dec_le, dec_lt}
use native.Mathlib.Omega.{arith}
use lib.Pow.{pow_mono, pow-add, pow_pos}
use Rattle.rules.specs.Heap.{chunk_free}
use Rattle.rules.specs.Sections.{largest_free}
use Rattle.rules.proofs.Tests.{test_cases_lem}

-- ---- a chunk and its halves

pub figure_free : (k : ℕ) (a : List ℕ) (i : ℕ) → chunk_free k a i ≡ true → largest_free k a i ≡ 2 ^ k
unfolding largest_free
figure_free zero a i e = rw (e, largest_free)
figure_free (suc k) a i e = rw (e, largest_free)

pub figure_halves : (k : ℕ) (a : List ℕ) (i : ℕ) → chunk_free (suc k) a i ≡ false
    → largest_free (suc k) a i ≡ max (largest_free k a i) (largest_free k a (i + 2 ^ k))
unfolding largest_free
figure_halves k a i e = rw (e, largest_free)

figure_none : (a : List ℕ) (i : ℕ) → chunk_free 0 a i ≡ false → largest_free 0 a i ≡ 0
unfolding largest_free
figure_none a i e = rw (e, largest_free)

-- a figure is at most the chunk's size, and less where the chunk is not free
pub figure_le : (k : ℕ) (a : List ℕ) (i : ℕ) → (largest_free k a i ≤ 2 ^ k) × (chunk_free k a i ≡ false → largest_free k a i < 2 ^ k)
figure_le zero a i = elim (test_cases_lem (chunk_free 0 a i)) [
  | inl e ↦ (omega (arith, figure_free 0 a i e), λ f. absurd (true≢false (sym e ∙ f)))
  | inr e ↦ (omega (arith, figure_none a i e), λ f. omega (arith, figure_none a i e))
]
figure_le (suc k) a i =
    let l = (figure_le k a i).0 in
    let u = (figure_le k a (i + 2 ^ k)).0 in
    let p = pow_pos k in
    elim (test_cases_lem (chunk_free (suc k) a i)) [
      | inl e ↦ (omega (arith, figure_free (suc k) a i e), λ f. absurd (true≢false (sym e ∙ f)))
      | inr e ↦ let q = figure_halves k a i e in (omega (arith, pow-suc 2 k), λ f. omega (arith, pow-suc 2 k))
    ]

-- both halves of a free chunk are free, and a chunk whose halves are is free
pub halves_free : (k : ℕ) (a : List ℕ) (i : ℕ) → chunk_free (suc k) a i ≡ true → (chunk_free k a i ≡ true) × (chunk_free k a (i + 2 ^ k) ≡ true)
unfolding chunk_free
halves_free k a i e = go (chunk_free k a i) refl e
  where
    go : (t : Bool) → chunk_free k a i ≡ t → elim t as (λ _. Bool) [ true ↦ chunk_free k a (i + 2 ^ k) | false ↦ false ] ≡ true
        → (chunk_free k a i ≡ true) × (chunk_free k a (i + 2 ^ k) ≡ true)
    go true p f = (p, f)
    go false p f = absurd (true≢false (sym f))

pub free_halves : (k : ℕ) (a : List ℕ) (i : ℕ) → chunk_free k a i ≡ true → chunk_free k a (i + 2 ^ k) ≡ true → chunk_free (suc k) a i ≡ true
unfolding chunk_free
free_halves k a i e f = rw (e, chunk_free) f

-- a chunk whose figure is its size is free
pub figure_whole : (k : ℕ) (a : List ℕ) (i : ℕ) → largest_free k a i ≡ 2 ^ k → chunk_free k a i ≡ true
figure_whole k a i e = elim (test_cases_lem (chunk_free k a i)) [ inl f ↦ f | inr f ↦ absurd (omega (arith, (figure_le k a i).1 f)) ]

-- as a recursion on the halves: x and y are their figures
pub figure_of_halves : (k : ℕ) (a : List ℕ) (i : ℕ)
    → let x = largest_free k a i in
    let y = largest_free k a (i + 2 ^ k) in
    ((x ≡ 2 ^ k) × (y ≡ 2 ^ k) → largest_free (suc k) a i ≡ 2 ^ suc k) × (((x ≡ 2 ^ k) × (y ≡ 2 ^ k) → ⊥) → largest_free (suc k) a i ≡ max x y)
figure_of_halves k a i = (
  λ e. figure_free (suc k) a i (free_halves k a i (figure_whole k a i e.0) (figure_whole k a (i + 2 ^ k) e.1)),
  λ n. elim (test_cases_lem (chunk_free (suc k) a i)) [
    | inr f ↦ figure_halves k a i f
    | inl f ↦
        let halves = halves_free k a i f in
        absurd (n (figure_free k a i halves.0, figure_free k a (i + 2 ^ k) halves.1))
  ],
)

-- ---- a figure is the largest

-- a free chunk among the 2 ^ t of 2 ^ k blocks from block i on is at most the figure
pub none_larger : (t k : ℕ) (a : List ℕ) (i c : ℕ) → c < 2 ^ t → chunk_free k a (i + c * 2 ^ k) ≡ true → 2 ^ k ≤ largest_free (t + k) a i
none_larger zero k a i c l free =
    let first : c ≡ 0 = omega arith in
    let here : i + c * 2 ^ k ≡ i = omega (arith, ap (λ (x : ℕ). x * 2 ^ k) first, zero-mul (2 ^ k)) in
    rw (zero-add k) (let e = figure_free k a i (ap (chunk_free k a) (sym here) ∙ free) in omega arith)
none_larger (suc t) k a i c l free =
    rw (suc-add t k) (elim (test_cases_lem (chunk_free (suc (t + k)) a i)) [
      | inl e ↦ omega (arith, figure_free (suc (t + k)) a i e, pow-suc 2 (t + k), pow_mono {i = k} {j = t + k} (omega arith))
      | inr e ↦
          let both = figure_halves (t + k) a i e in
          elim (dec_lt c (2 ^ t)) [
            | yes v ↦ omega (arith, none_larger t k a i c v free)
            | no v ↦
                let at : i + 2 ^ (t + k) + (c - 2 ^ t) * 2 ^ k ≡ i + c * 2 ^ k =
                omega (arith, pow-add 2 t k, ap (λ (x : ℕ). x * 2 ^ k) (past v), add-mul (2 ^ t) (c - 2 ^ t) (2 ^ k)) in
                omega
                (arith, none_larger t k a (i + 2 ^ (t + k)) (c - 2 ^ t) (omega (arith, pow-suc 2 t)) (ap (chunk_free k a) at ∙ free))
          ]
    ])
  where
    past : (c < 2 ^ t → ⊥) → c ≡ 2 ^ t + (c - 2 ^ t)
    past v = omega arith

-- a figure that is not 0 is the size of a free chunk of these blocks
pub record FreeAmong (e : ℕ) (a : List ℕ) (i : ℕ) : Type 0 where
  pub smaller : ℕ
  pub exponent : ℕ
  pub number : ℕ
  pub sum : smaller + exponent ≡ e
  pub within : number < 2 ^ smaller
  pub figure_is : largest_free e a i ≡ 2 ^ exponent
  pub free : chunk_free exponent a (i + number * 2 ^ exponent) ≡ true

whole : (e : ℕ) (a : List ℕ) (i : ℕ) → chunk_free e a i ≡ true → FreeAmong e a i
whole e a i f = record {
  smaller = 0;
  exponent = e;
  number = 0;
  sum = zero-add e;
  within = omega arith;
  figure_is = figure_free e a i f;
  free = ap (chunk_free e a) (omega arith) ∙ f;
}

pub there_is : (e : ℕ) (a : List ℕ) (i : ℕ) → largest_free e a i ≢ 0 → FreeAmong e a i
there_is zero a i n = elim (test_cases_lem (chunk_free 0 a i)) [ inl f ↦ whole 0 a i f | inr f ↦ absurd (n (figure_none a i f)) ]
there_is (suc e) a i n = elim (test_cases_lem (chunk_free (suc e) a i)) [
  | inl f ↦ whole (suc e) a i f
  | inr f ↦
      let both = figure_halves e a i f in
      elim (dec_le (largest_free e a (i + 2 ^ e)) (largest_free e a i)) [
        | yes l ↦
            let lower = there_is e a i (λ z. n (omega arith)) in
            record {
              smaller = suc lower.smaller;
              exponent = lower.exponent;
              number = lower.number;
              sum = omega (arith, lower.sum);
              within = omega (arith, lower.within, pow-suc 2 lower.smaller);
              figure_is = omega (arith, lower.figure_is);
              free = lower.free;
            }
        | no l ↦
            let upper = there_is e a (i + 2 ^ e) (λ z. n (omega arith)) in
            let k : ℕ = upper.exponent in
            let half : 2 ^ e ≡ 2 ^ upper.smaller * 2 ^ k = ap (λ (x : ℕ). 2 ^ x) (sym upper.sum) ∙ pow-add 2 upper.smaller k in
            let at : i + (2 ^ upper.smaller + upper.number) * 2 ^ k ≡ i + 2 ^ e + upper.number * 2 ^ k = omega arith in
            record {
              smaller = suc upper.smaller;
              exponent = k;
              number = 2 ^ upper.smaller + upper.number;
              sum = omega (arith, upper.sum);
              within = omega (arith, upper.within, pow-suc 2 upper.smaller);
              figure_is = omega (arith, upper.figure_is);
              free = ap (chunk_free k a) at ∙ upper.free;
            }
      ]
]
