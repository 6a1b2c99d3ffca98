-- First blocks, sizes, references and numbers of references, as facts.
use mathlib.Core.Path.{◌≡◌, refl, sym, ap, ◌∙◌}
use mathlib.Core.Logic.{◌≢◌, ◌⊎◌, inl, inr}
use mathlib.Core.Bool.{Bool, true, not, ◌&&◌, ◌||◌}
use mathlib.Core.List.{List, [], ◌∷◌}
use Prim.Native.Nat.{ℕ, zero, suc, ◌+◌, ◌-◌, ◌≤◌, ◌<◌}
use native.Mathlib.Nat.{add-zero}
use native.Mathlib.Decide.{ℕ_discrete}
use native.Mathlib.Omega.{arith}
use lib.Dec.{ltb, eqb}
use lib.ListN.{length, get_or}
use borrow.Author.Tests.{ltb-true, lt-ltb, eqb-true, eqb-false, eq-eqb, ne_eqb, not-true}
use Rattle.bitmap.specs.Bit.{bit_at, one, count_below}
use Rattle.bitmap.proofs.Maps.{bit_at_lt}
use Rattle.rules.specs.Tools.{holding}
use Rattle.rules.specs.Heap.{is_free, is_last, first_in, size_from, ref_in}
use Rattle.rules.proofs.Tests.{and_true, true_and, or_true, true_or}

-- ---- a bit and its test

pub bit_cases : (map : List ℕ) (i : ℕ) → (bit_at map i ≡ 0) ⊎ (bit_at map i ≡ 1)
bit_cases map i = elim (ℕ_discrete (bit_at map i) 0) [ yes e ↦ inl e | no n ↦ inr (omega (arith, bit_at_lt map i)) ]

-- `is_free` of the A-map and `is_last` of the B-map are this test
pub bit_one : (map : List ℕ) (i : ℕ) → not (eqb (bit_at map i) 0) ≡ true → bit_at map i ≡ 1
bit_one map i e = omega (arith, eqb-false (bit_at map i) 0 (not-true (eqb (bit_at map i) 0) e), bit_at_lt map i)

pub one_bit : (map : List ℕ) (i : ℕ) → bit_at map i ≡ 1 → not (eqb (bit_at map i) 0) ≡ true
one_bit map i e = ap not (ne_eqb (bit_at map i) 0 (omega arith))

-- ---- first blocks

-- block i follows the end of an object, a free block or nothing
abbrev pub Starts : List ℕ → List ℕ → ℕ → Type 0
Starts a b i = (i ≡ 0) ⊎ ((bit_at a (i - 1) ≡ 0) ⊎ (bit_at b (i - 1) ≡ 0))

pub record First (N : ℕ) (a b : List ℕ) (i : ℕ) : Type 0 where
  pub inside : i < N
  pub used : bit_at a i ≡ 1
  pub starts : Starts a b i

pub first_facts : (N : ℕ) (a b : List ℕ) (i : ℕ) → first_in N a b i ≡ true → First N a b i
unfolding first_in
first_facts N a b i e =
    let parts = and_true (ltb i N && not (is_free a i)) (eqb i 0 || is_free a (i - 1) || is_last b (i - 1)) e in
    let block = and_true (ltb i N) (not (is_free a i)) parts.0 in
    record { inside = ltb-true i N block.0; used = bit_one a i block.1; starts = starts parts.1 }
  where
    starts : eqb i 0 || is_free a (i - 1) || is_last b (i - 1) ≡ true → Starts a b i
    starts q = elim (or_true (eqb i 0 || is_free a (i - 1)) (is_last b (i - 1)) q) [
      | inr l ↦ inr (inr (eqb-true (bit_at b (i - 1)) 0 l))
      | inl r ↦ elim (or_true (eqb i 0) (is_free a (i - 1)) r) [
        | inl z ↦ inl (eqb-true i 0 z)
        | inr f ↦ inr (inl (eqb-true (bit_at a (i - 1)) 0 f))
      ]
    ]

pub first_test : (N : ℕ) (a b : List ℕ) (i : ℕ) → First N a b i → first_in N a b i ≡ true
unfolding first_in
first_test N a b i f =
    true_and (ltb i N && not (is_free a i)) (eqb i 0 || is_free a (i - 1) || is_last b (i - 1))
    (true_and (ltb i N) (not (is_free a i)) (lt-ltb i N f.inside) (one_bit a i f.used))
    (starts f.starts)
  where
    starts : Starts a b i → eqb i 0 || is_free a (i - 1) || is_last b (i - 1) ≡ true
    starts (inl z) = rw (eq-eqb i 0 z)
    starts (inr (inl q)) =
        true_or (eqb i 0 || is_free a (i - 1)) (is_last b (i - 1))
        (inl (true_or (eqb i 0) (is_free a (i - 1)) (inr (eq-eqb (bit_at a (i - 1)) 0 q))))
    starts (inr (inr q)) = true_or (eqb i 0 || is_free a (i - 1)) (is_last b (i - 1)) (inr (eq-eqb (bit_at b (i - 1)) 0 q))

-- ---- the size of an object

pub size_last : (n : ℕ) (b : List ℕ) (i : ℕ) → bit_at b i ≡ 0 → size_from (suc n) b i ≡ 1
unfolding size_from
size_last n b i e = rw (eq-eqb (bit_at b i) 0 e, size_from)

pub size_next : (n : ℕ) (b : List ℕ) (i : ℕ) → bit_at b i ≡ 1 → size_from (suc n) b i ≡ suc (size_from n b (i + 1))
unfolding size_from
size_next n b i e = rw (ne_eqb (bit_at b i) 0 (omega arith), size_from)

pub size_le : (n : ℕ) (b : List ℕ) (i : ℕ) → size_from n b i ≤ n
unfolding size_from
size_le zero b i = omega arith
size_le (suc n) b i = elim (bit_cases b i) [
  | inl z ↦ omega (arith, size_last n b i z)
  | inr o ↦ omega (arith, size_next n b i o, size_le n b (i + 1))
]

pub size_some : (n : ℕ) (b : List ℕ) (i : ℕ) → n ≢ 0 → size_from n b i ≢ 0
size_some zero b i h = absurd (h refl)
size_some (suc n) b i h = elim (bit_cases b i) [ inl z ↦ omega (arith, size_last n b i z) | inr o ↦ omega (arith, size_next n b i o) ]

-- the B bit is 1 on the blocks before the last ..
pub size_inner : (n : ℕ) (b : List ℕ) (i j : ℕ) → i ≤ j → suc j < i + size_from n b i → bit_at b j ≡ 1
unfolding size_from
size_inner zero b i j l u = absurd (omega arith)
size_inner (suc n) b i j l u = elim (bit_cases b i) [
  | inl z ↦ absurd (omega (arith, size_last n b i z))
  | inr o ↦ elim (ℕ_discrete j i) [
    | yes e ↦ ap (λ (k : ℕ). bit_at b k) e ∙ o
    | no d ↦ size_inner n b (i + 1) j (omega arith) (omega (arith, size_next n b i o))
  ]
]

-- .. and 0 on the last, where some block from i on has a 0
pub size_end : (n : ℕ) (b : List ℕ) (i z : ℕ) → i ≤ z → z < i + n → bit_at b z ≡ 0
    → (j : ℕ) → suc j ≡ i + size_from n b i → bit_at b j ≡ 0
size_end zero b i z l u e j q = absurd (omega arith)
size_end (suc n) b i z l u e j q = elim (bit_cases b i) [
  | inl p ↦ let here : j ≡ i = omega (arith, size_last n b i p) in ap (λ (k : ℕ). bit_at b k) here ∙ p
  | inr o ↦
      let later : z ≢ i = λ here. omega (arith, o, e, ap (λ (k : ℕ). bit_at b k) here) in
      size_end n b (i + 1) z (omega arith) (omega arith) e j (omega (arith, size_next n b i o))
]

-- these two say what the size is
pub size_is : (n : ℕ) (b : List ℕ) (i m : ℕ) → m < n → ((j : ℕ) → i ≤ j → j < i + m → bit_at b j ≡ 1) → bit_at b (i + m) ≡ 0
    → size_from n b i ≡ suc m
size_is zero b i m l inner end = absurd (omega arith)
size_is (suc n) b i zero l inner end = size_last n b i (rw add-zero at end)
size_is (suc n) b i (suc m) l inner end =
    let move : i + suc m ≡ i + 1 + m = omega arith in
    size_next n b i (inner i (omega arith) (omega arith))
    ∙ ap suc (size_is n b (i + 1) m (omega arith) (λ j p q. inner j (omega arith) (omega arith)) (ap (λ (k : ℕ). bit_at b k) (sym move) ∙ end))

-- ---- references

pub ref_facts : (N : ℕ) (a b : List ℕ) (v : ℕ) → ref_in N a b v ≡ true → (v ≡ 0) ⊎ (first_in N a b (v - 1) ≡ true)
unfolding ref_in
ref_facts N a b v e = elim (or_true (eqb v 0) (first_in N a b (v - 1)) e) [ inl z ↦ inl (eqb-true v 0 z) | inr f ↦ inr f ]

pub ref_test : (N : ℕ) (a b : List ℕ) (v : ℕ) → (v ≡ 0) ⊎ (first_in N a b (v - 1) ≡ true) → ref_in N a b v ≡ true
unfolding ref_in
ref_test N a b v (inl z) = true_or (eqb v 0) (first_in N a b (v - 1)) (inl (eq-eqb v 0 z))
ref_test N a b v (inr f) = true_or (eqb v 0) (first_in N a b (v - 1)) (inr f)

-- ---- numbers of references

-- the first number apart
count_first : (test : ℕ → Bool) (n : ℕ) → count_below test (suc n) ≡ one (test 0) + count_below (λ i. test (suc i)) n
unfolding count_below
count_first test zero = omega arith
count_first test (suc n) = omega (arith, count_first test n)

pub holding_nil : (v : ℕ) → holding v [] ≡ 0
unfolding holding count_below
holding_nil v = refl

pub holding_cons : (v x : ℕ) (l : List ℕ) → holding v (x ∷ l) ≡ one (eqb x v) + holding v l
unfolding holding
holding_cons v x l = count_first (λ j. eqb (get_or (x ∷ l) j 0) v) (length l)
