-- The figures of the code: one block by its bit, larger chunks by halves.
use mathlib.Core.Path.{◌≡◌, refl, sym, ap, ◌∙◌}
use mathlib.Core.Logic.{◌≢◌}
use mathlib.Core.List.{List}
use Prim.Native.Nat.{ℕ, zero, suc, ◌+◌, ◌*◌, ◌/◌, ◌%◌, ◌^◌, ◌-◌, ◌≤◌, ◌<◌}
use native.Mathlib.Nat.{pow-suc}
use native.Mathlib.Decide.{dec_lt, ℕ_discrete}
use native.Mathlib.Omega.{arith}
use lib.Pow.{pow_pos, pow_mono, pow-add}
use borrow.Author.Tests.{lt-ltb, le-ltb, eq-eqb, ne_eqb}
use Rattle.bitmap.specs.Bit.{bit_at}
use Rattle.rules.specs.Heap.{chunk_free}
use Rattle.rules.specs.Sections.{largest_free}
use Rattle.rules.proofs.Figures.{figure_free, figure_of_halves, figure_le}
use Rattle.section_words.proofs.Words.{same_exponent}
use Rattle.section_halves.specs.Figures.{of_halves}

-- ---- one block

pub free_block : (a : List ℕ) (i : ℕ) → bit_at a i ≡ 0 → 1 ≡ largest_free 0 a i
unfolding chunk_free
free_block a i e = sym (figure_free 0 a i (eq-eqb (bit_at a i) 0 e))

pub used_block : (a : List ℕ) (i : ℕ) → bit_at a i ≢ 0 → 0 ≡ largest_free 0 a i
unfolding chunk_free
used_block a i n = omega (arith, (figure_le 0 a i).1 (ne_eqb (bit_at a i) 0 n))

-- ---- two halves

-- x and y are the figures of the halves at i and at j
pub of_halves_lem :
    (k : ℕ) (a : List ℕ) (i j half x y : ℕ) → half ≡ 2 ^ k → j ≡ i + half → x ≡ largest_free k a i → y ≡ largest_free k a j
    → of_halves half x y ≡ largest_free (suc k) a i
unfolding of_halves
of_halves_lem k a i j half x y size place x_is y-is =
    let upper : y ≡ largest_free k a (i + 2 ^ k) = y-is ∙ ap (largest_free k a) (place ∙ ap (λ (z : ℕ). i + z) size) in
    let laws = figure_of_halves k a i in
    let x_le : x ≤ 2 ^ k = omega (arith, (figure_le k a i).0) in
    let y_le : y ≤ 2 ^ k = omega (arith, (figure_le k a (i + 2 ^ k)).0) in
    elim (dec_lt x y) [
      | yes l ↦ rw (lt-ltb x y l, of_halves) (let m = laws.1 (λ w. omega (arith, w.0, w.1)) in omega arith)
      | no l ↦ elim (ℕ_discrete y half) [
        | yes e ↦
            rw (le-ltb x y (omega arith), eq-eqb y half e, of_halves)
            (omega (arith, laws.0 (omega arith, omega arith), pow-suc 2 k))
        | no n ↦
            rw (le-ltb x y (omega arith), ne_eqb y half n, of_halves)
            (let m = laws.1 (λ w. n (omega (arith, w.1))) in omega arith)
      ]
    ]

-- ---- sizes of eight blocks and more

-- a power of two that is eight or more is a multiple of eight
pub whole_bytes : (size k : ℕ) → size ≡ 2 ^ k → 8 ≤ size → (m : ℕ) × (k ≡ 3 + m) × (size ≡ 8 * 2 ^ m)
whole_bytes size k e large =
    let least : 3 ≤ k = elim (dec_lt k 3) [ yes l ↦ absurd (omega (arith, pow_mono {i = k} {j = 2} (omega arith))) | no l ↦ omega arith ] in
    let sum : k ≡ 3 + (k - 3) = omega arith in
    (k - 3, sum, e ∙ ap (λ (x : ℕ). 2 ^ x) sum ∙ pow-add 2 3 (k - 3))

-- a figure of 2 ^ j blocks, as a function that takes a size answers it
pub of_size : (j : ℕ) (a : List ℕ) (at size r : ℕ) → size ≡ 2 ^ j → r ≡ largest_free j a at → (k : ℕ) → size ≡ 2 ^ k → r ≡ largest_free k a at
of_size j a at size r e is k p = is ∙ ap (λ (x : ℕ). largest_free x a at) (same_exponent j k (sym e ∙ p))

pub record Half (size : ℕ) : Type 0 where
  pub exponent : ℕ
  pub power : size / 2 ≡ 2 ^ exponent
  pub whole : size ≡ 2 ^ suc exponent
  pub twice : size ≡ size / 2 + size / 2
  pub some : 0 < size / 2
  pub bytes : 8 ≤ size / 2 → size / 2 % 8 ≡ 0

pub half_size : (size k : ℕ) → size ≡ 2 ^ k → size ≢ 1 → Half size
half_size size zero e several = absurd (several e)
half_size size (suc k) e several =
    let doubled = pow-suc 2 k in
    let power : size / 2 ≡ 2 ^ k = omega arith in
    record {
      exponent = k;
      power = power;
      whole = e;
      twice = omega arith;
      some = omega (arith, pow_pos k);
      bytes = λ l. omega (arith, (whole_bytes (size / 2) k power l).2);
    }

-- both halves found by a function that takes a size: x and y
pub from_halves :
    (a : List ℕ) (at size r x y : ℕ) → Half size → r ≡ of_halves (size / 2) x y → ((k : ℕ) → size / 2 ≡ 2 ^ k → x ≡ largest_free k a at)
    → ((k : ℕ) → size / 2 ≡ 2 ^ k → y ≡ largest_free k a (at + size / 2)) → (k : ℕ) → size ≡ 2 ^ k → r ≡ largest_free k a at
from_halves a at size r x y half joined lower upper =
    let j : ℕ = half.exponent in
    of_size (suc j) a at size r half.whole
    (joined ∙ of_halves_lem j a at (at + size / 2) (size / 2) x y half.power refl (lower j half.power) (upper j half.power))
