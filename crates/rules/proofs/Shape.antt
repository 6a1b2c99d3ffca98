-- The shape test as facts: the sizes that N, w, the roots and the lent lists have when a call is not refused with number 1.
use mathlib.Core.Path.{◌≡◌, sym, ap, ◌∙◌}
use mathlib.Core.Logic.{inl, inr}
use mathlib.Core.Bool.{Bool, true}
use mathlib.Core.List.{List, [], ◌∷◌}
use Prim.Native.Nat.{ℕ, zero, suc, ◌+◌, ◌-◌, ◌*◌, ◌/◌, ◌^◌, ◌≤◌}
use native.Mathlib.Nat.{mul_assoc, pow-succ'}
use native.Mathlib.Decide.{dec_lt}
use native.Mathlib.Omega.{arith}
use lib.Dec.{leb, eqb}
use lib.ListN.{length, get_or}
use lib.Pow.{pow-add, pow_mono, pow-lt}
use borrow.Author.Tests.{leb-true, le-leb, eqb-true, eq-eqb}
use Rattle.rules.specs.Heap.{Memory, doublings, is_power_from, is_blocks, shape, shaped, max_blocks, section_count}
use Rattle.rules.proofs.Tests.{test_cases_lem, done, also, all_at, all_passed}

pub record Shaped (N w : ℕ) (h : Memory) : Type 0 where
  pub power : (k : ℕ) × (N ≡ 2 ^ k)
  pub blocks_min : 8 ≤ N
  pub blocks_max : N ≤ max_blocks
  pub whole_bytes : 8 * (N / 8) ≡ N
  pub width_min : 1 ≤ w
  pub width_max : w ≤ 4
  pub roots_min : 1 ≤ length h.roots
  pub roots_max : length h.roots ≤ 64
  pub length_a : length h.a ≡ N / 8
  pub length_b : length h.b ≡ N / 8
  pub length_counts : length h.counts ≡ w * (N / 8)
  pub length_cells : length h.cells ≡ 4 * N
  pub length_waiting : length h.waiting ≡ N
  pub length_sections : length h.sections ≡ section_count N
  pub length_d : length h.d ≡ N / 8
  pub length_marks : length h.marks ≡ N / 8
  pub length_list : length h.list ≡ N + 1

-- ---- a power of two

-- a number found among f doublings of p is one of them ..
doubled_facts : (f p n : ℕ) → is_power_from f p n ≡ true → (j : ℕ) × (j ≤ f) × (n ≡ p * 2 ^ j)
unfolding is_power_from
doubled_facts zero p n e = (0, omega arith, omega (arith, eqb-true n p e))
doubled_facts (suc f) p n e = elim (test_cases_lem (eqb n p)) [
  | inl q ↦ (0, omega arith, omega (arith, eqb-true n p q))
  | inr q ↦
      let found = doubled_facts f (p * 2) n (rw (q, is_power_from) at e) in
      let j : ℕ = found.0 in
      (suc j, omega (arith, found.1), found.2 ∙ mul_assoc p 2 (2 ^ j) ∙ ap (λ (x : ℕ). p * x) (sym (pow-succ' 2 j)))
]

-- .. and each of them is found
doubled_test : (f p n j : ℕ) → j ≤ f → n ≡ p * 2 ^ j → is_power_from f p n ≡ true
unfolding is_power_from
doubled_test zero p n zero l e = eq-eqb n p (omega arith)
doubled_test zero p n (suc j) l e = absurd (omega arith)
doubled_test (suc f) p n zero l e = rw (eq-eqb n p (omega arith), is_power_from)
doubled_test (suc f) p n (suc j) l e = elim (test_cases_lem (eqb n p)) [
  | inl q ↦ rw (q, is_power_from)
  | inr q ↦
      rw (q, is_power_from)
      (doubled_test f (p * 2) n j (omega arith) (e ∙ ap (λ (x : ℕ). p * x) (pow-succ' 2 j) ∙ sym (mul_assoc p 2 (2 ^ j))))
]

-- "a power of two from 8" to the largest heap
pub blocks_facts : (N : ℕ) → is_blocks N ≡ true → (j : ℕ) × (j ≤ doublings) × (N ≡ 8 * 2 ^ j)
blocks_facts N e = doubled_facts doublings 8 N e

pub blocks_le : (N : ℕ) → is_blocks N ≡ true → N ≤ max_blocks
blocks_le N e = let found = blocks_facts N e in omega (arith, found.2, pow_mono {i = found.0} {j = doublings} found.1)

pub blocks_power : (N : ℕ) → is_blocks N ≡ true → (k : ℕ) × (N ≡ 2 ^ k)
blocks_power N e = let found = blocks_facts N e in (3 + found.0, found.2 ∙ sym (pow-add 2 3 found.0))

-- 8 doubled k times is 2 ^ (3 + k)
blocks_test : (n k : ℕ) → n ≡ 2 ^ k → 8 ≤ n → n ≤ max_blocks → is_blocks n ≡ true
blocks_test n k e low high =
    let least : 3 ≤ k = elim (dec_lt k 3) [ yes l ↦ absurd (omega (arith, pow_mono {i = k} {j = 2} (omega arith))) | no l ↦ omega arith ] in
    let most : k ≤ 3 + doublings = elim (dec_lt (3 + doublings) k) [ yes l ↦ absurd (omega (arith, pow-lt {i = 3 + doublings} {j = k} l)) | no l ↦ omega arith ] in
    let j : ℕ = k - 3 in
    let q : 3 + j ≡ k = omega arith in
    doubled_test doublings 8 n j (omega arith) (e ∙ ap (λ (x : ℕ). 2 ^ x) (sym q) ∙ pow-add 2 3 j)

-- ---- the shape

-- the tests, in order
abbrev tests : ℕ → ℕ → Memory → List Bool
tests N w h =
    is_blocks N ∷ leb 1 w ∷ leb w 4 ∷ leb 1 (length h.roots) ∷ leb (length h.roots) 64
    ∷ eqb (length h.a) (N / 8) ∷ eqb (length h.b) (N / 8) ∷ eqb (length h.counts) (w * (N / 8))
    ∷ eqb (length h.cells) (4 * N) ∷ eqb (length h.waiting) N ∷ eqb (length h.sections) (section_count N)
    ∷ eqb (length h.d) (N / 8) ∷ eqb (length h.marks) (N / 8) ∷ eqb (length h.list) (N + 1) ∷ []

pub shape_facts : (N w : ℕ) (h : Memory) → shaped N w h ≡ true → Shaped N w h
unfolding shape
shape_facts N w h e = record {
  power = blocks_power N (at 0);
  blocks_min = omega (arith, doubled, pow_mono {i = 0} {j = j} (omega arith));
  blocks_max = blocks_le N (at 0);
  whole_bytes = omega (arith, doubled);
  width_min = leb-true 1 w (at 1);
  width_max = leb-true w 4 (at 2);
  roots_min = leb-true 1 (length h.roots) (at 3);
  roots_max = leb-true (length h.roots) 64 (at 4);
  length_a = eqb-true (length h.a) (N / 8) (at 5);
  length_b = eqb-true (length h.b) (N / 8) (at 6);
  length_counts = eqb-true (length h.counts) (w * (N / 8)) (at 7);
  length_cells = eqb-true (length h.cells) (4 * N) (at 8);
  length_waiting = eqb-true (length h.waiting) N (at 9);
  length_sections = eqb-true (length h.sections) (section_count N) (at 10);
  length_d = eqb-true (length h.d) (N / 8) (at 11);
  length_marks = eqb-true (length h.marks) (N / 8) (at 12);
  length_list = eqb-true (length h.list) (N + 1) (at 13);
}
  where
    at : (i : ℕ) → get_or (tests N w h) i true ≡ true
    at = all_at (tests N w h) e

    found : (j : ℕ) × (j ≤ doublings) × (N ≡ 8 * 2 ^ j)
    found = blocks_facts N (at 0)

    j : ℕ
    j = found.0

    doubled : N ≡ 8 * 2 ^ j
    doubled = found.2

pub shape_test : (N w : ℕ) (h : Memory) → Shaped N w h → shaped N w h ≡ true
unfolding shape
shape_test N w h s =
    all_passed (tests N w h)
    (also (blocks_test N s.power.0 s.power.1 s.blocks_min s.blocks_max)
    (also (le-leb 1 w s.width_min)
    (also (le-leb w 4 s.width_max)
    (also (le-leb 1 (length h.roots) s.roots_min)
    (also (le-leb (length h.roots) 64 s.roots_max)
    (also (eq-eqb (length h.a) (N / 8) s.length_a)
    (also (eq-eqb (length h.b) (N / 8) s.length_b)
    (also (eq-eqb (length h.counts) (w * (N / 8)) s.length_counts)
    (also (eq-eqb (length h.cells) (4 * N) s.length_cells)
    (also (eq-eqb (length h.waiting) N s.length_waiting)
    (also (eq-eqb (length h.sections) (section_count N) s.length_sections)
    (also (eq-eqb (length h.d) (N / 8) s.length_d)
    (also (eq-eqb (length h.marks) (N / 8) s.length_marks)
    (also (eq-eqb (length h.list) (N + 1) s.length_list) done))))))))))))))

pub shaped_blocks : (N w : ℕ) (h : Memory) → Shaped N w h → is_blocks N ≡ true
shaped_blocks N w h s = blocks_test N s.power.0 s.power.1 s.blocks_min s.blocks_max
