-- Laws of the number of blocks: it has one bit set and lies from 8 to the largest heap, and every such number is one.
use mathlib.Core.Path.{◌≡◌, sym, ap, ◌∙◌}
use mathlib.Core.Logic.{inl, inr}
use mathlib.Core.Bool.{Bool, true, false, ◌&&◌}
use mathlib.Core.List.{List}
use Prim.Native.Nat.{ℕ, zero, suc, ◌+◌, ◌-◌, ◌*◌, ◌/◌, ◌%◌, ◌^◌, ◌≤◌}
use native.Mathlib.Nat.{mul_assoc, pow-suc, pow-succ'}
use native.Mathlib.Decide.{dec_lt, ℕ_discrete}
use native.Mathlib.Omega.{arith}
use lib.Count.{ones, ones_step, ones_cat, ones-ones}
use lib.ListN.{get_or}
use lib.Pow.{pow_pos, pow-add, pow_mono, pow-lt}
use borrow.Author.Tests.{eq-eqb, ne_eqb}
use Rattle.std.proofs.lemmas.Nat.{zero_from_ones}
use Rattle.rules.specs.Heap.{doublings, max_blocks, is_power_from, is_blocks}
use Rattle.rules.specs.Tools.{all}
use Rattle.rules.proofs.Tests.{test_cases_lem, and_false, all_failed}
use Rattle.rules.proofs.Shape.{blocks_facts, blocks_le, blocks_power}

-- ---- one bit is set in a power of two ..

power_ones : (k : ℕ) → ones (2 ^ k) ≡ 1
power_ones k =
    let there : 1 * 2 ^ k + 0 ≡ 2 ^ k = omega arith in
    ap ones (sym there) ∙ ones_cat k 1 0 (pow_pos k) ∙ omega (arith, ones-ones 0, ones-ones 1)

-- .. and in no other number
power_of_ones : (most n : ℕ) → n ≤ most → ones n ≡ 1 → (k : ℕ) × (n ≡ 2 ^ k)
power_of_ones zero n l e =
    let none : n ≡ 0 = omega arith in
    absurd (omega (arith, ap ones none, ones-ones 0))
power_of_ones (suc most) n l e = elim (ℕ_discrete (n % 2) 0) [
  | yes even ↦
      let half = power_of_ones most (n / 2) (omega arith) (omega (arith, ones_step n)) in
      (suc half.0, omega (arith, half.1, pow-suc 2 half.0))
  | no odd ↦ (0, omega (arith, zero_from_ones (n / 2) (omega (arith, ones_step n))))
]

-- ---- each power is found among the doublings

doubled : (f p n j : ℕ) → j ≤ f → n ≡ p * 2 ^ j → is_power_from f p n ≡ true
unfolding is_power_from
doubled zero p n zero l e = eq-eqb n p (omega arith)
doubled zero p n (suc j) l e = absurd (omega arith)
doubled (suc f) p n zero l e = rw (eq-eqb n p (omega arith), is_power_from)
doubled (suc f) p n (suc j) l e = elim (ℕ_discrete n p) [
  | yes q ↦ rw (eq-eqb n p q, is_power_from)
  | no q ↦
      rw (ne_eqb n p q, is_power_from)
      (doubled f (p * 2) n j (omega arith) (e ∙ ap (λ (x : ℕ). p * x) (pow-succ' 2 j) ∙ sym (mul_assoc p 2 (2 ^ j))))
]

-- ---- what the three tests say

pub blocks_of_tests : (n : ℕ) → ones n ≡ 1 → 8 ≤ n → n ≤ max_blocks → is_blocks n ≡ true
blocks_of_tests n one low high =
    let (k, e) = power_of_ones n n (omega arith) one in
    let least : 3 ≤ k = elim (dec_lt k 3) [ yes l ↦ absurd (omega (arith, pow_mono {i = k} {j = 2} (omega arith))) | no l ↦ omega arith ] in
    let most : k ≤ 3 + doublings = elim (dec_lt (3 + doublings) k) [ yes l ↦ absurd (omega (arith, pow-lt {i = 3 + doublings} {j = k} l)) | no l ↦ omega arith ] in
    let split : 3 + (k - 3) ≡ k = omega arith in
    doubled doublings 8 n (k - 3) (omega arith) (e ∙ ap (λ (x : ℕ). 2 ^ x) (sym split) ∙ pow-add 2 3 (k - 3))

pub tests_of_blocks : (n : ℕ) → is_blocks n ≡ true → (ones n ≡ 1) × (8 ≤ n) × (n ≤ max_blocks)
tests_of_blocks n e =
    let (k, power) = blocks_power n e in
    let (j, least, sized) = blocks_facts n e in
    (ap ones power ∙ power_ones k, omega (arith, sized, pow_pos j), blocks_le n e)

-- ---- a range among a list of tests

pub both_failed : (ts : List Bool) (i : ℕ) → get_or ts i true && get_or ts (suc i) true ≡ false → all ts ≡ false
both_failed ts i e = elim (test_cases_lem (get_or ts i true)) [
  | inl q ↦ all_failed ts (suc i) (and_false (get_or ts i true) (get_or ts (suc i) true) e q)
  | inr q ↦ all_failed ts i q
]
