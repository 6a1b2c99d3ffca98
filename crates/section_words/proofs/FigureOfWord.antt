-- The figure of 64 blocks, from the words of their free chunks.
use mathlib.Core.Path.{◌≡◌, refl, sym, ap, subst, ◌∙◌}
use mathlib.Core.Logic.{◌≢◌, inl, inr}
use mathlib.Core.Bool.{true}
use mathlib.Core.List.{List, [], ◌∷◌}
use Prim.Native.Nat.{ℕ, zero, suc, ◌+◌, ◌-◌, ◌*◌, ◌%◌, ◌^◌, ◌≤◌, ◌<◌}
use native.Mathlib.Nat.{suc-add, zero-add, mul_assoc, mul-le-mul_right, mul-mod_left}
use native.Mathlib.Decide.{dec_lt, dec_le, ℕ_discrete}
use native.Mathlib.Omega.{arith}
use lib.ListN.{get_or}
use lib.Pow.{pow_pos, pow-lt, pow_mono, pow-add}
use Rattle.bitmap.specs.Bit.{bit_of, one}
use Rattle.bitmap.proofs.Bits.{bits_ext, bit_zero}
use Rattle.rules.specs.Heap.{chunk_free}
use Rattle.rules.specs.Sections.{largest_free}
use Rattle.rules.proofs.Tests.{test_cases_lem}
use Rattle.rules.proofs.Figures.{figure_le, halves_free, there_is, none_larger}
use Rattle.section_words.specs.Words.{FreeChunks}
use Rattle.section_words.proofs.Words.{numbered}

-- a free chunk begins with free chunks of every smaller size
begins : (d k : ℕ) (a : List ℕ) (i : ℕ) → chunk_free (d + k) a i ≡ true → chunk_free k a i ≡ true
begins zero k a i e = subst (λ (x : ℕ). chunk_free x a i ≡ true) (zero-add k) e
begins (suc d) k a i e = begins d k a i (halves_free (d + k) a i (subst (λ (x : ℕ). chunk_free x a i ≡ true) (suc-add d k) e)).0

-- two powers of two in order
pub exponent_le : (j k : ℕ) → 2 ^ j ≤ 2 ^ k → j ≤ k
exponent_le j k l = elim (dec_le j k) [ yes m ↦ m | no m ↦ absurd (omega (arith, pow-lt {i = k} {j = j} (omega arith))) ]

module _ (k : ℕ) (a : List ℕ) (i w : ℕ) (small : k ≤ 6) (f : FreeChunks k a i w) where
  -- a figure of 2 ^ k or more has its digit in the word
  digit : 2 ^ k ≤ largest_free 6 a i → (n : ℕ) × (bit_of w n ≡ 1)
  digit l =
      let among = there_is 6 a i (λ z. omega (arith, pow_pos k)) in
      let e : ℕ = among.exponent in
      let d : ℕ = e - k in
      let larger : e ≡ d + k = omega (arith, exponent_le k e (omega (arith, among.figure_is))) in
      let parts : 2 ^ e ≡ 2 ^ d * 2 ^ k = ap (λ (x : ℕ). 2 ^ x) larger ∙ pow-add 2 d k in
      let n : ℕ = among.number * 2 ^ e in
      let all : 2 ^ among.smaller * 2 ^ e ≡ 64 = sym (pow-add 2 among.smaller e) ∙ ap (λ (x : ℕ). 2 ^ x) among.sum in
      let room : (among.number + 1) * 2 ^ e ≤ 2 ^ among.smaller * 2 ^ e = mul-le-mul_right (2 ^ e) (omega (arith, among.within)) in
      let below : n < 64 = omega (arith, pow_pos e) in
      let place : n ≡ among.number * 2 ^ d * 2 ^ k =
      ap (λ (x : ℕ). among.number * x) parts ∙ sym (mul_assoc among.number (2 ^ d) (2 ^ k)) in
      let aligned : n % 2 ^ k ≡ 0 = ap (λ (x : ℕ). x % 2 ^ k) place ∙ mul-mod_left (among.number * 2 ^ d) (2 ^ k) in
      let free : chunk_free k a (i + n) ≡ true =
      begins d k a (i + n) (subst (λ (x : ℕ). chunk_free x a (i + n) ≡ true) larger among.free) in
      (n, f.chunk n below aligned ∙ ap one free)

  pub none : w ≡ 0 → largest_free 6 a i < 2 ^ k
  none z = elim (dec_lt (largest_free 6 a i) (2 ^ k)) [
    | yes l ↦ l
    | no l ↦
        let found = digit (omega arith) in
        absurd (omega (arith, found.1, ap (λ (x : ℕ). bit_of x found.0) z, bit_zero found.0))
  ]

  pub some : w ≢ 0 → 2 ^ k ≤ largest_free 6 a i
  some s = elim (dec_le (2 ^ k) (largest_free 6 a i)) [
    | yes l ↦ l
    | no l ↦ absurd (s (bits_ext 64 w 0 f.below (omega arith) (λ n m. unset l n m ∙ sym (bit_zero n))))
  ]
    where
      unset : (2 ^ k ≤ largest_free 6 a i → ⊥) → (n : ℕ) → n < 64 → bit_of w n ≡ 0
      unset l n m = elim (ℕ_discrete (n % 2 ^ k) 0) [
        | no other ↦ f.other n m other
        | yes aligned ↦ elim (test_cases_lem (chunk_free k a (i + n))) [
          | inr used ↦ f.chunk n m aligned ∙ ap one used
          | inl free ↦
              let at = numbered k n small m aligned in
              let exponent : 6 - k + k ≡ 6 = omega arith in
              let large =
              none_larger (6 - k) k a i at.number at.below (ap (λ (x : ℕ). chunk_free k a (i + x)) (sym at.place) ∙ free) in
              absurd (l (subst (λ (x : ℕ). 2 ^ k ≤ largest_free x a i) exponent large))
        ]
      ]

-- chunks of 2 ^ k blocks are free, and none of twice the size
pub exact : (k : ℕ) (a : List ℕ) (i v w : ℕ) → k < 6 → FreeChunks k a i v → FreeChunks (suc k) a i w → v ≢ 0 → w ≡ 0 → 2 ^ k ≡ largest_free 6 a i
exact k a i v w small here above s z =
    let low = some k a i v (omega arith) here s in
    let high = none (suc k) a i w small above z in
    let among = there_is 6 a i (λ y. omega (arith, pow_pos k)) in
    let e : ℕ = among.exponent in
    let at_least_lem = exponent_le k e (omega (arith, among.figure_is)) in
    let same : e ≡ k =
    elim (dec_le e k) [
      | yes l ↦ omega arith
      | no l ↦ absurd (omega (arith, among.figure_is, pow_mono {i = suc k} {j = e} (omega arith)))
    ] in
    sym (among.figure_is ∙ ap (λ (x : ℕ). 2 ^ x) same)

-- the 64 blocks are free
pub all : (a : List ℕ) (i w : ℕ) → FreeChunks 6 a i w → w ≢ 0 → 64 ≡ largest_free 6 a i
all a i w f s = omega (arith, some 6 a i w (omega arith) f s, (figure_le 6 a i).0)

-- no block is free
pub zero_figure : (a : List ℕ) (i w : ℕ) → FreeChunks 0 a i w → w ≡ 0 → 0 ≡ largest_free 6 a i
zero_figure a i w f z = omega (arith, none 0 a i w (omega arith) f z)

-- the sizes of chunks that are halves in a word
pub sizes : (k : ℕ) → k < 6 → get_or (1 ∷ 2 ∷ 4 ∷ 8 ∷ 16 ∷ 32 ∷ []) k 0 ≡ 2 ^ k
sizes zero l = refl
sizes (suc zero) l = refl
sizes (suc (suc zero)) l = refl
sizes (suc (suc (suc zero))) l = refl
sizes (suc (suc (suc (suc zero)))) l = refl
sizes (suc (suc (suc (suc (suc zero))))) l = refl
sizes (suc (suc (suc (suc (suc (suc k)))))) l = absurd (omega arith)
