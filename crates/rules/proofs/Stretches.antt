-- Laws of a search that goes by stretches: eight blocks in the bits of a byte, or whatever a loop passes over at once.
use mathlib.Core.Path.{◌≡◌, refl, sym, ap, ◌∙◌}
use mathlib.Core.Logic.{◌≢◌}
use mathlib.Core.Bool.{Bool, true, false, not, true≢false}
use Prim.Native.Nat.{ℕ, ◌+◌, ◌-◌, ◌*◌, ◌<◌, ◌≤◌}
use native.Mathlib.Decide.{ℕ_discrete, dec_lt}
use native.Mathlib.Omega.{arith}
use lib.Bits.{bit_and, bit_or}
use lib.Count.{count_trailing_zeros}
use lib.Dec.{eqb}
use borrow.Author.Tests.{eq-eqb, ne_eqb}
use Rattle.bitmap.specs.Bit.{bit_of, put_bit}
use Rattle.bitmap.proofs.Bits.{bit_zero, bit_put_same, bit_put_other}
use Rattle.bitmap.proofs.Digits.{or_some, or_other, trailing_lowest, clear_lowest}
use Rattle.rules.specs.Tools.{some_below}
use Rattle.rules.proofs.Tests.{false_unless, some_true, true_some, some_false, false_some}
use Rattle.rules.proofs.Searches.{Searched}

-- ---- a stretch at once

-- what passes below m passes below n
pub some_further : (test : ℕ → Bool) (m n : ℕ) → m ≤ n → some_below test m ≡ true → some_below test n ≡ true
some_further test m n l e =
    let found = some_true test m e in
    true_some test n found.0 (omega (arith, found.1)) found.2

-- where the test fails below m and from m to n, it fails below n
pub none_further : (test : ℕ → Bool) (m n : ℕ) → some_below test m ≡ false → ((i : ℕ) → m ≤ i → i < n → test i ≡ false)
    → some_below test n ≡ false
none_further test m n e h = false_some test n (λ i l. elim (dec_lt i m) [ yes s ↦ some_false test m e i s | no s ↦ h i (omega arith) l ])

pub searched_further : (test : ℕ → Bool) (n i j : ℕ) → Searched test n i → j ≤ n → ((k : ℕ) → i ≤ k → k < j → test k ≡ false)
    → Searched test n j
searched_further test n i j s l h = (l, none_further test i j s.1 h)

-- ---- eight blocks in a byte

-- the digits of x are the test at the eight numbers from 8 k on
abbrev pub EightTests : (ℕ → Bool) → ℕ → ℕ → Type 0
EightTests test k x = (s : ℕ) → s < 8 → test (8 * k + s) ≡ not (eqb (bit_of x s) 0)

pub eight_none : (test : ℕ → Bool) (k x : ℕ) → EightTests test k x → x ≡ 0 → (i : ℕ) → 8 * k ≤ i → i < 8 * (k + 1) → test i ≡ false
eight_none test k x h e i l u =
    let at : i ≡ 8 * k + (i - 8 * k) = omega arith in
    let none : bit_of x (i - 8 * k) ≡ 0 = ap (λ (y : ℕ). bit_of y (i - 8 * k)) e ∙ bit_zero (i - 8 * k) in
    ap test at ∙ h (i - 8 * k) (omega arith) ∙ ap not (eq-eqb (bit_of x (i - 8 * k)) 0 none)

pub eight_some : (test : ℕ → Bool) (k x : ℕ) → x < 256 → EightTests test k x → x ≢ 0 → some_below test (8 * (k + 1)) ≡ true
eight_some test k x small h some =
    let low = trailing_lowest 8 x small some in
    let s : ℕ = count_trailing_zeros 8 x in
    true_some test (8 * (k + 1)) (8 * k + s) (omega (arith, low.inside))
    (h s low.inside ∙ ap not (ne_eqb (bit_of x s) 0 (λ e. omega (arith, low.here))))

-- the accumulated byte is not 0 where the test passes below 8 k
abbrev pub Gathered : (ℕ → Bool) → ℕ → ℕ → Type 0
Gathered test k found = not (eqb found 0) ≡ some_below test (8 * k)

-- one byte more
pub gathered_more : (test : ℕ → Bool) (k found x : ℕ) → x < 256 → EightTests test k x → Gathered test k found
    → Gathered test (k + 1) (bit_or found x)
gathered_more test k found x small h g = elim (ℕ_discrete found 0) [
  | no n ↦
      let before : some_below test (8 * k) ≡ true = sym g ∙ ap not (ne_eqb found 0 n) in
      ap not (ne_eqb (bit_or found x) 0 (or_some found x n))
      ∙ sym (some_further test (8 * k) (8 * (k + 1)) (omega arith) before)
  | yes e ↦ elim (ℕ_discrete x 0) [
    | no n ↦ ap not (ne_eqb (bit_or found x) 0 (or_other found x n)) ∙ sym (eight_some test k x small h n)
    | yes z ↦
        let before : some_below test (8 * k) ≡ false = sym g ∙ ap not (eq-eqb found 0 e) in
        let none : bit_or found x ≡ 0 = ap (λ (y : ℕ). bit_or y x) e ∙ z in
        ap not (eq-eqb (bit_or found x) 0 none)
        ∙ sym (none_further test (8 * k) (8 * (k + 1)) before (eight_none test k x h z))
  ]
]

-- ---- the 1 bits of a byte, visited from the lowest on

-- `left` has those bits of `these` at which the test may still pass
abbrev pub ToVisit : (ℕ → Bool) → ℕ → ℕ → Type 0
ToVisit test these left = (s : ℕ) → s < 8 → (test s ≡ true → bit_of left s ≡ 1) × (bit_of left s ≡ 1 → bit_of these s ≡ 1)

module _ (test : ℕ → Bool) (these : ℕ) where
  pub visit_start : ((s : ℕ) → s < 8 → test s ≡ true → bit_of these s ≡ 1) → ToVisit test these these
  visit_start h s l = (h s l, λ e. e)

  -- the lowest one is a bit of `these`
  pub visit_here : (left : ℕ) → left < 256 → left ≢ 0 → ToVisit test these left → bit_of these (count_trailing_zeros 8 left) ≡ 1
  visit_here left small some v =
      let low = trailing_lowest 8 left small some in
      (v (count_trailing_zeros 8 left) low.inside).1 low.here

  -- where the test fails there, the others are left
  pub visit_next : (left : ℕ) → left < 256 → left ≢ 0 → test (count_trailing_zeros 8 left) ≡ false → ToVisit test these left
      → ToVisit test these (bit_and left (left - 1))
  visit_next left small some fails v s l = elim (ℕ_discrete s (count_trailing_zeros 8 left)) [
    | yes e ↦ (
      λ p. absurd (true≢false (sym p ∙ ap test e ∙ fails)),
      λ q.
          absurd
          (omega (
            arith,
            q,
            ap (λ (x : ℕ). bit_of x s) (clear_lowest 8 left small some),
            ap (bit_of (put_bit left (count_trailing_zeros 8 left) 0)) e,
            bit_put_same left (count_trailing_zeros 8 left) 0 (omega arith),
          )),
    )
    | no n ↦
        let same : bit_of (bit_and left (left - 1)) s ≡ bit_of left s =
        ap (λ (x : ℕ). bit_of x s) (clear_lowest 8 left small some) ∙ bit_put_other left (count_trailing_zeros 8 left) 0 s n (omega arith) in
        (λ p. same ∙ (v s l).0 p, λ q. (v s l).1 (sym same ∙ q))
  ]

  -- nothing left: the test passes nowhere
  pub visit_none : (left : ℕ) → left ≡ 0 → ToVisit test these left → false ≡ some_below test 8
  visit_none left e v =
      sym
      (false_some test 8
      (λ s l. false_unless (test s) (λ p. omega (arith, (v s l).0 p, ap (λ (x : ℕ). bit_of x s) e, bit_zero s))))

  pub visit_hit : (left : ℕ) → left < 256 → left ≢ 0 → test (count_trailing_zeros 8 left) ≡ true → true ≡ some_below test 8
  visit_hit left small some p =
      sym (true_some test 8 (count_trailing_zeros 8 left) (trailing_lowest 8 left small some).inside p)

-- ---- eight blocks whose tests are another's

-- what the other search finds among its eight is what lies in the stretch
pub eight_hit : (test other : ℕ → Bool) (k : ℕ) → ((s : ℕ) → s < 8 → test (8 * k + s) ≡ other s) → some_below other 8 ≡ true
    → some_below test (8 * (k + 1)) ≡ true
eight_hit test other k h e =
    let found = some_true other 8 e in
    true_some test (8 * (k + 1)) (8 * k + found.0) (omega (arith, found.1)) (h found.0 found.1 ∙ found.2)

pub eight_past : (test other : ℕ → Bool) (k : ℕ) → ((s : ℕ) → s < 8 → test (8 * k + s) ≡ other s) → some_below other 8 ≡ false
    → some_below test (8 * k) ≡ false → some_below test (8 * (k + 1)) ≡ false
eight_past test other k h e before =
    none_further test (8 * k) (8 * (k + 1)) before
    (λ i l u.
    let at : i ≡ 8 * k + (i - 8 * k) = omega arith in
    ap test at ∙ h (i - 8 * k) (omega arith) ∙ some_false other 8 e (i - 8 * k) (omega arith))
