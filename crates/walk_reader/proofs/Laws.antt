-- Words and numbers in front of a text.
use mathlib.Core.Path.{◌≡◌, refl, sym, ap, ◌∙◌}
use mathlib.Core.Logic.{◌≢◌}
use mathlib.Core.Bool.{Bool, true, false, ◌&&◌}
use mathlib.Core.List.{List, [], ◌∷◌}
use mathlib.Core.Option.{Option, none, some}
use Prim.Native.Nat.{ℕ, ◌+◌, ◌-◌, ◌*◌, ◌≤◌, ◌<◌}
use native.Mathlib.Decide.{dec_lt}
use native.Mathlib.Omega.{arith}
use lib.ListN.{length, get_or, take, drop}
use lib.Seq.{take-length}
use lib.Dec.{eqb, leb}
use borrow.Author.Tests.{eq-eqb, ne_eqb, lt-ltb, le-ltb, le-leb, lt-leb}
use Rattle.std.specs.Cmp.Lexicographic.{pointwise}
use Rattle.rules_output.specs.Sentence.{behind, number_from, number_at}
use Rattle.rules.proofs.Tests.{true_and, eqb_either_way}
use Rattle.walk_reader.specs.Reader.{is_small, when, limited, small_at}

-- ---- words

-- what stands behind words is told by their comparison with as many bytes of the text
behind_tested : (words l : List ℕ)
    → behind words l ≡ elim (pointwise eqb (take (length words) l) words) as (λ _. Option (List ℕ)) [ true ↦ some (drop (length words) l) | false ↦ none ]
unfolding behind
behind_tested [] l = refl
behind_tested (x ∷ words) [] = refl
behind_tested (x ∷ words) (y ∷ l) =
    ap (λ (t : Bool). elim t as (λ _. Option (List ℕ)) [ true ↦ behind words l | false ↦ none ]) (eqb_either_way x y) ∙ first (eqb y x) (behind_tested words l)
  where
    first : (t : Bool)
        → behind words l ≡ elim (pointwise eqb (take (length words) l) words) as (λ _. Option (List ℕ)) [ true ↦ some (drop (length words) l) | false ↦ none ]
        → elim t as (λ _. Option (List ℕ)) [ true ↦ behind words l | false ↦ none ]
        ≡ elim (t && pointwise eqb (take (length words) l) words) as (λ _. Option (List ℕ)) [ true ↦ some (drop (length words) l) | false ↦ none ]
    first true e = e
    first false e = refl

-- .. as `strip_prefix` tells it
module _ (words l : List ℕ) where
  pub not_behind : pointwise eqb (take (length words) l) words ≡ false → behind words l ≡ none
  not_behind e =
      behind_tested words l
      ∙ ap (λ (t : Bool). elim t as (λ _. Option (List ℕ)) [ true ↦ some (drop (length words) l) | false ↦ none ]) e

  pub is_behind : {m : List ℕ} → pointwise eqb (take (length words) l) words ≡ true → m ≡ drop (length words) l → behind words l ≡ some m
  is_behind e same =
      behind_tested words l
      ∙ ap (λ (t : Bool). elim t as (λ _. Option (List ℕ)) [ true ↦ some (drop (length words) l) | false ↦ none ]) e
      ∙ ap some (sym same)

-- ---- numbers

numbers_grow : (n : ℕ) (l : List ℕ) → n ≤ (number_from n l).0
unfolding number_from
numbers_grow n [] = omega arith
numbers_grow n (c ∷ l) = each (leb 48 c && leb c 57) (numbers_grow (n * 10 + (c - 48)) l)
  where
    each : (t : Bool) → n * 10 + (c - 48) ≤ (number_from (n * 10 + (c - 48)) l).0 → n ≤ (elim t as (λ (x : Bool). ℕ × List ℕ) [ true ↦ number_from (n * 10 + (c - 48)) l | false ↦ (n, c ∷ l) ]).0
    each true h = omega (arith, h)
    each false h = omega arith

-- the rest is no longer
numbers_shorten : (n : ℕ) (l : List ℕ) → length (number_from n l).1 ≤ length l
unfolding number_from
numbers_shorten n [] = omega arith
numbers_shorten n (c ∷ l) = each (leb 48 c && leb c 57) (numbers_shorten (n * 10 + (c - 48)) l)
  where
    each : (t : Bool) → length (number_from (n * 10 + (c - 48)) l).1 ≤ length l
        → length (elim t as (λ (x : Bool). ℕ × List ℕ) [ true ↦ number_from (n * 10 + (c - 48)) l | false ↦ (n, c ∷ l) ]).1 ≤ length (c ∷ l)
    each true h = omega (arith, h)
    each false h = omega arith

no_digit_low : (c : ℕ) → c < 48 → (leb 48 c && leb c 57) ≡ false
no_digit_low c h = rw (lt-leb 48 c h) refl

no_digit_high : (c : ℕ) → 57 < c → (leb 48 c && leb c 57) ≡ false
no_digit_high c h = rw (le-leb 48 c (omega arith), lt-leb c 57 h) refl

a_digit : (c : ℕ) → 48 ≤ c → c ≤ 57 → (leb 48 c && leb c 57) ≡ true
a_digit c h k = true_and (leb 48 c) (leb c 57) (le-leb 48 c h) (le-leb c 57 k)

-- a digit more, and the end of the digits
pub next_digit : (value c : ℕ) (l : List ℕ) → 48 ≤ c → c ≤ 57 → number_from value (c ∷ l) ≡ number_from (value * 10 + (c - 48)) l
unfolding number_from
next_digit value c l h k = rw (a_digit c h k, number_from) refl

pub ends_low : (value c : ℕ) (l : List ℕ) → c < 48 → number_from value (c ∷ l) ≡ (value, c ∷ l)
unfolding number_from
ends_low value c l h = rw (no_digit_low c h, number_from) refl

pub ends_high : (value c : ℕ) (l : List ℕ) → 57 < c → number_from value (c ∷ l) ≡ (value, c ∷ l)
unfolding number_from
ends_high value c l h = rw (no_digit_high c h, number_from) refl

-- a number of 32 bits, and one of more
pub small_number : (value : ℕ) (l m : List ℕ) → value < 4294967296 → number_from value l ≡ (value, m) → limited (some (number_from value l)) ≡ some (value, m)
unfolding limited when
small_number value l m h e = ap (λ (x : ℕ × List ℕ). limited (some x)) e ∙ rw (lt-ltb value 4294967296 h, limited) refl

pub large_number : (value : ℕ) (l : List ℕ) → 4294967296 ≤ value → limited (some (number_from value l)) ≡ none
unfolding limited when
large_number value l h = rw (le-ltb (number_from value l).0 4294967296 (omega (arith, numbers_grow value l)), limited) refl

-- ---- digits one by one

-- the first byte, and the rest
pub front : (l : List ℕ) → 1 ≤ length l → l ≡ get_or l 0 0 ∷ take (length l - 1) (drop 1 l)
front [] h = absurd (omega arith)
front (c ∷ l) h =
    let same : length (c ∷ l) - 1 ≡ length l = omega arith in
    ap (λ (m : List ℕ). c ∷ m) (sym (ap (λ (k : ℕ). take k l) same ∙ take-length l))

pub no_front : (l : List ℕ) → length l < 1 → l ≡ []
no_front [] h = refl
no_front (c ∷ l) h = absurd (omega arith)

module _ (value : ℕ) (l : List ℕ) where
  pub digit_more : 1 ≤ length l → 48 ≤ get_or l 0 0 → get_or l 0 0 ≤ 57
      → number_from value l ≡ number_from (value * 10 + (get_or l 0 0 - 48)) (take (length l - 1) (drop 1 l))
  digit_more long low high = ap (number_from value) (front l long) ∙ next_digit value (get_or l 0 0) (take (length l - 1) (drop 1 l)) low high

  pub digit_large : 1 ≤ length l → 48 ≤ get_or l 0 0 → get_or l 0 0 ≤ 57 → 4294967296 ≤ value * 10 + (get_or l 0 0 - 48)
      → limited (some (number_from value l)) ≡ none
  digit_large long low high big =
      ap (λ (x : ℕ × List ℕ). limited (some x)) (digit_more long low high)
      ∙ large_number (value * 10 + (get_or l 0 0 - 48)) (take (length l - 1) (drop 1 l)) big

  module _ (small : value < 4294967296) where
    pub digits_none : length l < 1 → limited (some (number_from value l)) ≡ some (value, l)
    unfolding number_from
    digits_none h = small_number value l l small (ap (number_from value) (no_front l h) ∙ ap (λ (m : List ℕ). (value, m)) (sym (no_front l h)))

    pub digits_low : 1 ≤ length l → get_or l 0 0 < 48 → limited (some (number_from value l)) ≡ some (value, l)
    digits_low long h =
        small_number value l l small
        (ap (number_from value) (front l long) ∙ ends_low value (get_or l 0 0) (take (length l - 1) (drop 1 l)) h ∙ ap (λ (m : List ℕ). (value, m)) (sym (front l long)))

    pub digits_high : 1 ≤ length l → 57 < get_or l 0 0 → limited (some (number_from value l)) ≡ some (value, l)
    digits_high long h =
        small_number value l l small
        (ap (number_from value) (front l long) ∙ ends_high value (get_or l 0 0) (take (length l - 1) (drop 1 l)) h ∙ ap (λ (m : List ℕ). (value, m)) (sym (front l long)))

-- ---- a number that is written without leading zeros

pub small_zero : (c : ℕ) (l : List ℕ) → c ≡ 48 → small_at (c ∷ l) ≡ some (0, l)
unfolding small_at number_at when limited
small_zero c l e = rw (eq-eqb c 48 e, number_at, small_at) refl

pub small_digits : (c : ℕ) (l : List ℕ) → c ≢ 48 → 48 ≤ c → c ≤ 57 → small_at (c ∷ l) ≡ limited (some (number_from 0 (c ∷ l)))
unfolding small_at number_at limited
small_digits c l e h k = rw (ne_eqb c 48 e, a_digit c h k, number_at, small_at) refl

pub small_low : (c : ℕ) (l : List ℕ) → c < 48 → small_at (c ∷ l) ≡ none
unfolding small_at number_at limited when
small_low c l h = rw (ne_eqb c 48 (λ e. omega arith), no_digit_low c h, number_at, small_at) refl

pub small_high : (c : ℕ) (l : List ℕ) → 57 < c → small_at (c ∷ l) ≡ none
unfolding small_at number_at limited when
small_high c l h = rw (ne_eqb c 48 (λ e. omega arith), no_digit_high c h, number_at, small_at) refl

-- .. in front of a text
module _ (l : List ℕ) where
  pub number_empty : length l < 1 → small_at l ≡ none
  unfolding small_at number_at limited
  number_empty h = ap small_at (no_front l h)

  module _ (some_left : 1 ≤ length l) where
    pub number_zero : get_or l 0 0 ≡ 48 → small_at l ≡ some (0, take (length l - 1) (drop 1 l))
    number_zero e = ap small_at (front l some_left) ∙ small_zero (get_or l 0 0) (take (length l - 1) (drop 1 l)) e

    pub number_digits : get_or l 0 0 ≢ 48 → 48 ≤ get_or l 0 0 → get_or l 0 0 ≤ 57 → small_at l ≡ limited (some (number_from 0 l))
    number_digits other low high =
        ap small_at (front l some_left)
        ∙ small_digits (get_or l 0 0) (take (length l - 1) (drop 1 l)) other low high
        ∙ ap (λ (m : List ℕ). limited (some (number_from 0 m))) (sym (front l some_left))

    pub number_other : (48 ≤ get_or l 0 0 → get_or l 0 0 ≤ 57 → ⊥) → small_at l ≡ none
    number_other n = ap small_at (front l some_left) ∙ elim (dec_lt (get_or l 0 0) 48) [
      | yes low ↦ small_low (get_or l 0 0) (take (length l - 1) (drop 1 l)) low
      | no high ↦ small_high (get_or l 0 0) (take (length l - 1) (drop 1 l)) (omega arith)
    ]

pub small_shorter : (l : List ℕ) (v : ℕ) (r : List ℕ) → small_at l ≡ some (v, r) → length r ≤ length l
unfolding small_at number_at limited when
small_shorter [] v r e = let z : ◌≡◌ {A = ℕ} 0 1 = cc in absurd (omega arith)
small_shorter (c ∷ l) v r e = zero (eqb c 48) e
  where
    kept : (t : Bool) (x : ℕ × List ℕ) → length x.1 ≤ length (c ∷ l) → when t x ≡ some (v, r) → length r ≤ length (c ∷ l)
    kept true x h e = let same : ◌≡◌ {A = ℕ × List ℕ} x (v, r) = cc in omega (arith, h, ap (λ (y : ℕ × List ℕ). length y.1) same)
    kept false x h e = let z : ◌≡◌ {A = ℕ} 0 1 = cc in absurd (omega arith)

    digit : (t : Bool)
        → limited (elim t as (λ _. Option (ℕ × List ℕ)) [ true ↦ some (number_from 0 (c ∷ l)) | false ↦ none ]) ≡ some (v, r)
        → length r ≤ length (c ∷ l)
    digit true e = kept (is_small (number_from 0 (c ∷ l)).0) (number_from 0 (c ∷ l)) (numbers_shorten 0 (c ∷ l)) e
    digit false e = let z : ◌≡◌ {A = ℕ} 0 1 = cc in absurd (omega arith)

    zero : (t : Bool)
        → limited (elim t as (λ _. Option (ℕ × List ℕ)) [ true ↦ some (0, l) | false ↦ elim (leb 48 c && leb c 57) [ true ↦ some (number_from 0 (c ∷ l)) | false ↦ none ] ]) ≡ some (v, r)
        → length r ≤ length (c ∷ l)
    zero true e = kept (is_small 0) (0, l) (omega arith) e
    zero false e = digit (leb 48 c && leb c 57) e
