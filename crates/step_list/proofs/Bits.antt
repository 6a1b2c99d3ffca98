-- A map's bits as a set: a bit read, a bit written, a search for the next one, and the blocks that a list
-- names.
use mathlib.Core.Path.{◌≡◌, refl, sym, ap, subst, ◌∙◌}
use mathlib.Core.Logic.{◌≢◌}
use mathlib.Core.Bool.{Bool, true, false, ◌||◌, or-false, or-true}
use mathlib.Core.List.{List}
use Prim.Native.Nat.{ℕ, ◌+◌, ◌-◌, ◌*◌, ◌/◌, ◌%◌, ◌≤◌, ◌<◌}
use native.Mathlib.Numerals.{add-one}
use native.Mathlib.Decide.{ℕ_discrete, dec_lt}
use native.Mathlib.Omega.{arith}
use lib.Dec.{eqb}
use lib.ListN.{length, get_or, replicate}
use borrow.Author.Tests.{eq-eqb, ne_eqb}
use Rattle.bitmap.specs.Bit.{bit_of, bit_at, set_bit}
use Rattle.bitmap.proofs.Bits.{bit_zero}
use Rattle.bitmap.proofs.Maps.{bit_set_same, bit_set_other, bit_all_zero}
use Rattle.rules.specs.Tools.{some_below}
use Rattle.step_marks.specs.Marks.{mark_one}
use Rattle.step_marks.proofs.Marked.{mark_none, mark_past, mark_some}
use Rattle.section_words.specs.Words.{Digits}
use Rattle.step_list.specs.Lists.{is_set, listed_in, Shows, Gains, Passed, NoBit, LowestBit}

-- ---- one bit

pub set_is : (map : List ℕ) (i : ℕ) → bit_at map i ≡ 1 → is_set map i ≡ true
set_is map i e = eq-eqb (bit_at map i) 1 e

pub clear_is : (map : List ℕ) (i : ℕ) → bit_at map i ≢ 1 → is_set map i ≡ false
clear_is map i n = ne_eqb (bit_at map i) 1 n

pub zero_is : (map : List ℕ) (i : ℕ) → bit_at map i ≡ 0 → is_set map i ≡ false
zero_is map i e = ne_eqb (bit_at map i) 1 (λ one. omega arith)

-- a byte that is 0 has no 1
pub byte_clear : (map : List ℕ) (i : ℕ) → get_or map (i / 8) 0 ≡ 0 → is_set map i ≡ false
unfolding bit_at
byte_clear map i e = zero_is map i (ap (λ (x : ℕ). bit_of x (i % 8)) e ∙ bit_zero (i % 8))

-- equal bytes have equal bits
pub byte_equal : (map other : List ℕ) (i : ℕ) → get_or map (i / 8) 0 ≡ get_or other (i / 8) 0 → is_set map i ≡ is_set other i
unfolding bit_at
byte_equal map other i e = ap (λ (x : ℕ). eqb (bit_of x (i % 8)) 1) e

-- a bit written, and the others
pub made_set : (map : List ℕ) (i : ℕ) → i < 8 * length map → is_set (set_bit map i 1) i ≡ true
made_set map i l = set_is (set_bit map i 1) i (bit_set_same map i 1 l (omega arith))

pub made_clear : (map : List ℕ) (i : ℕ) → i < 8 * length map → is_set (set_bit map i 0) i ≡ false
made_clear map i l = zero_is (set_bit map i 0) i (bit_set_same map i 0 l (omega arith))

pub others_same : (map : List ℕ) (i v j : ℕ) → v < 2 → j ≢ i → is_set (set_bit map i v) j ≡ is_set map j
others_same map i v j b n = ap (λ (x : ℕ). eqb x 1) (bit_set_other map i v j n b)

-- ---- the next 1

module _ {map : List ℕ} {from end : ℕ} where
  pub passed_start : from ≤ end → Passed map from end from
  passed_start l = record { from_le = omega arith; end_le = l; clear = λ j u v. absurd (omega arith) }

  module _ {i : ℕ} (p : Passed map from end i) (l : i < end) where
    pub passed_bit : is_set map i ≡ false → Passed map from end (i + 1)
    passed_bit e = record {
      from_le = omega (arith, p.from_le);
      end_le = omega arith;
      clear = λ j u v. elim (ℕ_discrete j i) [
        | yes q ↦ ap (is_set map) q ∙ e
        | no n ↦ p.clear j u (omega arith)
      ];
    }

    pub passed_byte : end ≡ 8 * (end / 8) → get_or map (i / 8) 0 ≡ 0 → Passed map from end ((i / 8 + 1) * 8)
    passed_byte whole e = record {
      from_le = omega (arith, p.from_le);
      end_le = omega arith;
      clear = λ j u v. elim (dec_lt j i) [
        | yes q ↦ p.clear j u q
        | no n ↦
            let same : j / 8 ≡ i / 8 = omega arith in
            byte_clear map j (ap (λ (k : ℕ). get_or map k 0) same ∙ e)
      ];
    }

    pub passed_found : is_set map i ≡ true → LowestBit map from end i
    passed_found e = record { from_le = p.from_le; below = l; clear = p.clear; found = e }

  -- none up to r
  pub passed_more : {i : ℕ} → Passed map from end i → (r : ℕ) → i ≤ r → r ≤ end → ((j : ℕ) → i ≤ j → j < r → is_set map j ≡ false) → Passed map from end r
  passed_more {i} p r l u none = record {
    from_le = omega (arith, p.from_le);
    end_le = u;
    clear = λ j s v. elim (dec_lt j i) [ yes q ↦ p.clear j s q | no q ↦ none j (omega arith) v ];
  }

  pub passed_all : {i : ℕ} → Passed map from end i → end ≤ i → NoBit map from end
  passed_all p l = record { clear = λ j u v. p.clear j u (omega arith) }

-- a byte that is 0, and those behind it that were passed over
pub passed_bytes : {map : List ℕ} {from end i : ℕ} (r : ℕ) → Passed map from end i → i < end → end ≡ 8 * (end / 8) → get_or map (i / 8) 0 ≡ 0
    → Passed map (8 * (i / 8 + 1)) (8 * (end / 8)) (8 * r) → Passed map from end (r * 8)
passed_bytes {map} {from} {end} {i} r p l whole e q =
    let low = q.from_le in
    let high = q.end_le in
    passed_more (passed_byte p l whole e) (r * 8) (omega arith) (omega arith) (λ j s v. q.clear j (omega arith) (omega arith))

-- eight bytes that are 0 as one number
pub passed_eight : {map : List ℕ} {from end w : ℕ} (k : ℕ) → Passed map from end (8 * k) → 8 * (k + 8) ≤ end → Digits 64 map (8 * k) w → w ≡ 0
    → Passed map from end (8 * (k + 8))
passed_eight {map} {from} {end} {w} k p l d none =
    passed_more p (8 * (k + 8)) (omega arith) l
    (λ j s v.
    let at : 8 * k + (j - 8 * k) ≡ j = omega arith in
    zero_is map j
    (ap (bit_at map) (sym at) ∙ sym (d.each (j - 8 * k) (omega arith)) ∙ ap (λ (x : ℕ). bit_of x (j - 8 * k)) none ∙ bit_zero (j - 8 * k)))

-- ---- what a list names

module _ {N v : ℕ} {map : List ℕ} where
  gains_none : v ≡ 0 → Gains N v map map
  gains_none e = record { bits = λ i l. sym (or-false (is_set map i)) ∙ ap (λ (t : Bool). is_set map i || t) (sym (ne_eqb v (i + 1) (λ q. omega arith))) }

  gains_past : N < v → Gains N v map map
  gains_past past = record { bits = λ i l. sym (or-false (is_set map i)) ∙ ap (λ (t : Bool). is_set map i || t) (sym (ne_eqb v (i + 1) (λ q. omega arith))) }

  pub gains_one : v ≢ 0 → v ≤ N → N ≤ 8 * length map → {after : List ℕ} → after ≡ set_bit map (v - 1) 1 → Gains N v map after
  gains_one some within long {after} e = record {
    bits = λ i l. ap (λ (m : List ℕ). is_set m i) e ∙ elim (ℕ_discrete i (v - 1)) [
      | yes q ↦
          ap (is_set (set_bit map (v - 1) 1)) q ∙ made_set map (v - 1) (omega arith)
          ∙ sym (ap (λ (t : Bool). is_set map i || t) (eq-eqb v (i + 1) (omega arith)) ∙ or-true (is_set map i))
      | no n ↦
          others_same map (v - 1) 1 i (omega arith) n
          ∙ sym (ap (λ (t : Bool). is_set map i || t) (ne_eqb v (i + 1) (λ q. n (omega arith))) ∙ or-false (is_set map i))
    ];
  }

pub gains_marked : (N v : ℕ) (map : List ℕ) → N ≤ 8 * length map → {after : List ℕ} → after ≡ mark_one N map v → Gains N v map after
gains_marked N v map long {after} e =
    elim (ℕ_discrete v 0) [
      | yes none ↦ subst (Gains N v map) (mark_none N map none ∙ sym e) (gains_none none)
      | no some ↦ elim (dec_lt N v) [
        | yes past ↦ subst (Gains N v map) (mark_past N map some past ∙ sym e) (gains_past past)
        | no within ↦ gains_one some (omega arith) long (e ∙ sym (mark_some N map some (omega arith)))
      ]
    ]

-- one number more
pub some_more : (test : ℕ → Bool) (n : ℕ) → some_below test (n + 1) ≡ (some_below test n || test n)
unfolding some_below
some_more test n = ap (some_below test) (add-one n) ∙ go (some_below test n)
  where
    go : (t : Bool) → elim t as (λ _. Bool) [ true ↦ true | false ↦ test n ] ≡ (t || test n)
    go true = refl
    go false = refl

pub shows_none : {N : ℕ} (list : List ℕ) (n : ℕ) {map : List ℕ} → map ≡ replicate n 0 → Shows N (listed_in 0 list) map
unfolding listed_in some_below
shows_none list n {map} e = record { bits = λ i l. zero_is map i (ap (λ (m : List ℕ). bit_at m i) e ∙ bit_all_zero n i) }

pub shows_more : {N : ℕ} (k : ℕ) (list : List ℕ) {map after : List ℕ} → Shows N (listed_in k list) map → Gains N (get_or list k 0) map after
    → Shows N (listed_in (k + 1) list) after
unfolding listed_in
shows_more k list s g = record {
  bits = λ i l.
      g.bits i l ∙ ap (λ (t : Bool). t || eqb (get_or list k 0) (i + 1)) (s.bits i l)
      ∙ sym (some_more (λ j. eqb (get_or list j 0) (i + 1)) k);
}
