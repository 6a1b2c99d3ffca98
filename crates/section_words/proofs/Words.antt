-- Blocks as digits of a word: bytes put together, free chunks found by `and` of a word and itself shifted.
use mathlib.Core.Path.{◌≡◌, refl, sym, ap, ap₂, subst, ◌∙◌}
use mathlib.Core.Logic.{◌≢◌}
use mathlib.Core.Bool.{Bool, true, false, not}
use mathlib.Core.List.{List, [], ◌∷◌}
use Prim.Native.Nat.{ℕ, zero, suc, ◌+◌, ◌-◌, ◌*◌, ◌/◌, ◌%◌, ◌^◌, ◌≤◌, ◌<◌, min}
use native.Mathlib.Nat.{pow-suc, add_comm, min-zero, mod-one, mul-le-mul_right, mul-mod_left, le_of_suc-le-suc, not-suc-le-zero}
use native.Mathlib.Decide.{dec_lt, ℕ_discrete}
use native.Mathlib.Omega.{arith}
use Rattle.std.specs.Int.{w64, from_le_bytes}
use Rattle.std.proofs.Common.{Fits, w8}
use lib.Bits.{bit_and, and_shr, and_step, and_le_l}
use lib.Dec.{eqb}
use lib.ListN.{get_or}
use lib.Pow.{pow_pos, pow-add, pow-lt, split, high}
use borrow.Author.Tests.{eqb-true, not-false, eq-eqb, ne_eqb}
use Rattle.bitmap.specs.Bit.{bit_of, bit_at, one}
use Rattle.bitmap.proofs.Bits.{bit_suc, bit_below, bit_from}
use Rattle.bitmap.proofs.Maps.{bit_of_byte, bit_at_lt}
use Rattle.rules.specs.Heap.{chunk_free}
use Rattle.rules.specs.Tools.{some_below}
use Rattle.rules.proofs.Tests.{some_false}
use Rattle.section_words.specs.Words.{Digits, Starts, FreeChunks}

-- ---- digits of an `and`, of a complement

pub bit_and_lem : (x y n : ℕ) → bit_of (bit_and x y) n ≡ min (bit_of x n) (bit_of y n)
bit_and_lem x y n =
    ap (λ (z : ℕ). z % 2) (and_shr x y n ∙ and_step (x / 2 ^ n) (y / 2 ^ n))
    ∙ omega arith

pub bit_not : (m x n : ℕ) → n < m → x < 2 ^ m → bit_of (2 ^ m - 1 - x) n ≡ 1 - bit_of x n
bit_not zero x n l h = absurd (not-suc-le-zero l)
bit_not (suc m) x zero l h = omega (arith, pow-suc 2 m, pow_pos m)
bit_not (suc m) x (suc n) l h =
    let half : (2 ^ suc m - 1 - x) / 2 ≡ 2 ^ m - 1 - x / 2 = omega (arith, pow-suc 2 m, pow_pos m) in
    bit_suc (2 ^ suc m - 1 - x) n
    ∙ ap (λ (z : ℕ). bit_of z n) half
    ∙ bit_not m (x / 2) n (le_of_suc-le-suc l) (omega (arith, pow-suc 2 m))
    ∙ ap (λ (z : ℕ). 1 - z) (sym (bit_suc x n))

-- ---- bytes put together

pub byte_digits : (map : List ℕ) (j : ℕ) → get_or map j 0 < 256 → Digits 8 map (8 * j) (get_or map j 0)
byte_digits map j h = record { below = h; each = λ n l. sym (bit_of_byte map j n l) }

-- m digits, and above them k more
pub append : (m k : ℕ) (map : List ℕ) (i j x y : ℕ) → j ≡ i + m → Digits m map i x → Digits k map j y
    → Digits (m + k) map i (x + y * 2 ^ m)
append m k map i j x y next low upper = record {
  below = omega (arith, low.below, pow-add 2 m k, room);
  each = λ n l. elim (dec_lt n m) [
    | yes s ↦ bit_below x y m n s ∙ low.each n s
    | no s ↦
        let at : n ≡ m + (n - m) = omega arith in
        ap (bit_of (x + y * 2 ^ m)) at
        ∙ bit_from (x + y * 2 ^ m) m (n - m)
        ∙ ap (λ (z : ℕ). bit_of z (n - m)) above
        ∙ upper.each (n - m) (omega arith)
        ∙ ap (bit_at map) (omega arith)
  ];
}
  where
    above : (x + y * 2 ^ m) / 2 ^ m ≡ y
    above = ap (λ (z : ℕ). z / 2 ^ m) (add_comm x (y * 2 ^ m)) ∙ high y m low.below

    room : (y + 1) * 2 ^ m ≤ 2 ^ k * 2 ^ m
    room = mul-le-mul_right (2 ^ m) (omega (arith, upper.below))

-- one byte more
byte_more : (m : ℕ) (map : List ℕ) (i j x : ℕ) → get_or map (i + j) 0 < 256 → m ≡ 8 * j → Digits m map (8 * i) x
    → Digits (m + 8) map (8 * i) (x + get_or map (i + j) 0 * 2 ^ m)
byte_more m map i j x h same low =
    append m 8 map (8 * i) (8 * (i + j)) x (get_or map (i + j) 0) (omega arith) low (byte_digits map (i + j) h)

-- .. and so eight
pub eight_digits :
    (map : List ℕ) (i w : ℕ) → ((j : ℕ) → Fits w8 (get_or map j 0))
    → w ≡ from_le_bytes w64
    (get_or map i 0 ∷ get_or map (i + 1) 0 ∷ get_or map (i + 2) 0 ∷ get_or map (i + 3) 0
    ∷ get_or map (i + 4) 0 ∷ get_or map (i + 5) 0 ∷ get_or map (i + 6) 0 ∷ get_or map (i + 7) 0 ∷ [])
    → Digits 64 map (8 * i) w
eight_digits map i w fits is =
    let first = byte_digits map i (fits i).fits in
    let second = byte_more 8 map i 1 _ (fits (i + 1)).fits refl first in
    let third = byte_more 16 map i 2 _ (fits (i + 2)).fits refl second in
    let fourth = byte_more 24 map i 3 _ (fits (i + 3)).fits refl third in
    let fifth = byte_more 32 map i 4 _ (fits (i + 4)).fits refl fourth in
    let sixth = byte_more 40 map i 5 _ (fits (i + 5)).fits refl fifth in
    let seventh = byte_more 48 map i 6 _ (fits (i + 6)).fits refl sixth in
    rw is (byte_more 56 map i 7 _ (fits (i + 7)).fits refl seventh)

-- .. at another name of their first block
pub digits_at : (m : ℕ) (map : List ℕ) (i j w : ℕ) → i ≡ j → Digits m map i w → Digits m map j w
digits_at m map i j w same d = subst (λ (n : ℕ). Digits m map n w) same d

-- ---- the free blocks

as_test : (b : ℕ) → b < 2 → 1 - b ≡ one (eqb b 0)
as_test b l = elim (ℕ_discrete b 0) [
  | yes e ↦ omega (arith, ap one (eq-eqb b 0 e))
  | no n ↦ omega (arith, ap one (ne_eqb b 0 n))
]

pub free_blocks_lem : (a : List ℕ) (i used : ℕ) → Digits 64 a i used → FreeChunks 0 a i (2 ^ 64 - 1 - used)
unfolding chunk_free
free_blocks_lem a i used d = record {
  below = omega arith;
  chunk = λ n l e.
      bit_not 64 used n l d.below ∙ ap (λ (z : ℕ). 1 - z) (d.each n l) ∙ as_test (bit_at a (i + n)) (bit_at_lt a (i + n));
  other = λ n l e. absurd (e (mod-one n));
}

-- ---- .. and the free chunks of twice the size

both : (p q : Bool) → min (min (one p) (one q)) 1 ≡ one (elim p as (λ _. Bool) [ true ↦ q | false ↦ false ])
both true true = refl
both true false = refl
both false true = refl
both false false = refl

-- block n of the 64 is the first of chunk number `number`, of 2 ^ k blocks
pub record Numbered (k n : ℕ) : Type 0 where
  pub number : ℕ
  pub place : n ≡ number * 2 ^ k
  pub below : number < 2 ^ (6 - k)
  pub within : (number + 1) * 2 ^ k ≤ 64

pub numbered : (k n : ℕ) → k ≤ 6 → n < 64 → n % 2 ^ k ≡ 0 → Numbered k n
numbered k n small l e =
    let q : ℕ = n / 2 ^ k in
    let place : n ≡ q * 2 ^ k = omega (arith, split n k) in
    let exponent : 6 - k + k ≡ 6 = omega arith in
    let parts : 2 ^ (6 - k) * 2 ^ k ≡ 64 = sym (pow-add 2 (6 - k) k) ∙ ap (λ (x : ℕ). 2 ^ x) exponent in
    let below : q < 2 ^ (6 - k) =
    elim (dec_lt q (2 ^ (6 - k))) [
      | yes m ↦ m
      | no m ↦ let most : 2 ^ (6 - k) ≤ q = omega arith in absurd (omega (arith, mul-le-mul_right (2 ^ k) most))
    ] in
    let room : (q + 1) * 2 ^ k ≤ 2 ^ (6 - k) * 2 ^ k = mul-le-mul_right (2 ^ k) (omega arith) in
    record {
      number = q;
      place = place;
      below = below;
      within = omega arith;
    }

-- the first half of a chunk of 2 ^ suc k of the 64 blocks, and the second
record Halves (k n : ℕ) : Type 0 where
  first : n % 2 ^ k ≡ 0
  second : (2 ^ k + n) % 2 ^ k ≡ 0
  within : 2 ^ k + n < 64

halves : (k n : ℕ) → k < 6 → n < 64 → n % 2 ^ suc k ≡ 0 → Halves k n
halves k n small l e =
    let at = numbered (suc k) n (omega arith) l e in
    let q : ℕ = at.number in
    let twice = pow-suc 2 k in
    let in_halves : n ≡ q * 2 * 2 ^ k = omega (arith, at.place, ap (λ (x : ℕ). q * x) twice) in
    record {
      first = ap (λ (x : ℕ). x % 2 ^ k) in_halves ∙ mul-mod_left (q * 2) (2 ^ k);
      second = ap (λ (x : ℕ). (2 ^ k + x) % 2 ^ k) in_halves ∙ ap (λ (x : ℕ). x % 2 ^ k) (omega arith) ∙ mul-mod_left (1 + q * 2) (2 ^ k);
      within = omega (arith, at.place, at.within, pow_pos k);
    }

pub doubled :
    (k : ℕ) (a : List ℕ) (i free size starts : ℕ) → k < 6 → size ≡ 2 ^ k → Starts (suc k) starts → FreeChunks k a i free
    → FreeChunks (suc k) a i (bit_and (bit_and free (free / 2 ^ size)) starts)
unfolding Starts chunk_free
doubled k a i free size starts small size_is begin f = record {
  below = omega (arith, and_le_l (bit_and free (free / 2 ^ size)) starts, and_le_l free (free / 2 ^ size), f.below);
  chunk = λ n l e.
      let h = halves k n small l e in
      let at : i + (2 ^ k + n) ≡ i + n + 2 ^ k = omega arith in
      digits n
      ∙ ap₂ min
      (ap₂ min (f.chunk n l h.first) (f.chunk (2 ^ k + n) h.within h.second ∙ ap (λ (x : ℕ). one (chunk_free k a x)) at))
      (begin n l ∙ ap one (eq-eqb (n % 2 ^ suc k) 0 e))
      ∙ both (chunk_free k a (i + n)) (chunk_free k a (i + n + 2 ^ k));
  other = λ n l e.
      let here = bit_of free n in
      digits n
      ∙ ap (min (min here (bit_of free (2 ^ k + n)))) (begin n l ∙ ap one (ne_eqb (n % 2 ^ suc k) 0 e))
      ∙ min-zero (min here (bit_of free (2 ^ k + n)));
}
  where
    digits : (n : ℕ) → bit_of (bit_and (bit_and free (free / 2 ^ size)) starts) n ≡ min (min (bit_of free n) (bit_of free (2 ^ k + n))) (bit_of starts n)
    digits n =
        bit_and_lem (bit_and free (free / 2 ^ size)) starts n
        ∙ ap (λ (x : ℕ). min x (bit_of starts n))
        (bit_and_lem free (free / 2 ^ size) n
        ∙ ap (min (bit_of free n)) (sym (bit_from free size n) ∙ ap (λ (x : ℕ). bit_of free (x + n)) size_is))

-- ---- the words of the chunks' first blocks

wrong : ℕ → ℕ → ℕ → Bool
wrong k w n = not (eqb (bit_of w n) (one (eqb (n % 2 ^ k) 0)))

starts_by : (k w : ℕ) → some_below (wrong k w) 64 ≡ false → Starts k w
unfolding Starts wrong
starts_by k w none n l =
    eqb-true (bit_of w n) (one (eqb (n % 2 ^ k) 0))
    (not-false (eqb (bit_of w n) (one (eqb (n % 2 ^ k) 0))) (some_false (wrong k w) 64 none n l))

-- computed at each digit
pub twos : Starts 1 0x5555_5555_5555_5555
unfolding some_below wrong
twos = starts_by 1 0x5555_5555_5555_5555 refl

pub fours : Starts 2 0x1111_1111_1111_1111
unfolding some_below wrong
fours = starts_by 2 0x1111_1111_1111_1111 refl

pub eights : Starts 3 0x0101_0101_0101_0101
unfolding some_below wrong
eights = starts_by 3 0x0101_0101_0101_0101 refl

pub sixteens : Starts 4 0x0001_0001_0001_0001
unfolding some_below wrong
sixteens = starts_by 4 0x0001_0001_0001_0001 refl

pub thirty_twos : Starts 5 0x0000_0001_0000_0001
unfolding some_below wrong
thirty_twos = starts_by 5 0x0000_0001_0000_0001 refl

pub whole : Starts 6 1
unfolding some_below wrong
whole = starts_by 6 1 refl

-- ---- .. by the size

-- one power of two has one exponent
pub same_exponent : (j k : ℕ) → 2 ^ j ≡ 2 ^ k → j ≡ k
same_exponent j k e =
    let up = elim (dec_lt j k) as (λ _. k ≤ j) [ yes l ↦ absurd (omega (arith, pow-lt {i = j} {j = k} l)) | no l ↦ omega arith ] in
    let down = elim (dec_lt k j) as (λ _. j ≤ k) [ yes l ↦ absurd (omega (arith, pow-lt {i = k} {j = j} l)) | no l ↦ omega arith ] in
    omega arith

pub starts_at : (j k size w : ℕ) → Starts (suc j) w → size ≡ 2 ^ j → size ≡ 2 ^ k → Starts (suc k) w
starts_at j k size w s is e = subst (λ (x : ℕ). Starts (suc x) w) (same_exponent j k (sym is ∙ e)) s

-- less than 64 blocks, and no size below 32
pub last_size : (k size : ℕ) → k < 6 → size ≡ 2 ^ k → size ≢ 1 → size ≢ 2 → size ≢ 4 → size ≢ 8 → size ≢ 16 → size ≡ 32
last_size zero size l is a b c d e = absurd (a is)
last_size (suc zero) size l is a b c d e = absurd (b is)
last_size (suc (suc zero)) size l is a b c d e = absurd (c is)
last_size (suc (suc (suc zero))) size l is a b c d e = absurd (d is)
last_size (suc (suc (suc (suc zero)))) size l is a b c d e = absurd (e is)
last_size (suc (suc (suc (suc (suc zero))))) size l is a b c d e = is
last_size (suc (suc (suc (suc (suc (suc k)))))) size l is a b c d e = absurd (omega arith)
