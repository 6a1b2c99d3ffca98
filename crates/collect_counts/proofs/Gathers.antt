-- One bit of each of eight bytes, moved together by shifts.
use mathlib.Core.Path.{◌≡◌, refl, sym, ap, ap₂, ◌∙◌}
use Prim.Native.Nat.{ℕ, zero, suc, ◌+◌, ◌*◌, ◌/◌, ◌^◌, ◌<◌, min, max}
use native.Mathlib.Omega.{arith}
use lib.Bits.{bit_and, bit_or}
use Rattle.bitmap.specs.Bit.{bit_of}
use Rattle.bitmap.proofs.Bits.{bit_lt, bit_from}
use Rattle.bitmap.proofs.Digits.{digit_and, digit_or}

abbrev eights : ℕ
eights = 72340172838076673

module _ (x p : ℕ) where
  abbrev pub ones : ℕ
  ones = bit_and (x / 2 ^ p) eights

  abbrev pub twos : ℕ
  twos = bit_or ones (ones / 2 ^ 7)

  abbrev pub fours : ℕ
  fours = bit_or twos (twos / 2 ^ 14)

  abbrev pub eight : ℕ
  eight = bit_or fours (fours / 2 ^ 28)

  digit : (y n t : ℕ) → bit_of (bit_or y (y / 2 ^ n)) t ≡ max (bit_of y t) (bit_of y (n + t))
  digit y n t = digit_or y (y / 2 ^ n) t ∙ ap (max (bit_of y t)) (sym (bit_from y n t))

  -- a digit of the last number is a 1 where one of eight digits of the first is
  abbrev of_eight : (a b c d e f g h : ℕ) → ℕ
  of_eight a b c d e f g h = max (max (max a b) (max c d)) (max (max e f) (max g h))

  alone_0 : (v : ℕ) → of_eight v 0 0 0 0 0 0 0 ≡ v
  alone_0 v = omega arith

  alone_1 : (v : ℕ) → of_eight 0 v 0 0 0 0 0 0 ≡ v
  alone_1 v = omega arith

  alone_2 : (v : ℕ) → of_eight 0 0 v 0 0 0 0 0 ≡ v
  alone_2 v = omega arith

  alone_3 : (v : ℕ) → of_eight 0 0 0 v 0 0 0 0 ≡ v
  alone_3 v = omega arith

  alone_4 : (v : ℕ) → of_eight 0 0 0 0 v 0 0 0 ≡ v
  alone_4 v = omega arith

  alone_5 : (v : ℕ) → of_eight 0 0 0 0 0 v 0 0 ≡ v
  alone_5 v = omega arith

  alone_6 : (v : ℕ) → of_eight 0 0 0 0 0 0 v 0 ≡ v
  alone_6 v = omega arith

  alone_7 : (v : ℕ) → of_eight 0 0 0 0 0 0 0 v ≡ v
  alone_7 v = omega arith

  spread : (t : ℕ) →
      let d : ℕ → ℕ = bit_of ones in
      bit_of eight t ≡ of_eight (d t) (d (7 + t)) (d (14 + t)) (d (7 + (14 + t))) (d (28 + t)) (d (7 + (28 + t))) (d (14 + (28 + t))) (d (7 + (14 + (28 + t))))
  spread t =
      digit fours 28 t
      ∙ ap₂ max (digit twos 14 t ∙ ap₂ max (digit ones 7 t) (digit ones 7 (14 + t)))
      (digit twos 14 (28 + t) ∙ ap₂ max (digit ones 7 (28 + t)) (digit ones 7 (14 + (28 + t))))

  off : (t : ℕ) → bit_of eights t ≡ 0 → bit_of ones t ≡ 0
  off t e = digit_and (x / 2 ^ p) eights t ∙ ap (min (bit_of (x / 2 ^ p) t)) e ∙ omega arith

  on : (t : ℕ) → bit_of eights t ≡ 1 → bit_of ones t ≡ bit_of x (p + t)
  on t e =
      let less : bit_of (x / 2 ^ p) t < 2 = bit_lt (x / 2 ^ p) t in
      let same : min (bit_of (x / 2 ^ p) t) 1 ≡ bit_of (x / 2 ^ p) t = omega arith in
      digit_and (x / 2 ^ p) eights t ∙ ap (min (bit_of (x / 2 ^ p) t)) e ∙ same ∙ sym (bit_from x p t)

  -- that of byte s alone is left at place s
  pub gathered : (s : ℕ) → s < 8 → bit_of eight s ≡ bit_of x (p + 8 * s)
  gathered zero l =
      spread 0 ∙ (λ i. of_eight (on 0 refl i) (off 7 refl i) (off 14 refl i) (off 21 refl i) (off 28 refl i) (off 35 refl i) (off 42 refl i) (off 49 refl i))
      ∙ alone_0 (bit_of x (p + 0))
  gathered (suc zero) l =
      spread 1 ∙ (λ i. of_eight (off 1 refl i) (on 8 refl i) (off 15 refl i) (off 22 refl i) (off 29 refl i) (off 36 refl i) (off 43 refl i) (off 50 refl i))
      ∙ alone_1 (bit_of x (p + 8))
  gathered (suc (suc zero)) l =
      spread 2 ∙ (λ i. of_eight (off 2 refl i) (off 9 refl i) (on 16 refl i) (off 23 refl i) (off 30 refl i) (off 37 refl i) (off 44 refl i) (off 51 refl i))
      ∙ alone_2 (bit_of x (p + 16))
  gathered (suc (suc (suc zero))) l =
      spread 3 ∙ (λ i. of_eight (off 3 refl i) (off 10 refl i) (off 17 refl i) (on 24 refl i) (off 31 refl i) (off 38 refl i) (off 45 refl i) (off 52 refl i))
      ∙ alone_3 (bit_of x (p + 24))
  gathered (suc (suc (suc (suc zero)))) l =
      spread 4 ∙ (λ i. of_eight (off 4 refl i) (off 11 refl i) (off 18 refl i) (off 25 refl i) (on 32 refl i) (off 39 refl i) (off 46 refl i) (off 53 refl i))
      ∙ alone_4 (bit_of x (p + 32))
  gathered (suc (suc (suc (suc (suc zero))))) l =
      spread 5 ∙ (λ i. of_eight (off 5 refl i) (off 12 refl i) (off 19 refl i) (off 26 refl i) (off 33 refl i) (on 40 refl i) (off 47 refl i) (off 54 refl i))
      ∙ alone_5 (bit_of x (p + 40))
  gathered (suc (suc (suc (suc (suc (suc zero)))))) l =
      spread 6 ∙ (λ i. of_eight (off 6 refl i) (off 13 refl i) (off 20 refl i) (off 27 refl i) (off 34 refl i) (off 41 refl i) (on 48 refl i) (off 55 refl i))
      ∙ alone_6 (bit_of x (p + 48))
  gathered (suc (suc (suc (suc (suc (suc (suc zero))))))) l =
      spread 7 ∙ (λ i. of_eight (off 7 refl i) (off 14 refl i) (off 21 refl i) (off 28 refl i) (off 35 refl i) (off 42 refl i) (off 49 refl i) (on 56 refl i))
      ∙ alone_7 (bit_of x (p + 56))
  gathered (suc (suc (suc (suc (suc (suc (suc (suc s)))))))) l = absurd (omega arith)
