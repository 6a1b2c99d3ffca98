-- Laws of numbers as the bytes of a word: `pack`.
use mathlib.Core.Path.{◌≡◌, refl, sym, ap, ap₂, ◌∙◌}
use mathlib.Core.Logic.{◌≢◌}
use mathlib.Core.Bool.{Bool, false, not}
use Prim.Native.Nat.{ℕ, zero, suc, ◌+◌, ◌*◌, ◌/◌, ◌^◌, ◌<◌}
use native.Mathlib.Nat.{add-mul, mul_assoc, mul-zero}
use native.Mathlib.Decide.{ℕ_discrete}
use native.Mathlib.Omega.{arith}
use lib.Bits.{bit_and, and_block, and_mask, and_zero_r}
use lib.Dec.{eqb}
use lib.ListN.{get_or}
use Rattle.std.proofs.Common.{List, Fits, w8}
use borrow.Author.Tests.{eqb-true, not-false}
use Rattle.bitmap.specs.Bit.{bit_of}
use Rattle.bitmap.proofs.Bits.{bit_lt, bits_ext}
use Rattle.bitmap.proofs.Digits.{each_bit}
use Rattle.rules.specs.Tools.{some_below}
use Rattle.rules.proofs.Tests.{some_false}
use Rattle.section_words.specs.Words.{Digits}
use Rattle.section_words.proofs.Words.{eight_digits}
use Rattle.check_counts.specs.Lanes.{pack}

pub pack_same : (f g : ℕ → ℕ) (n : ℕ) → ((s : ℕ) → s < n → f s ≡ g s) → pack f n ≡ pack g n
unfolding pack
pack_same f g zero h = refl
pack_same f g (suc n) h =
    omega (arith, h 0 (omega arith), pack_same (λ s. f (suc s)) (λ s. g (suc s)) n (λ s l. h (suc s) (omega arith)))

-- sums, each lane by itself
pub pack_plus : (c : ℕ) (f g : ℕ → ℕ) (n : ℕ) → pack f n + pack g n * c ≡ pack (λ s. f s + g s * c) n
unfolding pack
pack_plus c f g zero = omega arith
pack_plus c f g (suc n) =
    let x : ℕ = g 0 in
    let y : ℕ = pack (λ s. g (suc s)) n in
    let apart : (x + 256 * y) * c ≡ x * c + 256 * (y * c) = add-mul x (256 * y) c ∙ ap (λ (z : ℕ). x * c + z) (mul_assoc 256 y c) in
    omega (arith, apart, pack_plus c (λ s. f (suc s)) (λ s. g (suc s)) n)

pub pack_times : (c : ℕ) (g : ℕ → ℕ) (n : ℕ) → pack g n * c ≡ pack (λ s. g s * c) n
unfolding pack
pack_times c g zero = omega arith
pack_times c g (suc n) =
    let x : ℕ = g 0 in
    let y : ℕ = pack (λ s. g (suc s)) n in
    let apart : (x + 256 * y) * c ≡ x * c + 256 * (y * c) = add-mul x (256 * y) c ∙ ap (λ (z : ℕ). x * c + z) (mul_assoc 256 y c) in
    omega (arith, apart, pack_times c (λ s. g (suc s)) n)

-- .. and of bytes the and
pub pack_and : (f g : ℕ → ℕ) (n : ℕ) → ((s : ℕ) → s < n → f s < 256) → ((s : ℕ) → s < n → g s < 256)
    → bit_and (pack f n) (pack g n) ≡ pack (λ s. bit_and (f s) (g s)) n
unfolding pack
pack_and f g zero hf hg = refl
pack_and f g (suc n) hf hg =
    let x : ℕ = pack (λ s. f (suc s)) n in
    let y : ℕ = pack (λ s. g (suc s)) n in
    let left : f 0 + 256 * x ≡ x * 2 ^ 8 + f 0 = omega arith in
    let right : g 0 + 256 * y ≡ y * 2 ^ 8 + g 0 = omega arith in
    ap₂ bit_and left right ∙ and_block 8 x y (f 0) (g 0) (hf 0 (omega arith)) (hg 0 (omega arith))
    ∙ omega (
      arith,
      pack_and (λ s. f (suc s)) (λ s. g (suc s)) n (λ s l. hf (suc s) (omega arith)) (λ s l. hg (suc s) (omega arith)),
    )

-- a word is 0 where each byte is ..
pub pack_none : (f : ℕ → ℕ) (n : ℕ) → pack f n ≡ 0 → (s : ℕ) → s < n → f s ≡ 0
unfolding pack
pack_none f zero e s l = absurd (omega arith)
pack_none f (suc n) e zero l = omega arith
pack_none f (suc n) e (suc s) l = pack_none (λ s. f (suc s)) n (omega arith) s (omega arith)

pub pack_some : (f : ℕ → ℕ) (n : ℕ) → pack f n ≢ 0 → (s : ℕ) × (s < n) × (f s ≢ 0)
unfolding pack
pack_some f zero some = absurd (some refl)
pack_some f (suc n) some = elim (ℕ_discrete (f 0) 0) [
  | yes e ↦
      let rest = pack_some (λ s. f (suc s)) n (λ z. some (omega arith)) in
      (suc rest.0, omega (arith, rest.1), rest.2)
  | no m ↦ (0, omega arith, m)
]

-- .. and two are equal where their bytes are
pub pack_each : (f g : ℕ → ℕ) (n : ℕ) → ((s : ℕ) → s < n → f s < 256) → ((s : ℕ) → s < n → g s < 256) → pack f n ≡ pack g n
    → (s : ℕ) → s < n → f s ≡ g s
unfolding pack
pack_each f g zero hf hg e s l = absurd (omega arith)
pack_each f g (suc n) hf hg e zero l = omega (arith, hf 0 (omega arith), hg 0 (omega arith))
pack_each f g (suc n) hf hg e (suc s) l =
    pack_each (λ s. f (suc s)) (λ s. g (suc s)) n (λ s l. hf (suc s) (omega arith)) (λ s l. hg (suc s) (omega arith))
    (omega (arith, hf 0 (omega arith), hg 0 (omega arith))) s (omega arith)

pub pack_apart : (f g : ℕ → ℕ) (n : ℕ) → pack f n ≢ pack g n → (s : ℕ) × (s < n) × (f s ≢ g s)
unfolding pack
pack_apart f g zero apart = absurd (apart refl)
pack_apart f g (suc n) apart = elim (ℕ_discrete (f 0) (g 0)) [
  | yes e ↦
      let rest = pack_apart (λ s. f (suc s)) (λ s. g (suc s)) n (λ z. apart (omega arith)) in
      (suc rest.0, omega (arith, rest.1), rest.2)
  | no m ↦ (0, omega arith, m)
]

-- ---- lanes of bits

-- what the code computes of a byte
abbrev pub spread : ℕ → ℕ
spread x = bit_and ((bit_and (x * 72340172838076673) 9241421688590303745 + 9187201950435737471) / 2 ^ 7) 72340172838076673

-- tried at each of them
pub spread_is : (x : ℕ) → x < 256 → spread x ≡ pack (λ s. bit_of x s) 8
unfolding some_below pack
spread_is x small =
    eqb-true (spread x) (pack (λ s. bit_of x s) 8) (not-false (eqb (spread x) (pack (λ s. bit_of x s) 8)) (some_false differs 256 none x small))
  where
    differs : ℕ → Bool
    differs y = not (eqb (spread y) (pack (λ s. bit_of y s) 8))

    none : some_below differs 256 ≡ false
    none = refl

-- bytes of which a mask keeps some
pub masked : (t : ℕ → ℕ) (x : ℕ) → ((s : ℕ) → s < 8 → t s < 256)
    → bit_and (pack t 8) (pack (λ s. bit_of x s * 255) 8) ≡ pack (λ s. t s * bit_of x s) 8
masked t x small =
    pack_and t (λ s. bit_of x s * 255) 8 small (λ s l. omega (arith, bit_lt x s))
    ∙ pack_same (λ s. bit_and (t s) (bit_of x s * 255)) (λ s. t s * bit_of x s) 8
    (λ s l.
    each_bit (λ (y : ℕ). bit_and (t s) (y * 255) ≡ t s * y)
    (and_zero_r (t s) ∙ sym (mul-zero (t s)))
    (and_mask (t s) 8 ∙ omega (arith, small s l))
    (bit_of x s) (bit_lt x s))

-- ---- a word of eight bytes

-- the word whose digits are those of the map from byte i on
pub word_of_bytes : (map : List ℕ) (i w : ℕ) → ((j : ℕ) → Fits w8 (get_or map j 0)) → Digits 64 map (8 * i) w
    → w ≡ pack (λ s. get_or map (i + s) 0) 8
unfolding pack
word_of_bytes map i w fits d =
    let word : ℕ = pack (λ s. get_or map (i + s) 0) 8 in
    let here : i ≡ i + 0 = omega arith in
    let same : Digits 64 map (8 * i) word = eight_digits map i word fits (omega (arith, ap (λ (x : ℕ). get_or map x 0) here)) in
    bits_ext 64 w word d.below same.below (λ n l. d.each n l ∙ sym (same.each n l))
