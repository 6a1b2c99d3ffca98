-- Laws of blocks read from a byte's value, several at once.
use mathlib.Core.Path.{◌≡◌, sym, ap, ◌∙◌}
use mathlib.Core.List.{List}
use Prim.Native.Nat.{ℕ, suc, ◌+◌, ◌-◌, ◌*◌, ◌/◌, ◌%◌, ◌^◌, ◌≤◌, ◌<◌}
use native.Mathlib.Nat.{div-eq_of_lt, le-div_iff_mul-le, div-lt_iff_lt-mul, mul-mod_left, zero-mod, mod-lt}
use native.Mathlib.Decide.{dec_lt}
use native.Mathlib.Omega.{arith}
use lib.ListN.{get_or}
use lib.Pow.{pow_pos, pow_mono, shl-shr, shr-shr, mod-mod-pow, field}
use lib.Count.{count_leading_zeros, leading_top}
use Rattle.bitmap.specs.Bit.{bit_of, bit_at}
use Rattle.bitmap.proofs.Bits.{bit_zero, bit_ones}
use Rattle.bitmap.proofs.Maps.{bit_of_byte}
use Rattle.rules.proofs.Chunks.{Free}
use Rattle.search_walk.proofs.LowestChunk.{multiples_apart}

-- ---- the byte that starts at block p

module _ (a : List ℕ) (p : ℕ) (starts : p % 8 ≡ 0) where
  bit_in_byte : (j : ℕ) → p ≤ j → j < p + 8 → bit_at a j ≡ bit_of (get_or a (p / 8) 0) (j - p)
  bit_in_byte j l u =
      let there : 8 * (p / 8) + (j - p) ≡ j = omega arith in
      ap (bit_at a) (sym there) ∙ bit_of_byte a (p / 8) (j - p) (omega arith)

  pub byte_free : get_or a (p / 8) 0 ≡ 0 → Free a p 8
  byte_free e j l u = bit_in_byte j l u ∙ ap (λ (b : ℕ). bit_of b (j - p)) e ∙ bit_zero (j - p)

  pub byte_full : get_or a (p / 8) 0 ≡ 255 → (j : ℕ) → p ≤ j → j < p + 8 → bit_at a j ≡ 1
  byte_full e j l u = bit_in_byte j l u ∙ ap (λ (b : ℕ). bit_of b (j - p)) e ∙ bit_ones 8 (j - p) (omega arith)

-- ---- n bits of a byte from bit i on, moved to the top of a byte

abbrev pub part_of : (b i n : ℕ) → ℕ
part_of b i n = b / 2 ^ i * 2 ^ (8 - n) % 256

-- all eight are the byte
pub part_whole : (b : ℕ) → b < 256 → part_of b 0 8 ≡ b
part_whole b l = omega arith

part_bit : (b i n k : ℕ) → n ≤ 8 → k < n → bit_of (part_of b i n) (8 - n + k) ≡ bit_of b (i + k)
part_bit b i n k inside l =
    let s : ℕ = 8 - n in
    let x : ℕ = b / 2 ^ i * 2 ^ s in
    let above : ℕ = n - k - 1 in
    let eight : above + 1 + (s + k) ≡ 8 = omega arith in
    let read : x % 256 / 2 ^ (s + k) ≡ x / 2 ^ (s + k) % 2 ^ (above + 1) =
    ap (λ (y : ℕ). x % 2 ^ y / 2 ^ (s + k)) (sym eight) ∙ field x (above + 1) (s + k) in
    let moved : x / 2 ^ (s + k) ≡ b / 2 ^ (i + k) =
    sym (shr-shr x s k) ∙ ap (λ (y : ℕ). y / 2 ^ k) (shl-shr (b / 2 ^ i) s) ∙ shr-shr b i k in
    ap (λ (y : ℕ). y % 2) read ∙ mod-mod-pow (x / 2 ^ (s + k)) above 1 ∙ ap (λ (y : ℕ). y % 2) moved

-- ---- leading zeros

-- the leading zeros of a number that is not 0, and the one below them
record Top (b zeros : ℕ) : Type 0 where
  pub place : ℕ
  pub count : zeros + suc place ≡ 8
  pub least : 2 ^ place ≤ b
  pub most : b < 2 ^ suc place
  pub one : bit_of b place ≡ 1
  pub above : (k : ℕ) → place < k → bit_of b k ≡ 0

leading_zeros : (b : ℕ) → 0 < b → b < 256 → Top b (count_leading_zeros 8 b)
leading_zeros b positive byte =
    let (place, count, least, most) = leading_top 8 b positive byte in
    let once : 1 ≤ b / 2 ^ place = (le-div_iff_mul-le {k = 2 ^ place} {x = 1} {y = b} (pow_pos place)).1 (omega arith) in
    let not_twice : b / 2 ^ place < 2 = (div-lt_iff_lt-mul {k = 2 ^ place} {x = b} {y = 2} (pow_pos place)).1 (omega arith) in
    record {
      place = place;
      count = count;
      least = least;
      most = most;
      one = omega arith;
      above = λ k l. ap (λ (x : ℕ). x % 2) (div-eq_of_lt (omega (arith, pow_mono {i = suc place} {j = k} (omega arith))));
    }

-- of the n blocks from block i on the last `zeros` are free, and the one before them is used
pub record Tail (a : List ℕ) (i n zeros : ℕ) : Type 0 where
  pub within : zeros < n
  pub used : bit_at a (i + n - zeros - 1) ≡ 1
  pub free : Free a (i + n - zeros) zeros

-- a part that is not 0 has a bit among its n
part_high : (b i n place : ℕ) → n ≤ 8 → 0 < part_of b i n → part_of b i n < 2 ^ suc place → 8 - n ≤ place
part_high b i n place inside positive most =
    let s : ℕ = 8 - n in
    let x : ℕ = b / 2 ^ i * 2 ^ s in
    let eight : n + s ≡ 8 = omega arith in
    let multiple : x % 256 % 2 ^ s ≡ 0 =
    ap (λ (y : ℕ). x % 2 ^ y % 2 ^ s) (sym eight) ∙ mod-mod-pow x n s ∙ mul-mod_left (b / 2 ^ i) (2 ^ s) in
    elim (dec_lt place s) [
      | yes l ↦
          absurd (omega (arith, multiples_apart (2 ^ s) 0 (x % 256) (zero-mod (2 ^ s)) multiple positive, pow_mono {i = suc place} {j = s} (omega arith)))
      | no l ↦ omega arith
    ]

tail_place : (i n zeros place : ℕ) → n ≤ 8 → zeros + suc place ≡ 8 → 8 - n ≤ place → 8 - n + (i + n - zeros - 1 - i) ≡ place
tail_place i n zeros place inside count high = omega arith

tail_above : (i n zeros place j : ℕ) → n ≤ 8 → zeros + suc place ≡ 8 → i + n - zeros ≤ j → place < 8 - n + (j - i)
tail_above i n zeros place j inside count l = omega arith

module _ (a : List ℕ) (p i n : ℕ) (starts : p % 8 ≡ 0) (inside : i + n ≤ 8) where
  abbrev part : ℕ
  part = part_of (get_or a (p / 8) 0) i n

  bit_in_part : (j : ℕ) → p + i ≤ j → j < p + i + n → bit_at a j ≡ bit_of part (8 - n + (j - (p + i)))
  bit_in_part j l u =
      let k : ℕ = j - (p + i) in
      let there : j - p ≡ i + k = omega arith in
      bit_in_byte a p starts j (omega arith) (omega arith) ∙ ap (bit_of (get_or a (p / 8) 0)) there
      ∙ sym (part_bit (get_or a (p / 8) 0) i n k (omega arith) (omega arith))

  pub part_free : part ≡ 0 → Free a (p + i) n
  part_free e j l u = bit_in_part j l u ∙ ap (λ (b : ℕ). bit_of b (8 - n + (j - (p + i)))) e ∙ bit_zero (8 - n + (j - (p + i)))

  pub part_used : (part ≡ 0 → ⊥) → Tail a (p + i) n (count_leading_zeros 8 part)
  part_used some-used =
      let s : ℕ = 8 - n in
      let zeros : ℕ = count_leading_zeros 8 part in
      let top : Top part zeros = leading_zeros part (omega arith) (mod-lt (get_or a (p / 8) 0 / 2 ^ i * 2 ^ s) (omega arith)) in
      let high : s ≤ top.place = part_high (get_or a (p / 8) 0) i n top.place (omega arith) (omega arith) top.most in
      let here : s + (p + i + n - zeros - 1 - (p + i)) ≡ top.place = tail_place (p + i) n zeros top.place (omega arith) top.count high in
      let within : zeros < n = omega (arith, top.count) in
      record {
        within = within;
        used = bit_in_part (p + i + n - zeros - 1) (omega arith) (omega arith) ∙ ap (bit_of part) here ∙ top.one;
        free = λ j l u.
            bit_in_part j (omega arith) (omega arith)
            ∙ top.above (s + (j - (p + i))) (tail_above (p + i) n zeros top.place j (omega arith) top.count l);
      }
