-- The first blocks of a byte of the maps, as bits.
use mathlib.Core.Path.{◌≡◌, refl, sym, ap, ◌∙◌}
use mathlib.Core.Logic.{◌≢◌}
use mathlib.Core.Bool.{true, not, ◌&&◌, ◌||◌}
use mathlib.Core.List.{List}
use Prim.Native.Nat.{ℕ, zero, suc, ◌+◌, ◌-◌, ◌*◌, ◌/◌, ◌%◌, ◌^◌, ◌≤◌, ◌<◌, min}
use native.Mathlib.Omega.{arith}
use lib.Bits.{bit_and, bit_or, and_le_l, or_lt}
use lib.Dec.{eqb}
use lib.ListN.{get_or}
use lib.Pow.{shr_le}
use borrow.Author.Tests.{lt-ltb, ne_eqb}
use Rattle.bitmap.specs.Bit.{bit_of, bit_at}
use Rattle.bitmap.proofs.Bits.{bit_from}
use Rattle.bitmap.proofs.Digits.{each_bit, digit_and, digit_or, digit_not, digit_mod, digit_shl_low, digit_shl, digit_past}
use Rattle.bitmap.proofs.Maps.{bit_at_lt, bit_of_byte}
use Rattle.rules.specs.Heap.{first_in}

-- a block's own bits, and those of the block before it
starts : (x y z : ℕ) → x < 2 → y < 2 → z < 2 → (not (eqb x 0) && (eqb y 0 || eqb z 0)) ≡ not (eqb (min x (1 - min y z)) 0)
starts x y z hx hy hz =
    each_bit (λ (x : ℕ). (not (eqb x 0) && (eqb y 0 || eqb z 0)) ≡ not (eqb (min x (1 - min y z)) 0))
    (each_bit (λ (y : ℕ). (not (eqb 0 0) && (eqb y 0 || eqb z 0)) ≡ not (eqb (min 0 (1 - min y z)) 0))
    (each_bit (λ (z : ℕ). (not (eqb 0 0) && (eqb 0 0 || eqb z 0)) ≡ not (eqb (min 0 (1 - min 0 z)) 0)) refl refl z hz)
    (each_bit (λ (z : ℕ). (not (eqb 0 0) && (eqb 1 0 || eqb z 0)) ≡ not (eqb (min 0 (1 - min 1 z)) 0)) refl refl z hz)
    y hy)
    (each_bit (λ (y : ℕ). (not (eqb 1 0) && (eqb y 0 || eqb z 0)) ≡ not (eqb (min 1 (1 - min y z)) 0))
    (each_bit (λ (z : ℕ). (not (eqb 1 0) && (eqb 0 0 || eqb z 0)) ≡ not (eqb (min 1 (1 - min 0 z)) 0)) refl refl z hz)
    (each_bit (λ (z : ℕ). (not (eqb 1 0) && (eqb 1 0 || eqb z 0)) ≡ not (eqb (min 1 (1 - min 1 z)) 0)) refl refl z hz)
    y hy)
    x hx

-- block 0 follows nothing
start_zero : (x : ℕ) → x < 2 → (not (eqb x 0) && true) ≡ not (eqb (min x (1 - 0)) 0)
start_zero x hx = each_bit (λ (x : ℕ). (not (eqb x 0) && true) ≡ not (eqb (min x (1 - 0)) 0)) refl refl x hx

module _ (N : ℕ) (a b : List ℕ) where
  first_zero : 0 < N → first_in N a b 0 ≡ not (eqb (min (bit_at a 0) (1 - 0)) 0)
  unfolding first_in
  first_zero l = rw (lt-ltb 0 N l, first_in) (start_zero (bit_at a 0) (bit_at_lt a 0))

  first_next : (i : ℕ) → i < N → i ≢ 0
      → first_in N a b i ≡ not (eqb (min (bit_at a i) (1 - min (bit_at a (i - 1)) (bit_at b (i - 1)))) 0)
  unfolding first_in
  first_next i l n =
      rw (lt-ltb i N l, ne_eqb i 0 n, first_in)
      (starts (bit_at a i) (bit_at a (i - 1)) (bit_at b (i - 1)) (bit_at_lt a i) (bit_at_lt a (i - 1)) (bit_at_lt b (i - 1)))

-- the links from the blocks of byte k into the next ones, as the machine shifts them
abbrev pub own_links : List ℕ → List ℕ → ℕ → ℕ
own_links a b k = bit_and (get_or a k 0) (get_or b k 0) * 2 ^ 1 % 256

abbrev pub last_link : List ℕ → List ℕ → ℕ → ℕ
last_link a b k = bit_and (get_or a k 0) (get_or b k 0) / 2 ^ 7

module _ (a b : List ℕ) (k : ℕ) where
  both : (s : ℕ) → s < 8 → bit_of (bit_and (get_or a k 0) (get_or b k 0)) s ≡ min (bit_at a (8 * k + s)) (bit_at b (8 * k + s))
  both s l =
      let d = digit_and (get_or a k 0) (get_or b k 0) s in
      omega (arith, d, bit_of_byte a k s l, bit_of_byte b k s l)

  own_zero : bit_of (own_links a b k) 0 ≡ 0
  own_zero =
      digit_mod (bit_and (get_or a k 0) (get_or b k 0) * 2 ^ 1) 8 0 (omega arith)
      ∙ digit_shl_low (bit_and (get_or a k 0) (get_or b k 0)) 1 0 (omega arith)

  own_next : (s : ℕ) → suc s < 8 → bit_of (own_links a b k) (suc s) ≡ min (bit_at a (8 * k + s)) (bit_at b (8 * k + s))
  own_next s l =
      let place : suc s ≡ 1 + s = omega arith in
      digit_mod (bit_and (get_or a k 0) (get_or b k 0) * 2 ^ 1) 8 (suc s) l
      ∙ ap (bit_of (bit_and (get_or a k 0) (get_or b k 0) * 2 ^ 1)) place
      ∙ digit_shl (bit_and (get_or a k 0) (get_or b k 0)) 1 s ∙ both s (omega arith)

  last_zero : bit_of (last_link a b k) 0 ≡ min (bit_at a (8 * k + 7)) (bit_at b (8 * k + 7))
  last_zero = sym (bit_from (bit_and (get_or a k 0) (get_or b k 0)) 7 0) ∙ both 7 (omega arith)

  last_next : get_or a k 0 < 256 → (s : ℕ) → bit_of (last_link a b k) (suc s) ≡ 0
  last_next h s =
      sym (bit_from (bit_and (get_or a k 0) (get_or b k 0)) 7 (suc s))
      ∙ digit_past 8 (bit_and (get_or a k 0) (get_or b k 0)) (7 + suc s) (omega (arith, and_le_l (get_or a k 0) (get_or b k 0))) (omega arith)

-- the first byte of the maps
pub first_eight_zero : (a b : List ℕ) (N : ℕ) → 8 * (0 + 1) ≤ N → (s : ℕ) → s < 8
    → first_in N a b (8 * 0 + s) ≡ not (eqb (bit_of (bit_and (get_or a 0 0) (255 - own_links a b 0)) s) 0)
first_eight_zero a b N h s l = at s l ∙ ap (λ (x : ℕ). not (eqb x 0)) (sym (parts s l))
  where
    parts : (s : ℕ) → s < 8 → bit_of (bit_and (get_or a 0 0) (255 - own_links a b 0)) s ≡ min (bit_at a (8 * 0 + s)) (1 - bit_of (own_links a b 0) s)
    parts s l =
        digit_and (get_or a 0 0) (255 - own_links a b 0) s
        ∙ ap (λ (x : ℕ). min x (bit_of (255 - own_links a b 0) s)) (sym (bit_of_byte a 0 s l))
        ∙ ap (min (bit_at a (8 * 0 + s))) (digit_not 8 (own_links a b 0) s (omega arith) l)

    at : (s : ℕ) → s < 8 → first_in N a b (8 * 0 + s) ≡ not (eqb (min (bit_at a (8 * 0 + s)) (1 - bit_of (own_links a b 0) s)) 0)
    at zero l = rw (own_zero a b 0) (first_zero N a b (omega arith))
    at (suc s) l =
        let back : 8 * 0 + suc s - 1 ≡ 8 * 0 + s = omega arith in
        rw (own_next a b 0 s l, ← back) (first_next N a b (8 * 0 + suc s) (omega arith) (omega arith))

-- any other
pub first_eight : (a b : List ℕ) (k N : ℕ) → get_or a (k - 1) 0 < 256 → k ≢ 0 → 8 * (k + 1) ≤ N → (s : ℕ) → s < 8
    → first_in N a b (8 * k + s) ≡ not (eqb (bit_of (bit_and (get_or a k 0) (255 - bit_or (own_links a b k) (last_link a b (k - 1)))) s) 0)
first_eight a b k N byte n h s l = at s l ∙ ap (λ (x : ℕ). not (eqb x 0)) (sym (parts s l))
  where
    into : ℕ
    into = bit_or (own_links a b k) (last_link a b (k - 1))

    into_lt : into < 256
    into_lt =
        or_lt 8 (own_links a b k) (last_link a b (k - 1)) (omega arith)
        (omega (arith, shr_le (bit_and (get_or a (k - 1) 0) (get_or b (k - 1) 0)) 7, and_le_l (get_or a (k - 1) 0) (get_or b (k - 1) 0)))

    parts : (s : ℕ) → s < 8 → bit_of (bit_and (get_or a k 0) (255 - into)) s ≡ min (bit_at a (8 * k + s)) (1 - bit_of into s)
    parts s l =
        digit_and (get_or a k 0) (255 - into) s
        ∙ ap (λ (x : ℕ). min x (bit_of (255 - into) s)) (sym (bit_of_byte a k s l))
        ∙ ap (min (bit_at a (8 * k + s))) (digit_not 8 into s into_lt l)

    link : (s : ℕ) → s < 8 → bit_of into s ≡ min (bit_at a (8 * k + s - 1)) (bit_at b (8 * k + s - 1))
    link zero l =
        let back : 8 * k + 0 - 1 ≡ 8 * (k - 1) + 7 = omega arith in
        omega (
          arith,
          digit_or (own_links a b k) (last_link a b (k - 1)) 0,
          own_zero a b k,
          last_zero a b (k - 1),
          ap (bit_at a) back,
          ap (bit_at b) back,
        )
    link (suc s) l =
        let back : 8 * k + suc s - 1 ≡ 8 * k + s = omega arith in
        omega (
          arith,
          digit_or (own_links a b k) (last_link a b (k - 1)) (suc s),
          own_next a b k s l,
          last_next a b (k - 1) byte s,
          ap (bit_at a) back,
          ap (bit_at b) back,
        )

    at : (s : ℕ) → s < 8 → first_in N a b (8 * k + s) ≡ not (eqb (min (bit_at a (8 * k + s)) (1 - bit_of into s)) 0)
    at s l = first_next N a b (8 * k + s) (omega arith) (omega arith) ∙ ap (λ (x : ℕ). not (eqb (min (bit_at a (8 * k + s)) (1 - x)) 0)) (sym (link s l))
