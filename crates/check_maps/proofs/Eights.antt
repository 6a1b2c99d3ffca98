-- Kinds 1, 2, 3 and 7 at eight blocks, as the bits of a byte.
use mathlib.Core.Path.{◌≡◌, refl, sym, ap, ◌∙◌}
use mathlib.Core.Bool.{Bool, true, false, not, ◌&&◌, ◌||◌}
use mathlib.Core.List.{List, []}
use Prim.Native.Nat.{ℕ, ◌+◌, ◌-◌, ◌*◌, ◌/◌, ◌%◌, ◌^◌, ◌<◌, min, max}
use native.Mathlib.Decide.{ℕ_discrete}
use native.Mathlib.Omega.{arith}
use lib.Bits.{bit_and, bit_or, or_lt}
use lib.Dec.{eqb}
use lib.ListN.{get_or}
use lib.Pow.{shr_le}
use borrow.Author.Tests.{lt-leb, ne_eqb, eqb-false, not-true}
use Rattle.bitmap.specs.Bit.{bit_of, bit_at}
use Rattle.bitmap.proofs.Bits.{bit_from, bit_lt}
use Rattle.bitmap.proofs.Digits.{each_bit, digit_and, digit_or, digit_not, digit_mod, digit_shl_low, digit_shl, digit_past}
use Rattle.bitmap.proofs.Maps.{bit_at_lt, bit_of_byte}
use Rattle.rules.specs.Heap.{memory, lent_memory, exponent, first_in, size_from}
use Rattle.rules.specs.Damage.{end_on_free, open_end, unaligned, stray_data}
use Rattle.rules.proofs.Tests.{and_true}
use Rattle.rules.proofs.Stretches.{EightTests}
use Rattle.check_maps.specs.Chunks.{off_chunk}

-- ---- kind 1

neither : (x y : ℕ) → x < 2 → y < 2 → (eqb x 0 && eqb y 0) ≡ not (eqb (1 - max x y) 0)
neither x y hx hy =
    each_bit (λ (x : ℕ). (eqb x 0 && eqb y 0) ≡ not (eqb (1 - max x y) 0))
    (each_bit (λ (y : ℕ). (eqb 0 0 && eqb y 0) ≡ not (eqb (1 - max 0 y) 0)) refl refl y hy)
    (each_bit (λ (y : ℕ). (eqb 1 0 && eqb y 0) ≡ not (eqb (1 - max 1 y) 0)) refl refl y hy)
    x hx

pub end_eight : (a b : List ℕ) (k : ℕ) → get_or a k 0 < 256 → get_or b k 0 < 256
    → EightTests (end_on_free (memory a b [] [] [] [])) k (255 - bit_or (get_or a k 0) (get_or b k 0))
unfolding end_on_free
end_eight a b k ha hb s l =
    let x : ℕ = bit_at a (8 * k + s) in
    let y : ℕ = bit_at b (8 * k + s) in
    let either = digit_or (get_or a k 0) (get_or b k 0) s in
    let digit : bit_of (255 - bit_or (get_or a k 0) (get_or b k 0)) s ≡ 1 - max x y =
    digit_not 8 (bit_or (get_or a k 0) (get_or b k 0)) s (or_lt 8 (get_or a k 0) (get_or b k 0) ha hb) l
    ∙ omega (arith, either, bit_of_byte a k s l, bit_of_byte b k s l) in
    neither x y (bit_at_lt a (8 * k + s)) (bit_at_lt b (8 * k + s)) ∙ ap (λ (d : ℕ). not (eqb d 0)) (sym digit)

-- ---- kind 2

opens : (x y n : ℕ) → x < 2 → y < 2 → n < 2
    → (not (eqb x 0) && not (eqb y 0) && (false || eqb n 0)) ≡ not (eqb (min (min x y) (1 - n)) 0)
opens x y n hx hy hn =
    each_bit (λ (x : ℕ). (not (eqb x 0) && not (eqb y 0) && (false || eqb n 0)) ≡ not (eqb (min (min x y) (1 - n)) 0))
    (each_bit (λ (y : ℕ). (not (eqb 0 0) && not (eqb y 0) && (false || eqb n 0)) ≡ not (eqb (min (min 0 y) (1 - n)) 0))
    (each_bit (λ (n : ℕ). (not (eqb 0 0) && not (eqb 0 0) && (false || eqb n 0)) ≡ not (eqb (min (min 0 0) (1 - n)) 0)) refl refl n hn)
    (each_bit (λ (n : ℕ). (not (eqb 0 0) && not (eqb 1 0) && (false || eqb n 0)) ≡ not (eqb (min (min 0 1) (1 - n)) 0)) refl refl n hn)
    y hy)
    (each_bit (λ (y : ℕ). (not (eqb 1 0) && not (eqb y 0) && (false || eqb n 0)) ≡ not (eqb (min (min 1 y) (1 - n)) 0))
    (each_bit (λ (n : ℕ). (not (eqb 1 0) && not (eqb 0 0) && (false || eqb n 0)) ≡ not (eqb (min (min 1 0) (1 - n)) 0)) refl refl n hn)
    (each_bit (λ (n : ℕ). (not (eqb 1 0) && not (eqb 1 0) && (false || eqb n 0)) ≡ not (eqb (min (min 1 1) (1 - n)) 0)) refl refl n hn)
    y hy)
    x hx

-- the A bits of the next blocks, as the machine shifts them in
abbrev pub next_used : List ℕ → ℕ → ℕ
next_used a k = bit_or (get_or a k 0 / 2 ^ 1) (get_or a (k + 1) 0 * 2 ^ 7 % 256)

module _ (a : List ℕ) (k : ℕ) (ha : get_or a k 0 < 256) where
  pub next_lt : next_used a k < 256
  next_lt = or_lt 8 (get_or a k 0 / 2 ^ 1) (get_or a (k + 1) 0 * 2 ^ 7 % 256) (omega (arith, shr_le (get_or a k 0) 1)) (omega arith)

  next_digit : (s : ℕ) → s < 8 → bit_of (next_used a k) s ≡ bit_at a (8 * k + s + 1)
  next_digit s l = elim (ℕ_discrete s 7) [
    | yes e ↦
        let place : 8 * k + s + 1 ≡ 8 * (k + 1) + 0 = omega arith in
        ap (bit_of (next_used a k)) e
        ∙ omega (
          arith,
          either 7,
          sym (bit_from (get_or a k 0) 1 7),
          digit_past 8 (get_or a k 0) (1 + 7) ha (omega arith),
          digit_mod (get_or a (k + 1) 0 * 2 ^ 7) 8 7 (omega arith),
          digit_shl (get_or a (k + 1) 0) 7 0,
          sym (bit_of_byte a (k + 1) 0 (omega arith)),
        )
        ∙ ap (bit_at a) (sym place)
    | no n ↦
        let place : 8 * k + s + 1 ≡ 8 * k + (1 + s) = omega arith in
        omega (
          arith,
          either s,
          bit_from (get_or a k 0) 1 s,
          digit_mod (get_or a (k + 1) 0 * 2 ^ 7) 8 s l,
          digit_shl_low (get_or a (k + 1) 0) 7 s (omega arith),
          bit_of_byte a k (1 + s) (omega arith),
          ap (bit_at a) place,
        )
  ]
    where
      either : (j : ℕ) → bit_of (next_used a k) j ≡ max (bit_of (get_or a k 0 / 2 ^ 1) j) (bit_of (get_or a (k + 1) 0 * 2 ^ 7 % 256) j)
      either j = digit_or (get_or a k 0 / 2 ^ 1) (get_or a (k + 1) 0 * 2 ^ 7 % 256) j

pub open_eight : (N : ℕ) (a b : List ℕ) (k : ℕ) → 8 * (k + 1) < N → get_or a k 0 < 256
    → EightTests (open_end N (memory a b [] [] [] [])) k (bit_and (bit_and (get_or a k 0) (get_or b k 0)) (255 - next_used a k))
unfolding open_end
open_eight N a b k inside ha s l =
    let x : ℕ = bit_at a (8 * k + s) in
    let y : ℕ = bit_at b (8 * k + s) in
    let n : ℕ = bit_at a (8 * k + s + 1) in
    let own : ℕ = bit_and (get_or a k 0) (get_or b k 0) in
    let link = digit_and (get_or a k 0) (get_or b k 0) s in
    let after = digit_not 8 (next_used a k) s (next_lt a k ha) l in
    let digit : bit_of (bit_and own (255 - next_used a k)) s ≡ min (min x y) (1 - n) =
    digit_and own (255 - next_used a k) s
    ∙ omega (arith, link, after, next_digit a k ha s l, bit_of_byte a k s l, bit_of_byte b k s l) in
    rw (lt-leb N (8 * k + s + 1) (omega arith), open_end)
    (opens x y n (bit_at_lt a (8 * k + s)) (bit_at_lt b (8 * k + s)) (bit_at_lt a (8 * k + s + 1)))
    ∙ ap (λ (d : ℕ). not (eqb d 0)) (sym digit)

-- ---- kind 3

module _ (these k N : ℕ) (b : List ℕ) where
  pub off_is : (s : ℕ) → off_chunk these k N b s ≡ true → bit_of these s ≡ 1
  unfolding off_chunk
  off_is s e =
      let parts = and_true (not (eqb (bit_of these s) 0)) (not (eqb ((8 * k + s) % 2 ^ exponent (size_from (N - (8 * k + s)) b (8 * k + s))) 0)) e in
      omega (arith, eqb-false (bit_of these s) 0 (not-true (eqb (bit_of these s) 0) parts.0), bit_lt these s)

  pub off_read : (s : ℕ) → bit_of these s ≡ 1
      → off_chunk these k N b s ≡ not (eqb ((8 * k + s) % 2 ^ exponent (size_from (N - (8 * k + s)) b (8 * k + s))) 0)
  unfolding off_chunk
  off_read s e = rw (ne_eqb (bit_of these s) 0 (omega arith), off_chunk)

-- where `these` are the first blocks it is kind 3
pub off_first : (N : ℕ) (a b : List ℕ) (k these s : ℕ) → first_in N a b (8 * k + s) ≡ not (eqb (bit_of these s) 0)
    → unaligned N (memory a b [] [] [] []) (8 * k + s) ≡ off_chunk these k N b s
unfolding unaligned off_chunk
off_first N a b k these s e =
    ap (λ (t : Bool). t && not (eqb ((8 * k + s) % 2 ^ exponent (size_from (N - (8 * k + s)) b (8 * k + s))) 0)) e

-- ---- kind 7

strays : (x f : ℕ) → x < 2 → f < 2 → (eqb x 1 && not (not (eqb f 0))) ≡ not (eqb (min x (1 - f)) 0)
strays x f hx hf =
    each_bit (λ (x : ℕ). (eqb x 1 && not (not (eqb f 0))) ≡ not (eqb (min x (1 - f)) 0))
    (each_bit (λ (f : ℕ). (eqb 0 1 && not (not (eqb f 0))) ≡ not (eqb (min 0 (1 - f)) 0)) refl refl f hf)
    (each_bit (λ (f : ℕ). (eqb 1 1 && not (not (eqb f 0))) ≡ not (eqb (min 1 (1 - f)) 0)) refl refl f hf)
    x hx

pub stray_eight : (N : ℕ) (a b d : List ℕ) (k first : ℕ) → first < 256
    → ((s : ℕ) → s < 8 → first_in N a b (8 * k + s) ≡ not (eqb (bit_of first s) 0))
    → EightTests (stray_data N (lent_memory a b [] [] [] [] [] d [] [])) k (bit_and (get_or d k 0) (255 - first))
unfolding stray_data
stray_eight N a b d k first small firsts s l =
    let x : ℕ = bit_at d (8 * k + s) in
    let digit : bit_of (bit_and (get_or d k 0) (255 - first)) s ≡ min x (1 - bit_of first s) =
    digit_and (get_or d k 0) (255 - first) s ∙ omega (arith, digit_not 8 first s small l, bit_of_byte d k s l) in
    ap (λ (t : Bool). eqb x 1 && not t) (firsts s l)
    ∙ strays x (bit_of first s) (bit_at_lt d (8 * k + s)) (bit_lt first s)
    ∙ ap (λ (y : ℕ). not (eqb y 0)) (sym digit)
