-- Laws of a run of bits written in one byte, `put_run`: by a mask, and as a part of a run of bits of a map.
use mathlib.Core.Path.{◌≡◌, refl, sym, ap, ◌∙◌}
use mathlib.Core.Logic.{◌⊎◌, inl, inr, ⊎_elim}
use mathlib.Core.List.{List}
use Prim.Native.Nat.{ℕ, zero, suc, ◌+◌, ◌-◌, ◌*◌, ◌/◌, ◌%◌, ◌^◌, ◌≤◌, ◌<◌, min, max}
use native.Mathlib.Nat.{add-zero, add-suc, mul-zero, mul-one}
use native.Mathlib.Decide.{ℕ_discrete, dec_lt, dec_le}
use native.Mathlib.Omega.{arith}
use lib.Bits.{bit_and, bit_or, and_le_l, or_lt}
use lib.ListN.{length, get_or, set}
use lib.Seq.{get_or-set_same, set-get_or, set-set}
use Rattle.bitmap.specs.Bit.{bit_of, put_bit, set_bit, fill_bits}
use Rattle.bitmap.specs.Byte.{put_run}
use Rattle.bitmap.proofs.Bits.{bit_lt, bit_put_same, bit_put_other, put_lt, bit_zero, bit_ones, bits_ext, bit_from}
use Rattle.bitmap.proofs.Runs.{length_fill}
use Rattle.bitmap.proofs.Digits.{digit_and, digit_or, digit_not, digit_mod, digit_shl_low, digit_shl, digit_past}

-- a run of one bit
pub run_one : (b k v : ℕ) → put_run b k 1 v ≡ put_bit b k v
unfolding put_run
run_one b k v = ap (λ (x : ℕ). put_bit b x v) (add-zero k)

-- ---- the bits of a run

pub run_lt : (b k n v : ℕ) → b < 256 → k + n ≤ 8 → v < 2 → put_run b k n v < 256
unfolding put_run
run_lt b k zero v h l e = h
run_lt b k (suc n) v h l e = put_lt 8 (put_run b k n v) (k + n) v (run_lt b k n v h (omega arith) e) (omega arith) e

run_in : (b k n v j : ℕ) → v < 2 → k ≤ j → j < k + n → bit_of (put_run b k n v) j ≡ v
unfolding put_run
run_in b k zero v j e l u = absurd (omega arith)
run_in b k (suc n) v j e l u = elim (ℕ_discrete j (k + n)) [
  | yes q ↦ ap (bit_of (put_bit (put_run b k n v) (k + n) v)) q ∙ bit_put_same (put_run b k n v) (k + n) v e
  | no q ↦ bit_put_other (put_run b k n v) (k + n) v j q e ∙ run_in b k n v j e l (omega arith)
]

run_out : (b k n v j : ℕ) → v < 2 → (j < k) ⊎ (k + n ≤ j) → bit_of (put_run b k n v) j ≡ bit_of b j
unfolding put_run
run_out b k zero v j e o = refl
run_out b k (suc n) v j e o =
    bit_put_other (put_run b k n v) (k + n) v j (λ q. ⊎_elim {C = ⊥} (λ l. omega arith) (λ l. omega arith) o) e
    ∙ run_out b k n v j e (⊎_elim (λ l. inl l) (λ l. inr (omega arith)) o)

-- ---- the mask of n ones from bit k on, as the machine computes it

abbrev pub mask_of : ℕ → ℕ → ℕ
mask_of k n = 255 / 2 ^ (8 - n) * 2 ^ k % 256

module _ (k n : ℕ) (some : 1 ≤ n) (room : k + n ≤ 8) where
  pub mask_lt : mask_of k n < 256
  mask_lt = omega arith

  high : (i : ℕ) → k + i < 8 → bit_of (mask_of k n) (k + i) ≡ bit_of 255 (8 - n + i)
  high i l =
      digit_mod (255 / 2 ^ (8 - n) * 2 ^ k) 8 (k + i) l ∙ digit_shl (255 / 2 ^ (8 - n)) k i ∙ sym (bit_from 255 (8 - n) i)

  mask_in : (j : ℕ) → k ≤ j → j < k + n → bit_of (mask_of k n) j ≡ 1
  mask_in j l u =
      let at : j ≡ k + (j - k) = omega arith in
      ap (bit_of (mask_of k n)) at ∙ high (j - k) (omega arith) ∙ bit_ones 8 (8 - n + (j - k)) (omega arith)

  mask_out : (j : ℕ) → j < 8 → (j < k) ⊎ (k + n ≤ j) → bit_of (mask_of k n) j ≡ 0
  mask_out j s (inl l) = digit_mod (255 / 2 ^ (8 - n) * 2 ^ k) 8 j s ∙ digit_shl_low (255 / 2 ^ (8 - n)) k j l
  mask_out j s (inr u) =
      let at : j ≡ k + (j - k) = omega arith in
      ap (bit_of (mask_of k n)) at ∙ high (j - k) (omega arith) ∙ digit_past 8 255 (8 - n + (j - k)) (omega arith) (omega arith)

-- a mask or nothing
bit_times : (x v j : ℕ) → v < 2 → bit_of (x * v) j ≡ bit_of x j * v
bit_times x zero j e = ap (λ (y : ℕ). bit_of y j) (mul-zero x) ∙ bit_zero j ∙ sym (mul-zero (bit_of x j))
bit_times x (suc zero) j e = ap (λ (y : ℕ). bit_of y j) (mul-one x) ∙ sym (mul-one (bit_of x j))
bit_times x (suc (suc v)) j e = absurd (omega arith)

pub times_le : (x v : ℕ) → v < 2 → x * v ≤ x
times_le x zero e = omega arith
times_le x (suc zero) e = omega arith
times_le x (suc (suc v)) e = absurd (omega arith)

-- the byte computed as `(b & !mask) | (mask * v)`
pub machine_run : (b k n v : ℕ) → b < 256 → 1 ≤ n → k + n ≤ 8 → v < 2
    → bit_or (bit_and b (255 - mask_of k n)) (mask_of k n * v) ≡ put_run b k n v
machine_run b k n v h some room e =
    bits_ext 8 made (put_run b k n v) (or_lt 8 rest put (omega (arith, and_le_l b (255 - m))) (omega (arith, times_le m v e, mask_lt k n some room)))
    (run_lt b k n v h room e) digit
  where
    m : ℕ
    m = mask_of k n

    rest : ℕ
    rest = bit_and b (255 - m)

    put : ℕ
    put = m * v

    made : ℕ
    made = bit_or rest put

    parts : (j : ℕ) → j < 8 → bit_of made j ≡ max (min (bit_of b j) (1 - bit_of m j)) (bit_of m j * v)
    parts j s =
        digit_or rest put j
        ∙ ap (λ (x : ℕ). max x (bit_of put j)) (digit_and b (255 - m) j ∙ ap (min (bit_of b j)) (digit_not 8 m j (mask_lt k n some room) s))
        ∙ ap (max (min (bit_of b j) (1 - bit_of m j))) (bit_times m v j e)

    digit : (j : ℕ) → j < 8 → bit_of made j ≡ bit_of (put_run b k n v) j
    digit j s = elim (dec_le k j) [
      | no l ↦
          let out = mask_out k n some room j s (inl (omega arith)) in
          let none : bit_of m j * v ≡ 0 * v = ap (λ (x : ℕ). x * v) out in
          omega (arith, parts j s, bit_lt b j, run_out b k n v j e (inl (omega arith)))
      | yes l ↦ elim (dec_lt j (k + n)) [
        | yes u ↦
            let in-run = mask_in k n some room j l u in
            let all : bit_of m j * v ≡ 1 * v = ap (λ (x : ℕ). x * v) in-run in
            omega (arith, parts j s, run_in b k n v j e l u)
        | no u ↦
            let out = mask_out k n some room j s (inr (omega arith)) in
            let none : bit_of m j * v ≡ 0 * v = ap (λ (x : ℕ). x * v) out in
            omega (arith, parts j s, bit_lt b j, run_out b k n v j e (inr (omega arith)))
      ]
    ]

-- ---- n bits more of a run of a map, in one byte

pub fill_byte_more : (map : List ℕ) (from i n v : ℕ) → (from + i) % 8 + n ≤ 8 → (from + i) / 8 < length map
    → set (fill_bits map from i v) ((from + i) / 8) (put_run (get_or (fill_bits map from i v) ((from + i) / 8) 0) ((from + i) % 8) n v)
    ≡ fill_bits map from (i + n) v
unfolding put_run fill_bits set_bit
fill_byte_more map from i zero v room inside =
    set-get_or (fill_bits map from i v) ((from + i) / 8) 0 ∙ ap (λ (x : ℕ). fill_bits map from x v) (sym (add-zero i))
fill_byte_more map from i (suc n) v room inside = step (fill_byte_more map from i n v (omega arith) inside)
  where
    q : ℕ
    q = (from + i) / 8

    before : List ℕ
    before = fill_bits map from i v

    x : ℕ
    x = put_run (get_or before q 0) ((from + i) % 8) n v

    step : set before q x ≡ fill_bits map from (i + n) v
        → set before q (put_bit x ((from + i) % 8 + n) v) ≡ fill_bits map from (i + suc n) v
    step ih =
        let byte : (from + (i + n)) / 8 ≡ q = omega arith in
        let place : (from + (i + n)) % 8 ≡ (from + i) % 8 + n = omega arith in
        let read : get_or (set before q x) q 0 ≡ x = get_or-set_same before q x 0 (omega (arith, length_fill map from i v)) in
        sym
        (ap (λ (c : ℕ). fill_bits map from c v) (add-suc i n)
        ∙ ap (λ (m : List ℕ). set_bit m (from + (i + n)) v) (sym ih)
        ∙ rw (byte, place, read) (set-set before q x (put_bit x ((from + i) % 8 + n) v)))
