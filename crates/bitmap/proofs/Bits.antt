-- Laws of the bits of a number: `bit_of` and `put_bit`.
-- A bit that is put is read back, the others stay, and a number is known by its bits. Most laws recurse on the place of the bit:
-- one place down is one halving.
use mathlib.Core.Path.{◌≡◌, refl, sym, ap, ◌∙◌}
use mathlib.Core.Logic.{◌≢◌}
use Prim.Native.Nat.{ℕ, zero, suc, ◌+◌, ◌-◌, ◌*◌, ◌/◌, ◌%◌, ◌^◌, ◌≤◌, ◌<◌}
use native.Mathlib.Nat.{mul_assoc, pow-suc, le_of_suc-le-suc, not-suc-le-zero}
use native.Mathlib.Numerals.{one-add}
use native.Mathlib.Decide.{ℕ_discrete}
use native.Mathlib.Omega.{arith}
use lib.Arith.{lt-one}
use lib.Pow.{pow_pos, shr-shr, shl_exact}
use Rattle.bitmap.specs.Bit.{bit_of, put_bit}

-- ---- one place up is one halving

shift_suc : (a k : ℕ) → a * 2 ^ suc k ≡ a * 2 ^ k * 2
shift_suc a k = ap (λ (x : ℕ). a * x) (pow-suc 2 k) ∙ sym (mul_assoc a (2 ^ k) 2)

pub bit_suc : (b k : ℕ) → bit_of b (suc k) ≡ bit_of (b / 2) k
bit_suc b k = ap (λ (x : ℕ). x % 2) (sym (shr-shr b 1 k ∙ ap (λ (x : ℕ). b / 2 ^ x) (one-add k)))

-- ---- how large

pub bit_lt : (b k : ℕ) → bit_of b k < 2
bit_lt b k = omega arith

bit_le : (b k : ℕ) → bit_of b k * 2 ^ k ≤ b
bit_le b zero = omega arith
bit_le b (suc k) =
    omega (arith, bit_le (b / 2) k, shift_suc (bit_of b (suc k)) k, ap (λ (x : ℕ). x * 2 ^ k) (bit_suc b k))

-- ---- a bit put

pub put_zero : (b v : ℕ) → put_bit b zero v ≡ b / 2 * 2 + v
put_zero b v = omega arith

pub put_suc : (b k v : ℕ) → put_bit b (suc k) v ≡ put_bit (b / 2) k v * 2 + b % 2
put_suc b k v =
    omega (arith, bit_le (b / 2) k, shift_suc (bit_of b (suc k)) k, shift_suc v k, ap (λ (x : ℕ). x * 2 ^ k) (bit_suc b k))

pub put_half : (b k v : ℕ) → put_bit b (suc k) v / 2 ≡ put_bit (b / 2) k v
put_half b k v = omega (arith, put_suc b k v)

-- a number of n bits stays one
pub put_lt : (n b k v : ℕ) → b < 2 ^ n → k < n → v < 2 → put_bit b k v < 2 ^ n
put_lt zero b k v h l e = absurd (not-suc-le-zero l)
put_lt (suc n) b zero v h l e = omega (arith, put_zero b v, pow-suc 2 n)
put_lt (suc n) b (suc k) v h l e =
    let half : b / 2 < 2 ^ n = omega (arith, pow-suc 2 n) in
    omega (arith, put_suc b k v, pow-suc 2 n, put_lt n (b / 2) k v half (le_of_suc-le-suc l) e)

-- the bit that was put
pub bit_put_same : (b k v : ℕ) → v < 2 → bit_of (put_bit b k v) k ≡ v
bit_put_same b zero v e = omega (arith, put_zero b v)
bit_put_same b (suc k) v e =
    bit_suc (put_bit b (suc k) v) k ∙ ap (λ (x : ℕ). bit_of x k) (put_half b k v) ∙ bit_put_same (b / 2) k v e

-- every other bit is as it was
pub bit_put_other : (b k v j : ℕ) → j ≢ k → v < 2 → bit_of (put_bit b k v) j ≡ bit_of b j
bit_put_other b zero v zero h e = absurd (h refl)
bit_put_other b zero v (suc j) h e =
    let half : put_bit b zero v / 2 ≡ b / 2 = omega (arith, put_zero b v) in
    bit_suc (put_bit b zero v) j ∙ ap (λ (x : ℕ). bit_of x j) half ∙ sym (bit_suc b j)
bit_put_other b (suc k) v zero h e = omega (arith, put_suc b k v)
bit_put_other b (suc k) v (suc j) h e =
    bit_suc (put_bit b (suc k) v) j ∙ ap (λ (x : ℕ). bit_of x j) (put_half b k v)
    ∙ bit_put_other (b / 2) k v j (λ q. h (ap suc q)) e ∙ sym (bit_suc b j)

-- to put the bit that is there changes nothing
pub put_there : (b k : ℕ) → put_bit b k (bit_of b k) ≡ b
put_there b k = omega (arith, bit_le b k)

-- ---- bits of given numbers

pub bit_zero : (k : ℕ) → bit_of 0 k ≡ 0
bit_zero zero = refl
bit_zero (suc k) = bit_suc 0 k ∙ bit_zero k

-- all ones: 2 ^ n - 1 is 255 for a byte
pub bit_ones : (n k : ℕ) → k < n → bit_of (2 ^ n - 1) k ≡ 1
bit_ones zero k l = absurd (not-suc-le-zero l)
bit_ones (suc n) zero l = omega (arith, pow-suc 2 n, pow_pos n)
bit_ones (suc n) (suc k) l =
    let half : (2 ^ suc n - 1) / 2 ≡ 2 ^ n - 1 = omega (arith, pow-suc 2 n, pow_pos n) in
    bit_suc (2 ^ suc n - 1) k ∙ ap (λ (x : ℕ). bit_of x k) half ∙ bit_ones n k (le_of_suc-le-suc l)

sum_half : (x y n : ℕ) → (x + y * 2 ^ suc n) / 2 ≡ x / 2 + y * 2 ^ n
sum_half x y n = omega (arith, shift_suc y n)

-- a sum of x and a multiple of 2 ^ n has the bits of x below place n ..
pub bit_below : (x y n k : ℕ) → k < n → bit_of (x + y * 2 ^ n) k ≡ bit_of x k
bit_below x y zero k l = absurd (not-suc-le-zero l)
bit_below x y (suc n) zero l = omega (arith, shift_suc y n)
bit_below x y (suc n) (suc k) l =
    bit_suc (x + y * 2 ^ suc n) k ∙ ap (λ (z : ℕ). bit_of z k) (sum_half x y n) ∙ bit_below (x / 2) y n k (le_of_suc-le-suc l)
    ∙ sym (bit_suc x k)

-- .. and at place n the bit y, where x has n bits
pub bit_top : (x y n : ℕ) → x < 2 ^ n → y < 2 → bit_of (x + y * 2 ^ n) n ≡ y
bit_top x y zero h e = omega arith
bit_top x y (suc n) h e =
    let less : x / 2 < 2 ^ n = omega (arith, pow-suc 2 n) in
    bit_suc (x + y * 2 ^ suc n) n ∙ ap (λ (z : ℕ). bit_of z n) (sum_half x y n) ∙ bit_top (x / 2) y n less e

-- ---- what lies from a place on

-- bit n + k is bit k of what lies from place n on
pub bit_from : (b n k : ℕ) → bit_of b (n + k) ≡ bit_of (b / 2 ^ n) k
bit_from b n k = ap (λ (x : ℕ). x % 2) (sym (shr-shr b n k))

-- where nothing lies there, no bit from there on is 1 ..
pub bits_past : (b n i : ℕ) → b / 2 ^ n ≡ 0 → n ≤ i → bit_of b i ≡ 0
bits_past b n i none l =
    let at : i ≡ n + (i - n) = omega arith in
    ap (λ (k : ℕ). bit_of b k) at ∙ bit_from b n (i - n) ∙ ap (λ (x : ℕ). bit_of x (i - n)) none ∙ bit_zero (i - n)

-- a number that is not 0 has a bit that is 1
some_bit : (fuel b : ℕ) → b ≤ fuel → b ≢ 0 → (k : ℕ) × (bit_of b k ≡ 1)
some_bit zero b l n = absurd (n (omega arith))
some_bit (suc fuel) b l n =
    elim (ℕ_discrete (b % 2) 1) [
      | yes e ↦ (0, omega arith)
      | no d ↦
          let found = some_bit fuel (b / 2) (omega arith) (omega arith) in
          (suc found.0, bit_suc b found.0 ∙ found.1)
    ]

-- .. and where something does, some bit is
pub some_bit_past : (b n : ℕ) → b / 2 ^ n ≢ 0 → (i : ℕ) × (n ≤ i) × (bit_of b i ≡ 1)
some_bit_past b n some =
    let found = some_bit (b / 2 ^ n) (b / 2 ^ n) (omega arith) some in
    (n + found.0, omega arith, bit_from b n found.0 ∙ found.1)

-- ---- a number is known by its bits

pub bits_ext : (n a b : ℕ) → a < 2 ^ n → b < 2 ^ n → ((k : ℕ) → k < n → bit_of a k ≡ bit_of b k) → a ≡ b
bits_ext zero a b ha hb h = lt-one ha ∙ sym (lt-one hb)
bits_ext (suc n) a b ha hb h =
    let pa : a / 2 < 2 ^ n = omega (arith, pow-suc 2 n) in
    let pb : b / 2 < 2 ^ n = omega (arith, pow-suc 2 n) in
    let up : a / 2 ≡ b / 2 =
    bits_ext n (a / 2) (b / 2) pa pb (λ k l. sym (bit_suc a k) ∙ h (suc k) (omega arith) ∙ bit_suc b k) in
    omega (arith, h zero (omega arith))

-- ---- in a byte, the machine's shifts do not wrap

pub shift_exact : (a k : ℕ) → a < 2 → k < 8 → a * 2 ^ k % 256 ≡ a * 2 ^ k
shift_exact a k h l = shl_exact 1 k 8 h (omega arith)
