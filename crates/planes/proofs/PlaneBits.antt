-- Where the bits of the maps stand in the one buffer: `plane_bit`.
-- Each bit has one map and one block, and a map that is lent as a middle part reads and writes the buffer's own bits.
use mathlib.Core.Path.{◌≡◌, sym, ap, ◌∙◌}
use mathlib.Core.List.{List}
use Prim.Native.Nat.{ℕ, zero, suc, ◌+◌, ◌-◌, ◌*◌, ◌/◌, ◌%◌, ◌≤◌, ◌<◌}
use native.Mathlib.Nat.{suc-mul, mul_assoc, mul_comm, mul-le-mul_right, div-add-mod', div-lt_iff_lt-mul, mod-lt}
use native.Mathlib.Numerals.{add-one}
use native.Mathlib.Omega.{arith}
use lib.Arith.{digits_div, digits_mod}
use lib.ListN.{length, get_or, set, take, drop, length-drop}
use lib.Seq.{get_or-take, get_or-drop, length-take-le}
use borrow.Rule.Slice.PartMut.{put_mid, set_mid_at}
use Rattle.bitmap.specs.Bit.{bit_of, put_bit, bit_at, set_bit}
use Rattle.planes.specs.Plane.{plane_bit}

-- ---- the maps lie one after another

pub plane_next : (bytes k : ℕ) → k * bytes + bytes ≡ (k + 1) * bytes
plane_next bytes k = sym (ap (λ (x : ℕ). x * bytes) (add-one k) ∙ suc-mul k bytes)

pub map_len : (bytes k : ℕ) → (k + 1) * bytes - k * bytes ≡ bytes
map_len bytes k = omega (arith, plane_next bytes k)

pub plane_inside : (bytes k width : ℕ) → k < width → k * bytes + bytes ≤ width * bytes
plane_inside bytes k width l = omega (arith, suc-mul k bytes, mul-le-mul_right bytes l)

pub plane_bit_inside : (bytes k width b : ℕ) → k < width → b < 8 * bytes → plane_bit bytes k b < 8 * (width * bytes)
plane_bit_inside bytes k width b l h = omega (arith, plane_inside bytes k width l)

-- ---- map and block are the digits of the place, to the base 8 * bytes

digits : (bytes k b : ℕ) → plane_bit bytes k b ≡ k * (8 * bytes) + b
digits bytes k b =
    ap (λ (x : ℕ). x + b) (sym (mul_assoc 8 k bytes) ∙ ap (λ (x : ℕ). x * bytes) (mul_comm 8 k) ∙ mul_assoc k 8 bytes)

pub same_block : (bytes j k a b : ℕ) → a < 8 * bytes → b < 8 * bytes → plane_bit bytes j a ≡ plane_bit bytes k b → a ≡ b
same_block bytes j k a b ha hb e =
    sym (digits_mod j ha) ∙ ap (λ (x : ℕ). x % (8 * bytes)) (sym (digits bytes j a) ∙ e ∙ digits bytes k b) ∙ digits_mod k hb

pub same_plane : (bytes j k a b : ℕ) → a < 8 * bytes → b < 8 * bytes → plane_bit bytes j a ≡ plane_bit bytes k b → j ≡ k
same_plane bytes j k a b ha hb e =
    sym (digits_div j ha) ∙ ap (λ (x : ℕ). x / (8 * bytes)) (sym (digits bytes j a) ∙ e ∙ digits bytes k b) ∙ digits_div k hb

-- every place in the buffer is a block's in one of its maps
pub plane_of : (bytes width i : ℕ) → i < 8 * (width * bytes)
    → (k : ℕ) × (b : ℕ) × (k < width) × (b < 8 * bytes) × (plane_bit bytes k b ≡ i)
plane_of zero width i h = absurd (omega arith)
plane_of (suc n) width i h =
    let bytes : ℕ = suc n in
    let k : ℕ = i / (8 * bytes) in
    let b : ℕ = i % (8 * bytes) in
    let positive : 0 < 8 * bytes = omega arith in
    let less : i < width * (8 * bytes) = omega (arith, digits bytes width 0) in
    (k, b, (div-lt_iff_lt-mul positive).1 less, mod-lt i positive, digits bytes k b ∙ div-add-mod' i (8 * bytes))

-- ---- a map lent as a middle part

part_byte : (counts : List ℕ) (from n j : ℕ) → j < n → get_or (take n (drop from counts)) j 0 ≡ get_or counts (from + j) 0
part_byte counts from n j l = get_or-take n (drop from counts) j 0 l ∙ get_or-drop from counts j 0

-- its bits are the buffer's
pub part_bit : (counts : List ℕ) (from n b : ℕ) → b < 8 * n → bit_at (take n (drop from counts)) b ≡ bit_at counts (8 * from + b)
unfolding bit_at
part_bit counts from n b l =
    let q : (8 * from + b) / 8 ≡ from + b / 8 = omega arith in
    let r : (8 * from + b) % 8 ≡ b % 8 = omega arith in
    ap (λ (x : ℕ). bit_of x (b % 8)) (part_byte counts from n (b / 8) (omega arith)) ∙ sym (rw (q, r))

-- and a bit written to it is written to the buffer
pub part_set_bit : (counts : List ℕ) (from n b v : ℕ) → from + n ≤ length counts → b < 8 * n
    → put_mid from n counts (set_bit (take n (drop from counts)) b v) ≡ set_bit counts (8 * from + b) v
unfolding set_bit
part_set_bit counts from n b v h l =
    let q : (8 * from + b) / 8 ≡ from + b / 8 = omega arith in
    let r : (8 * from + b) % 8 ≡ b % 8 = omega arith in
    let part : List ℕ = take n (drop from counts) in
    let inside : b / 8 < length part =
    omega (arith, length-take-le n (drop from counts) (omega (arith, length-drop from counts)), length-drop from counts) in
    set_mid_at from n (b / 8) counts (put_bit (get_or part (b / 8) 0) (b % 8) v) inside
    ∙ ap (λ (x : ℕ). set counts (from + b / 8) (put_bit x (b % 8) v)) (part_byte counts from n (b / 8) (omega arith))
    ∙ sym (rw (q, r))
