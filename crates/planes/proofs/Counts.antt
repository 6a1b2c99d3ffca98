-- Laws of counts in bit planes: `count_at` and `set_count`.
-- Read after write, what a write keeps, that a count's bits are those of the maps, and that a buffer is known by its counts.
use mathlib.Core.Path.{◌≡◌, refl, sym, ap, ◌∙◌}
use mathlib.Core.Logic.{◌≢◌}
use mathlib.Core.List.{List}
use Prim.Native.Nat.{ℕ, zero, suc, ◌+◌, ◌*◌, ◌^◌, ◌≤◌, ◌<◌}
use native.Mathlib.Nat.{suc-mul, mul-le-mul_right, pow-suc}
use native.Mathlib.Numerals.{add-one}
use native.Mathlib.Decide.{ℕ_discrete}
use native.Mathlib.Omega.{arith}
use lib.ListN.{length, replicate}
use Rattle.bitmap.specs.Bit.{bit_of, bit_at, set_bit, Bytes}
use Rattle.bitmap.proofs.Bits.{bit_lt, bit_below, bit_top, bits_ext}
use Rattle.bitmap.proofs.Rewrites.{Rewritten, same, bit}
use Rattle.bitmap.proofs.Maps.{bit_at_lt, length_set_bit, bit_set_same, bit_set_other, set_bit_there, bytes_set_bit, bit_all_zero, map_ext}
use Rattle.planes.specs.Plane.{plane_bit, count_at, set_count}
use Rattle.planes.proofs.PlaneBits.{plane_bit_inside, same_block, same_plane, plane_of}

-- ---- the count of a block

-- one map more
pub count_more : (bytes k : ℕ) (counts : List ℕ) (b : ℕ)
    → count_at bytes k counts b + bit_at counts (plane_bit bytes k b) * 2 ^ k ≡ count_at bytes (k + 1) counts b
unfolding count_at
count_more bytes k counts b = sym (ap (λ (x : ℕ). count_at bytes x counts b) (add-one k))

pub count_lt : (bytes width : ℕ) (counts : List ℕ) (b : ℕ) → count_at bytes width counts b < 2 ^ width
unfolding count_at
count_lt bytes zero counts b = omega arith
count_lt bytes (suc k) counts b =
    let most : bit_at counts (plane_bit bytes k b) ≤ 1 = omega (arith, bit_at_lt counts (plane_bit bytes k b)) in
    omega (arith, count_lt bytes k counts b, pow-suc 2 k, mul-le-mul_right (2 ^ k) most)

-- bit k of the count is the block's bit in map k
pub count_bit : (bytes width : ℕ) (counts : List ℕ) (b k : ℕ) → k < width
    → bit_of (count_at bytes width counts b) k ≡ bit_at counts (plane_bit bytes k b)
unfolding count_at
count_bit bytes zero counts b k l = absurd (omega arith)
count_bit bytes (suc w) counts b k l = go (ℕ_discrete k w) (λ s. count_bit bytes w counts b k s)
  where
    low : ℕ
    low = count_at bytes w counts b

    top : ℕ
    top = bit_at counts (plane_bit bytes w b)

    go : Dec (k ≡ w) → (k < w → bit_of low k ≡ bit_at counts (plane_bit bytes k b))
        → bit_of (low + top * 2 ^ w) k ≡ bit_at counts (plane_bit bytes k b)
    go (yes q) before =
        ap (bit_of (low + top * 2 ^ w)) q ∙ bit_top low top w (count_lt bytes w counts b) (bit_at_lt counts (plane_bit bytes w b))
        ∙ ap (λ (x : ℕ). bit_at counts (plane_bit bytes x b)) (sym q)
    go (no q) before = bit_below low top w k (omega arith) ∙ before (omega arith)

-- it depends on the block's bits alone
pub count_same_bits : (bytes width : ℕ) (counts other : List ℕ) (b : ℕ)
    → ((k : ℕ) → k < width → bit_at counts (plane_bit bytes k b) ≡ bit_at other (plane_bit bytes k b))
    → count_at bytes width counts b ≡ count_at bytes width other b
unfolding count_at
count_same_bits bytes zero counts other b h = refl
count_same_bits bytes (suc k) counts other b h =
    omega (
      arith,
      count_same_bits bytes k counts other b (λ j l. h j (omega arith)),
      ap (λ (x : ℕ). x * 2 ^ k) (h k (omega arith)),
    )

-- in a buffer of zeros every count is 0
pub count_all_zero : (bytes width n b : ℕ) → count_at bytes width (replicate n 0) b ≡ 0
unfolding count_at
count_all_zero bytes zero n b = refl
count_all_zero bytes (suc k) n b =
    omega (arith, count_all_zero bytes k n b, ap (λ (x : ℕ). x * 2 ^ k) (bit_all_zero n (plane_bit bytes k b)))

-- ---- a count written

-- one map more
pub set_count_more : (bytes k : ℕ) (counts : List ℕ) (b v : ℕ)
    → set_bit (set_count bytes k counts b v) (plane_bit bytes k b) (bit_of v k) ≡ set_count bytes (k + 1) counts b v
unfolding set_count
set_count_more bytes k counts b v = sym (ap (λ (x : ℕ). set_count bytes x counts b v) (add-one k))

pub length_set_count : (bytes width : ℕ) (counts : List ℕ) (b v : ℕ) → length (set_count bytes width counts b v) ≡ length counts
unfolding set_count
length_set_count bytes zero counts b v = refl
length_set_count bytes (suc k) counts b v =
    length_set_bit (set_count bytes k counts b v) (plane_bit bytes k b) (bit_of v k) ∙ length_set_count bytes k counts b v

pub bytes_set_count : (bytes width : ℕ) (counts : List ℕ) (b v : ℕ) → Bytes counts → Bytes (set_count bytes width counts b v)
unfolding set_count
bytes_set_count bytes zero counts b v h = h
bytes_set_count bytes (suc k) counts b v h =
    bytes_set_bit (set_count bytes k counts b v) (plane_bit bytes k b) (bit_of v k) (bit_lt v k) (bytes_set_count bytes k counts b v h)

-- the block's bits are those of v
set_count_bit : (bytes width : ℕ) (counts : List ℕ) (b v k : ℕ) → b < 8 * bytes → width * bytes ≤ length counts → k < width
    → bit_at (set_count bytes width counts b v) (plane_bit bytes k b) ≡ bit_of v k
unfolding set_count
set_count_bit bytes zero counts b v k hb h l = absurd (omega arith)
set_count_bit bytes (suc w) counts b v k hb h l =
    go (ℕ_discrete k w) (λ s. set_count_bit bytes w counts b v k hb (omega (arith, suc-mul w bytes)) s)
  where
    before : List ℕ
    before = set_count bytes w counts b v

    inside : plane_bit bytes w b < 8 * length before
    inside = omega (arith, plane_bit_inside bytes w (suc w) b (omega arith) hb, length_set_count bytes w counts b v)

    go : Dec (k ≡ w) → (k < w → bit_at before (plane_bit bytes k b) ≡ bit_of v k)
        → bit_at (set_bit before (plane_bit bytes w b) (bit_of v w)) (plane_bit bytes k b) ≡ bit_of v k
    go (yes q) earlier =
        ap (λ (x : ℕ). bit_at (set_bit before (plane_bit bytes w b) (bit_of v w)) (plane_bit bytes x b)) q
        ∙ bit_set_same before (plane_bit bytes w b) (bit_of v w) inside (bit_lt v w) ∙ ap (bit_of v) (sym q)
    go (no q) earlier =
        bit_set_other before (plane_bit bytes w b) (bit_of v w) (plane_bit bytes k b) (λ e. q (same_plane bytes k w b b hb hb e))
        (bit_lt v w)
        ∙ earlier (omega arith)

-- every other bit is as it was
set_count_other_bit : (bytes width : ℕ) (counts : List ℕ) (b v i : ℕ) → ((k : ℕ) → k < width → i ≢ plane_bit bytes k b)
    → bit_at (set_count bytes width counts b v) i ≡ bit_at counts i
unfolding set_count
set_count_other_bit bytes zero counts b v i ne = refl
set_count_other_bit bytes (suc k) counts b v i ne =
    bit_set_other (set_count bytes k counts b v) (plane_bit bytes k b) (bit_of v k) i (ne k (omega arith)) (bit_lt v k)
    ∙ set_count_other_bit bytes k counts b v i (λ j l. ne j (omega arith))

-- the count that was written
pub count_set_same : (bytes width : ℕ) (counts : List ℕ) (b v : ℕ) → b < 8 * bytes → width * bytes ≤ length counts → v < 2 ^ width
    → count_at bytes width (set_count bytes width counts b v) b ≡ v
count_set_same bytes width counts b v hb h hv =
    let after : List ℕ = set_count bytes width counts b v in
    bits_ext width (count_at bytes width after b) v (count_lt bytes width after b) hv
    (λ k l. count_bit bytes width after b k l ∙ set_count_bit bytes width counts b v k hb h l)

-- the count of every other block is as it was
pub count_set_other : (bytes width : ℕ) (counts : List ℕ) (b v a : ℕ) → a < 8 * bytes → b < 8 * bytes → a ≢ b
    → count_at bytes width (set_count bytes width counts b v) a ≡ count_at bytes width counts a
count_set_other bytes width counts b v a ha hb ne =
    count_same_bits bytes width (set_count bytes width counts b v) counts a
    (λ k l. set_count_other_bit bytes width counts b v (plane_bit bytes k a) (λ j m e. ne (same_block bytes k j a b ha hb e)))

-- to write the count that is there changes nothing
set_bits_there : (bytes width : ℕ) (counts : List ℕ) (b v : ℕ)
    → ((k : ℕ) → k < width → bit_at counts (plane_bit bytes k b) ≡ bit_of v k) → set_count bytes width counts b v ≡ counts
unfolding set_count
set_bits_there bytes zero counts b v h = refl
set_bits_there bytes (suc k) counts b v h =
    ap (λ (c : List ℕ). set_bit c (plane_bit bytes k b) (bit_of v k)) (set_bits_there bytes k counts b v (λ j l. h j (omega arith)))
    ∙ set_bit_there counts (plane_bit bytes k b) (bit_of v k) (h k (omega arith))

pub set_count_there : (bytes width : ℕ) (counts : List ℕ) (b v : ℕ) → count_at bytes width counts b ≡ v
    → set_count bytes width counts b v ≡ counts
set_count_there bytes width counts b v e =
    set_bits_there bytes width counts b v (λ k l. sym (count_bit bytes width counts b k l) ∙ ap (λ (x : ℕ). bit_of x k) e)

-- a count is written bit by bit
pub rewritten_set_count : (bytes width : ℕ) (counts : List ℕ) (b v : ℕ) → Rewritten counts (set_count bytes width counts b v)
unfolding set_count
rewritten_set_count bytes zero counts b v = same
rewritten_set_count bytes (suc k) counts b v = bit (plane_bit bytes k b) (bit_of v k) (bit_lt v k) (rewritten_set_count bytes k counts b v)

-- ---- a buffer is known by its counts

pub counts_bits : (bytes width : ℕ) (counts other : List ℕ) → length counts ≡ width * bytes
    → ((b : ℕ) → b < 8 * bytes → count_at bytes width counts b ≡ count_at bytes width other b)
    → (i : ℕ) → i < 8 * length counts → bit_at counts i ≡ bit_at other i
counts_bits bytes width counts other lc h i l = at (plane_of bytes width i (omega arith))
  where
    at : ((k : ℕ) × (b : ℕ) × (k < width) × (b < 8 * bytes) × (plane_bit bytes k b ≡ i)) → bit_at counts i ≡ bit_at other i
    at (k, b, hk, hb, e) =
        ap (bit_at counts) (sym e) ∙ sym (count_bit bytes width counts b k hk) ∙ ap (λ (x : ℕ). bit_of x k) (h b hb)
        ∙ count_bit bytes width other b k hk ∙ ap (bit_at other) e

pub counts_ext : (bytes width : ℕ) (counts other : List ℕ) → Bytes counts → Bytes other
    → length counts ≡ width * bytes → length other ≡ width * bytes
    → ((b : ℕ) → b < 8 * bytes → count_at bytes width counts b ≡ count_at bytes width other b) → counts ≡ other
counts_ext bytes width counts other bc bo lc lo h = map_ext counts other bc bo (lc ∙ sym lo) (counts_bits bytes width counts other lc h)
