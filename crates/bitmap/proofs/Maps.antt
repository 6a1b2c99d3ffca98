-- Laws of a bitmap: `bit_at`, `set_bit` and `Bytes`.
-- Read after write, what a write keeps, maps of one repeated byte, and that a map is known by its bits.
use mathlib.Core.Path.{◌≡◌, refl, sym, ap, ◌∙◌, subst}
use mathlib.Core.Logic.{◌≢◌}
use mathlib.Core.List.{List}
use Prim.Native.Nat.{ℕ, ◌+◌, ◌*◌, ◌/◌, ◌%◌, ◌≤◌, ◌<◌}
use native.Mathlib.Decide.{ℕ_discrete, dec_lt}
use native.Mathlib.Omega.{arith}
use lib.ListN.{length, get_or, set, replicate, length-set, length-replicate, get_or-replicate, get_or-eq_default}
use lib.Seq.{get_or-set_same, get_or-set_other, set-get_or, set_out, ext_get_or}
use mir.Syntax.{w8}
use mir.Val.{Fits}
use Rattle.bitmap.specs.Bit.{bit_of, put_bit, bit_at, set_bit, Bytes}
use Rattle.bitmap.proofs.Bits.{bit_lt, bit_put_same, bit_put_other, put_there, put_lt, bit_zero, bit_ones, bits_ext}

pub bit_at_lt : (map : List ℕ) (i : ℕ) → bit_at map i < 2
unfolding bit_at
bit_at_lt map i = bit_lt (get_or map (i / 8) 0) (i % 8)

-- bits past the end are 0
pub bit_past_end : (map : List ℕ) (i : ℕ) → 8 * length map ≤ i → bit_at map i ≡ 0
unfolding bit_at
bit_past_end map i h =
    ap (λ (x : ℕ). bit_of x (i % 8)) (get_or-eq_default map 0 {n = i / 8} (omega arith)) ∙ bit_zero (i % 8)

-- bit k of byte j is bit 8 j + k of the map
pub bit_of_byte : (map : List ℕ) (j k : ℕ) → k < 8 → bit_at map (8 * j + k) ≡ bit_of (get_or map j 0) k
unfolding bit_at
bit_of_byte map j k s =
    let q : (8 * j + k) / 8 ≡ j = omega arith in
    let r : (8 * j + k) % 8 ≡ k = omega arith in
    rw (q, r)

-- ---- a bit written

pub length_set_bit : (map : List ℕ) (i v : ℕ) → length (set_bit map i v) ≡ length map
unfolding set_bit
length_set_bit map i v = length-set map (i / 8) (put_bit (get_or map (i / 8) 0) (i % 8) v)

-- past the end nothing is written
pub set_bit_past_end : (map : List ℕ) (i v : ℕ) → length map ≤ i / 8 → set_bit map i v ≡ map
unfolding set_bit
set_bit_past_end map i v h = set_out map (i / 8) (put_bit (get_or map (i / 8) 0) (i % 8) v) h

-- the byte that holds the bit, and the others
pub byte_same : (map : List ℕ) (i v : ℕ) → i / 8 < length map → (j : ℕ) → j ≡ i / 8
    → get_or (set_bit map i v) j 0 ≡ put_bit (get_or map j 0) (i % 8) v
unfolding set_bit
byte_same map i v h j e =
    subst (λ (k : ℕ). get_or (set_bit map i v) k 0 ≡ put_bit (get_or map k 0) (i % 8) v) (sym e)
    (get_or-set_same map (i / 8) (put_bit (get_or map (i / 8) 0) (i % 8) v) 0 h)

pub byte_other : (map : List ℕ) (i v j : ℕ) → j ≢ i / 8 → get_or (set_bit map i v) j 0 ≡ get_or map j 0
unfolding set_bit
byte_other map i v j ne = get_or-set_other map (i / 8) j (put_bit (get_or map (i / 8) 0) (i % 8) v) 0 ne

-- the bit that was written
pub bit_set_same : (map : List ℕ) (i v : ℕ) → i < 8 * length map → v < 2 → bit_at (set_bit map i v) i ≡ v
unfolding bit_at
bit_set_same map i v h e =
    ap (λ (x : ℕ). bit_of x (i % 8)) (byte_same map i v (omega arith) (i / 8) refl) ∙ bit_put_same (get_or map (i / 8) 0) (i % 8) v e

-- every other bit is as it was
pub bit_set_other : (map : List ℕ) (i v j : ℕ) → j ≢ i → v < 2 → bit_at (set_bit map i v) j ≡ bit_at map j
unfolding bit_at
bit_set_other map i v j ne e = go (dec_lt (i / 8) (length map)) (ℕ_discrete (j / 8) (i / 8))
  where
    go : Dec (i / 8 < length map) → Dec (j / 8 ≡ i / 8) → bit_at (set_bit map i v) j ≡ bit_at map j
    go (yes l) (yes q) =
        ap (λ (x : ℕ). bit_of x (j % 8)) (byte_same map i v l (j / 8) q)
        ∙ bit_put_other (get_or map (j / 8) 0) (i % 8) v (j % 8) (λ r. ne (omega arith)) e
    go (no l) (yes q) = ap (λ (m : List ℕ). bit_at m j) (set_bit_past_end map i v (omega arith))
    go d (no q) = ap (λ (x : ℕ). bit_of x (j % 8)) (byte_other map i v (j / 8) q)

-- to write the bit that is there changes nothing
pub set_bit_there : (map : List ℕ) (i v : ℕ) → bit_at map i ≡ v → set_bit map i v ≡ map
unfolding bit_at set_bit
set_bit_there map i v e =
    ap (λ (x : ℕ). set map (i / 8) (put_bit (get_or map (i / 8) 0) (i % 8) x)) (sym e)
    ∙ ap (λ (x : ℕ). set map (i / 8) x) (put_there (get_or map (i / 8) 0) (i % 8)) ∙ set-get_or map (i / 8) 0

-- ---- bytes

-- what a slice of u8 hands over
pub bytes_given : (map : List ℕ) → ((i : ℕ) → Fits w8 (get_or map i 0)) → Bytes map
unfolding Bytes
bytes_given map given i = (given i).fits

-- bytes stay bytes
pub bytes_set_bit : (map : List ℕ) (i v : ℕ) → v < 2 → Bytes map → Bytes (set_bit map i v)
unfolding Bytes
bytes_set_bit map i v e b j = go (dec_lt (i / 8) (length map)) (ℕ_discrete j (i / 8))
  where
    go : Dec (i / 8 < length map) → Dec (j ≡ i / 8) → get_or (set_bit map i v) j 0 < 256
    go (yes l) (yes q) =
        subst (λ (x : ℕ). x < 256) (sym (byte_same map i v l j q)) (put_lt 8 (get_or map j 0) (i % 8) v (b j) (omega arith) e)
    go (no l) (yes q) = subst (λ (m : List ℕ). get_or m j 0 < 256) (sym (set_bit_past_end map i v (omega arith))) (b j)
    go d (no q) = subst (λ (x : ℕ). x < 256) (sym (byte_other map i v j q)) (b j)

-- ---- maps of one repeated byte

pub bytes_replicate : (n v : ℕ) → v < 256 → Bytes (replicate n v)
unfolding Bytes
bytes_replicate n v h i = go (dec_lt i n)
  where
    go : Dec (i < n) → get_or (replicate n v) i 0 < 256
    go (yes l) = omega (arith, get_or-replicate n i v 0 l)
    go (no l) = omega (arith, get_or-eq_default (replicate n v) 0 {n = i} (omega (arith, length-replicate n v)))

bit_replicate : (n v i : ℕ) → i < 8 * n → bit_at (replicate n v) i ≡ bit_of v (i % 8)
unfolding bit_at
bit_replicate n v i h = ap (λ (x : ℕ). bit_of x (i % 8)) (get_or-replicate n (i / 8) v 0 (omega arith))

pub bit_all_zero : (n i : ℕ) → bit_at (replicate n 0) i ≡ 0
bit_all_zero n i = go (dec_lt i (8 * n))
  where
    go : Dec (i < 8 * n) → bit_at (replicate n 0) i ≡ 0
    go (yes l) = bit_replicate n 0 i l ∙ bit_zero (i % 8)
    go (no l) = bit_past_end (replicate n 0) i (omega (arith, length-replicate {A = ℕ} n 0))

pub bit_all_one : (n i : ℕ) → i < 8 * n → bit_at (replicate n 255) i ≡ 1
bit_all_one n i h = bit_replicate n 255 i h ∙ bit_ones 8 (i % 8) (omega arith)

-- ---- a map is known by its bits

pub map_ext : (map other : List ℕ) → Bytes map → Bytes other → length map ≡ length other
    → ((i : ℕ) → i < 8 * length map → bit_at map i ≡ bit_at other i) → map ≡ other
unfolding Bytes
map_ext map other bm bo e h = ext_get_or 0 map other e byte
  where
    byte : (j : ℕ) → j < length map → get_or map j 0 ≡ get_or other j 0
    byte j l =
        bits_ext 8 (get_or map j 0) (get_or other j 0) (bm j) (bo j)
        (λ k s. sym (bit_of_byte map j k s) ∙ h (8 * j + k) (omega arith) ∙ bit_of_byte other j k s)
