-- Laws of the count maps of a list of counts: what they say of a block, a count written, and that they are known by their counts.
use mathlib.Core.Path.{◌≡◌, refl, sym, ap, ◌∙◌}
use mathlib.Core.List.{List}
use Prim.Native.Nat.{ℕ, zero, suc, ◌+◌, ◌*◌, ◌/◌, ◌%◌, ◌^◌, ◌≤◌, ◌<◌}
use native.Mathlib.Decide.{ℕ_discrete}
use native.Mathlib.Omega.{arith}
use lib.ListN.{length, get_or, set, replicate, length-set, length-replicate}
use lib.Pow.{pow_pos}
use lib.Seq.{get_or-set_same, get_or-set_other}
use borrow.Rule.Slice.PartMut.{put_mid}
use Rattle.std.proofs.Common.{rules}
use Rattle.std.proofs.slice.Indexed.{places}
use Rattle.bitmap.specs.Bit.{bit_of, bit_at, Bytes}
use Rattle.bitmap.proofs.Bits.{bits_ext}
use Rattle.bitmap.proofs.Maps.{bytes_replicate, bit_of_byte}
use Rattle.planes.proofs.PlaneBits.{plane_inside}
use Rattle.planes.specs.Plane.{plane_bit, count_at, set_count}
use Rattle.planes.proofs.Counts.{count_lt, count_bit, count_all_zero, length_set_count, bytes_set_count, count_set_same, count_set_other, set_count_there, counts_ext}
use Rattle.section_words.specs.Words.{Digits}
use Rattle.collect_counts.specs.Counts.{Counting, maps_below, count_maps, MapWritten}

-- ---- the maps of the first n counts

module _ (bytes w : ℕ) (at : List ℕ) where
  length_below : (n : ℕ) → length (maps_below bytes w at n) ≡ w * bytes
  unfolding maps_below
  length_below zero = length-replicate (w * bytes) 0
  length_below (suc n) = length_set_count bytes w (maps_below bytes w at n) n (get_or at n 0) ∙ length_below n

  bytes_below : (n : ℕ) → Bytes (maps_below bytes w at n)
  unfolding maps_below
  bytes_below zero = bytes_replicate (w * bytes) 0 (omega arith)
  bytes_below (suc n) = bytes_set_count bytes w (maps_below bytes w at n) n (get_or at n 0) (bytes_below n)

  count_below_lem : ((i : ℕ) → get_or at i 0 < 2 ^ w) → (n b : ℕ) → n ≤ 8 * bytes → b < n → count_at bytes w (maps_below bytes w at n) b ≡ get_or at b 0
  unfolding maps_below
  count_below_lem fits zero b h l = absurd (omega arith)
  count_below_lem fits (suc n) b h l = elim (ℕ_discrete b n) [
    | yes e ↦
        ap (count_at bytes w (set_count bytes w (maps_below bytes w at n) n (get_or at n 0))) e
        ∙ count_set_same bytes w (maps_below bytes w at n) n (get_or at n 0) (omega arith) (omega (arith, length_below n)) (fits n)
        ∙ ap (λ (i : ℕ). get_or at i 0) (sym e)
    | no d ↦
        count_set_other bytes w (maps_below bytes w at n) n (get_or at n 0) b (omega arith) (omega arith) d
        ∙ count_below_lem fits n b (omega arith) (omega arith)
  ]

  -- where every count is 0, so are the maps
  below_none : ((i : ℕ) → get_or at i 0 ≡ 0) → (n : ℕ) → maps_below bytes w at n ≡ replicate (w * bytes) 0
  unfolding maps_below
  below_none none zero = refl
  below_none none (suc n) =
      ap (λ (c : List ℕ). set_count bytes w c n (get_or at n 0)) (below_none none n)
      ∙ set_count_there bytes w (replicate (w * bytes) 0) n (get_or at n 0) (count_all_zero bytes w (w * bytes) n ∙ sym (none n))

-- ---- the maps of N blocks

pub maps_length : (N w : ℕ) (at : List ℕ) → length (count_maps N w at) ≡ w * (N / 8)
unfolding count_maps
maps_length N w at = length_below (N / 8) w at N

pub maps_none : (N w : ℕ) (at : List ℕ) → ((i : ℕ) → get_or at i 0 ≡ 0) → count_maps N w at ≡ replicate (w * (N / 8)) 0
unfolding count_maps
maps_none N w at none = below_none (N / 8) w at none N

-- a list of zeros counts
pub counting_none : (N w : ℕ) (at : List ℕ) → N ≤ length at → ((i : ℕ) → get_or at i 0 ≡ 0) → Counting N w at
counting_none N w at long none = record { long = long; fits = λ i. omega (arith, none i, pow_pos w) }

module _ {N w : ℕ} {at : List ℕ} (eighths : N ≡ 8 * (N / 8)) (counting : Counting N w at) where
  -- the count of a block
  pub maps_count : (b : ℕ) → b < N → get_or at b 0 ≡ count_at (N / 8) w (count_maps N w at) b
  unfolding count_maps
  maps_count b l = sym (count_below_lem (N / 8) w at counting.fits N b (omega arith) l)

  -- maps with these counts
  pub maps_are : (counts : List ℕ) → Bytes counts → length counts ≡ w * (N / 8)
      → ((b : ℕ) → b < N → count_at (N / 8) w counts b ≡ get_or at b 0) → counts ≡ count_maps N w at
  unfolding count_maps
  maps_are counts small long same =
      counts_ext (N / 8) w counts (count_maps N w at) small (bytes_below (N / 8) w at N) long (maps_length N w at)
      (λ b l. same b (omega arith) ∙ maps_count b (omega arith))

-- ---- a count written

module _ {N w : ℕ} {at : List ℕ} (eighths : N ≡ 8 * (N / 8)) (counting : Counting N w at) (i v : ℕ) (inside : i < N) (less : v < 2 ^ w) where
  here : get_or (set at i v) i 0 ≡ v
  here = get_or-set_same at i v 0 (omega (arith, counting.long))

  pub counting_set : Counting N w (set at i v)
  counting_set = record {
    long = omega (arith, counting.long, length-set at i v);
    fits = λ b. elim (ℕ_discrete b i) [
      | yes e ↦ rw (e, here) less
      | no d ↦ rw (get_or-set_other at i b v 0 d) (counting.fits b)
    ];
  }

  pub maps_set : count_maps N w (set at i v) ≡ set_count (N / 8) w (count_maps N w at) i v
  unfolding count_maps
  maps_set =
      let maps : List ℕ = count_maps N w at in
      let long : length maps ≡ w * (N / 8) = maps_length N w at in
      sym
      (maps_are eighths counting_set (set_count (N / 8) w maps i v)
      (bytes_set_count (N / 8) w maps i v (bytes_below (N / 8) w at N))
      (length_set_count (N / 8) w maps i v ∙ long)
      (λ b l. elim (ℕ_discrete b i) [
        | yes e ↦
            ap (count_at (N / 8) w (set_count (N / 8) w maps i v)) e ∙ count_set_same (N / 8) w maps i v (omega arith) (omega arith) less
            ∙ sym (ap (λ (k : ℕ). get_or (set at i v) k 0) e ∙ here)
        | no d ↦
            count_set_other (N / 8) w maps i v b (omega arith) (omega arith) d ∙ sym (maps_count eighths counting b l)
            ∙ sym (get_or-set_other at i b v 0 d)
      ]))

-- ---- the maps written byte by byte

-- bit p of each of eight counts, in one word
pub word_bit : (at : List ℕ) (k p word : ℕ) → Digits 64 at (8 * (8 * k)) word → p < 8
    → (s : ℕ) → s < 8 → bit_of word (p + 8 * s) ≡ bit_of (get_or at (8 * k + s) 0) p
word_bit at k p word digits hp s l =
    let place : 8 * (8 * k) + (p + 8 * s) ≡ 8 * (8 * k + s) + p = omega arith in
    digits.each (p + 8 * s) (omega arith) ∙ ap (bit_at at) place ∙ bit_of_byte at (8 * k + s) p hp

-- one byte more
pub map_more : {at : List ℕ} {p k : ℕ} {map : List ℕ} (v : ℕ) → MapWritten at p k map → k < length map
    → ((s : ℕ) → s < 8 → bit_of v s ≡ bit_of (get_or at (8 * k + s) 0) p) → MapWritten at p (k + 1) (set map k v)
map_more {at} {p} {k} {map} v so_far inside digits = record {
  bits = λ j s l u. elim (ℕ_discrete j k) [
    | yes e ↦ rw (e, get_or-set_same map k v 0 inside) (digits s u)
    | no d ↦ rw (get_or-set_other map k j v 0 d) (so_far.bits j s (omega arith) u)
  ];
}

-- the first p maps are written
pub record MapsWritten (at : List ℕ) (bytes p : ℕ) (counts : List ℕ) : Type 0 where
  pub bits : (q j s : ℕ) → q < p → j < bytes → s < 8 → bit_of (get_or counts (q * bytes + j) 0) s ≡ bit_of (get_or at (8 * j + s) 0) q

-- a part that is written over, and what stands before it
part_byte : (from n : ℕ) (counts part : List ℕ) (j : ℕ) → from ≤ length counts → j < length part
    → get_or (put_mid from n counts part) (from + j) 0 ≡ get_or part j 0
part_byte from n counts part j h l = search (rules, places)

byte_before : (from n : ℕ) (counts part : List ℕ) (j : ℕ) → from ≤ length counts → j < from
    → get_or (put_mid from n counts part) j 0 ≡ get_or counts j 0
byte_before from n counts part j h l = search (rules, places)

-- one map more
pub maps_more : {at : List ℕ} {bytes p : ℕ} {counts part : List ℕ} (n : ℕ) → p * bytes ≤ length counts → length part ≡ bytes
    → MapsWritten at bytes p counts → MapWritten at p (length part) part → MapsWritten at bytes (p + 1) (put_mid (p * bytes) n counts part)
maps_more {at} {bytes} {p} {counts} {part} n inside long so_far map = record {
  bits = λ q j s l u v. elim (ℕ_discrete q p) [
    | yes e ↦ rw (e, part_byte (p * bytes) n counts part j inside (omega arith)) (map.bits j s (omega arith) v)
    | no d ↦
        rw (byte_before (p * bytes) n counts part (q * bytes + j) inside (omega (arith, plane_inside bytes q p (omega arith))))
        (so_far.bits q j s (omega arith) u v)
  ];
}

-- all of them: the counts are those of `at`
pub maps_written : {N w : ℕ} {at counts : List ℕ} → N ≡ 8 * (N / 8) → Counting N w at → Bytes counts → length counts ≡ w * (N / 8)
    → MapsWritten at (N / 8) w counts → counts ≡ count_maps N w at
maps_written {N} {w} {at} {counts} eighths counting small long all = maps_are eighths counting counts small long same
  where
    bit : (b k : ℕ) → b < N → k < w → bit_at counts (plane_bit (N / 8) k b) ≡ bit_of (get_or at b 0) k
    bit b k l u =
        let place : plane_bit (N / 8) k b ≡ 8 * (k * (N / 8) + b / 8) + b % 8 = omega arith in
        let there : 8 * (b / 8) + b % 8 ≡ b = omega arith in
        ap (bit_at counts) place ∙ bit_of_byte counts (k * (N / 8) + b / 8) (b % 8) (omega arith)
        ∙ all.bits k (b / 8) (b % 8) u (omega arith) (omega arith) ∙ ap (λ (y : ℕ). bit_of (get_or at y 0) k) there

    same : (b : ℕ) → b < N → count_at (N / 8) w counts b ≡ get_or at b 0
    same b l =
        bits_ext w (count_at (N / 8) w counts b) (get_or at b 0) (count_lt (N / 8) w counts b) (counting.fits b)
        (λ k u. count_bit (N / 8) w counts b k u ∙ bit b k l u)
