-- The search for chunks of a size that goes on where it last found one.
use mathlib.Core.Path.{◌≡◌, refl, sym, ap, ap₂, ◌∙◌, subst}
use mathlib.Core.Logic.{◌⊎◌, inl, inr}
use mathlib.Core.Bool.{true, false}
use mathlib.Core.List.{List}
use mathlib.Core.Option.{none, some}
use Rattle.std.specs.Prelude.{Option as CodeOption, None, Some}
use Rattle.std.proofs.lemmas.Option.{same_Some}
use Prim.Native.Nat.{ℕ, zero, suc, ◌+◌, ◌-◌, ◌*◌, ◌/◌, ◌%◌, ◌^◌, ◌≤◌, ◌<◌}
use native.Mathlib.Nat.{suc-mul, add-mul, mul-div_cancel, div-eq_of_lt, div-add-mod', mul-mod_left, mod_self, zero-mod, pow-suc}
use native.Mathlib.Nat.{le_of_mul-le-mul_right, mul-lt-mul_of_pos_right}
use native.Mathlib.Decide.{ℕ_discrete, dec_lt}
use native.Mathlib.Omega.{arith}
use lib.Count.{count_trailing_zeros}
use lib.ListN.{length, get_or, set, replicate, length-set, length-replicate}
use lib.Seq.{get_or-set_same, get_or-set_other}
use lib.Pow.{pow_pos, pow_mono, pow-lt}
use Rattle.bitmap.specs.Bit.{bit_at, fill_bits}
use Rattle.bitmap.proofs.Runs.{length_fill, bit_fill_in, bit_fill_out}
use Rattle.rules.specs.Heap.{is_blocks, exponent, chunk_free, lowest_from, lowest_free}
use Rattle.rules.proofs.Tests.{false_unless}
use Rattle.rules.proofs.Shape.{blocks_facts, blocks_le, blocks_power}
use Rattle.rules.proofs.Chunks.{Used, exponent_covers, exponent_least, chunk_free_lem, free_not_used}
use Rattle.theory_memories.proofs.Maps.LowestChunk.{lowest_some}
use Rattle.theory_graphs.proofs.Graphs.Stretch.{side}
use Rattle.theory_memories.proofs.Memories.Formatted.{zeros_at}
use Rattle.search_walk.specs.Search.{Part, answered, lowest_in, Search}
use Rattle.search_walk.proofs.Answered.{answered_none, answered_some}
use Rattle.search_walk.proofs.LowestChunk.{multiple_lower}
use Rattle.copy_plan.specs.Laying.{PassedOver, Sought, LaidOne}

-- ---- sizes

-- an object larger than the heap finds no chunk
pub too_large : (M n : ℕ) (a : List ℕ) → M < n → lowest_free M (exponent n) a ≡ none
unfolding lowest_free lowest_from
too_large M n a l =
    let none_whole : M / 2 ^ exponent n ≡ 0 = div-eq_of_lt (omega (arith, exponent_covers n)) in
    rw (none_whole, lowest_from)

-- the chunk of any other is not larger than the heap, whose size is a power of two
pub chunk_fits : (M n : ℕ) → is_blocks M ≡ true → n ≤ M → 2 ^ exponent n ≤ M
chunk_fits M n blocks l =
    let power = blocks_power M blocks in
    omega (arith, power.1, pow_mono {i = exponent n} {j = power.0} (exponent_least n power.0 (omega (arith, power.1))))

-- ---- one size

module _ (k : ℕ) (a : List ℕ) where
  -- c used chunks are passed over
  skip : (c n i : ℕ) → ((j : ℕ) → j < c → Used a (i + j * 2 ^ k) (2 ^ k)) → lowest_from (c + n) k a i ≡ lowest_from n k a (i + c * 2 ^ k)
  unfolding lowest_from
  skip zero n i used =
      let count : 0 + n ≡ n = omega arith in
      let place : i + 0 * 2 ^ k ≡ i = omega arith in
      rw (count, place) refl
  skip (suc c) n i used =
      let count : suc c + n ≡ suc (c + n) = omega arith in
      let first : i + 0 * 2 ^ k ≡ i = omega arith in
      let here : Used a i (2 ^ k) = rw first at (used 0 (omega arith)) in
      let not_free : chunk_free k a i ≡ false = false_unless (chunk_free k a i) (λ f. free_not_used a i (2 ^ k) (chunk_free_lem k a i f) here) in
      let later : (j : ℕ) → i + suc j * 2 ^ k ≡ i + 2 ^ k + j * 2 ^ k = λ j. omega (arith, suc-mul j (2 ^ k)) in
      let rest = skip c n (i + 2 ^ k) (λ j l. rw (later j) at (used (suc j) (omega arith))) in
      ap (λ (m : ℕ). lowest_from m k a i) count ∙ rw (not_free, lowest_from) rest ∙ ap (lowest_from n k a) (sym (later c))

  -- so the search from there on is that of the whole heap
  pub search_whole : (M from : ℕ) → PassedOver M k a from → lowest_in from M k a ≡ lowest_free M k a
  unfolding lowest_in lowest_free
  search_whole M from p =
      let f : ℕ = from / 2 ^ k in
      let t : ℕ = M / 2 ^ k in
      let from_is : f * 2 ^ k ≡ from = omega (arith, div-add-mod' from (2 ^ k), p.part.from_chunk) in
      let to_is : t * 2 ^ k ≡ M = omega (arith, div-add-mod' M (2 ^ k), p.part.to_chunk) in
      let upward : f ≤ t = le_of_mul-le-mul_right (omega (arith, p.part.upward)) (pow_pos k) in
      let both : t - f + f ≡ t = omega arith in
      let length_is : M - from ≡ (t - f) * 2 ^ k = omega (arith, add-mul (t - f) f (2 ^ k), ap (λ (x : ℕ). x * 2 ^ k) both) in
      let chunks : (M - from) / 2 ^ k ≡ t - f = ap (λ (x : ℕ). x / 2 ^ k) length_is ∙ mul-div_cancel (t - f) (pow_pos k) in
      let count : f + (t - f) ≡ t = omega arith in
      let place : 0 + f * 2 ^ k ≡ from = omega arith in
      let used : (j : ℕ) → j < f → Used a (0 + j * 2 ^ k) (2 ^ k) = λ j l.
      let here : j * 2 ^ k ≡ 0 + j * 2 ^ k = omega arith in
      rw here at (p.used (j * 2 ^ k) (mul-mod_left j (2 ^ k)) (omega (arith, mul-lt-mul_of_pos_right l (pow_pos k)))) in
      ap₂ (λ (n i : ℕ). lowest_from n k a i) chunks (sym place) ∙ sym (skip f (t - f) 0 used) ∙ ap (λ (n : ℕ). lowest_from n k a 0) count

-- ---- where a search can go on

part_of : (M k from : ℕ) → is_blocks M ≡ true → 2 ^ k ≤ M → from ≤ M → from % 8 ≡ 0 → from % 2 ^ k ≡ 0 → Part from M (2 ^ k)
part_of M k from blocks l upward bytes chunks =
    let power = blocks_power M blocks in
    let m : ℕ = power.0 in
    let least : k ≤ m = omega (arith, exponent_le k m (omega (arith, power.1))) in
    record {
      exponent = k;
      power = refl;
      upward = upward;
      from_chunk = chunks;
      to_chunk = multiple_lower k m M least (ap (λ (x : ℕ). x % 2 ^ m) power.1 ∙ mod_self (2 ^ m));
      from_byte = bytes;
      to_byte = omega (arith, (blocks_facts M blocks).2);
    }
  where
    exponent_le : (k j : ℕ) → 2 ^ k ≤ 2 ^ j → k ≤ j
    exponent_le k j h = elim (dec_lt j k) [ yes u ↦ absurd (omega (arith, pow-lt {i = j} {j = k} u)) | no u ↦ omega arith ]

module _ (M k : ℕ) (a : List ℕ) (blocks : is_blocks M ≡ true) (fits : 2 ^ k ≤ M) where
  passed_none : PassedOver M k a 0
  passed_none =
      record { part = part_of M k 0 blocks fits (omega arith) (omega arith) (zero-mod (2 ^ k)); used = λ i e l. absurd (omega arith) }

  -- at the whole byte in which the lowest free chunk starts
  passed_lowest : (at : ℕ) → lowest_free M k a ≡ some at → PassedOver M k a (at - at % 8)
  passed_lowest at e =
      let found = lowest_some M k a at e in
      let bytes : (at - at % 8) % 8 ≡ 0 = omega arith in
      let chunks : (at - at % 8) % 2 ^ k ≡ 0 = elim (dec_lt 3 k) [
        | yes u ↦
            let whole : at % 8 ≡ 0 = multiple_lower 3 k at (omega arith) found.aligned in
            let same : at - at % 8 ≡ at = omega arith in
            ap (λ (x : ℕ). x % 2 ^ k) same ∙ found.aligned
        | no u ↦ multiple_lower k 3 (at - at % 8) (omega arith) bytes
      ] in
      record {
        part = part_of M k (at - at % 8) blocks fits (omega (arith, found.inside)) bytes chunks;
        used = λ i starts l.
            let whole : i / 2 ^ k * 2 ^ k ≡ i = omega (arith, div-add-mod' i (2 ^ k)) in
            rw whole at (found.lowest (i / 2 ^ k) (omega arith));
      }

-- what is used stays so where more becomes used
module _ (a : List ℕ) (at n : ℕ) (inside : at + n ≤ 8 * length a) where
  still_used : (i size : ℕ) → Used a i size → Used (fill_bits a at n 1) i size
  still_used i size (j, l, u, one) = (j, l, u, stays (side at n j))
    where
      stays : ((at ≤ j) × (j < at + n)) ⊎ ((j < at) ⊎ (at + n ≤ j)) → bit_at (fill_bits a at n 1) j ≡ 1
      stays (inl (lo, hi)) = bit_fill_in a at n 1 j inside (omega arith) lo hi
      stays (inr o) = bit_fill_out a at n 1 j (omega arith) o ∙ one

  still_passed : (M k from : ℕ) → PassedOver M k a from → PassedOver M k (fill_bits a at n 1) from
  still_passed M k from p = record { part = p.part; used = λ i starts l. still_used i (2 ^ k) (p.used i starts l) }

-- ---- all sizes

pub sought_start : (M : ℕ) → is_blocks M ≡ true → Sought M (replicate (M / 8) 0) (replicate 17 0)
sought_start M blocks =
    record {
      blocks = blocks;
      length_map = length-replicate (M / 8) 0;
      length_from = refl;
      passed = λ k l. subst (PassedOver M k (replicate (M / 8) 0)) (sym (zeros_at 17 k)) (passed_none M k (replicate (M / 8) 0) blocks l);
    }

module _ (M n : ℕ) (a from : List ℕ) (s : Sought M a from) where
  pub laid_nowhere : (a' from' : List ℕ) → lowest_free M (exponent n) a ≡ none → LaidOne M n a a' from' None
  laid_nowhere a' from' e =
      record { lowest = ap answered (sym e); below = λ i d. cc; map_is = λ i d. cc; sought = λ i d. cc }

  module _ (fits : n ≤ M) where
    abbrev k : ℕ
    k = exponent n

    chunk : 2 ^ k ≤ M
    chunk = chunk_fits M n s.blocks fits

    pub search_part : Part (get_or from k 0) M (2 ^ k)
    search_part = (s.passed k chunk).part

    -- what the search from there on found is the heap's lowest free chunk
    pub search_is : (at : CodeOption ℕ) (looks : ℕ) → Search (get_or from k 0) M k (lowest_in (get_or from k 0) M k a) at looks
        → at ≡ answered (lowest_free M k a)
    search_is at looks found = found.at_is ∙ ap answered (search_whole k a M (get_or from k 0) (s.passed k chunk))

    module _ (at : ℕ) (is : lowest_free M k a ≡ some at) where
      pub place_inside : at + n ≤ M
      place_inside = omega (arith, (lowest_some M k a at is).inside, exponent_covers n)

      pub laid_there : LaidOne M n a (fill_bits a at n 1) (set from k (at - at % 8)) (Some at)
      laid_there =
          let below : at < M = omega (arith, (lowest_some M k a at is).inside, pow_pos k) in
          record {
            lowest = ap answered (sym is);
            below = λ i e. omega (arith, same_Some at i e);
            map_is = λ i e. ap (λ (x : ℕ). fill_bits a x n 1) (same_Some at i e);
            sought = λ i e. record {
              blocks = s.blocks;
              length_map = length_fill a at n 1 ∙ s.length_map;
              length_from = length-set from k (at - at % 8) ∙ s.length_from;
              passed = passed;
            };
          }
        where
          inside : at + n ≤ 8 * length a
          inside = omega (arith, place_inside, s.length_map, (blocks_facts M s.blocks).2)

          few : k < length from
          few = omega (arith, s.length_from, exponent_least n 16 (omega (arith, blocks_le M s.blocks)))

          passed : (j : ℕ) → 2 ^ j ≤ M → PassedOver M j (fill_bits a at n 1) (get_or (set from k (at - at % 8)) j 0)
          passed j l = elim (ℕ_discrete j k) [
            | yes e ↦
                subst (λ (x : ℕ). PassedOver M x (fill_bits a at n 1) (get_or (set from k (at - at % 8)) x 0)) (sym e)
                (subst (PassedOver M k (fill_bits a at n 1)) (sym (get_or-set_same from k (at - at % 8) 0 few))
                (still_passed a at n inside M k (at - at % 8) (passed_lowest M k a s.blocks chunk at is)))
            | no o ↦
                subst (PassedOver M j (fill_bits a at n 1)) (sym (get_or-set_other from k j (at - at % 8) 0 o))
                (still_passed a at n inside M j (get_or from j 0) (s.passed j l))
          ]

-- ---- as the code has it: `size` is the chunk's, and r its exponent, which its lowest bit tells

trailing_power : (m k : ℕ) → k < m → count_trailing_zeros m (2 ^ k) ≡ k
unfolding count_trailing_zeros
trailing_power zero k l = absurd (omega arith)
trailing_power (suc m) zero l = refl
trailing_power (suc m) (suc k) l =
    let even : 2 ^ suc k % 2 ≡ 0 = omega (arith, pow-suc 2 k) in
    let half : 2 ^ suc k / 2 ≡ 2 ^ k = omega (arith, pow-suc 2 k) in
    rw (even, half, count_trailing_zeros) (ap suc (trailing_power m k (omega arith)))

module _ (M n : ℕ) (a from : List ℕ) (s : Sought M a from) (fits : n ≤ M) (size r : ℕ) (size-is : size ≡ 2 ^ exponent n)
    (r-is : r ≡ count_trailing_zeros 64 size) where
  pub few : exponent n ≤ 16
  few = exponent_least n 16 (omega (arith, blocks_le M s.blocks))

  pub exponent_is : r ≡ exponent n
  exponent_is = r-is ∙ ap (count_trailing_zeros 64) size-is ∙ trailing_power 64 (exponent n) (omega (arith, few))

  pub part_there : Part (get_or from r 0) M size
  part_there = rw (size-is, exponent_is) (search_part M n a from s fits)

  module _ (at : CodeOption ℕ) (looks : ℕ)
      (found : (k : ℕ) → size ≡ 2 ^ k → Search (get_or from r 0) M k (lowest_in (get_or from r 0) M k a) at looks) where
    place : at ≡ answered (lowest_free M (exponent n) a)
    place = search_is M n a from s fits at looks (rw exponent_is at (found (exponent n) size-is))

    pub laid_none : (a' from' : List ℕ) → at ≡ None → LaidOne M n a a' from' None
    laid_none a' from' e = laid_nowhere M n a from s a' from' (answered_none _ (sym e ∙ place))

    module _ (i : ℕ) (is : at ≡ Some i) where
      chosen : lowest_free M (exponent n) a ≡ some i
      chosen = answered_some _ i (sym is ∙ place)

      pub fill_inside : i + n ≤ 8 * length a
      fill_inside = omega (arith, place_inside M n a from s fits i chosen, s.length_map, (blocks_facts M s.blocks).2)

      pub laid_some : LaidOne M n a (fill_bits a i n 1) (set from r (i - i % 8)) (Some i)
      laid_some = rw exponent_is (laid_there M n a from s fits i chosen)
