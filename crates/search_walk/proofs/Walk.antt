-- Laws of the walk up the map that searches a free chunk: blocks are looked at from the value of their byte, the length of the free stretch
-- is kept, and a chunk is judged from it where it ends.
use mathlib.Core.Path.{◌≡◌, refl, sym, ap, ◌∙◌, subst, subst⁻¹}
use mathlib.Core.Logic.{◌⊎◌, inl, inr}
use mathlib.Core.Bool.{true, false, true≢false}
use mathlib.Core.List.{List}
use Rattle.std.specs.Prelude.{None, Some}
use Prim.Native.Nat.{ℕ, ◌+◌, ◌-◌, ◌/◌, ◌%◌, ◌^◌, ◌≤◌, ◌<◌}
use native.Mathlib.Decide.{dec_lt}
use native.Mathlib.Omega.{arith}
use lib.Dec.{leb, eqb}
use lib.ListN.{get_or}
use lib.Pow.{pow_pos, pow_mono}
use lib.Count.{count_leading_zeros}
use borrow.Author.Tests.{le-leb, leb-true, eq-eqb, eqb-true}
use Rattle.bitmap.specs.Bit.{bit_at}
use Rattle.rules.proofs.Tests.{and_true}
use Rattle.rules.proofs.Chunks.{Free, Used}
use Rattle.search_walk.specs.Search.{judged_free, Part, lowest_in, Search}
use Rattle.search_walk.proofs.Parts.{Tail, part_of, part_whole, part_free, part_used, byte_free, byte_full}
use Rattle.search_size.proofs.Powers.{exponent_lt}
use Rattle.search_walk.proofs.LowestChunk.{Missed, multiples_apart, sum_multiple, multiple_lower, search_found, search_none}

-- `looks` blocks are looked at, the free stretch that ends there is `stretch` blocks long, and no chunk that ends before block `judged` is free
pub record Walked (from to : ℕ) (a : List ℕ) (size looks stretch judged : ℕ) : Type 0 where
  pub inside : from + looks ≤ to
  pub within : stretch ≤ looks
  pub free : Free a (from + looks - stretch) stretch
  pub used : stretch < looks → bit_at a (from + looks - stretch - 1) ≡ 1
  pub missed : Missed a size from judged

pub size_positive : (from to size : ℕ) → Part from to size → 0 < size
size_positive from to size part = omega (arith, part.power, pow_pos part.exponent)

pub walked_start : (from to : ℕ) (a : List ℕ) (size : ℕ) → Part from to size → Walked from to a size 0 0 (from + 0 + 1)
walked_start from to a size part =
    record {
      inside = omega (arith, part.upward);
      within = omega arith;
      free = λ j l u. absurd (omega arith);
      used = λ l. absurd (omega arith);
      missed = λ e l u m. absurd (omega (arith, size_positive from to size part));
    }

-- ---- a chunk, judged from the stretch

pub judged_true : (end size stretch : ℕ) → judged_free end size stretch ≡ true → (size ≤ stretch) × (end % size ≡ 0)
unfolding judged_free
judged_true end size stretch e =
    let (enough, ends) = and_true (leb size stretch) (eqb (end % size) 0) e in
    (leb-true size stretch enough, eqb-true (end % size) 0 ends)

pub judged_false : (end size stretch : ℕ) → judged_free end size stretch ≡ false → size ≤ stretch → end % size ≡ 0 → ⊥
unfolding judged_free
judged_false end size stretch e enough ends = true≢false (sym (rw (le-leb size stretch enough, eq-eqb (end % size) 0 ends, judged_free)) ∙ e)

module _ (from to : ℕ) (a : List ℕ) (size looks stretch : ℕ) where
  -- ---- n more blocks are looked at

  module _ (walk : Walked from to a size looks stretch (from + looks + 1)) (n : ℕ) (inside : from + (looks + n) ≤ to) where
    -- all of them free, and no chunk ends among them but at the last
    pub more_free : Free a (from + looks) n → ((e : ℕ) → from + looks < e → e < from + (looks + n) → e % size ≡ 0 → ⊥)
        → Walked from to a size (looks + n) (stretch + n) (from + (looks + n))
    more_free free between =
        record {
          inside = inside;
          within = omega (arith, walk.within);
          free = λ j l u. elim (dec_lt j (from + looks)) [
            | yes v ↦ walk.free j (omega (arith, walk.within)) (omega (arith, walk.within))
            | no v ↦ free j (omega arith) (omega (arith, walk.within))
          ];
          used = λ l.
              let same : from + (looks + n) - (stretch + n) - 1 ≡ from + looks - stretch - 1 = omega arith in
              ap (bit_at a) same ∙ walk.used (omega arith);
          missed = λ e l u m. elim (dec_lt e (from + looks + 1)) [
            | yes v ↦ walk.missed e l v m
            | no v ↦ absurd (between e (omega arith) u m)
          ];
        }

    -- the last `zeros` of them free, the one before them used, and no chunk that ends among them free
    pub more_used : (zeros : ℕ) → Tail a (from + looks) n zeros
        → ((e : ℕ) → from + looks < e → e ≤ from + (looks + n) → e % size ≡ 0 → Used a (e - size) size)
        → Walked from to a size (looks + n) zeros (from + (looks + n) + 1)
    more_used zeros tail among =
        let end_is : from + looks + n ≡ from + (looks + n) = omega arith in
        record {
          inside = inside;
          within = omega (arith, tail.within);
          free = λ j l u. tail.free j (omega arith) (omega arith);
          used = λ _. ap (λ (x : ℕ). bit_at a (x - zeros - 1)) (sym end_is) ∙ tail.used;
          missed = λ e low u m. elim (dec_lt e (from + looks + 1)) [
            | yes v ↦ walk.missed e low v m
            | no v ↦ among e (omega arith) (omega arith) m
          ];
        }

  -- ---- the chunk that ends here is judged

  module _ (walk : Walked from to a size looks stretch (from + looks)) where
    pub judged_free_lem : Part from to size → judged_free (from + looks) size stretch ≡ true
        → (k : ℕ) → size ≡ 2 ^ k → Search from to k (lowest_in from to k a) (Some (from + looks - size)) looks
    judged_free_lem part judged k e =
        let (enough, ends) = judged_true (from + looks) size stretch judged in
        let walk' = subst (λ (s : ℕ). Walked from to a s looks stretch (from + looks)) e walk in
        subst⁻¹ (λ (s : ℕ). Search from to k (lowest_in from to k a) (Some (from + looks - s)) looks) e
        (search_found k a from to looks (subst (Part from to) e part) walk.inside (omega (arith, walk.within))
        (subst (λ (s : ℕ). (from + looks) % s ≡ 0) e ends) walk'.missed
        (λ j l u. walk.free j (omega (arith, walk.within)) (omega (arith, walk.within))))

    pub judged_used : judged_free (from + looks) size stretch ≡ false → Walked from to a size looks stretch (from + looks + 1)
    judged_used judged =
        record {
          inside = walk.inside;
          within = walk.within;
          free = walk.free;
          used = walk.used;
          missed = λ e l u m. elim (dec_lt e (from + looks)) [
            | yes v ↦ walk.missed e l v m
            | no v ↦
                let here : e ≡ from + looks = omega arith in
                let ends : (from + looks) % size ≡ 0 = ap (λ (x : ℕ). x % size) (sym here) ∙ m in
                elim (dec_lt stretch size) [
                  | yes w ↦ (from + looks - stretch - 1, omega arith, omega arith, walk.used (omega arith))
                  | no w ↦ absurd (judged_false (from + looks) size stretch judged (omega arith) ends)
                ]
          ];
        }

  -- nothing is left
  pub walked_none : Walked from to a size looks stretch (from + looks + 1) → Part from to size → from + looks ≡ to
      → (k : ℕ) → size ≡ 2 ^ k → Search from to k (lowest_in from to k a) None looks
  walked_none walk part done k e =
      search_none k a from to looks (subst (Part from to) e part) done
      (λ end l u m. subst (λ (s : ℕ). Missed a s from (from + looks + 1)) e walk.missed end l (omega arith) m)

-- ---- the steps of the search: at a byte's first block ..

-- the block before the free ones at the end lies in every chunk that ends with them
tail_covered : (a : List ℕ) (i n zeros size : ℕ) → n ≤ size → Tail a i n zeros → Used a (i + n - size) size
tail_covered a i n zeros size l tail =
    let within : zeros < n = tail.within in
    (i + n - zeros - 1, omega arith, omega arith, tail.used)

-- the chunk from block `from + looks` on, block i of the byte that starts at block p
pub record ChunkAt (from to size looks p i : ℕ) : Type 0 where
  pub within : i + size ≤ 8
  pub inside : from + (looks + size) ≤ to
  pub at : from + looks ≡ p + i
  pub byte_starts : p % 8 ≡ 0
  pub starts : (from + looks) % size ≡ 0

module _ (from to : ℕ) (a : List ℕ) (size looks stretch : ℕ) (part : Part from to size)
    (walk : Walked from to a size looks stretch (from + looks + 1)) (starts : (from + looks) % 8 ≡ 0) (more : from + looks ≡ to → ⊥) where
  -- chunks of less than eight blocks start and end there too
  small_starts : size < 8 → (from + looks) % size ≡ 0
  small_starts small =
      let lower = multiple_lower part.exponent 3 (from + looks) (omega (arith, exponent_lt part.exponent 3 (omega (arith, part.power)))) starts in
      ap (λ (s : ℕ). (from + looks) % s) part.power ∙ lower

  -- larger ones start and end at bytes alone
  large_ends : 8 ≤ size → (e : ℕ) → e % size ≡ 0 → e % 8 ≡ 0
  large_ends large e m =
      let least : 3 ≤ part.exponent =
      elim (dec_lt part.exponent 3) [
        | yes l ↦ absurd (omega (arith, part.power, pow_mono {i = part.exponent} {j = 2} (omega arith)))
        | no l ↦ omega arith
      ] in
      multiple_lower 3 part.exponent e least (ap (λ (s : ℕ). e % s) (sym part.power) ∙ m)

  pub byte_inside : from + looks + 8 ≤ to
  byte_inside = omega (arith, walk.inside, part.to_byte)

  -- its blocks are free, and no chunk ends before the last: eight are looked at
  pub free_byte : 8 ≤ size → get_or a ((from + looks) / 8) 0 ≡ 0 → Walked from to a size (looks + 8) (stretch + 8) (from + (looks + 8))
  free_byte large zero =
      more_free from to a size looks stretch walk 8 (omega (arith, byte_inside)) (byte_free a (from + looks) starts zero)
      (λ e l u m. omega (arith, large_ends large e m))

  -- all are used, and so are the chunks that end among them
  full_byte : get_or a ((from + looks) / 8) 0 ≡ 255 → (e : ℕ) → from + looks < e → e ≤ from + (looks + 8) → Used a (e - size) size
  full_byte full e l u =
      let positive = size_positive from to size part in
      (e - 1, omega arith, omega arith, byte_full a (from + looks) starts full (e - 1) (omega arith) (omega arith))

  -- one of its blocks is used, and no chunk ends before the last, or all are used: eight are looked at
  pub used_byte : (b : ℕ) → b ≡ get_or a ((from + looks) / 8) 0 → b < 256 → (b ≡ 0 → ⊥) → (8 ≤ size) ⊎ (b ≡ 255)
      → Walked from to a size (looks + 8) (count_leading_zeros 8 b) (from + (looks + 8) + 1)
  used_byte b b-is byte some-used whole =
      let value : part_of (get_or a ((from + looks) / 8) 0) 0 8 ≡ b = ap (λ (x : ℕ). part_of x 0 8) (sym b-is) ∙ part_whole b byte in
      let first : from + looks + 0 ≡ from + looks = omega arith in
      let tail : Tail a (from + looks) 8 (count_leading_zeros 8 b) =
      subst (λ (x : ℕ). Tail a x 8 (count_leading_zeros 8 b)) first
      (subst (λ (x : ℕ). Tail a (from + looks + 0) 8 (count_leading_zeros 8 x)) value
      (part_used a (from + looks) 0 8 starts (omega arith) (λ z. some-used (sym value ∙ z)))) in
      more_used from to a size looks stretch walk 8 (omega (arith, byte_inside)) (count_leading_zeros 8 b) tail
      (λ e l u m. elim whole [
        | inl large ↦
            let end_is : e ≡ from + looks + 8 = omega (arith, large_ends large e m) in
            subst⁻¹ (λ (x : ℕ). Used a (x - size) size) end_is (tail_covered a (from + looks) 8 (count_leading_zeros 8 b) size large tail)
        | inr full ↦ full_byte (sym b-is ∙ full) e l u
      ])

  -- ---- .. and inside the byte: a chunk of less than eight blocks starts at its block i

  pub chunk_at : size < 8 → (now i : ℕ) → now ≡ looks + i → i % size ≡ 0 → i < 8 → ChunkAt from to size now (from + looks) i
  chunk_at small now i now-is multiple l =
      let power_is : 2 ^ part.exponent ≡ size = sym part.power in
      let eight : 8 % size ≡ 0 =
      ap (λ (s : ℕ). 8 % s) part.power
      ∙ multiple_lower part.exponent 3 8 (omega (arith, exponent_lt part.exponent 3 (omega arith))) refl in
      let apart = multiples_apart size i 8 multiple eight l in
      let place : from + now ≡ from + looks + i = omega arith in
      record {
        within = apart;
        inside = omega (arith, byte_inside);
        at = place;
        byte_starts = starts;
        starts = ap (λ (x : ℕ). x % size) place ∙ sum_multiple size (from + looks) i (small_starts small) multiple;
      }

module _ (from to : ℕ) (a : List ℕ) (size looks stretch p i : ℕ) (walk : Walked from to a size looks stretch (from + looks + 1))
    (chunk : ChunkAt from to size looks p i) where
  pub free_chunk : part_of (get_or a (p / 8) 0) i size ≡ 0 → Walked from to a size (looks + size) (stretch + size) (from + (looks + size))
  free_chunk zero =
      more_free from to a size looks stretch walk size chunk.inside
      (λ j l u. part_free a p i size chunk.byte_starts chunk.within zero j (omega (arith, chunk.at)) (omega (arith, chunk.at)))
      (λ e l u m. omega (arith, multiples_apart size (from + looks) e chunk.starts m l))

  pub used_chunk : (part_of (get_or a (p / 8) 0) i size ≡ 0 → ⊥)
      → Walked from to a size (looks + size) (count_leading_zeros 8 (part_of (get_or a (p / 8) 0) i size)) (from + (looks + size) + 1)
  used_chunk some-used =
      let zeros : ℕ = count_leading_zeros 8 (part_of (get_or a (p / 8) 0) i size) in
      let tail : Tail a (from + looks) size zeros =
      subst⁻¹ (λ (x : ℕ). Tail a x size zeros) chunk.at (part_used a p i size chunk.byte_starts chunk.within some-used) in
      more_used from to a size looks stretch walk size chunk.inside zeros tail
      (λ e l u m.
      let end_is : e ≡ from + looks + size = omega (arith, multiples_apart size (from + looks) e chunk.starts m l) in
      subst⁻¹ (λ (x : ℕ). Used a (x - size) size) end_is (tail_covered a (from + looks) size zeros size (omega arith) tail))
