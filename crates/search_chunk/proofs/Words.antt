-- The search of a part word by word: chunks of at most 64 blocks lie in one word each, and the word of their first blocks says which are free.
use mathlib.Core.Path.{◌≡◌, refl, sym, ap, ◌∙◌, subst, subst⁻¹}
use mathlib.Core.Logic.{◌≢◌, inl, inr}
use mathlib.Core.Bool.{true, false}
use mathlib.Core.List.{List}
use Rattle.std.specs.Prelude.{None, Some}
use Prim.Native.Nat.{ℕ, suc, ◌+◌, ◌-◌, ◌*◌, ◌/◌, ◌%◌, ◌^◌, ◌≤◌, ◌<◌}
use native.Mathlib.Nat.{div-add-mod', mul-add-mod_self_right, mod_self, pow-suc}
use native.Mathlib.Decide.{dec_lt, ℕ_discrete}
use native.Mathlib.Omega.{arith}
use lib.Count.{count_trailing_zeros}
use lib.Pow.{pow_pos, pow_mono}
use Rattle.bitmap.specs.Bit.{bit_of, one}
use Rattle.bitmap.proofs.Bits.{bit_zero}
use Rattle.bitmap.proofs.Digits.{Lowest, trailing_lowest}
use Rattle.rules.specs.Heap.{chunk_free}
use Rattle.rules.proofs.Tests.{test_cases_lem, false_unless}
use Rattle.rules.proofs.Chunks.{Used, chunk_free_lem, chunk_used, free_chunk, free_not_used}
use Rattle.search_size.proofs.Powers.{exponent_lt}
use Rattle.search_walk.specs.Search.{judged_free, Part, lowest_in, Search}
use Rattle.search_walk.proofs.LowestChunk.{Missed, multiples_apart, sum_multiple, multiple_lower, search_found, search_none}
use Rattle.search_walk.proofs.Walk.{Walked, size_positive, judged_true, judged_false}
use Rattle.section_words.specs.Words.{Digits, FreeChunks}
use Rattle.section_words.proofs.Words.{free_blocks_lem, same_exponent}
use Rattle.section_words.proofs.FigureOfWord.{exponent_le}

-- `looks` blocks are looked at, whole words, and no chunk that ends among them is free
pub record Passed (from to : ℕ) (a : List ℕ) (size looks : ℕ) : Type 0 where
  pub inside : from + looks ≤ to
  pub starts : (from + looks) % 64 ≡ 0
  pub missed : Missed a size from (from + looks + 1)

-- w has the free chunks of s blocks, at most a chunk's size, of the word from block p on
pub record Chunks (a : List ℕ) (size p s w : ℕ) : Type 0 where
  pub exponent : ℕ
  pub power : s ≡ 2 ^ exponent
  pub most : s ≤ size
  pub free : FreeChunks exponent a p w

pub passed_start : (from to : ℕ) (a : List ℕ) (size : ℕ) → Part from to size → from % 64 ≡ 0 → Passed from to a size 0
passed_start from to a size part starts = record {
  inside = omega (arith, part.upward);
  starts = omega arith;
  missed = λ e l u m. absurd (omega (arith, size_positive from to size part));
}

-- nothing is left
pub passed_none : (from to : ℕ) (a : List ℕ) (size looks : ℕ) → Passed from to a size looks → Part from to size → from + looks ≡ to
    → (k : ℕ) → size ≡ 2 ^ k → Search from to k (lowest_in from to k a) None looks
passed_none from to a size looks passed part done k e =
    search_none k a from to looks (subst (Part from to) e part) done
    (λ end l u m. subst (λ (s : ℕ). Missed a s from (from + looks + 1)) e passed.missed end l (omega arith) m)

-- ---- the chunks of a word, of ever larger sizes

pub chunks_start : (a : List ℕ) (size p used : ℕ) → 0 < size → Digits 64 a p used → Chunks a size p 1 (2 ^ 64 - 1 - used)
chunks_start a size p used some d = record { exponent = 0; power = omega arith; most = omega arith; free = free_blocks_lem a p used d }

-- there is a larger size in the word
larger : (k j s size : ℕ) → s ≡ 2 ^ k → size ≡ 2 ^ j → s ≤ size → s ≢ size → k < j
larger k j s size s-is size_is l d = exponent_lt k j (omega arith)

pub chunks_next : (a : List ℕ) (size j p s w r : ℕ) → size ≡ 2 ^ j → size ≤ 64 → Chunks a size p s w → s ≢ size
    → ((k : ℕ) (b : List ℕ) (i : ℕ) → k < 6 → s ≡ 2 ^ k → FreeChunks k b i w → FreeChunks (suc k) b i r) → Chunks a size p (s + s) r
chunks_next a size j p s w r size_is small c d doubled =
    let k : ℕ = c.exponent in
    let above : k < j = larger k j s size c.power size_is c.most d in
    let below : k < 6 = exponent_lt k 6 (omega (arith, c.power, c.most)) in
    record {
      exponent = suc k;
      power = omega (arith, c.power, pow-suc 2 k);
      most = omega (arith, c.power, pow-suc 2 k, pow_mono {i = suc k} {j = j} above);
      free = doubled k a p below c.power c.free;
    }

-- ---- multiples of a size

rest_multiple : (size x n : ℕ) → x % size ≡ 0 → (x + n) % size ≡ 0 → n % size ≡ 0
rest_multiple size x n p e =
    let whole : x / size * size ≡ x = omega (arith, div-add-mod' x size) in
    sym (mul-add-mod_self_right (x / size) size n) ∙ ap (λ (y : ℕ). (y + n) % size) whole ∙ e

-- ---- a word judged: chunks of 2 ^ j blocks, those of 2 ^ k known

module _ (j k : ℕ) (a : List ℕ) (p w : ℕ) (f : FreeChunks k a p w) where
  -- block n of the word begins no free chunk
  used_at : (n : ℕ) → n < 64 → n % 2 ^ k ≡ 0 → bit_of w n ≡ 0 → Used a (p + n) (2 ^ k)
  used_at n l m z = elim (test_cases_lem (chunk_free k a (p + n))) [
    | inl t ↦ absurd (omega (arith, f.chunk n l m, ap one t))
    | inr t ↦ chunk_used k a (p + n) t
  ]

  module _ (small : j ≤ 6) (starts : p % 64 ≡ 0) (within : k ≤ j) where
    -- the chunks of this word that end at block `end` or before
    pub used_in : (end : ℕ) → end ≤ p + 64 → ((n : ℕ) → p + n + 2 ^ j ≤ end → bit_of w n ≡ 0)
        → (e : ℕ) → p < e → e ≤ end → e % 2 ^ j ≡ 0 → Used a (e - 2 ^ j) (2 ^ j)
    used_in end room zero e l u m =
        let start : p % 2 ^ j ≡ 0 = multiple_lower j 6 p small starts in
        let apart = multiples_apart (2 ^ j) p e start m l in
        let n : ℕ = e - 2 ^ j - p in
        let there : p + 2 ^ j + n ≡ e = omega arith in
        let next : (p + 2 ^ j) % 2 ^ j ≡ 0 = sum_multiple (2 ^ j) p (2 ^ j) start (mod_self (2 ^ j)) in
        let multiple : n % 2 ^ j ≡ 0 = rest_multiple (2 ^ j) (p + 2 ^ j) n next (ap (λ (x : ℕ). x % 2 ^ j) there ∙ m) in
        let used = used_at n (omega (arith, pow_pos j)) (multiple_lower k j n within multiple) (zero n (omega arith)) in
        (used.0, omega (arith, used.1), omega (arith, used.2, pow_mono {i = k} {j = j} within), used.3)

-- none is free: the word is passed
pub word_passed : (from to : ℕ) (a : List ℕ) (size looks s w : ℕ) → Part from to size → size ≤ 64 → Passed from to a size looks
    → Chunks a size (from + looks) s w → w ≡ 0 → from + looks + 64 ≤ to → Passed from to a size (looks + 64)
word_passed from to a size looks s w part small passed c zero room =
    let j : ℕ = part.exponent in
    let size_is : size ≡ 2 ^ j = part.power in
    let k : ℕ = c.exponent in
    let at_most : j ≤ 6 = exponent_le j 6 (omega arith) in
    let within : k ≤ j = exponent_le k j (omega (arith, c.power, c.most)) in
    let used = used_in j k a (from + looks) w c.free at_most passed.starts within (from + looks + 64) (omega arith)
    (λ n _. ap (λ (x : ℕ). bit_of x n) zero ∙ bit_zero n) in
    record {
      inside = omega arith;
      starts = omega (arith, passed.starts);
      missed = λ e l u m. elim (dec_lt e (from + looks + 1)) [
        | yes v ↦ passed.missed e l v m
        | no v ↦
            subst⁻¹ (λ (x : ℕ). Used a (e - x) x) size_is
            (used e (omega arith) (omega arith) (ap (λ (x : ℕ). e % x) (sym size_is) ∙ m))
      ];
    }

-- .. or some are free, of which the lowest is taken
module _ (from to : ℕ) (a : List ℕ) (size looks w : ℕ) (part : Part from to size) (small : size ≤ 64) (passed : Passed from to a size looks)
    (c : Chunks a size (from + looks) size w) (some : w ≢ 0) (room : from + looks + 64 ≤ to) where
  lowest : Lowest 64 w (count_trailing_zeros 64 w)
  lowest = trailing_lowest 64 w c.free.below some

  multiple : count_trailing_zeros 64 w % size ≡ 0
  multiple = elim (ℕ_discrete (count_trailing_zeros 64 w % 2 ^ c.exponent) 0) [
    | yes m ↦ ap (λ (x : ℕ). count_trailing_zeros 64 w % x) c.power ∙ m
    | no d ↦ absurd (omega (arith, lowest.here, c.free.other (count_trailing_zeros 64 w) lowest.inside d))
  ]

  lowest_inside : count_trailing_zeros 64 w + size ≤ 64
  lowest_inside =
      let j : ℕ = part.exponent in
      let words : 64 % size ≡ 0 = ap (λ (x : ℕ). 64 % x) part.power ∙ multiple_lower j 6 64 (exponent_le j 6 (omega (arith, part.power))) refl in
      multiples_apart size (count_trailing_zeros 64 w) 64 multiple words lowest.inside

  pub lowest_found : (k : ℕ) → size ≡ 2 ^ k
      → Search from to k (lowest_in from to k a) (Some (from + (looks + (count_trailing_zeros 64 w + size)) - size)) (looks + (count_trailing_zeros 64 w + size))
  lowest_found k e =
      let t : ℕ = count_trailing_zeros 64 w in
      let p : ℕ = from + looks in
      let f : FreeChunks k a p w = subst (λ (x : ℕ). FreeChunks x a p w) (same_exponent c.exponent k (sym c.power ∙ e)) c.free in
      let t_multiple : t % 2 ^ k ≡ 0 = ap (λ (x : ℕ). t % x) (sym e) ∙ multiple in
      let free : chunk_free k a (p + t) ≡ true =
      elim (test_cases_lem (chunk_free k a (p + t))) [
        | inl is ↦ is
        | inr is ↦ absurd (omega (arith, lowest.here, f.chunk t lowest.inside t_multiple, ap one is))
      ] in
      let at_most : k ≤ 6 = exponent_le k 6 (omega arith) in
      let used = used_in k k a p w f at_most passed.starts (omega arith) (p + t + 2 ^ k - 1) (omega (arith, lowest_inside))
      (λ n l. lowest.below n (omega (arith, pow_pos k))) in
      let starts : p % 2 ^ k ≡ 0 = multiple_lower k 6 p at_most passed.starts in
      let ends : (from + (looks + (t + 2 ^ k))) % 2 ^ k ≡ 0 =
      ap (λ (x : ℕ). x % 2 ^ k) (omega arith) ∙ sum_multiple (2 ^ k) (p + t) (2 ^ k) (sum_multiple (2 ^ k) p t starts t_multiple) (mod_self (2 ^ k)) in
      let missed = subst (λ (x : ℕ). Missed a x from (p + 1)) e passed.missed in
      subst⁻¹ (λ (x : ℕ). Search from to k (lowest_in from to k a) (Some (from + (looks + (t + x)) - x)) (looks + (t + x))) e
      (search_found k a from to (looks + (t + 2 ^ k)) (subst (Part from to) e part) (omega (arith, lowest_inside)) (omega arith) ends
      (λ end l u m. elim (dec_lt end (p + 1)) [
        | yes v ↦ missed end l v m
        | no v ↦ used end (omega arith) (omega arith) m
      ])
      (λ i l u. chunk_free_lem k a (p + t) free i (omega arith) (omega arith)))

-- ---- request U3: "keep the length of the free stretch that ends here, and judge each chunk from that figure"

free_judged : (end size stretch : ℕ) → size ≤ stretch → end % size ≡ 0 → judged_free end size stretch ≡ true
free_judged end size stretch enough ends = elim (test_cases_lem (judged_free end size stretch)) [
  | inl t ↦ t
  | inr t ↦ absurd (judged_false end size stretch t enough ends)
]

used_judged : (end size stretch : ℕ) → stretch < size → judged_free end size stretch ≡ false
used_judged end size stretch l = false_unless (judged_free end size stretch) (λ t. omega (arith, (judged_true end size stretch t).0))

-- the digit of a chunk's first block is that judgement, where the walk has come to the chunk's end: a word has it for all of its chunks
pub digit_judges : (from to : ℕ) (a : List ℕ) (k looks stretch judged p w n : ℕ) → Walked from to a (2 ^ k) looks stretch judged → FreeChunks k a p w
    → n < 64 → n % 2 ^ k ≡ 0 → k ≤ 6 → p % 64 ≡ 0 → from ≤ p → from + looks ≡ p + n + 2 ^ k → bit_of w n ≡ one (judged_free (from + looks) (2 ^ k) stretch)
digit_judges from to a k looks stretch judged p w n walk f l m small starts above ends =
    let start : p % 2 ^ k ≡ 0 = multiple_lower k 6 p small starts in
    let end : (from + looks) % 2 ^ k ≡ 0 =
    ap (λ (x : ℕ). x % 2 ^ k) ends ∙ sum_multiple (2 ^ k) (p + n) (2 ^ k) (sum_multiple (2 ^ k) p n start m) (mod_self (2 ^ k)) in
    elim (dec_lt stretch (2 ^ k)) [
      | no v ↦
          let free = free_chunk k a (p + n) (λ j low high. walk.free j (omega arith) (omega arith)) in
          f.chunk n l m ∙ ap one (free ∙ sym (free_judged (from + looks) (2 ^ k) stretch (omega arith) end))
      | yes v ↦
          let used : Used a (p + n) (2 ^ k) = (from + looks - stretch - 1, omega (arith, walk.within), omega (arith, walk.within), walk.used (omega arith)) in
          let not_free : chunk_free k a (p + n) ≡ false =
          false_unless (chunk_free k a (p + n)) (λ e. free_not_used a (p + n) (2 ^ k) (chunk_free_lem k a (p + n) e) used) in
          f.chunk n l m ∙ ap one (not_free ∙ sym (used_judged (from + looks) (2 ^ k) stretch v))
    ]
