-- Laws of the lowest free chunk of a part of the heap, `lowest_in`, by the blocks at which chunks end.
use mathlib.Core.Path.{◌≡◌, refl, sym, ap, ◌∙◌, subst⁻¹}
use mathlib.Core.Bool.{false}
use mathlib.Core.Option.{none, some}
use mathlib.Core.List.{List}
use Rattle.std.specs.Prelude.{None, Some}
use Prim.Native.Nat.{ℕ, zero, suc, ◌+◌, ◌-◌, ◌*◌, ◌/◌, ◌%◌, ◌^◌, ◌≤◌, ◌<◌}
use native.Mathlib.Nat.{suc-mul, add-mul, sub-zero, mul-div_cancel, zero-mod, div-add-mod', add-mod, add-mod_right, mul-le-mul_right, le_of_mul-le-mul_right, lt_of_mul-lt-mul_right}
use native.Mathlib.Decide.{ℕ_discrete}
use native.Mathlib.Omega.{arith}
use lib.Pow.{pow_pos, mod-mod-pow}
use Rattle.rules.specs.Heap.{chunk_free, lowest_from, lowest_free}
use Rattle.rules.proofs.Tests.{false_unless}
use Rattle.rules.proofs.Chunks.{Free, Used, chunk_free_lem, free_chunk, free_not_used}
use Rattle.search_walk.specs.Search.{Part, lowest_in, Search}

-- ---- multiples, which chunks start and end at

-- two of them lie a size apart, or more
pub multiples_apart : (size i j : ℕ) → i % size ≡ 0 → j % size ≡ 0 → i < j → i + size ≤ j
multiples_apart size i j p q l =
    let before : i / size < j / size = lt_of_mul-lt-mul_right size (omega (arith, div-add-mod' i size, div-add-mod' j size)) in
    let next : suc (i / size) * size ≤ j / size * size = mul-le-mul_right size before in
    omega (arith, div-add-mod' i size, div-add-mod' j size, suc-mul (i / size) size)

pub sum_multiple : (size i j : ℕ) → i % size ≡ 0 → j % size ≡ 0 → (i + j) % size ≡ 0
sum_multiple size i j p q =
    add-mod i j size ∙ ap (λ (x : ℕ). (x + j % size) % size) p ∙ ap (λ (x : ℕ). (0 + x) % size) q ∙ zero-mod size

-- a multiple of a power of two is one of each lower power
pub multiple_lower : (k j x : ℕ) → k ≤ j → x % 2 ^ j ≡ 0 → x % 2 ^ k ≡ 0
multiple_lower k j x l e =
    let parts : j - k + k ≡ j = omega arith in
    sym (mod-mod-pow x (j - k) k) ∙ ap (λ (y : ℕ). x % 2 ^ y % 2 ^ k) parts ∙ ap (λ (y : ℕ). y % 2 ^ k) e ∙ zero-mod (2 ^ k)

-- the part is as many chunks as go into its length
part_chunks : (from to k : ℕ) → Part from to (2 ^ k) → from + (to - from) / 2 ^ k * 2 ^ k ≡ to
part_chunks from to k part =
    let f = from / 2 ^ k in
    let t = to / 2 ^ k in
    let from_is : f * 2 ^ k ≡ from = omega (arith, div-add-mod' from (2 ^ k), part.from_chunk) in
    let to_is : t * 2 ^ k ≡ to = omega (arith, div-add-mod' to (2 ^ k), part.to_chunk) in
    let upward : f ≤ t = le_of_mul-le-mul_right (omega (arith, part.upward)) (pow_pos k) in
    let both : t - f + f ≡ t = omega arith in
    let length_is : to - from ≡ (t - f) * 2 ^ k = omega (arith, add-mul (t - f) f (2 ^ k), ap (λ (x : ℕ). x * 2 ^ k) both) in
    let chunks : (to - from) / 2 ^ k ≡ t - f = ap (λ (x : ℕ). x / 2 ^ k) length_is ∙ mul-div_cancel (t - f) (pow_pos k) in
    omega (arith, part.upward, ap (λ (x : ℕ). x * 2 ^ k) chunks)

-- ---- the search, chunk by chunk

-- no chunk that starts at block i or later and ends before block `end` is free
abbrev pub Missed : List ℕ → ℕ → ℕ → ℕ → Type 0
Missed a size i end = (e : ℕ) → i + size ≤ e → e < end → e % size ≡ 0 → Used a (e - size) size

module _ (k : ℕ) (a : List ℕ) where
  chunk_passed :
      (n i end : ℕ) → i % 2 ^ k ≡ 0 → i + 2 ^ k < end → Missed a (2 ^ k) i end → lowest_from (suc n) k a i ≡ lowest_from n k a (i + 2 ^ k)
  unfolding lowest_from
  chunk_passed n i end start l missed =
      let here : i + 2 ^ k - 2 ^ k ≡ i = omega arith in
      let used : Used a i (2 ^ k) = rw here at (missed (i + 2 ^ k) (omega arith) l (add-mod_right i (2 ^ k) ∙ start)) in
      let not_free : chunk_free k a i ≡ false = false_unless (chunk_free k a i) (λ f. free_not_used a i (2 ^ k) (chunk_free_lem k a i f) used) in
      rw (not_free, lowest_from)

  none_from : (n i : ℕ) → i % 2 ^ k ≡ 0 → Missed a (2 ^ k) i (i + n * 2 ^ k + 1) → lowest_from n k a i ≡ none
  unfolding lowest_from
  none_from zero i start missed = refl
  none_from (suc n) i start missed =
      chunk_passed n i (i + suc n * 2 ^ k + 1) start (omega (arith, suc-mul n (2 ^ k))) missed
      ∙ none_from n (i + 2 ^ k) (add-mod_right i (2 ^ k) ∙ start) (λ e l u. missed e (omega arith) (omega (arith, suc-mul n (2 ^ k))))

  some_from : (at n i : ℕ) → i % 2 ^ k ≡ 0 → at % 2 ^ k ≡ 0 → i ≤ at → at + 2 ^ k ≤ i + n * 2 ^ k → Missed a (2 ^ k) i (at + 1)
      → Free a at (2 ^ k) → lowest_from n k a i ≡ some at
  unfolding lowest_from
  some_from at zero i start ends low high missed free = absurd (omega (arith, pow_pos k))
  some_from at (suc n) i start ends low high missed free = elim (ℕ_discrete i at) [
    | yes e ↦
        let here : lowest_from (suc n) k a i ≡ some i = rw (free_chunk k a i (subst⁻¹ (λ (x : ℕ). Free a x (2 ^ k)) e free), lowest_from) in
        here ∙ ap some e
    | no d ↦
        let apart = multiples_apart (2 ^ k) i at start ends (omega arith) in
        chunk_passed n i (at + 1) start (omega arith) missed
        ∙ some_from at n (i + 2 ^ k) (add-mod_right i (2 ^ k) ∙ start) ends apart (omega (arith, suc-mul n (2 ^ k)))
        (λ e l u. missed e (omega arith) u) free
  ]

  -- ---- what it answers: `looks` blocks are passed ..

  module _ (from to looks : ℕ) (part : Part from to (2 ^ k)) where
    -- .. and the chunk that ends there is the first free one
    pub search_found : from + looks ≤ to → 2 ^ k ≤ looks → (from + looks) % 2 ^ k ≡ 0 → Missed a (2 ^ k) from (from + looks)
        → Free a (from + looks - 2 ^ k) (2 ^ k) → Search from to k (lowest_in from to k a) (Some (from + looks - 2 ^ k)) looks
    unfolding lowest_in
    search_found inside all ends missed free =
        let at : ℕ = from + looks - 2 ^ k in
        let end_is : at + 2 ^ k ≡ from + looks = omega arith in
        let starts : at % 2 ^ k ≡ 0 = sym (add-mod_right at (2 ^ k)) ∙ ap (λ (x : ℕ). x % 2 ^ k) end_is ∙ ends in
        let found = some_from at ((to - from) / 2 ^ k) from part.from_chunk starts (omega arith) (omega (arith, part_chunks from to k part))
        (λ e l u. missed e l (omega (arith, pow_pos k))) free in
        rw found (record { at_is = refl; looks_is = omega arith })

    -- .. and they are all there are
    pub search_none : from + looks ≡ to → Missed a (2 ^ k) from (to + 1) → Search from to k (lowest_in from to k a) None looks
    unfolding lowest_in
    search_none done missed =
        let chunks = part_chunks from to k part in
        let none_free = none_from ((to - from) / 2 ^ k) from part.from_chunk (λ e l u. missed e l (omega arith)) in
        rw none_free (record { at_is = refl; looks_is = omega arith })

-- the whole heap is the part from block 0 on
pub lowest_whole : (N k : ℕ) (a : List ℕ) → lowest_in 0 N k a ≡ lowest_free N k a
unfolding lowest_in lowest_free
lowest_whole N k a = ap (λ (x : ℕ). lowest_from (x / 2 ^ k) k a 0) (sub-zero N)
