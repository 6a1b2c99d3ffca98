-- What is searched: the whole heap, or one section, are parts of whole chunks and whole bytes.
use mathlib.Core.Path.{◌≡◌, sym, ap, ap₂, ◌∙◌}
use mathlib.Core.Bool.{true}
use Prim.Native.Nat.{ℕ, ◌+◌, ◌-◌, ◌*◌, ◌%◌, ◌^◌, ◌≤◌}
use native.Mathlib.Nat.{mul_assoc, mul-mod_left, zero-mod}
use native.Mathlib.Decide.{dec_lt}
use native.Mathlib.Omega.{arith}
use lib.Pow.{pow-lt, pow-add}
use Rattle.rules.specs.Heap.{is_blocks}
use Rattle.rules.proofs.Shape.{blocks_facts, blocks_power}
use Rattle.search_walk.specs.Search.{Part}
use Rattle.section_figures.proofs.SectionPlaces.{Place}

-- a multiple of a power of two is one of every power that is not larger
multiple : (j k m : ℕ) → 2 ^ k ≤ 2 ^ j → m * 2 ^ j % 2 ^ k ≡ 0
multiple j k m l =
    let least : k ≤ j = elim (dec_lt j k) [ yes u ↦ absurd (omega (arith, pow-lt {i = j} {j = k} u)) | no u ↦ omega arith ] in
    let sum : j ≡ j - k + k = omega arith in
    ap (λ (x : ℕ). m * x % 2 ^ k) (ap (λ (x : ℕ). 2 ^ x) sum ∙ pow-add 2 (j - k) k)
    ∙ ap (λ (x : ℕ). x % 2 ^ k) (sym (mul_assoc m (2 ^ (j - k)) (2 ^ k)))
    ∙ mul-mod_left (m * 2 ^ (j - k)) (2 ^ k)

-- the whole heap
pub whole_heap : (N size k : ℕ) → is_blocks N ≡ true → size ≡ 2 ^ k → size ≤ N → Part 0 N size
whole_heap N size k blocks p l =
    let power = blocks_power N blocks in
    let one : N ≡ 1 * 2 ^ power.0 = omega (arith, power.1) in
    record {
      exponent = k;
      power = p;
      upward = omega arith;
      from_chunk = zero-mod size;
      to_chunk = ap₂ (λ (x y : ℕ). x % y) one p ∙ multiple power.0 k 1 (omega (arith, power.1));
      from_byte = zero-mod 8;
      to_byte = omega (arith, (blocks_facts N blocks).2);
    }

-- one section
pub whole_section : (N s size length k : ℕ) → Place N s length → size ≡ 2 ^ k → size ≤ length → Part (s * length) (s * length + length) size
whole_section N s size length k at p l =
    let j : ℕ = at.power.0 in
    let e : length ≡ 2 ^ j = at.power.1 in
    let next : s * length + length ≡ (s + 1) * length = omega arith in
    record {
      exponent = k;
      power = p;
      upward = omega arith;
      from_chunk = ap₂ (λ (x y : ℕ). s * x % y) e p ∙ multiple j k s (omega arith);
      to_chunk = ap (λ (x : ℕ). x % size) next ∙ ap₂ (λ (x y : ℕ). (s + 1) * x % y) e p ∙ multiple j k (s + 1) (omega arith);
      from_byte = at.from_byte;
      to_byte = omega (arith, at.from_byte, at.bytes);
    }
