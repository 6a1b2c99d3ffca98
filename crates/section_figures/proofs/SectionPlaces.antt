-- Where the sections of a heap lie: whole bytes of the map, one behind the other.
use mathlib.Core.Path.{◌≡◌, sym, ap, ◌∙◌}
use mathlib.Core.Bool.{true}
use mathlib.Core.List.{List}
use Prim.Native.Nat.{ℕ, ◌+◌, ◌*◌, ◌/◌, ◌%◌, ◌^◌, ◌≤◌, ◌<◌}
use native.Mathlib.Nat.{mul_comm, mul_assoc, mul-le-mul_right, div_self}
use native.Mathlib.Omega.{arith}
use lib.Pow.{pow_pos}
use Rattle.rules.specs.Heap.{max_blocks, is_blocks, exponent, section_length, section_count}
use Rattle.rules.specs.Sections.{largest_free, figure}
use Rattle.rules.proofs.Shape.{blocks_facts, blocks_le}
use Rattle.rules.proofs.Figures.{figure_le}
use Rattle.rules.proofs.Sections.{divided}
use Rattle.section_halves.proofs.Figures.{whole_bytes}

-- a section's length, of any heap
pub record Length (N : ℕ) : Type 0 where
  pub power : (k : ℕ) × (section_length N ≡ 2 ^ k)
  pub large : 8 ≤ section_length N
  pub bytes : (q : ℕ) × (section_length N ≡ 8 * q)
  pub whole : section_count N * section_length N ≡ N

pub section_size : (N : ℕ) → is_blocks N ≡ true → Length N
section_size N blocks =
    let d = divided N blocks in
    let facts = blocks_facts N blocks in
    let large : 8 ≤ section_length N = omega (arith, facts.2, pow_pos facts.0) in
    let bytes = whole_bytes (section_length N) (exponent (section_length N)) (sym d.exponent_is) large in
    record {
      power = (exponent (section_length N), sym d.exponent_is);
      large = large;
      bytes = (2 ^ bytes.0, bytes.2);
      whole = d.whole;
    }

-- a heap of less than 256 blocks is one section
pub small_count : (N : ℕ) → is_blocks N ≡ true → N < 256 → 1 ≡ section_count N
small_count N blocks small =
    let facts = blocks_facts N blocks in
    let one : section_length N ≡ N = omega arith in
    sym (ap (λ (x : ℕ). N / x) one ∙ div_self {n = N} (omega (arith, facts.2, pow_pos facts.0)))

-- section number s, whose length is `size`
pub record Place (N s size : ℕ) : Type 0 where
  pub power : (k : ℕ) × (size ≡ 2 ^ k)
  pub inside : s * size + size ≤ N
  pub from_byte : s * size % 8 ≡ 0
  pub bytes : size % 8 ≡ 0
  pub few : N ≤ max_blocks

pub place : (N s size : ℕ) → is_blocks N ≡ true → s < section_count N → size ≡ section_length N → Place N s size
place N s size blocks below e =
    let l = section_size N blocks in
    let q : ℕ = l.bytes.0 in
    let fits : (s + 1) * size ≤ section_count N * size = mul-le-mul_right size (omega arith) in
    let whole : section_count N * size ≡ N = ap (λ (x : ℕ). section_count N * x) e ∙ l.whole in
    let eights : s * size ≡ 8 * (s * q) =
    ap (λ (x : ℕ). s * x) (e ∙ l.bytes.1) ∙ omega (arith, mul_comm s (8 * q), mul_assoc 8 q s, mul_comm q s) in
    record {
      power = (l.power.0, e ∙ l.power.1);
      inside = omega arith;
      from_byte = omega arith;
      bytes = omega (arith, l.bytes.1);
      few = blocks_le N blocks;
    }

-- a figure as the recursion answers it
pub figure_of : (N : ℕ) (a : List ℕ) (s size r : ℕ) → is_blocks N ≡ true → size ≡ section_length N
    → ((k : ℕ) → size ≡ 2 ^ k → r ≡ largest_free k a (s * size)) → (r ≡ figure N a s) × (r ≤ 256)
unfolding figure
figure_of N a s size r blocks e found =
    let d = divided N blocks in
    let m : ℕ = exponent (section_length N) in
    let here = found m (e ∙ sym d.exponent_is) ∙ ap (λ (x : ℕ). largest_free m a (s * x)) e in
    (here, omega (arith, (figure_le m a (s * section_length N)).0, d.exponent_is))
