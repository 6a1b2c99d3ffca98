-- Figures made unknown: the sections that some blocks lie in, and that a list stays coherent where only bits of these blocks change.
use mathlib.Core.Path.{◌≡◌, sym, ap, ap₂, ◌∙◌}
use mathlib.Core.Logic.{◌⊎◌, inl, inr}
use mathlib.Core.Bool.{Bool, true, false}
use mathlib.Core.List.{List}
use Prim.Native.Nat.{ℕ, zero, suc, ◌+◌, ◌-◌, ◌*◌, ◌/◌, ◌^◌, ◌≤◌, ◌<◌, max}
use native.Mathlib.Nat.{div-eq_of_lt, div-mul-le_self, lt-div-mul-add, le-div_iff_mul-le, div-lt_iff_lt-mul, mul-le-mul_right, div-le_self, pow-suc, add_assoc}
use native.Mathlib.Decide.{dec_lt}
use native.Mathlib.Omega.{arith}
use lib.Dec.{eqb}
use lib.ListN.{length, get_or, replicate}
use Rattle.std.proofs.lemmas.List.{length-replicate, get_or-replicate}
use Rattle.std.proofs.lemmas.Grind.{common_steps}
use borrow.Rule.Slice.PartMut.{put_mid}
use Rattle.bitmap.specs.Bit.{bit_at, one, fill_bits}
use Rattle.bitmap.proofs.Runs.{bit_fill_out}
use Rattle.rules.specs.Heap.{max_blocks, is_blocks, section_length, section_count, exponent, chunk_free}
use Rattle.rules.specs.Sections.{figure, largest_free}
use Rattle.rules.proofs.Shape.{blocks_facts, blocks_le}
use Rattle.rules.proofs.Sections.{divided}
use Rattle.section_figures.specs.Figures.{Coherent}
use Rattle.section_figures.proofs.SectionPlaces.{section_size}
use Rattle.section_extents.specs.Forgotten.{Forgotten}

-- ---- the figure depends on the blocks' bits alone

same_free : (k : ℕ) (a b : List ℕ) (i j : ℕ) → ((n : ℕ) → n < 2 ^ k → bit_at a (i + n) ≡ bit_at b (j + n)) → chunk_free k a i ≡ chunk_free k b j
unfolding chunk_free
same_free zero a b i j same =
    ap (λ (x : ℕ). eqb (bit_at a x) 0) (omega arith) ∙ ap (λ (x : ℕ). eqb x 0) (same 0 (omega arith)) ∙ ap (λ (x : ℕ). eqb (bit_at b x) 0) (omega arith)
same_free (suc k) a b i j same =
    ap₂ (λ (x y : Bool). elim x as (λ _. Bool) [ true ↦ y | false ↦ false ])
    (same_free k a b i j (λ n l. same n (omega (arith, pow-suc 2 k))))
    (same_free k a b (i + 2 ^ k) (j + 2 ^ k)
    (λ n l.
    ap (bit_at a) (add_assoc i (2 ^ k) n)
    ∙ same (2 ^ k + n) (omega (arith, pow-suc 2 k))
    ∙ ap (bit_at b) (sym (add_assoc j (2 ^ k) n))))

same_figure : (k : ℕ) (a b : List ℕ) (i j : ℕ) → ((n : ℕ) → n < 2 ^ k → bit_at a (i + n) ≡ bit_at b (j + n)) → largest_free k a i ≡ largest_free k b j
unfolding largest_free
same_figure zero a b i j same = ap (λ (x : Bool). elim x as (λ _. ℕ) [ true ↦ 1 | false ↦ 0 ]) (same_free 0 a b i j same)
same_figure (suc k) a b i j same =
    ap₂ (λ (x : Bool) (y : ℕ). elim x as (λ _. ℕ) [ true ↦ 2 ^ suc k | false ↦ y ]) (same_free (suc k) a b i j same)
    (ap₂ max
    (same_figure k a b i j (λ n l. same n (omega (arith, pow-suc 2 k))))
    (same_figure k a b (i + 2 ^ k) (j + 2 ^ k)
    (λ n l.
    ap (bit_at a) (add_assoc i (2 ^ k) n)
    ∙ same (2 ^ k + n) (omega (arith, pow-suc 2 k))
    ∙ ap (bit_at b) (sym (add_assoc j (2 ^ k) n)))))

-- ---- the section of a block

pub only_section : (N i : ℕ) → N < 256 → i < N → 0 ≡ i / section_length N
only_section N i small l =
    let one : section_length N ≡ N = omega arith in
    sym (ap (λ (x : ℕ). i / x) one ∙ div-eq_of_lt {n = i} {m = N} l)

pub long_section : (N i : ℕ) → 256 ≤ N → i / 256 ≡ i / section_length N
long_section N i large = ap (λ (x : ℕ). i / x) (omega arith)

-- the sections that n blocks from block i on lie in: `first` to `last`
pub record Sections (N i n first last : ℕ) : Type 0 where
  pub upward : first ≤ last
  pub below : last < section_count N
  pub few : section_count N ≤ max_blocks
  pub starts : first * section_length N ≤ i
  pub ends : i + n ≤ (last + 1) * section_length N

pub sections_of :
    {N i n first last : ℕ} → is_blocks N ≡ true → 1 ≤ n → i + n ≤ N → first ≡ i / section_length N → last ≡ (i + n - 1) / section_length N
    → Sections N i n first last
sections_of {N} {i} {n} {first} {last} blocks some inside f l =
    let size = section_size N blocks in
    let L : ℕ = section_length N in
    let positive : 0 < L = omega (arith, size.large) in
    let at_first : i / L * L ≤ i = div-mul-le_self i L in
    let past_last : i + n - 1 < (i + n - 1) / L * L + L = lt-div-mul-add {a = i + n - 1} {b = L} positive in
    let upward : i / L ≤ (i + n - 1) / L = (le-div_iff_mul-le {k = L} {x = i / L} {y = i + n - 1} positive).1 (omega arith) in
    let below : (i + n - 1) / L < section_count N =
    (div-lt_iff_lt-mul {k = L} {x = i + n - 1} {y = section_count N} positive).1 (omega (arith, size.whole)) in
    let ends : (i + n - 1) / L * L + L ≡ (last + 1) * L = ap (λ (x : ℕ). x * L + L) (sym l) ∙ omega arith in
    record {
      upward = omega arith;
      below = omega arith;
      few = omega (arith, div-le_self N L, blocks_le N blocks);
      starts = omega (arith, ap (λ (x : ℕ). x * L) f);
      ends = omega arith;
    }

-- ---- figures made unknown

-- the figures from number `first` up to number s are unknown, the others are as they were
pub record Forgetting (first s : ℕ) (sections after : List ℕ) : Type 0 where
  pub same_length : length after ≡ length sections
  pub gone : (j : ℕ) → first ≤ j → j < s → get_or after j 0 ≡ 65535
  pub rest : (j : ℕ) → (j < first) ⊎ (s ≤ j) → get_or after j 0 ≡ get_or sections j 0

pub forgetting_filled :
    {first s : ℕ} {sections new : List ℕ} → first ≤ s → s ≤ length sections → new ≡ replicate (s - first) 65535
    → Forgetting first s sections (put_mid first (s - first) sections new)
forgetting_filled {first} {s} {sections} {new} low inside is =
    let many : length new ≡ s - first = ap length is ∙ length-replicate (s - first) 65535 in
    record {
      same_length = grind (arith, common_steps);
      gone = λ j l u.
          let place : j ≡ first + (j - first) = omega arith in
          let item : get_or new (j - first) 0 ≡ 65535 = ap (λ (x : List ℕ). get_or x (j - first) 0) is ∙ get_or-replicate (s - first) (j - first) 65535 0 (omega arith) in
          grind (arith, common_steps);
      rest = λ j o. elim o [ inl l ↦ grind (arith, common_steps) | inr l ↦ grind (arith, common_steps) ];
    }

pub forgotten :
    {N i n first last s : ℕ} {sections after : List ℕ} → Sections N i n first last → Forgetting first s sections after → s ≡ last + 1
    → Forgotten N i n sections after
forgotten {N} {first = first} {last = last} {s = s} at f e = record {
  same_length = f.same_length;
  each = λ t l. elim (dec_lt t first) [
    | yes u ↦ inr (f.rest t (inl u), inl (omega (arith, less (t + 1) first (omega arith), at.starts)))
    | no u ↦ elim (dec_lt t s) [
      | yes v ↦ inl (f.gone t (omega arith) v)
      | no v ↦
          inr (f.rest t (inr (omega arith)), inr (omega (arith, less (last + 1) t (omega arith), at.ends)))
    ]
  ];
}
  where
    less : (x y : ℕ) → x ≤ y → x * section_length N ≤ y * section_length N
    less x y l = mul-le-mul_right (section_length N) l

-- ---- bits of these blocks change

pub one_small : (t : Bool) → one t < 2
one_small true = omega arith
one_small false = omega arith

pub coherent_filled :
    {N i n v : ℕ} {a b sections after : List ℕ} → v < 2 → Coherent N a sections → Forgotten N i n sections after → b ≡ fill_bits a i n v
    → Coherent N b after
unfolding figure
coherent_filled {N} {i} {n} {v} {a} {b} bit c f filled = record {
  blocks = c.blocks;
  length_is = f.same_length ∙ c.length_is;
  each = λ s l. elim (f.each s l) [
    | inl e ↦ inr e
    | inr o ↦ elim (c.each s l) [ inl e ↦ inl (o.0 ∙ e ∙ same s o.1) | inr e ↦ inr (o.0 ∙ e) ]
  ];
}
  where
    L : ℕ
    L = section_length N

    outside : (s m : ℕ) → m < L → ((s + 1) * L ≤ i) ⊎ (i + n ≤ s * L) → (s * L + m < i) ⊎ (i + n ≤ s * L + m)
    outside s m l (inl u) = inl (omega arith)
    outside s m l (inr u) = inr (omega arith)

    same : (s : ℕ) → ((s + 1) * L ≤ i) ⊎ (i + n ≤ s * L) → figure N a s ≡ figure N b s
    same s o =
        same_figure (exponent L) a b (s * L) (s * L)
        (λ m l.
        sym (bit_fill_out a i n v (s * L + m) bit (outside s m (omega (arith, (divided N c.blocks).exponent_is)) o))
        ∙ ap (λ (x : List ℕ). bit_at x (s * L + m)) (sym filled))

-- what the writing of these bits asks for
pub extent_inside :
    {N n : ℕ} {a sections : List ℕ} (i : ℕ) (b : List ℕ)
    → Coherent N a sections × (length a ≡ N / 8) × (length b ≡ N / 8) × (1 ≤ n) × (i + n ≤ N)
    → (1 ≤ n) × (i + n ≤ 8 * length a) × (i + n ≤ 8 * length b) × (8 * length a < 2 ^ 64)
extent_inside {N} i b pre =
    let eighths = (blocks_facts N pre.0.blocks).2 in (
      pre.3,
      omega (arith, eighths, pre.1, pre.4),
      omega (arith, eighths, pre.2, pre.4),
      omega (arith, pre.1, blocks_le N pre.0.blocks),
    )
