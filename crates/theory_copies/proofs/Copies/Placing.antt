-- The second heap while objects are copied into it: after k of them it has these and nothing else, each at its place with its size, its D bit,
-- a stuck count and its cells.
use mathlib.Core.Path.{◌≡◌, refl, sym, ap, ◌∙◌, subst}
use mathlib.Core.Logic.{◌≢◌, ◌⊎◌, inl, inr}
use mathlib.Core.List.{List}
use mathlib.Core.Option.{some}
use Prim.Native.Nat.{ℕ, zero, suc, ◌+◌, ◌-◌, ◌*◌, ◌/◌, ◌%◌, ◌^◌, ◌≤◌, ◌<◌}
use native.Mathlib.Decide.{ℕ_discrete}
use native.Mathlib.Omega.{arith}
use lib.ListN.{length, get_or, set, replicate, length-replicate}
use lib.Pow.{pow_pos}
use lib.Seq.{get_or-set_same, get_or-set_other}
use Rattle.bitmap.specs.Bit.{bit_at, set_bit}
use Rattle.bitmap.proofs.Maps.{bit_at_lt, bit_all_zero, length_set_bit, bit_set_same, bit_set_other}
use Rattle.bitmap.proofs.Runs.{bit_fill_in, bit_fill_out}
use Rattle.planes.specs.Plane.{count_at, set_count}
use Rattle.planes.proofs.Counts.{count_all_zero, length_set_count, count_set_same, count_set_other}
use Rattle.rules.specs.Heap.{Memory, capacity, exponent, lowest_free}
use Rattle.rules_stores.specs.Store.{formatted}
use Rattle.rules_output.specs.Walk.{block_at}
use Rattle.rules_copy.specs.Copy.{size_of, new_cell, fill_cells, copy_one, copy_first}
use Rattle.theory_copies.specs.Copies.{map_with}
use Rattle.theory_memories.proofs.Maps.Extents.{Represents, formatted_represents}
use Rattle.theory_memories.proofs.Maps.Moves.{clear_of, placed_represents}
use Rattle.theory_memories.proofs.Maps.LowestChunk.{Room, room}
use Rattle.theory_graphs.proofs.Graphs.Stretch.{Outside, side, stretch, stretch_length, stretch_out, stretch_in}
use Rattle.theory_memories.proofs.Memories.Healthy.{Aligned}
use Rattle.theory_memories.proofs.Memories.Formatted.{zeros_at}
use Rattle.theory_memories.proofs.Memories.Reading.{blocks_outside}
use Rattle.theory_copies.proofs.Copies.Laying.{listed}

-- filled places are a stretch
fill_stretch : (f : ℕ → ℕ) (cells : List ℕ) (p n : ℕ) → fill_cells f cells p n ≡ stretch (λ s. f (s - p)) p n cells
unfolding fill_cells stretch
fill_stretch f cells p zero = refl
fill_stretch f cells p (suc n) =
    let same : p + n - p ≡ n = omega arith in
    rw (same, fill_stretch f cells p n) refl

pub fill_length : (f : ℕ → ℕ) (cells : List ℕ) (p n : ℕ) → length (fill_cells f cells p n) ≡ length cells
fill_length f cells p n = ap length (fill_stretch f cells p n) ∙ stretch_length (λ s. f (s - p)) p cells n

pub fill_in : (f : ℕ → ℕ) (cells : List ℕ) (p n j : ℕ) → p + n ≤ length cells → j < n → get_or (fill_cells f cells p n) (p + j) 0 ≡ f j
fill_in f cells p n j fits l =
    let same : p + j - p ≡ j = omega arith in
    ap (λ (c : List ℕ). get_or c (p + j) 0) (fill_stretch f cells p n)
    ∙ stretch_in (λ s. f (s - p)) p cells n (p + j) (omega arith) (omega arith, omega arith)
    ∙ ap f same

pub fill_out : (f : ℕ → ℕ) (cells : List ℕ) (p n s : ℕ) → Outside p n s → get_or (fill_cells f cells p n) s 0 ≡ get_or cells s 0
fill_out f cells p n s o = ap (λ (c : List ℕ). get_or c s 0) (fill_stretch f cells p n) ∙ stretch_out (λ s. f (s - p)) p cells n s o

module _ (N : ℕ) (h : Memory) (met places : List ℕ) (M v : ℕ) (whole : 8 * (M / 8) ≡ M) where
  abbrev copy : ℕ → Memory
  copy k = copy_first N h met places M v k

  abbrev place : ℕ → ℕ
  place = listed places

  -- the sizes of the objects copied so far, at their first blocks
  pub sizes_with : ℕ → List ℕ
  sizes_with zero = replicate M 0
  sizes_with (suc k) = set (sizes_with k) (place k) (size_of N h met k)

  -- the first k objects stand in g, and nothing else
  pub record Holding (k : ℕ) (g : Memory) : Type 0 where
    pub represents : Represents M g.a g.b (sizes_with k)
    pub aligned : Aligned (sizes_with k)
    pub size_at_lem : (i : ℕ) → i < k → get_or (sizes_with k) (place i) 0 ≡ size_of N h met i
    pub only : (x : ℕ) → get_or (sizes_with k) x 0 ≢ 0 → (i : ℕ) × (i < k) × (x ≡ place i)
    pub distinct : (i j : ℕ) → i < j → j < k → place i ≢ place j
    pub length_counts : length g.counts ≡ v * (M / 8)
    pub length_cells : length g.cells ≡ 4 * M
    pub length_d : length g.d ≡ M / 8
    pub counted_at : (i : ℕ) → i < k → count_at (M / 8) v g.counts (place i) ≡ capacity v
    pub count_none : (x : ℕ) → x < M → get_or (sizes_with k) x 0 ≡ 0 → count_at (M / 8) v g.counts x ≡ 0
    pub kind_at : (i : ℕ) → i < k → bit_at g.d (place i) ≡ bit_at h.d (block_at met (suc i))
    pub kind_none : (x : ℕ) → get_or (sizes_with k) x 0 ≡ 0 → bit_at g.d x ≡ 0
    pub cell_at :
        (i j : ℕ) → i < k → j < 4 * size_of N h met i → get_or g.cells (4 * place i + j) 0 ≡ new_cell h met places (block_at met (suc i)) j
    pub cell_none : (j : ℕ) → bit_at g.a (j / 4) ≡ 0 → get_or g.cells j 0 ≡ 0

  nothing : Holding 0 (copy 0)
  unfolding copy_first formatted sizes_with
  nothing = record {
    represents = formatted_represents M whole;
    aligned = λ x s. absurd (s (zeros_at M x));
    size_at_lem = λ i l. absurd (omega arith);
    only = λ x s. absurd (s (zeros_at M x));
    distinct = λ i j l u. absurd (omega arith);
    length_counts = length-replicate (v * (M / 8)) 0;
    length_cells = length-replicate (4 * M) 0;
    length_d = length-replicate (M / 8) 0;
    counted_at = λ i l. absurd (omega arith);
    count_none = λ x l z. count_all_zero (M / 8) v (v * (M / 8)) x;
    kind_at = λ i l. absurd (omega arith);
    kind_none = λ x z. bit_all_zero (M / 8) x;
    cell_at = λ i j l. absurd (omega arith);
    cell_none = λ j z. zeros_at (4 * M) j;
  }

  -- ---- one object more

  module _ (k : ℕ) (g : Memory) (held : Holding k g) (some_blocks : size_of N h met k ≢ 0) (r : Room M g.a (size_of N h met k) (place k)) where
    abbrev p : ℕ
    p = place k

    abbrev n : ℕ
    n = size_of N h met k

    abbrev sizes : List ℕ
    sizes = sizes_with k

    none_there : get_or sizes p 0 ≡ 0
    none_there = elim (ℕ_discrete (get_or sizes p 0) 0) [
      | yes z ↦ z
      | no q ↦
          absurd (elim (clear_of M g.a g.b sizes held.represents p n some_blocks r.free p q) [ inl l ↦ omega arith | inr l ↦ omega arith ])
    ]

    here : get_or (set sizes p n) p 0 ≡ n
    here = get_or-set_same sizes p n 0 (omega (arith, held.represents.length_sizes, r.inside))

    other : (x : ℕ) → x ≢ p → get_or (set sizes p n) x 0 ≡ get_or sizes x 0
    other x d = get_or-set_other sizes p x n 0 d

    -- the earlier ones stand elsewhere
    elsewhere : (i : ℕ) → i < k → size_of N h met i ≢ 0 → place i ≢ p
    elsewhere i l s e = s (sym (held.size_at_lem i l) ∙ ap (λ (x : ℕ). get_or sizes x 0) e ∙ none_there)

    -- and their cells are others
    beside : (i j : ℕ) → i < k → j < 4 * size_of N h met i → Outside (4 * p) (4 * n) (4 * place i + j)
    beside i j l u =
        let s : get_or sizes (place i) 0 ≢ 0 = omega (arith, held.size_at_lem i l) in
        elim (clear_of M g.a g.b sizes held.represents p n some_blocks r.free (place i) s) [
          | inl q ↦ inl (omega (arith, held.size_at_lem i l))
          | inr q ↦ inr (omega arith)
        ]

    capacity_fits : capacity v < 2 ^ v
    capacity_fits = omega (arith, pow_pos v)

    module _ (sized : (i : ℕ) → i < k → size_of N h met i ≢ 0) where
      one_more : Holding (suc k) (copy_one N h met places M v g (block_at met (suc k)) p)
      unfolding copy_one sizes_with
      one_more = record {
        represents = placed_represents M g.a g.b sizes held.represents p n some_blocks r.inside r.free;
        aligned = λ x s. elim (ℕ_discrete x p) [
          | yes e ↦ subst (λ (y : ℕ). y % 2 ^ exponent (get_or (set sizes p n) y 0) ≡ 0) (sym e) (rw here r.aligned)
          | no d ↦ rw (other x d) (held.aligned x (λ z. s (other x d ∙ z)))
        ];
        size_at_lem = λ i l. elim (ℕ_discrete i k) [
          | yes e ↦ subst (λ (y : ℕ). get_or (set sizes p n) (place y) 0 ≡ size_of N h met y) (sym e) here
          | no d ↦ other (place i) (elsewhere i (omega arith) (sized i (omega arith))) ∙ held.size_at_lem i (omega arith)
        ];
        only = λ x s. elim (ℕ_discrete x p) [
          | yes e ↦ (k, omega arith, e)
          | no d ↦ let was = held.only x (λ z. s (other x d ∙ z)) in (was.0, omega (arith, was.1), was.2)
        ];
        distinct = λ i j l u. elim (ℕ_discrete j k) [
          | yes e ↦ subst (λ (y : ℕ). place i ≢ place y) (sym e) (elsewhere i (omega arith) (sized i (omega arith)))
          | no d ↦ held.distinct i j l (omega arith)
        ];
        length_counts = length_set_count (M / 8) v g.counts p (capacity v) ∙ held.length_counts;
        length_cells = fill_length (new_cell h met places (block_at met (suc k))) g.cells (4 * p) (4 * n) ∙ held.length_cells;
        length_d = length_set_bit g.d p (bit_at h.d (block_at met (suc k))) ∙ held.length_d;
        counted_at = λ i l. elim (ℕ_discrete i k) [
          | yes e ↦
              subst (λ (y : ℕ). count_at (M / 8) v (set_count (M / 8) v g.counts p (capacity v)) (place y) ≡ capacity v) (sym e)
              (count_set_same (M / 8) v g.counts p (capacity v) (omega (arith, whole, r.inside)) (omega (arith, held.length_counts)) capacity_fits)
          | no d ↦
              let s = sized i (omega arith) in
              let below : place i < M = omega (arith, held.represents.inside (place i) (λ z. s (sym (held.size_at_lem i (omega arith)) ∙ z)), held.size_at_lem i (omega arith)) in
              count_set_other (M / 8) v g.counts p (capacity v) (place i) (omega (arith, whole)) (omega (arith, whole, r.inside)) (elsewhere i (omega arith) s)
              ∙ held.counted_at i (omega arith)
        ];
        count_none = λ x l z.
            let d : x ≢ p = λ e. some_blocks (sym here ∙ ap (λ (y : ℕ). get_or (set sizes p n) y 0) (sym e) ∙ z) in
            count_set_other (M / 8) v g.counts p (capacity v) x (omega (arith, whole)) (omega (arith, whole, r.inside)) d
            ∙ held.count_none x l (sym (other x d) ∙ z);
        kind_at = λ i l. elim (ℕ_discrete i k) [
          | yes e ↦
              subst (λ (y : ℕ). bit_at (set_bit g.d p (bit_at h.d (block_at met (suc k)))) (place y) ≡ bit_at h.d (block_at met (suc y))) (sym e)
              (bit_set_same g.d p (bit_at h.d (block_at met (suc k))) (omega (arith, held.length_d, whole, r.inside)) (bit_at_lt h.d (block_at met (suc k))))
          | no d ↦
              bit_set_other g.d p (bit_at h.d (block_at met (suc k))) (place i) (elsewhere i (omega arith) (sized i (omega arith))) (bit_at_lt h.d (block_at met (suc k)))
              ∙ held.kind_at i (omega arith)
        ];
        kind_none = λ x z.
            let d : x ≢ p = λ e. some_blocks (sym here ∙ ap (λ (y : ℕ). get_or (set sizes p n) y 0) (sym e) ∙ z) in
            bit_set_other g.d p (bit_at h.d (block_at met (suc k))) x d (bit_at_lt h.d (block_at met (suc k))) ∙ held.kind_none x (sym (other x d) ∙ z);
        cell_at = λ i j l u. elim (ℕ_discrete i k) [
          | yes e ↦ last i j e u
          | no d ↦
              fill_out (new_cell h met places (block_at met (suc k))) g.cells (4 * p) (4 * n) (4 * place i + j) (beside i j (omega arith) u)
              ∙ held.cell_at i j (omega arith) u
        ];
        cell_none = λ j z. elim (side (4 * p) (4 * n) j) [
          | inl q ↦
              absurd (omega (arith, bit_fill_in g.a p n 1 (j / 4) (omega (arith, held.represents.length_a, r.inside)) (omega arith) (omega (arith, q)) (omega (arith, q)), z))
          | inr o ↦
              fill_out (new_cell h met places (block_at met (suc k))) g.cells (4 * p) (4 * n) j o
              ∙ held.cell_none j (sym (bit_fill_out g.a p n 1 (j / 4) (omega arith) (blocks_outside p n j o)) ∙ z)
        ];
      }
        where
          last : (i j : ℕ) → i ≡ k → j < 4 * size_of N h met i
              → get_or (fill_cells (new_cell h met places (block_at met (suc k))) g.cells (4 * p) (4 * n)) (4 * place i + j) 0
              ≡ new_cell h met places (block_at met (suc i)) j
          last i j e =
              subst
              (λ (y : ℕ).
              j < 4 * size_of N h met y
              → get_or (fill_cells (new_cell h met places (block_at met (suc k))) g.cells (4 * p) (4 * n)) (4 * place y + j) 0
              ≡ new_cell h met places (block_at met (suc y)) j)
              (sym e)
              (λ u. fill_in (new_cell h met places (block_at met (suc k))) g.cells (4 * p) (4 * n) j (omega (arith, held.length_cells, r.inside)) u)

  -- the A-map is that of the plan
  pub copy_map : (k : ℕ) → (copy k).a ≡ map_with M (size_of N h met) place k
  unfolding copy_first copy_one formatted map_with
  copy_map zero = refl
  copy_map (suc k) = rw (copy_map k) refl

  module _ (K : ℕ) (sized : (i : ℕ) → i < K → size_of N h met i ≢ 0)
      (found : (i : ℕ) → i < K → lowest_free M (exponent (size_of N h met i)) (map_with M (size_of N h met) place i) ≡ some (place i)) where
    pub holding : (k : ℕ) → k ≤ K → Holding k (copy k)
    unfolding copy_first
    holding zero l = nothing
    holding (suc k) l =
        one_more k (copy k) (holding k (omega arith)) (sized k (omega arith))
        (room M (copy k).a (size_of N h met k) (place k) (rw (copy_map k) (found k (omega arith))))
        (λ i u. sized i (omega arith))
