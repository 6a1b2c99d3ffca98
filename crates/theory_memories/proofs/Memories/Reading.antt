-- Cells read as references (request U6), where the maps stand for a list of sizes: whose cell a cell is, and what freeing an object, placing
-- one and writing a cell do to what is read. And that nothing is left where no object stands: cells of free blocks are 0, and a D bit
-- stands on first blocks alone.
use mathlib.Core.Path.{◌≡◌, refl, sym, ap, ◌∙◌}
use mathlib.Core.Logic.{◌≢◌, ◌⊎◌, inl, inr}
use mathlib.Core.Bool.{Bool, true, false, true≢false}
use mathlib.Core.List.{List}
use Prim.Native.Nat.{ℕ, zero, suc, ◌+◌, ◌-◌, ◌*◌, ◌/◌, ◌≤◌, ◌<◌}
use native.Mathlib.Decide.{ℕ_discrete, dec_lt}
use native.Mathlib.Omega.{arith}
use lib.Dec.{eqb}
use lib.ListN.{length, get_or, set, length-set}
use lib.Seq.{get_or-set_same, get_or-set_other, ext_get_or}
use borrow.Author.Tests.{ne_eqb}
use Rattle.bitmap.specs.Bit.{bit_at, one, set_bit, fill_bits}
use Rattle.bitmap.proofs.Maps.{length_set_bit, bit_past_end, bit_set_same, bit_set_other}
use Rattle.bitmap.proofs.Runs.{bit_fill_out}
use Rattle.rules.specs.Heap.{first_in, is_data, first_at, in_data, ref_at}
use Rattle.rules.specs.Tools.{tabulate}
use Rattle.rules_stores.specs.Store.{clear_cells}
use Rattle.rules.proofs.Chunks.{Free}
use Rattle.rules.proofs.Objects.{bit_cases}
use Rattle.rules.proofs.Reading.{free_no_data, read_data, read_other, read_zero, read_same}
use Rattle.rules.proofs.Tabulate.{length_tabulate, get_d_tabulate}
use Rattle.rules.proofs.Tests.{false_unless}
use Rattle.theory_memories.proofs.Maps.Extents.{Represents, first_size, size_is_first}
use Rattle.theory_memories.proofs.Maps.Moves.{clear_of, freed_represents, placed_represents}
use Rattle.theory_graphs.proofs.Graphs.Stretch.{Inside, Outside, side, stretch, stretch_length, stretch_out, clear, clear_in}

-- ---- lists

-- the list of what f gives is a list that has it at each place
pub tabulate_is : (n : ℕ) (f : ℕ → ℕ) (l : List ℕ) → length l ≡ n → ((j : ℕ) → j < n → f j ≡ get_or l j 0) → tabulate n f ≡ l
tabulate_is n f l long each =
    ext_get_or 0 (tabulate n f) l (length_tabulate n f ∙ sym long)
    (λ j m. let inside : j < n = omega (arith, length_tabulate n f) in get_d_tabulate 0 n f j inside ∙ each j inside)

-- cells made 0 are a cleared stretch
pub clear_cells_lem : (cells : List ℕ) (j n : ℕ) → clear_cells cells j n ≡ clear j n cells
unfolding clear_cells stretch
clear_cells_lem cells j zero = refl
clear_cells_lem cells j (suc n) = ap (λ (l : List ℕ). set l (j + n) 0) (clear_cells_lem cells j n)

pub cleared_in : (cells : List ℕ) (i n j : ℕ) → Inside i n j → get_or (clear_cells cells i n) j 0 ≡ 0
cleared_in cells i n j p = ap (λ (l : List ℕ). get_or l j 0) (clear_cells_lem cells i n) ∙ clear_in i n cells j p

pub cleared_out : (cells : List ℕ) (i n j : ℕ) → Outside i n j → get_or (clear_cells cells i n) j 0 ≡ get_or cells j 0
cleared_out cells i n j o = ap (λ (l : List ℕ). get_or l j 0) (clear_cells_lem cells i n) ∙ stretch_out (λ k. 0) i cells n j o

-- a cell outside an object's cells is one of a block outside its blocks
pub blocks_outside : (x n j : ℕ) → Outside (4 * x) (4 * n) j → (j / 4 < x) ⊎ (x + n ≤ j / 4)
blocks_outside x n j (inl l) = inl (omega arith)
blocks_outside x n j (inr l) = inr (omega arith)

-- a bit that is cleared is 0, past the end of the map too
bit_cleared : (d : List ℕ) (i : ℕ) → bit_at (set_bit d i 0) i ≡ 0
bit_cleared d i =
    elim (dec_lt i (8 * length d)) [
      | yes l ↦ bit_set_same d i 0 l (omega arith)
      | no l ↦ bit_past_end (set_bit d i 0) i (omega (arith, length_set_bit d i 0))
    ]

pub one_lt : (t : Bool) → one t < 2
one_lt true = omega arith
one_lt false = omega arith

-- ---- nothing is left where no object stands

pub record Bare (N : ℕ) (a b d cells : List ℕ) : Type 0 where
  pub free_cells : (j : ℕ) → bit_at a (j / 4) ≡ 0 → get_or cells j 0 ≡ 0
  pub data_first : (i : ℕ) → first_in N a b i ≡ false → bit_at d i ≡ 0

-- ---- whose cell a cell is

module _ (N : ℕ) (a b sizes : List ℕ) (rep : Represents N a b sizes) where
  -- a block inside an object, but for its first, is no first block
  not_first : (x i : ℕ) → x < i → i < x + get_or sizes x 0 → first_in N a b i ≡ false
  not_first x i l u =
      false_unless (first_in N a b i) (λ f. omega (arith, rep.apart x i l (omega arith) (first_size N a b sizes rep i f)))

  -- the object that a block lies in
  first_at_lem : (x i : ℕ) → x ≤ i → i < x + get_or sizes x 0 → first_at N a b i ≡ x
  unfolding first_at
  first_at_lem x zero l u = omega arith
  first_at_lem x (suc i) l u =
      elim (ℕ_discrete x (suc i)) [
        | yes e ↦ rw (size_is_first N a b sizes rep (suc i) (λ z. omega (arith, ap (λ (k : ℕ). get_or sizes k 0) e)), first_at) (sym e)
        | no d ↦ rw (not_first x (suc i) (omega arith) u, first_at) (first_at_lem x i (omega arith) (omega arith))
      ]

  pub in_object : (d : List ℕ) (x i : ℕ) → x ≤ i → i < x + get_or sizes x 0 → in_data N a b d i ≡ is_data d x
  unfolding in_data
  in_object d x i l u =
      rw (ne_eqb (bit_at a i) 0 (λ z. omega (arith, rep.used x i l u)), in_data) (ap (is_data d) (first_at_lem x i l u))

  module _ (d cells : List ℕ) (x j : ℕ) (cell : Inside (4 * x) (4 * get_or sizes x 0) j) where
    cell_read : in_data N a b d (j / 4) ≡ is_data d x
    cell_read = in_object d x (j / 4) (omega (arith, cell)) (omega (arith, cell))

    -- a cell of an object: 0 where it is data, else what stands there
    pub data_read : is_data d x ≡ true → ref_at N a b d cells j ≡ 0
    data_read e = read_data N a b d cells j (cell_read ∙ e)

    pub ordinary_read : is_data d x ≡ false → ref_at N a b d cells j ≡ get_or cells j 0
    ordinary_read e = read_other N a b d cells j (cell_read ∙ e)

  -- ---- cell c of the object at x is written

  module _ (d cells : List ℕ) (x c v : ℕ) (cell : Inside (4 * x) (4 * get_or sizes x 0) c) where
    -- a reference, in an ordinary object
    pub reference_written : is_data d x ≡ false → c < length cells
        → tabulate (4 * N) (ref_at N a b d (set cells c v)) ≡ set (tabulate (4 * N) (ref_at N a b d cells)) c v
    reference_written ordinary inside =
        let refs : List ℕ = tabulate (4 * N) (ref_at N a b d cells) in
        let refs_long : length refs ≡ 4 * N = length_tabulate (4 * N) (ref_at N a b d cells) in
        tabulate_is (4 * N) (ref_at N a b d (set cells c v)) (set refs c v) (length-set refs c v ∙ refs_long)
        (λ j m.
        elim (ℕ_discrete j c) [
          | yes q ↦
              rw q
              (ordinary_read d (set cells c v) x c cell ordinary ∙ get_or-set_same cells c v 0 inside
              ∙ sym (get_or-set_same refs c v 0 (omega (arith, refs_long, m, q))))
          | no n ↦
              read_same N a b d cells a b d (set cells c v) j refl (get_or-set_other cells c j v 0 n)
              ∙ sym (get_or-set_other refs c j v 0 n ∙ get_d_tabulate 0 (4 * N) (ref_at N a b d cells) j m)
        ])

    -- a number, in data
    pub number_written : is_data d x ≡ true → (j : ℕ) → ref_at N a b d (set cells c v) j ≡ ref_at N a b d cells j
    number_written made j =
        elim (ℕ_discrete j c) [
          | yes q ↦ rw q (data_read d (set cells c v) x c cell made ∙ sym (data_read d cells x c cell made))
          | no n ↦ read_same N a b d cells a b d (set cells c v) j refl (get_or-set_other cells c j v 0 n)
        ]

    pub cell_bare : Bare N a b d cells → Bare N a b d (set cells c v)
    cell_bare bare =
        record {
          free_cells = λ j z.
              get_or-set_other cells c j v 0
              (λ q. omega (arith, rep.used x (j / 4) (omega (arith, cell)) (omega (arith, cell)))) ∙ bare.free_cells j z;
          data_first = bare.data_first;
        }

-- ---- the object of n blocks at x is freed

module _ (N : ℕ) (a b sizes d cells : List ℕ) (rep : Represents N a b sizes) (x n : ℕ) (e : get_or sizes x 0 ≡ n) (some : n ≢ 0) where
  abbrev a₀ : List ℕ
  a₀ = fill_bits a x n 0

  abbrev b₁ : List ℕ
  b₁ = set_bit b (x + n - 1) 1

  abbrev d₀ : List ℕ
  d₀ = set_bit d x 0

  abbrev cells₀ : List ℕ
  cells₀ = clear_cells cells (4 * x) (4 * n)

  gone : Represents N a₀ b₁ (set sizes x 0)
  gone = freed_represents N a b sizes rep x n e some

  freed_in : (j : ℕ) → Inside (4 * x) (4 * n) j → ref_at N a₀ b₁ d₀ cells₀ j ≡ 0
  freed_in j p = read_zero N a₀ b₁ d₀ cells₀ j (cleared_in cells (4 * x) (4 * n) j p)

  -- the kind of another block stays
  freed_kind : (i : ℕ) → (i < x) ⊎ (x + n ≤ i) → in_data N a₀ b₁ d₀ i ≡ in_data N a b d i
  freed_kind i o =
      elim (bit_cases a i) [
        | inl z ↦ free_no_data N a₀ b₁ d₀ i (bit_fill_out a x n 0 i (omega arith) o ∙ z) ∙ sym (free_no_data N a b d i z)
        | inr u ↦ owned (rep.owner i u) o
      ]
    where
      apart : (y : ℕ) → y ≤ i → i < y + get_or sizes y 0 → (i < x) ⊎ (x + n ≤ i) → y ≢ x
      apart y l u (inl v) q = omega arith
      apart y l u (inr v) q = omega (arith, ap (λ (k : ℕ). get_or sizes k 0) q)

      owned : (y : ℕ) × (y ≤ i) × (i < y + get_or sizes y 0) → (i < x) ⊎ (x + n ≤ i) → in_data N a₀ b₁ d₀ i ≡ in_data N a b d i
      owned (y, l, u) o =
          let other = apart y l u o in
          let same = get_or-set_other sizes x y 0 0 other in
          let there : i < y + get_or (set sizes x 0) y 0 = omega arith in
          in_object N a₀ b₁ (set sizes x 0) gone d₀ y i l there
          ∙ ap (λ (v : ℕ). eqb v 1) (bit_set_other d x 0 y other (omega arith))
          ∙ sym (in_object N a b sizes rep d y i l u)

  freed_out : (j : ℕ) → Outside (4 * x) (4 * n) j → ref_at N a₀ b₁ d₀ cells₀ j ≡ ref_at N a b d cells j
  freed_out j o =
      read_same N a b d cells a₀ b₁ d₀ cells₀ j (freed_kind (j / 4) (blocks_outside x n j o)) (cleared_out cells (4 * x) (4 * n) j o)

  pub freed_read : tabulate (4 * N) (ref_at N a₀ b₁ d₀ cells₀) ≡ clear (4 * x) (4 * n) (tabulate (4 * N) (ref_at N a b d cells))
  freed_read =
      let refs : List ℕ = tabulate (4 * N) (ref_at N a b d cells) in
      tabulate_is (4 * N) (ref_at N a₀ b₁ d₀ cells₀) (clear (4 * x) (4 * n) refs)
      (stretch_length (λ k. 0) (4 * x) refs (4 * n) ∙ length_tabulate (4 * N) (ref_at N a b d cells))
      (λ j m.
      elim (side (4 * x) (4 * n) j) [
        | inl p ↦ freed_in j p ∙ sym (clear_in (4 * x) (4 * n) refs j p)
        | inr o ↦
            freed_out j o
            ∙ sym (stretch_out (λ k. 0) (4 * x) refs (4 * n) j o ∙ get_d_tabulate 0 (4 * N) (ref_at N a b d cells) j m)
      ])

  pub freed_bare : Bare N a b d cells → Bare N a₀ b₁ d₀ cells₀
  freed_bare bare =
      record {
        free_cells = λ j z.
            elim (side (4 * x) (4 * n) j) [
              | inl p ↦ cleared_in cells (4 * x) (4 * n) j p
              | inr o ↦
                  cleared_out cells (4 * x) (4 * n) j o
                  ∙ bare.free_cells j (sym (bit_fill_out a x n 0 (j / 4) (omega arith) (blocks_outside x n j o)) ∙ z)
            ];
        data_first = λ i f.
            elim (ℕ_discrete i x) [
              | yes q ↦ rw q (bit_cleared d x)
              | no q ↦ bit_set_other d x 0 i q (omega arith) ∙ bare.data_first i (was_none i q f)
            ];
      }
    where
      was_none : (i : ℕ) → i ≢ x → first_in N a₀ b₁ i ≡ false → first_in N a b i ≡ false
      was_none i q f =
          false_unless (first_in N a b i)
          (λ t.
          true≢false
          (sym
          (size_is_first N a₀ b₁ (set sizes x 0) gone i
          (λ z. first_size N a b sizes rep i t (sym (get_or-set_other sizes x i 0 0 q) ∙ z)))
          ∙ f))

-- ---- an object of n blocks is placed at x

module _ (N : ℕ) (a b sizes d cells : List ℕ) (rep : Represents N a b sizes) (x n : ℕ) (some : n ≢ 0) (fits : x + n ≤ N)
    (free : Free a x n) (asData : Bool) where
  abbrev a₁ : List ℕ
  a₁ = fill_bits a x n 1

  abbrev b₀ : List ℕ
  b₀ = set_bit b (x + n - 1) 0

  abbrev d₁ : List ℕ
  d₁ = set_bit d x (one asData)

  abbrev new_cells : List ℕ
  new_cells = clear_cells cells (4 * x) (4 * n)

  there : Represents N a₁ b₀ (set sizes x n)
  there = placed_represents N a b sizes rep x n some fits free

  none_there : (y : ℕ) → get_or sizes y 0 ≢ 0 → y ≢ x
  none_there y m q = elim (clear_of N a b sizes rep x n some free y m) [ inl l ↦ omega arith | inr l ↦ omega arith ]

  placed_kind : (i : ℕ) → (i < x) ⊎ (x + n ≤ i) → in_data N a₁ b₀ d₁ i ≡ in_data N a b d i
  placed_kind i o =
      elim (bit_cases a i) [
        | inl z ↦ free_no_data N a₁ b₀ d₁ i (bit_fill_out a x n 1 i (omega arith) o ∙ z) ∙ sym (free_no_data N a b d i z)
        | inr u ↦ owned (rep.owner i u)
      ]
    where
      owned : (y : ℕ) × (y ≤ i) × (i < y + get_or sizes y 0) → in_data N a₁ b₀ d₁ i ≡ in_data N a b d i
      owned (y, l, u) =
          let other = none_there y (omega arith) in
          let same = get_or-set_other sizes x y n 0 other in
          let stands : i < y + get_or (set sizes x n) y 0 = omega arith in
          in_object N a₁ b₀ (set sizes x n) there d₁ y i l stands
          ∙ ap (λ (v : ℕ). eqb v 1) (bit_set_other d x (one asData) y other (one_lt asData))
          ∙ sym (in_object N a b sizes rep d y i l u)

  -- the cells there were 0, and are
  pub placed_read : Bare N a b d cells → tabulate (4 * N) (ref_at N a₁ b₀ d₁ new_cells) ≡ tabulate (4 * N) (ref_at N a b d cells)
  placed_read bare =
      tabulate_is (4 * N) (ref_at N a₁ b₀ d₁ new_cells) (tabulate (4 * N) (ref_at N a b d cells))
      (length_tabulate (4 * N) (ref_at N a b d cells))
      (λ j m. at j (side (4 * x) (4 * n) j) ∙ sym (get_d_tabulate 0 (4 * N) (ref_at N a b d cells) j m))
    where
      at : (j : ℕ) → Inside (4 * x) (4 * n) j ⊎ Outside (4 * x) (4 * n) j → ref_at N a₁ b₀ d₁ new_cells j ≡ ref_at N a b d cells j
      at j (inl p) =
          read_zero N a₁ b₀ d₁ new_cells j (cleared_in cells (4 * x) (4 * n) j p)
          ∙ sym (read_zero N a b d cells j (bare.free_cells j (free (j / 4) (omega (arith, p)) (omega (arith, p)))))
      at j (inr o) =
          read_same N a b d cells a₁ b₀ d₁ new_cells j (placed_kind (j / 4) (blocks_outside x n j o)) (cleared_out cells (4 * x) (4 * n) j o)

  pub placed_bare : Bare N a b d cells → Bare N a₁ b₀ d₁ new_cells
  placed_bare bare =
      record {
        free_cells = λ j z.
            elim (side (4 * x) (4 * n) j) [
              | inl p ↦ cleared_in cells (4 * x) (4 * n) j p
              | inr o ↦
                  cleared_out cells (4 * x) (4 * n) j o
                  ∙ bare.free_cells j (sym (bit_fill_out a x n 1 (j / 4) (omega arith) (blocks_outside x n j o)) ∙ z)
            ];
        data_first = λ i f.
            elim (ℕ_discrete i x) [
              | yes q ↦
                  let first = first_there x (get_or-set_same sizes x n 0 (omega (arith, rep.length_sizes))) in
                  absurd (true≢false (sym first ∙ ap (first_in N a₁ b₀) (sym q) ∙ f))
              | no q ↦ bit_set_other d x (one asData) i q (one_lt asData) ∙ bare.data_first i (was_none i q f)
            ];
      }
    where
      first_there : (i : ℕ) → get_or (set sizes x n) i 0 ≡ n → first_in N a₁ b₀ i ≡ true
      first_there i q = size_is_first N a₁ b₀ (set sizes x n) there i (λ z. some (sym q ∙ z))

      was_none : (i : ℕ) → i ≢ x → first_in N a₁ b₀ i ≡ false → first_in N a b i ≡ false
      was_none i q f =
          false_unless (first_in N a b i)
          (λ t.
          true≢false
          (sym
          (size_is_first N a₁ b₀ (set sizes x n) there i
          (λ z. first_size N a b sizes rep i t (sym (get_or-set_other sizes x i n 0 q) ∙ z)))
          ∙ f))
