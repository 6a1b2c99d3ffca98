-- Document 01, "What each call does": format, counting up and down, freeing, the stores and the placing of a new object.
use Rattle.std.specs.Prelude.{ℕ, zero, suc, ◌+◌, ◌-◌, ◌*◌, ◌/◌, ◌^◌, Bool, true, false, not, ◌&&◌, ◌||◌, List, [], ◌∷◌, get_or, set, replicate, ltb, eqb}
use Rattle.bitmap.specs.Bit.{bit_of, one, set_bit, fill_bits}
use Rattle.planes.specs.Plane.{count_at, set_count}
use Rattle.rules.specs.Heap.{Memory, lent_memory, with_a, with_b, with_counts, with_cells, with_roots, with_d, capacity, size_at, is_data}
use Rattle.rules.specs.Sections.{figures}

-- "A-map 0, B-map all ones, everything else 0." And request U4: "every accepted call, format too, leaves the
-- list true". The mark map and the second list are among "everything else": no collection is open.
unfoldable pub formatted : (N w roots : ℕ) → Memory
formatted N w roots =
    let a : List ℕ = replicate (N / 8) 0 in
    lent_memory a (replicate (N / 8) 255) (replicate (w * (N / 8)) 0) (replicate (4 * N) 0) (replicate roots 0) (replicate N 0)
    (figures N a) (replicate (N / 8) 0) (replicate (N / 8) 0) (replicate (N + 1) 0)

-- ---- counting

-- "the object named by v, if v isn't 0, is counted up"; "A count at capacity is stuck: up and down don't change it."
unfoldable pub count_up : ℕ → ℕ → List ℕ → ℕ → List ℕ
count_up N w counts v =
    let c = count_at (N / 8) w counts (v - 1) in
    elim (eqb v 0 || eqb c (capacity w)) [ true ↦ counts | false ↦ set_count (N / 8) w counts (v - 1) (c + 1) ]

-- request U5: "Counting up must say whether this very step brought the count to the capacity": v names an object, whose count is one below
unfoldable pub sticks : ℕ → ℕ → List ℕ → ℕ → Bool
sticks N w counts v = not (eqb v 0) && eqb (count_at (N / 8) w counts (v - 1) + 1) (capacity w)

-- the counts, and the first blocks of the objects whose count came to 0 and that wait to be freed, the last one first
pub record Work : Type 0 where
  pub counts : List ℕ
  pub stack : List ℕ

abbrev pub work : List ℕ → List ℕ → Work
work counts stack = record { counts = counts; stack = stack }

-- "then the old object, if any, is counted down": 0 names none, and a number above N none either, since the last block is named by N. Where
-- the object's count comes to 0 it waits to be freed.
unfoldable pub count_down : ℕ → ℕ → Work → ℕ → Work
count_down N w s v =
    let c = count_at (N / 8) w s.counts (v - 1) in
    let stays = eqb v 0 || ltb N v || eqb c (capacity w) in
    elim stays [
      | true ↦ s
      | false ↦
          work (set_count (N / 8) w s.counts (v - 1) (c - 1)) (elim (eqb c 1) [ true ↦ (v - 1) ∷ s.stack | false ↦ s.stack ])
    ]

-- "each object its cells named is counted down likewise, once for each cell": the n cells from cell j on
unfoldable pub count_down_each : ℕ → ℕ → Work → List ℕ → ℕ → ℕ → Work
count_down_each N w s cells j zero = s
count_down_each N w s cells j (suc n) = count_down N w (count_down_each N w s cells j n) (get_or cells (j + n) 0)

-- ---- freeing

-- the n cells from cell j on made 0
unfoldable pub clear_cells : List ℕ → ℕ → ℕ → List ℕ
clear_cells cells j zero = cells
clear_cells cells j (suc n) = set (clear_cells cells j n) (j + n) 0

-- the object of n blocks at i: "its A bits go to 0, its last B bit goes to 1 .., its count and cells go to
-- 0". Request U6: the cells of data, "with its D bit, are cleared when it is freed".
unfoldable pub freed : ℕ → ℕ → Memory → ℕ → ℕ → Memory
freed N w h i n =
    with_a (fill_bits h.a i n 0)
    (with_b (set_bit h.b (i + n - 1) 1)
    (with_counts (set_count (N / 8) w h.counts i 0)
    (with_cells (clear_cells h.cells (4 * i) (4 * n))
    (with_d (set_bit h.d i 0) h))))

-- how many cells of the object of n blocks at i may name others: of data none, as its cells "are never
-- followed, counted or checked as references"
unfoldable pub naming_cells : (d : List ℕ) → (i n : ℕ) → ℕ
naming_cells d i n = elim (is_data d i) [ true ↦ 0 | false ↦ 4 * n ]

-- One step: the object at i is taken off and freed while the objects of `rest` go on to wait, "and each object its cells named is counted
-- down likewise, once for each cell". Cells of data name none. The counts and what waits then,
abbrev pub work_after : ℕ → ℕ → Memory → (i : ℕ) → (rest : List ℕ) → Work
work_after N w h i rest =
    let n = size_at N h i in
    count_down_each N w (work (freed N w h i n).counts rest) h.cells (4 * i) (naming_cells h.d i n)

-- and the memory
abbrev pub memory_after : ℕ → ℕ → Memory → (i : ℕ) → (rest : List ℕ) → Memory
memory_after N w h i rest = with_counts (work_after N w h i rest).counts (freed N w h i (size_at N h i))

-- The waiting objects are freed, the last one first, until none waits. Each step frees one object, so N steps are enough (proved as
-- `NStepsSuffice`, theory_memories/specs/Heaps.antt). Every other order ends in the same memory (proved as `OrderUnseen`,
-- theory_memories/specs/Orders.antt).
unfoldable pub release : (steps : ℕ) → ℕ → ℕ → Memory → List ℕ → Memory
release zero N w h stack = h
release (suc f) N w h [] = h
release (suc f) N w h (i ∷ rest) = release f N w (memory_after N w h i rest) (work_after N w h i rest).stack

-- "then the old object, if any, is counted down", with all that this frees in the given number of steps
abbrev pub let_go_in : (steps N w : ℕ) → Memory → (v : ℕ) → Memory
let_go_in steps N w h v =
    let s = count_down N w (work h.counts []) v in
    release steps N w (with_counts s.counts h) s.stack

unfoldable pub let_go : (N w : ℕ) → Memory → (v : ℕ) → Memory
let_go N w h v = let_go_in N N w h v

-- ---- stores

-- "then the cell is written; then the old object, if any, is counted down": root r
unfoldable pub put_root : ℕ → ℕ → Memory → ℕ → ℕ → Memory
put_root N w h r v = let_go N w (with_roots (set h.roots r v) h) (get_or h.roots r 0)

-- the same with cell number c of all cells
unfoldable pub put_cell : ℕ → ℕ → Memory → ℕ → ℕ → Memory
put_cell N w h c v = let_go N w (with_cells (set h.cells c v) h) (get_or h.cells c 0)

-- a store that changes what stands there: "First the object named by v, if v isn't 0, is counted up"
unfoldable pub change_root : ℕ → ℕ → Memory → ℕ → ℕ → Memory
change_root N w h r v = put_root N w (with_counts (count_up N w h.counts v) h) r v

unfoldable pub change_cell : ℕ → ℕ → Memory → ℕ → ℕ → Memory
change_cell N w h c v = put_cell N w (with_counts (count_up N w h.counts v) h) c v

-- request U5: "Every store .. passes the fact on", here v stored over `old`. A store of the value present counts nothing up.
unfoldable pub store_sticks : (N w : ℕ) → (counts : List ℕ) → (old v : ℕ) → Bool
store_sticks N w counts old v = not (eqb old v) && sticks N w counts v

-- ---- a return (request U10)

-- "a set of roots as a 64-bit number, bit r for root r": root r is one of the set
abbrev pub is_chosen : (chosen r : ℕ) → Bool
is_chosen chosen r = eqb (bit_of chosen r) 1

-- no bit of the set "is at or past" place n
abbrev pub chosen_below : (chosen n : ℕ) → Bool
chosen_below chosen n = eqb (chosen / 2 ^ n) 0

-- ---- allocation

-- an object of n blocks made at i: "only its first n blocks become allocated .. The B bit of block n of the
-- object goes to 0"; with its count, all cells of the heap, and its bit of the D-map
abbrev pub made_at : ℕ → ℕ → Memory → (i n count : ℕ) → (cells : List ℕ) → (bit : ℕ) → Memory
made_at N w h i n count cells bit =
    with_a (fill_bits h.a i n 1)
    (with_b (set_bit h.b (i + n - 1) 0)
    (with_counts (set_count (N / 8) w h.counts i count)
    (with_cells cells
    (with_d (set_bit h.d i bit) h))))

-- the new object: "the count becomes 1, the cells are 0." Request U6: the D-map has 1 on its first block where
-- it is made as data, and 0 where it is not.
unfoldable pub placed : ℕ → ℕ → (asData : Bool) → Memory → ℕ → ℕ → Memory
placed N w asData h i n = made_at N w h i n 1 (clear_cells h.cells (4 * i) (4 * n)) (one asData)

-- request U5: ".. a birth at width 1 included": the count of the new object, which is 1, is the capacity
abbrev pub birth_sticks : ℕ → Bool
birth_sticks w = eqb (capacity w) 1

-- "Then the reference is stored in root r as below, except that the new object isn't counted up again."
unfoldable pub allocate_in : ℕ → ℕ → (asData : Bool) → Memory → ℕ → ℕ → ℕ → Memory
allocate_in N w asData h n r i = put_root N w (placed N w asData h i n) r (i + 1)
