-- Document 01, "The lent heap": the lists of numbers that the caller lends, and what is read off them. N is the number of blocks
-- and w the count width, as in the document. Definitions that code cites take the lists they read; the others take the whole memory.
use Rattle.std.specs.Prelude.{ℕ, zero, suc, ◌+◌, ◌-◌, ◌*◌, ◌/◌, ◌^◌, min, Bool, true, false, not, ◌&&◌, ◌||◌, List, [], ◌∷◌, length, get_or, leb, ltb, eqb}
use Rattle.std.proofs.Math.Option.{Option, none, some}
use Rattle.bitmap.specs.Bit.{bit_at, count_below}
use Rattle.planes.specs.Plane.{count_at}
use Rattle.rules.specs.Tools.{all, holding}

-- the ten lent buffers; `waiting` is the "Waiting list: N unsigned .. numbers of working space", `sections`
-- request U4's "added lent list of .. numbers, one for each section", `d` request U6's "new D-map of N/8
-- bytes", `marks` and `list` request U8's "new mark map of N/8 bytes" and its "second list". Request U12:
-- "Cells, roots and working lists become 32-bit numbers, and so do data words, U4's figures and U6's number."
pub record Memory : Type 0 where
  pub a : List ℕ
  pub b : List ℕ
  pub counts : List ℕ
  pub cells : List ℕ
  pub roots : List ℕ
  pub waiting : List ℕ
  pub sections : List ℕ
  pub d : List ℕ
  pub marks : List ℕ
  pub list : List ℕ

abbrev pub lent_memory : (a b counts cells roots waiting sections d marks list : List ℕ) → Memory
lent_memory a b counts cells roots waiting sections d marks list =
    record {
      a = a;
      b = b;
      counts = counts;
      cells = cells;
      roots = roots;
      waiting = waiting;
      sections = sections;
      d = d;
      marks = marks;
      list = list;
    }

-- document 01's six lists, for contracts of code that leaves those of the requests alone
abbrev pub memory : (a b counts cells roots waiting : List ℕ) → Memory
memory a b counts cells roots waiting = lent_memory a b counts cells roots waiting [] [] [] []

-- a memory with one buffer replaced
abbrev pub with_a : List ℕ → Memory → Memory
with_a x h = lent_memory x h.b h.counts h.cells h.roots h.waiting h.sections h.d h.marks h.list

abbrev pub with_b : List ℕ → Memory → Memory
with_b x h = lent_memory h.a x h.counts h.cells h.roots h.waiting h.sections h.d h.marks h.list

abbrev pub with_counts : List ℕ → Memory → Memory
with_counts x h = lent_memory h.a h.b x h.cells h.roots h.waiting h.sections h.d h.marks h.list

abbrev pub with_cells : List ℕ → Memory → Memory
with_cells x h = lent_memory h.a h.b h.counts x h.roots h.waiting h.sections h.d h.marks h.list

abbrev pub with_roots : List ℕ → Memory → Memory
with_roots x h = lent_memory h.a h.b h.counts h.cells x h.waiting h.sections h.d h.marks h.list

abbrev pub with_waiting : List ℕ → Memory → Memory
with_waiting x h = lent_memory h.a h.b h.counts h.cells h.roots x h.sections h.d h.marks h.list

abbrev pub with_sections : List ℕ → Memory → Memory
with_sections x h = lent_memory h.a h.b h.counts h.cells h.roots h.waiting x h.d h.marks h.list

abbrev pub with_d : List ℕ → Memory → Memory
with_d x h = lent_memory h.a h.b h.counts h.cells h.roots h.waiting h.sections x h.marks h.list

abbrev pub with_marks : List ℕ → Memory → Memory
with_marks x h = lent_memory h.a h.b h.counts h.cells h.roots h.waiting h.sections h.d x h.list

abbrev pub with_list : List ℕ → Memory → Memory
with_list x h = lent_memory h.a h.b h.counts h.cells h.roots h.waiting h.sections h.d h.marks x

-- ---- sizes

-- the smallest heap doubled this often is the largest
abbrev pub doublings : ℕ
doublings = 13

-- the largest heap. Request U12: "16,384 to 65,536 blocks are now accepted and 131,072 is refused 1."
abbrev pub max_blocks : ℕ
max_blocks = 8 * 2 ^ doublings

-- the largest number that a cell holds: "Cells .. become 32-bit numbers, and so do data words .. and U6's number"
abbrev pub max_number : ℕ
max_number = 2 ^ 32 - 1

-- n is p, or p doubled at most k times
unfoldable pub is_power_from : (k p n : ℕ) → Bool
is_power_from zero p n = eqb n p
is_power_from (suc k) p n = elim (eqb n p) [ true ↦ true | false ↦ is_power_from k (p * 2) n ]

-- "a power of two from 8" to the largest heap
abbrev pub is_blocks : ℕ → Bool
is_blocks n = is_power_from doublings 8 n

-- request U4: "Sections are 256 blocks, or N if N is smaller."
abbrev pub section_length : ℕ → ℕ
section_length N = min N 256

abbrev pub section_count : ℕ → ℕ
section_count N = N / section_length N

-- N, w ("1 to 4 bits"), the number of roots ("1 to 64") and each buffer's length are as they have to be
unfoldable pub shape : (N w a b counts cells roots waiting sections d marks list : ℕ) → Bool
shape N w a b counts cells roots waiting sections d marks list =
    all
    (is_blocks N ∷ leb 1 w ∷ leb w 4 ∷ leb 1 roots ∷ leb roots 64
    ∷ eqb a (N / 8) ∷ eqb b (N / 8) ∷ eqb counts (w * (N / 8)) ∷ eqb cells (4 * N) ∷ eqb waiting N ∷ eqb sections (section_count N)
    ∷ eqb d (N / 8) ∷ eqb marks (N / 8) ∷ eqb list (N + 1) ∷ [])

abbrev pub shaped : ℕ → ℕ → Memory → Bool
shaped N w h =
    shape N w (length h.a) (length h.b) (length h.counts) (length h.cells) (length h.roots) (length h.waiting)
    (length h.sections) (length h.d) (length h.marks) (length h.list)

-- "The capacity is 2^w − 1."
abbrev pub capacity : ℕ → ℕ
capacity w = 2 ^ w - 1

-- "An object's count stands at its first block."
abbrev pub count_of : ℕ → ℕ → Memory → ℕ → ℕ
count_of N w h i = count_at (N / 8) w h.counts i

-- ---- objects

-- A-map: "1 is allocated, 0 is free"
abbrev pub is_free : List ℕ → ℕ → Bool
is_free a i = eqb (bit_at a i) 0

-- B-map: "0 stands on the last block of each object and 1 everywhere else"
abbrev pub is_last : List ℕ → ℕ → Bool
is_last b i = eqb (bit_at b i) 0

-- "A first block is an allocated block that is block 0, or follows a free block, or follows a block whose B bit is 0."
unfoldable pub first_in : ℕ → List ℕ → List ℕ → ℕ → Bool
first_in N a b i = ltb i N && not (is_free a i) && (eqb i 0 || is_free a (i - 1) || is_last b (i - 1))

abbrev pub is_first : ℕ → Memory → ℕ → Bool
is_first N h i = first_in N h.a h.b i

-- "Its object runs to the first 0 in the B-map from there." The number of its blocks, with n blocks from i to the heap's end.
unfoldable pub size_from : (n : ℕ) → List ℕ → (i : ℕ) → ℕ
size_from zero b i = 0
size_from (suc n) b i = elim (is_last b i) [ true ↦ 1 | false ↦ suc (size_from n b (i + 1)) ]

abbrev pub size_at : ℕ → Memory → ℕ → ℕ
size_at N h i = size_from (N - i) h.b i

-- ---- chunks

-- the exponent of "the least power of two that is n or more": k and the numbers above it are tried, f of them at most
unfoldable pub exponent_from : (f k n : ℕ) → ℕ
exponent_from zero k n = k
exponent_from (suc f) k n = elim (leb n (2 ^ k)) [ true ↦ k | false ↦ exponent_from f (k + 1) n ]

-- n tries are enough (proved as `LeastPower`, theory_memories/specs/Heaps.antt)
unfoldable pub exponent : ℕ → ℕ
exponent n = exponent_from n 0 n

-- "A chunk of one block is free when its A bit is 0; a larger one when both of its halves are." The chunk of 2 ^ k blocks from i.
unfoldable pub chunk_free : (k : ℕ) → List ℕ → (i : ℕ) → Bool
chunk_free zero a i = is_free a i
chunk_free (suc k) a i = elim (chunk_free k a i) [ true ↦ chunk_free k a (i + 2 ^ k) | false ↦ false ]

-- the lowest free chunk among the n chunks of 2 ^ k blocks from block i on
unfoldable pub lowest_from : (n k : ℕ) → List ℕ → (i : ℕ) → Option ℕ
lowest_from zero k a i = none
lowest_from (suc n) k a i = elim (chunk_free k a i) [ true ↦ some i | false ↦ lowest_from n k a (i + 2 ^ k) ]

-- "The lowest free chunk of s blocks is taken": s is 2 ^ k, and a chunk is "s blocks starting at a multiple of s"
unfoldable pub lowest_free : (N k : ℕ) → List ℕ → Option ℕ
lowest_free N k a = lowest_from (N / 2 ^ k) k a 0

-- ---- references

-- what a cell or root may hold: "0, or 1 + the first block of an object"
unfoldable pub ref_in : ℕ → List ℕ → List ℕ → ℕ → Bool
ref_in N a b v = eqb v 0 || first_in N a b (v - 1)

abbrev pub is_ref : ℕ → Memory → ℕ → Bool
is_ref N h v = ref_in N h.a h.b v

-- ---- arrays of numbers (request U6)

-- "A new D-map of N/8 bytes has 1 on the first block of an object made as data."
abbrev pub is_data : List ℕ → ℕ → Bool
is_data d i = eqb (bit_at d i) 1

-- the nearest first block at or below block i, or 0: that of the object that block i lies in, if it lies in one
unfoldable pub first_at : ℕ → List ℕ → List ℕ → ℕ → ℕ
first_at N a b zero = zero
first_at N a b (suc i) = elim (first_in N a b (suc i)) [ true ↦ suc i | false ↦ first_at N a b i ]

-- block i is a block of data: a used one, of an object made as data. The D-map is read at first blocks alone.
unfoldable pub in_data : ℕ → (a b d : List ℕ) → ℕ → Bool
in_data N a b d i = elim (is_free a i) [ true ↦ false | false ↦ is_data d (first_at N a b i) ]

-- "Its cells hold any .. number, are never followed, counted or checked as references": what cell number
-- j of all cells holds as a reference, which is 0 for a cell of data
unfoldable pub ref_at : ℕ → (a b d cells : List ℕ) → ℕ → ℕ
ref_at N a b d cells j = elim (in_data N a b d (j / 4)) [ true ↦ 0 | false ↦ get_or cells j 0 ]

abbrev pub reference : ℕ → Memory → ℕ → ℕ
reference N h j = ref_at N h.a h.b h.d h.cells j

-- "the number of all cells and roots naming the object" at block i
abbrev pub references : ℕ → Memory → ℕ → ℕ
references N h i = holding (i + 1) h.roots + count_below (λ j. eqb (reference N h j) (i + 1)) (4 * N)
