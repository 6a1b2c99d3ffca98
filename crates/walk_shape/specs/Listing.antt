-- The list of request U13 as code has it: from the maps, the cells, the roots and the arrays of the walk.
use Rattle.std.specs.Prelude.{Option, Some, None, ℕ, ◌+◌, ◌-◌, ◌*◌, ◌≤◌, ◌<◌, ◌≡◌, ◌≢◌, true, false, List, ◌∷◌, ◌++◌, map, length, get_or, eqb}
use Rattle.bitmap.specs.Bit.{bit_at}
use Rattle.rules.specs.Heap.{Memory, max_blocks, size_from, is_data}
use Rattle.rules_output.specs.Shape.{joined, shape_of}
use Rattle.text.specs.Text.{Put}
use Rattle.walk_objects.specs.Walking.{part}

-- the number of the object that v names, read off the walk's array; 0 for nothing
unfoldable pub number_of : (numbers : List ℕ) → (v : ℕ) → ℕ
number_of numbers v = elim (eqb v 0) [ true ↦ 0 | false ↦ get_or numbers (v - 1) 0 ]

-- what v names has a place among the numbers, and a number no larger than the largest heap
abbrev pub Known : (numbers : List ℕ) → (v : ℕ) → Type 0
Known numbers v = (v ≤ length numbers) × (number_of numbers v ≤ max_blocks)

-- the cells of the object at block `at`
abbrev pub cells_from : ℕ → (b cells : List ℕ) → (at : ℕ) → List ℕ
cells_from N b cells at = part cells (4 * at) (4 * size_from (N - at) b at)

-- `described` of the rules
unfoldable pub described_in : ℕ → (b d cells numbers : List ℕ) → (at : ℕ) → List ℕ
described_in N b d cells numbers at =
    size_from (N - at) b at ∷ bit_at d at ∷ elim (is_data d at) [ true ↦ cells_from N b cells at | false ↦ map (number_of numbers) (cells_from N b cells at) ]

-- `shape_of` of the rules, with the first k of the objects
unfoldable pub shape_up_to : ℕ → (b d cells roots order numbers : List ℕ) → (k : ℕ) → List ℕ
shape_up_to N b d cells roots order numbers k =
    length roots ∷ (map (number_of numbers) roots ++ joined (λ i. described_in N b d cells numbers (get_or order i 0 - 1)) k)

-- the list has references to objects of the heap
pub record Ordered (N : ℕ) (b order : List ℕ) : Type 0 where
  pub small : N ≤ max_blocks
  pub long_b : N ≤ 8 * length b
  pub few : length order ≤ N
  pub some : (k : ℕ) → k < length order → get_or order k 0 ≢ 0
  pub below : (k : ℕ) → k < length order → get_or order k 0 ≤ N

-- what the writing loops ask of the lists: lengths, and that what is followed lies in the heap
pub record Listed (N : ℕ) (b d cells roots order numbers : List ℕ) : Type 0 where
  pub ordered : Ordered N b order
  pub long_d : N ≤ 8 * length d
  pub long_cells : length cells ≡ 4 * N
  pub few_roots : length roots ≤ 64
  pub of_roots : (i : ℕ) → i < length roots → Known numbers (get_or roots i 0)
  pub of_cells : (k : ℕ) → k < length order → is_data d (get_or order k 0 - 1) ≡ false
      → (i : ℕ) → i < 4 * size_from (N - (get_or order k 0 - 1)) b (get_or order k 0 - 1) → Known numbers (get_or cells (4 * (get_or order k 0 - 1) + i) 0)

-- the shape written where it fits, with how many numbers it has
abbrev pub Shaped : ℕ → Memory → (out left : List ℕ) → Option ℕ → Type 0
Shaped N h out left None = (length out < length (shape_of N h)) × (left ≡ out)
Shaped N h out left (Some n) = (length (shape_of N h) ≤ length out) × Put out 0 (shape_of N h) left n
