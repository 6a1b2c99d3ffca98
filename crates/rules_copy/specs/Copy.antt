-- Request U14, "Copy into a second heap": "Copy the reached objects, in U13's order and by document 01's
-- allocation rule, into a second lent heap, formatted by the call". N and h are the first heap, M and v the
-- number of blocks and the count width of the second; `met` are the objects of the first as U13 numbers them
-- (`numbered`).
use Rattle.std.specs.Prelude.{ℕ, zero, suc, ◌+◌, ◌-◌, ◌*◌, ◌/◌, Bool, true, false, List, [], ◌∷◌, ◌++◌, map, length, get_or, set, replicate, eqb}
use Rattle.std.proofs.Math.Option.{Option, none, some}
use Rattle.bitmap.specs.Bit.{bit_at, fill_bits}
use Rattle.rules.specs.Heap.{Memory, with_roots, capacity, size_at, exponent, lowest_free, is_data}
use Rattle.rules_stores.specs.Store.{formatted, made_at}
use Rattle.rules_stores.specs.Collection.{collected}
use Rattle.rules_output.specs.Walk.{number_in, block_at, numbered}

-- the size of the object of number k + 1
abbrev pub size_of : (N : ℕ) → Memory → (met : List ℕ) → (k : ℕ) → ℕ
size_of N h met k = size_at N h (block_at met (suc k))

-- ---- where each object goes

-- the A-map that the second heap will have, and the new first blocks so far, that of object 1 first
pub record Laid : Type 0 where
  pub a : List ℕ
  pub places : List ℕ

abbrev pub laid : (a places : List ℕ) → Laid
laid a places = record { a = a; places = places }

-- an object of n blocks more: "The lowest free chunk of s blocks is taken, and only its first n blocks become
-- allocated"; none where no chunk is free, so where the object is larger than the heap too
unfoldable pub lay_one : (M n : ℕ) → Laid → Option Laid
lay_one M n s =
    elim (lowest_free M (exponent n) s.a) [ none ↦ none | some i ↦ some (laid (fill_bits s.a i n 1) (s.places ++ (i ∷ []))) ]

unfoldable pub lay_next : (M n : ℕ) → Option Laid → Option Laid
lay_next M n none = none
lay_next M n (some s) = lay_one M n s

-- the first k objects, of these sizes, in a heap with nothing in it; none where "an object finds no chunk at
-- its turn"
unfoldable pub lay_first : (M : ℕ) → (sizes : ℕ → ℕ) → (k : ℕ) → Option Laid
lay_first M sizes zero = some (laid (replicate (M / 8) 0) [])
lay_first M sizes (suc k) = lay_next M (sizes k) (lay_first M sizes k)

-- all of them, "in U13's order"
unfoldable pub lay_all : (N : ℕ) → Memory → (M : ℕ) → Option Laid
lay_all N h M = let met = numbered N h in lay_first M (size_of N h met) (length met)

unfoldable pub places_in : Option Laid → List ℕ
places_in none = []
places_in (some s) = s.places

unfoldable pub all_laid : Option Laid → Bool
all_laid none = false
all_laid (some s) = true

-- ---- the objects

-- what the copy holds for a reference to the object of number n: 1 + its new first block; 0 for none
unfoldable pub new_reference : (places : List ℕ) → (n : ℕ) → ℕ
new_reference places n = elim (eqb n 0) [ true ↦ 0 | false ↦ 1 + get_or places (n - 1) 0 ]

-- what the copy holds for cell j of the object at block i: a number of data as it is, and for a reference the
-- one to where its object goes
unfoldable pub new_cell : Memory → (met places : List ℕ) → (i j : ℕ) → ℕ
new_cell h met places i j =
    let x = get_or h.cells (4 * i + j) 0 in
    elim (is_data h.d i) [ true ↦ x | false ↦ new_reference places (number_in met x) ]

-- the n places from place p on filled with what f gives at 0, 1, ..
unfoldable pub fill_cells : (f : ℕ → ℕ) → List ℕ → (p n : ℕ) → List ℕ
fill_cells f cells p zero = cells
fill_cells f cells p (suc n) = set (fill_cells f cells p n) (p + n) (f n)

-- The object at block i of the first heap made at block p of the second, g. Its count is stuck here: "Counts
-- are those a collection gives", and the collection below counts anew.
unfoldable pub copy_one : (N : ℕ) → Memory → (met places : List ℕ) → (M v : ℕ) → Memory → (i p : ℕ) → Memory
copy_one N h met places M v g i p =
    let n = size_at N h i in
    made_at M v g p n (capacity v) (fill_cells (new_cell h met places i) g.cells (4 * p) (4 * n)) (bit_at h.d i)

-- "formatted by the call, so that nothing that stood there lives on", and the first k objects made
unfoldable pub copy_first : (N : ℕ) → Memory → (met places : List ℕ) → (M v k : ℕ) → Memory
copy_first N h met places M v zero = formatted M v (length h.roots)
copy_first N h met places M v (suc k) =
    copy_one N h met places M v (copy_first N h met places M v k) (block_at met (suc k)) (get_or places k 0)

-- all objects and the roots
unfoldable pub copy_all : (N : ℕ) → Memory → (met places : List ℕ) → (M v : ℕ) → Memory
copy_all N h met places M v =
    with_roots (map (λ x. new_reference places (number_in met x)) h.roots) (copy_first N h met places M v (length met))

-- The second heap: "Counts are those a collection gives at the new width". It frees nothing, as all of it is
-- reached (`ExactCopy`, theory_copies/specs/Copies.antt). Where an object finds no chunk the call is refused, whatever
-- places are read here.
unfoldable pub copied : (N : ℕ) → Memory → (M v : ℕ) → Memory
copied N h M v = collected M v (copy_all N h (numbered N h) (places_in (lay_all N h M)) M v)
