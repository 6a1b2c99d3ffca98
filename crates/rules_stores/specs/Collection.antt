-- Document 01, "Collect": what is reached, what is freed, and the counts afterwards.
use Rattle.std.specs.Prelude.{ℕ, zero, suc, ◌+◌, ◌*◌, ◌/◌, min, Bool, true, false, not, ◌&&◌, List, get_or, replicate, leb, ltb, eqb}
use Rattle.bitmap.specs.Bit.{count_below}
use Rattle.planes.specs.Plane.{set_count}
use Rattle.rules.specs.Tools.{holding, some_below, tabulate}
use Rattle.rules.specs.Heap.{Memory, with_counts, capacity, is_first, size_at, reference}
use Rattle.rules_stores.specs.Store.{freed}

-- "cells 4i to 4i + 3 for block i": cell number j of all cells is one of the object at block i
unfoldable pub is_cell_of : (N : ℕ) → Memory → (i j : ℕ) → Bool
is_cell_of N h i j = leb (4 * i) j && ltb j (4 * (i + size_at N h i))

-- cell number j belongs to a chosen object
unfoldable pub cell_of_chosen : (N : ℕ) → Memory → (chosen : ℕ → Bool) → (j : ℕ) → Bool
cell_of_chosen N h chosen j = some_below (λ i. is_first N h i && chosen i && is_cell_of N h i j) N

-- "the number of roots and cells of .. objects that name it": here the roots and the cells of chosen objects
-- that name block i. Request U6: "Collections .. read the rest as before", and cells of data not at all.
unfoldable pub references_from : (N : ℕ) → Memory → (chosen : ℕ → Bool) → (i : ℕ) → ℕ
references_from N h chosen i =
    holding (i + 1) h.roots + count_below (λ j. elim (eqb (reference N h j) (i + 1)) [ true ↦ cell_of_chosen N h chosen j | false ↦ false ]) (4 * N)

-- a set of blocks as a list of N marks
abbrev pub marked : List Bool → ℕ → Bool
marked marks i = get_or marks i false

-- "An object is reached if a root names it or a cell of a reached object does": what one round of this finds from what is marked
unfoldable pub reached_next : ℕ → Memory → List Bool → List Bool
reached_next N h marks = tabulate N (λ i. is_first N h i && ltb 0 (references_from N h (marked marks) i))

-- the marks after that many rounds, from none
unfoldable pub reached_in : (rounds : ℕ) → ℕ → Memory → List Bool
reached_in zero N h = replicate N false
reached_in (suc k) N h = reached_next N h (reached_in k N h)

-- A round that adds no mark is the last that matters, and there are at most N objects: N rounds find all (proved as `ReachedIsLed`,
-- theory_memories/specs/Heaps.antt).
unfoldable pub reached : ℕ → Memory → List Bool
reached N h = reached_in N N h

-- "Objects not reached are freed, without count-downs": those that start below n
unfoldable pub swept : ℕ → ℕ → Memory → List Bool → ℕ → Memory
swept N w h marks zero = h
swept N w h marks (suc n) =
    let g = swept N w h marks n in
    elim (is_first N h n && not (marked marks n)) [ true ↦ freed N w g n (size_at N h n) | false ↦ g ]

-- "Each reached object's count becomes the smaller of the capacity and the number of roots and cells of reached objects that name it":
-- the counts of those that start below n, with h the heap before the collection
unfoldable pub recounted : ℕ → ℕ → Memory → List Bool → List ℕ → ℕ → List ℕ
recounted N w h marks counts zero = counts
recounted N w h marks counts (suc n) =
    let c = recounted N w h marks counts n in
    elim (marked marks n) [ true ↦ set_count (N / 8) w c n (min (capacity w) (references_from N h (marked marks) n)) | false ↦ c ]

unfoldable pub collected : ℕ → ℕ → Memory → Memory
collected N w h =
    let marks = reached N h in
    let g = swept N w h marks N in
    with_counts (recounted N w h marks g.counts N) g
