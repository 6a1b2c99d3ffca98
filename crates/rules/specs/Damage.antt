-- Document 01, "Damage kinds". "Each is tested over the whole heap before the next; the first found is reported."
use Rattle.std.specs.Prelude.{ℕ, ◌+◌, ◌*◌, ◌/◌, ◌%◌, ◌^◌, Bool, true, false, not, ◌&&◌, ◌||◌, [], ◌∷◌, length, get_or, leb, ltb, eqb}
use Rattle.rules.specs.Tools.{some_below, first_number}
use Rattle.rules.specs.Heap.{Memory, capacity, count_of, is_free, is_last, is_first, size_at, exponent, is_ref, is_data, reference, references}

-- 1. "A 0 in the B-map on a free block."
unfoldable pub end_on_free : Memory → ℕ → Bool
end_on_free h i = is_free h.a i && is_last h.b i

-- 2. "An allocated block with B bit 1 whose next block is free or past the end."
unfoldable pub open_end : ℕ → Memory → ℕ → Bool
open_end N h i = not (is_free h.a i) && not (is_last h.b i) && (leb N (i + 1) || is_free h.a (i + 1))

-- 3. "An object whose first block is not a multiple of the least power of two that is its size or more."
unfoldable pub unaligned : ℕ → Memory → ℕ → Bool
unaligned N h i = is_first N h i && not (eqb (i % 2 ^ exponent (size_at N h i)) 0)

-- 4. "A cell of a free block that isn't 0, or a cell or root that is neither 0 nor 1 + a first block."
-- Request U6: cells of data are never "checked as references"; "damage kinds 4 and 5 read the rest as
-- before".
unfoldable pub bad_cell : ℕ → Memory → ℕ → Bool
bad_cell N h j = (is_free h.a (j / 4) && not (eqb (get_or h.cells j 0) 0)) || not (is_ref N h (reference N h j))

unfoldable pub bad_root : ℕ → Memory → ℕ → Bool
bad_root N h r = not (is_ref N h (get_or h.roots r 0))

-- 5. "A count other than 0 where no object starts; an object with count 0; a count below capacity that differs from the number of
-- all cells and roots naming the object."
unfoldable pub bad_count : ℕ → ℕ → Memory → ℕ → Bool
bad_count N w h i =
    let c = count_of N w h i in
    elim (is_first N h i) [
      | true ↦ eqb c 0 || (ltb c (capacity w) && not (eqb c (references N h i)))
      | false ↦ not (eqb c 0)
    ]

-- 7. Request U6: "damage kind 7 is a D bit where no object starts"
unfoldable pub stray_data : ℕ → Memory → ℕ → Bool
stray_data N h i = is_data h.d i && not (is_first N h i)

-- Kind 6, "The number of objects differs from the number of 0 bits in the B-map", went with request U9: where
-- kinds 1 and 2 are absent the numbers are equal (`ObjectsAreEnds`, theory_memories/specs/Heaps.antt). Its number
-- stays unused: "7 keeps its number".

-- the damage kind that is reported, or 0 for a heap that is not damaged
unfoldable pub damage : ℕ → ℕ → Memory → ℕ
damage N w h =
    first_number
    ((1, some_below (end_on_free h) N)
    ∷ (2, some_below (open_end N h) N)
    ∷ (3, some_below (unaligned N h) N)
    ∷ (4, some_below (bad_cell N h) (4 * N) || some_below (bad_root N h) (length h.roots))
    ∷ (5, some_below (bad_count N w h) N)
    ∷ (7, some_below (stray_data N h) N)
    ∷ [])
