-- The mark map as code writes it while a collection in small steps is open (request U8): bit by bit, for a
-- reference, for the cells of an object, and for an object that is freed. For contracts of inner functions.
use Rattle.std.specs.Prelude.{ℕ, zero, suc, ◌+◌, ◌-◌, ◌*◌, Bool, true, false, ◌||◌, List, get_or, ltb, eqb}
use Rattle.bitmap.specs.Bit.{set_bit}

-- the bit of the object that v names: 0 names none, and a number above N none either
unfoldable pub mark_one : (N : ℕ) → (map : List ℕ) → (v : ℕ) → List ℕ
mark_one N map v = elim (eqb v 0 || ltb N v) [ true ↦ map | false ↦ set_bit map (v - 1) 1 ]

-- the bits of what the n cells from cell j on name
unfoldable pub mark_named : (N : ℕ) → (map cells : List ℕ) → (j n : ℕ) → List ℕ
mark_named N map cells j zero = map
mark_named N map cells j (suc n) = mark_one N (mark_named N map cells j n) (get_or cells (j + n) 0)

-- The object at block i is freed, n of whose cells name others. While a collection is open (`shade`), "a
-- freed object leaves map", and "clearing a freed object's cells marks .. the unmarked ones they named"; else
-- the map stays.
unfoldable pub freed_marks : (shade : Bool) → (N : ℕ) → (map cells : List ℕ) → (i n : ℕ) → List ℕ
freed_marks shade N map cells i n = elim shade [ true ↦ mark_named N (set_bit map i 0) cells (4 * i) n | false ↦ map ]

-- "each reference store that changes a value .. marks .. what is unmarked among its owner, old and new
-- objects": the three as references, 0 where there is none
abbrev pub mark_touched : (N : ℕ) → (map : List ℕ) → (owner old new : ℕ) → List ℕ
mark_touched N map owner old new = mark_one N (mark_one N (mark_one N map owner) old) new
