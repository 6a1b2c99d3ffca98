-- Document 01, "Recorded histories": what a record asks for: a call of document 01, or a number that stops the run.
use Rattle.std.specs.Prelude.{ℕ, ◌+◌, ◌-◌, ◌*◌, Bool, true, false, not, List, [], ◌∷◌, length, get_or, ltb, eqb}
use Rattle.rules.specs.Heap.{Memory, size_at, is_data}
use Rattle.rules_calls.specs.Calls.{Call, allocate, store_root, store_cell, collect, allocate_data, write_number}
use Rattle.history_records.specs.declared.Fields.{Fields}
use Rattle.history_records.specs.Records.{unnamed, are_zero}

pub data Asked : Type 0 where
  makes : Call → Asked
  stops : (number : ℕ) → Asked

-- unless the test passes, the run stops with the number; where it does, the record goes on
unfoldable pub unless : (test : Bool) → (number : ℕ) → Asked → Asked
unless test number next = elim test [ true ↦ next | false ↦ stops number ]

-- what root r holds; whether there is a root r; whether it names an object
abbrev pub root : Memory → (r : ℕ) → ℕ
root h r = get_or h.roots r 0

abbrev pub is_root : Memory → (r : ℕ) → Bool
is_root h r = ltb r (length h.roots)

abbrev pub names_object : Memory → (r : ℕ) → Bool
names_object h r = not (eqb (root h r) 0)

-- the first block of the object in root r; what its cell c holds; whether it has a cell c
abbrev pub object_in : Memory → (r : ℕ) → ℕ
object_in h r = root h r - 1

abbrev pub cell_in : Memory → (r c : ℕ) → ℕ
cell_in h r c = get_or h.cells (4 * object_in h r + c) 0

abbrev pub has_cell : ℕ → Memory → (r c : ℕ) → Bool
has_cell N h r c = ltb c (4 * size_at N h (object_in h r))

-- request U6: whether the object in root r was made as data
abbrev pub holds_data : Memory → (r : ℕ) → Bool
holds_data h r = is_data h.d (object_in h r)

-- "A root out of range gives 4": both roots of an operation that names two
unfoldable pub on_roots : Memory → Fields → Asked → Asked
on_roots h f next = unless (is_root h f.d) 4 (unless (is_root h f.s) 4 next)

-- ---- "Operation 1 allocates the size into d; 2 copies root s to d; 3 writes root s into cell c of the object in d; 4 reads cell c of the
-- object in s into d; 5 clears d; 6 collects." Refusals of the call itself stop the run too: 3, 4 and 5 of an allocation ("A root out of
-- range gives 4, in operation 1 only after 3"), 7 and 12 of a store in a cell, and 14 of a collection while one is open (request U8).

unfoldable pub allocating : Fields → Asked
allocating f = makes (allocate f.size f.d)

-- "elsewhere an empty root is copied or written as 0"
unfoldable pub copying : Memory → Fields → Asked
copying h f = on_roots h f (makes (store_root f.d (root h f.s)))

-- "Then an empty root gives 6 where an object is needed, which is d in 3 ..
unfoldable pub writing : Memory → Fields → Asked
writing h f = on_roots h f (unless (names_object h f.d) 6 (makes (store_cell (object_in h f.d) f.c (root h f.s))))

-- .. and s in 4"; "Then comes 7, in 4 as in 3". Request U6: "12, a reference store or read on data .., placed
-- after 7".
unfoldable pub reading : ℕ → Memory → Fields → Asked
reading N h f =
    on_roots h f
    (unless (names_object h f.s) 6
    (unless (has_cell N h f.s f.c) 7
    (unless (not (holds_data h f.s)) 12
    (makes (store_root f.d (cell_in h f.s f.c))))))

unfoldable pub clearing : Memory → Fields → Asked
clearing h f = unless (is_root h f.d) 4 (makes (store_root f.d 0))

-- request U6: "History operations 7 and 8 allocate data into d as 1 does ..
unfoldable pub allocating_data : Fields → Asked
allocating_data f = makes (allocate_data f.size f.d)

-- .. and write the size field's number into cell c of the data in d, an empty d giving 6." 7, and 12 where d
-- holds an ordinary object, are refusals of the call itself.
unfoldable pub writing_number : Memory → Fields → Asked
writing_number h f =
    unless (is_root h f.d) 4
    (unless (names_object h f.d) 6
    (makes (write_number (object_in h f.d) f.c f.size)))

-- each operation by its number, from 1 to 8; "an unknown operation" is any other
abbrev pub operations : ℕ → Memory → Fields → List Asked
operations N h f =
    stops 9 ∷ allocating f ∷ copying h f ∷ writing h f ∷ reading N h f ∷ clearing h f ∷ makes collect ∷ allocating_data f
    ∷ writing_number h f ∷ []

unfoldable pub operation : ℕ → Memory → Fields → Asked
operation N h f = get_or (operations N h f) f.operation (stops 9)

-- "9 for an unknown operation or a nonzero unused field, before all others of that record but 10"
unfoldable pub asked : ℕ → Memory → Fields → Asked
asked N h f = unless (are_zero (unnamed f)) 9 (operation N h f)
