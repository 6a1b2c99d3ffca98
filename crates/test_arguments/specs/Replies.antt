-- The replies that depend on the arguments and on the heap before the call alone, once numbers 1, 2, 11 and 13 are passed: for contracts
-- of inner functions. Each is a part of the rules' `answer`.
use Rattle.std.specs.Prelude.{ℕ, ◌+◌, ◌*◌, true, false, not, List, [], ◌∷◌, eqb, get_or}
use Rattle.rules.specs.Tools.{first_number}
use Rattle.rules.specs.Heap.{Memory, count_of, is_first, size_at}
use Rattle.rules_stores.specs.Store.{chosen_below}
use Rattle.rules_calls.specs.Calls.{Call, store_root, store_cell, read_number, reply, cell_refusals, own_refusals}
use Rattle.types.specs.declared.Reply.{Reply}

-- number 0 where a call goes on, or its own refusal
unfoldable pub own_test : ℕ → Memory → Call → Reply
own_test N h c = reply (first_number (own_refusals N h c)) 0 0

abbrev pub store_root_test : ℕ → Memory → (r v : ℕ) → Reply
store_root_test N h r v = own_test N h (store_root r v)

abbrev pub store_cell_test : ℕ → Memory → (at j v : ℕ) → Reply
store_cell_test N h at j v = own_test N h (store_cell at j v)

-- the two tests that every call on a cell begins with: of the object and of the cell's number
unfoldable pub cell_test : ℕ → Memory → (at j : ℕ) → Reply
cell_test N h at j = reply (first_number (cell_refusals N h at j [])) 0 0

-- the tests of a number read, which are those of a number write
abbrev pub number_test : ℕ → Memory → (at j : ℕ) → Reply
number_test N h at j = own_test N h (read_number at j)

-- the whole reply of a number read
unfoldable pub read_reply : ℕ → Memory → (at j : ℕ) → Reply
read_reply N h at j =
    elim (eqb (number_test N h at j).number 0) [ true ↦ reply 0 (get_or h.cells (4 * at + j) 0) 0 | false ↦ number_test N h at j ]

-- number 0 where the return goes on, or its refusal
unfoldable pub return_test : (roots chosen : ℕ) → Reply
return_test roots chosen = reply (first_number ((4, not (chosen_below chosen roots)) ∷ [])) 0 0

-- request U8: number 0 where a full collection or an opening goes on, since none is open, or its refusal
unfoldable pub shut_test : ℕ → (list : List ℕ) → Reply
shut_test N list = reply (first_number ((14, eqb (get_or list N 0) 1) ∷ [])) 0 0

-- .. and where steps go on, since one is open
unfoldable pub open_test : ℕ → (list : List ℕ) → Reply
open_test N list = reply (first_number ((14, not (eqb (get_or list N 0) 1)) ∷ [])) 0 0

-- the whole reply of a look
unfoldable pub look_reply : ℕ → ℕ → Memory → ℕ → Reply
look_reply N w h at = elim (is_first N h at) [ true ↦ reply 0 (size_at N h at) (count_of N w h at) | false ↦ reply 6 0 0 ]
