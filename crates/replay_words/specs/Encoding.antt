-- A list of calls in one list of 64-bit words, four words a call, and their replies, three words each.
use Rattle.std.specs.Prelude.{ℕ, zero, suc, ◌+◌, ◌*◌, ◌/◌, Bool, true, false, not, List, [], ◌∷◌, length, get_or, leb, eqb}
use Rattle.rules.specs.Tools.{some_below}
use Rattle.rules.specs.Heap.{max_number}
use Rattle.rules_calls.specs.Calls.{
  Call,
  format,
  check,
  allocate,
  store_root,
  store_cell,
  collect,
  look,
  free_blocks,
  return_roots,
  allocate_data,
  write_number,
  read_number,
  open_collection,
  take_steps,
  Answer,
}

-- the call that a code and three arguments stand for; the codes are 0 to 13, and what a call does not name is not looked at
unfoldable pub decoded : (code x y z : ℕ) → Call
decoded code x y z =
    get_or
    (format ∷ check ∷ allocate x y ∷ store_root x y ∷ store_cell x y z ∷ collect ∷ look x ∷ free_blocks ∷ return_roots x
    ∷ allocate_data x y ∷ write_number x y z ∷ read_number x y ∷ open_collection ∷ take_steps x ∷ [])
    code check

-- a known code; the arguments may be any words, save that the number of a number write is one that a cell can
-- hold: nothing is truncated
unfoldable pub is_call : (code z : ℕ) → Bool
is_call code z = elim (eqb code 10) [ true ↦ leb z max_number | false ↦ leb code 13 ]

-- call number i of the words
abbrev pub call_at : List ℕ → ℕ → Call
call_at words i = decoded (get_or words (4 * i) 0) (get_or words (4 * i + 1) 0) (get_or words (4 * i + 2) 0) (get_or words (4 * i + 3) 0)

abbrev pub is_call_at : List ℕ → ℕ → Bool
is_call_at words i = is_call (get_or words (4 * i) 0) (get_or words (4 * i + 3) 0)

-- each of the first n is a call
unfoldable pub are_calls : List ℕ → (n : ℕ) → Bool
are_calls words n = not (some_below (λ i. not (is_call_at words i)) n)

-- n calls from call number i on
unfoldable pub calls_from : List ℕ → (i n : ℕ) → List Call
calls_from words i zero = []
calls_from words i (suc n) = call_at words i ∷ calls_from words (i + 1) n

-- all calls of the words
abbrev pub calls_in : List ℕ → List Call
calls_in words = calls_from words 0 (length words / 4)

-- the replies of a run: number, value, second of each
unfoldable pub reply_words : List Answer → List ℕ
reply_words [] = []
reply_words (x ∷ xs) = x.0.number ∷ x.0.value ∷ x.0.second ∷ reply_words xs
