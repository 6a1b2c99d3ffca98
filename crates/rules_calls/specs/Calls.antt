-- Document 01, "Replies, operation by operation": the calls, and what each answers on every memory and every argument.
use Rattle.std.specs.Prelude.{ℕ, ◌+◌, ◌-◌, ◌*◌, ◌≡◌, Bool, true, false, not, ◌&&◌, List, [], ◌∷◌, length, get_or, set, replicate, leb, ltb, eqb}
use Rattle.std.proofs.Math.Option
use Rattle.std.proofs.Math.Option.{Option, none, some}
use Rattle.bitmap.specs.Bit.{one, zeros}
use Rattle.rules.specs.Tools.{is_some, first_number}
use Rattle.rules.specs.Heap.{Memory, with_cells, with_waiting, with_sections, shaped, count_of, is_first, size_at, exponent, lowest_free, is_ref, is_data}
use Rattle.rules.specs.Damage.{damage}
use Rattle.rules.specs.Sections.{figures, stale_figures}
use Rattle.rules_stores.specs.Store.{formatted, store_sticks, chosen_below, birth_sticks}
use Rattle.rules_stores.specs.Collection.{collected}
use Rattle.rules_steps.specs.Steps.{is_open, is_untidy, opened, progress_of, steps_from, stepped}
use Rattle.rules_steps.specs.Steps.{store_root_shading, store_cell_shading, allocate_shading, return_shading}
use Rattle.rules_output.specs.Shape.{shape_of}
use Rattle.rules_output.specs.Sentence.{sentence_for}
use Rattle.rules_copy.specs.Copy.{lay_all, all_laid, copied}
use Rattle.types.specs.declared.Reply.{Reply}

-- the calls with their own arguments
pub data Call : Type 0 where
  format check collect free_blocks : Call
  allocate : (n r : ℕ) → Call
  store_root : (r v : ℕ) → Call
  store_cell : (at j v : ℕ) → Call
  look : (at : ℕ) → Call
  return_roots : (chosen : ℕ) → Call
  -- request U6: "There are calls to allocate data and to write and read one of its cells."
  allocate_data : (n r : ℕ) → Call
  write_number : (at j x : ℕ) → Call
  read_number : (at j : ℕ) → Call
  -- request U8: a collection "is opened and stepped"
  open_collection : Call
  take_steps : (budget : ℕ) → Call
  -- requests U11 and U13: each writes into a lent output, which is no part of the heap; `room` is its length
  write_reason : (at room : ℕ) → Call
  write_shape : (room : ℕ) → Call
  -- request U14: "Copy .. into a second lent heap". The call is made on the second heap; the first, of K blocks
  -- and count width u, is an argument, and "is only read".
  copy_from : (K u : ℕ) → (first : Memory) → Call
  -- the same copy as a call on the first heap: the second, of M blocks and count width v, is an argument
  copy_into : (M v : ℕ) → (second : Memory) → Call

-- an allocation, of an object made as data or of an ordinary one
abbrev pub allocate_as : (asData : Bool) → (n r : ℕ) → Call
allocate_as true n r = allocate_data n r
allocate_as false n r = allocate n r

-- a reply, and the memory after the call
abbrev pub Answer : Type 0
Answer = Reply × Memory

abbrev pub reply : ℕ → ℕ → ℕ → Reply
reply number value second = record { number = number; value = value; second = second }

-- "Number 0 is acceptance." Here with one value; h is the memory after the call
abbrev pub accepted : Memory → ℕ → Answer
accepted h value = (reply 0 value 0, h)

-- ---- what a call is refused with

-- "A heap that a call formats isn't tested for more than 1."
abbrev pub tests_heap : Call → Bool
tests_heap format = false
tests_heap check = true
tests_heap collect = true
tests_heap free_blocks = true
tests_heap (allocate n r) = true
tests_heap (store_root r v) = true
tests_heap (store_cell at j v) = true
tests_heap (look at) = true
tests_heap (return_roots chosen) = true
tests_heap (allocate_data n r) = true
tests_heap (write_number at j x) = true
tests_heap (read_number at j) = true
tests_heap open_collection = true
tests_heap (take_steps budget) = true
tests_heap (write_reason at room) = true
tests_heap (write_shape room) = true
tests_heap (copy_from K u first) = false
tests_heap (copy_into M v second) = true

-- a heap that is lent besides the one that the call is made on, with its number of blocks and its count width
pub record Other : Type 0 where
  pub blocks : ℕ
  pub width : ℕ
  pub heap : Memory

abbrev pub other_heap : Call → Option Other
other_heap format = none
other_heap check = none
other_heap collect = none
other_heap free_blocks = none
other_heap (allocate n r) = none
other_heap (store_root r v) = none
other_heap (store_cell at j v) = none
other_heap (look at) = none
other_heap (return_roots chosen) = none
other_heap (allocate_data n r) = none
other_heap (write_number at j x) = none
other_heap (read_number at j) = none
other_heap open_collection = none
other_heap (take_steps budget) = none
other_heap (write_reason at room) = none
other_heap (write_shape room) = none
other_heap (copy_from K u first) = some (record { blocks = K; width = u; heap = first })
other_heap (copy_into M v second) = some (record { blocks = M; width = v; heap = second })

-- no other heap is lent
abbrev pub Alone : Call → Type 0
Alone c = other_heap c ≡ none

-- request U14: the shape of the other heap of a copy; "its N and w may differ, its roots are as many"
abbrev pub other_shaped : Memory → Call → Bool
other_shaped h c =
    elim (other_heap c) [
      | none ↦ true
      | some o ↦ shaped o.blocks o.width o.heap && eqb (length h.roots) (length o.heap.roots)
    ]

-- of an allocation: "3 if n is 0 or above N; 4 if r is not below the number of roots; 5 if no chunk of s
-- blocks is free"
abbrev pub allocation_refusals : ℕ → Memory → (n r : ℕ) → List (ℕ × Bool)
allocation_refusals N h n r =
    (3, not (leb 1 n && leb n N)) ∷ (4, not (ltb r (length h.roots))) ∷ (5, not (is_some (lowest_free N (exponent n) h.a))) ∷ []

-- of a cell, with what comes then: "6 if a is not a first block (or not below N); 7 if j is not below 4 ×
-- size"
abbrev pub cell_refusals : ℕ → Memory → (at j : ℕ) → List (ℕ × Bool) → List (ℕ × Bool)
cell_refusals N h at j more = (6, not (is_first N h at)) ∷ (7, not (ltb j (4 * size_at N h at))) ∷ more

-- the call's own numbers, each with whether it applies
unfoldable pub own_refusals : ℕ → Memory → Call → List (ℕ × Bool)
own_refusals N h (allocate n r) = allocation_refusals N h n r
-- "4; 8 if v is neither 0 nor 1 + a first block"
own_refusals N h (store_root r v) = (4, not (ltb r (length h.roots))) ∷ (8, not (is_ref N h v)) ∷ []
-- "6 ..; 7 ..; 8". Request U6: "12, a reference store or read on data, or a number on an ordinary object,
-- placed after 7"
own_refusals N h (store_cell at j v) = cell_refusals N h at j ((12, is_data h.d at) ∷ (8, not (is_ref N h v)) ∷ [])
own_refusals N h (look at) = (6, not (is_first N h at)) ∷ []
-- request U10: "refused with 4 if any bit is at or past the number of roots"
own_refusals N h (return_roots chosen) = (4, not (chosen_below chosen (length h.roots))) ∷ []
own_refusals N h (allocate_data n r) = allocation_refusals N h n r
own_refusals N h (write_number at j x) = cell_refusals N h at j ((12, not (is_data h.d at)) ∷ [])
own_refusals N h (read_number at j) = cell_refusals N h at j ((12, not (is_data h.d at)) ∷ [])
own_refusals N h format = []
own_refusals N h check = []
own_refusals N h free_blocks = []
-- request U8: "14, a step with none open, or an opening or full collection with one open, after 13"
own_refusals N h collect = (14, is_open N h) ∷ []
own_refusals N h open_collection = (14, is_open N h) ∷ []
own_refusals N h (take_steps budget) = (14, not (is_open N h)) ∷ []
-- request U11: "15, the lent output is shorter than the sentence, after 6"
own_refusals N h (write_reason at room) = (6, not (is_first N h at)) ∷ (15, ltb room (length (sentence_for N h at))) ∷ []
-- request U13: "16, the lent list is too short, after the check's refusals"
own_refusals N h (write_shape room) = (16, ltb room (length (shape_of N h))) ∷ []
-- Request U14: what the check of the first heap refuses; "with a collection open it gives 14"; "17, an object
-- finds no chunk at its turn, after all others". Of the second heap only the shape is tested.
own_refusals N h (copy_from K u first) =
    (2, not (eqb (damage K u first) 0))
    ∷ (11, stale_figures K first.a first.sections)
    ∷ (13, is_untidy K first)
    ∷ (14, is_open K first)
    ∷ (17, not (all_laid (lay_all K first N)))
    ∷ []
own_refusals N h (copy_into M v second) = (14, is_open N h) ∷ (17, not (all_laid (lay_all N h M))) ∷ []

-- all numbers of a call: "1 if N, w, the number of roots or any buffer's length is not as above"; "2 if the
-- heap is damaged"; request U4: "11, the list doesn't match the maps, next after 2"; request U8: 13, "next
-- after 11"; then its own
unfoldable pub refusals : ℕ → ℕ → Memory → Call → List (ℕ × Bool)
refusals N w h c =
    (1, not (other_shaped h c && shaped N w h))
    ∷ (2, tests_heap c && not (eqb (damage N w h) 0))
    ∷ (11, tests_heap c && stale_figures N h.a h.sections)
    ∷ (13, tests_heap c && is_untidy N h)
    ∷ own_refusals N h c

-- "Each list is in order, and the first number that applies is given"; 0 where none does
unfoldable pub refused_with : ℕ → ℕ → Memory → Call → ℕ
refused_with N w h c = first_number (refusals N w h c)

-- the damage that number 2 tells of: that of the heap which is tested, of a copy the first
abbrev pub damage_told : ℕ → ℕ → Memory → Call → ℕ
damage_told N w h c =
    elim (tests_heap c) [
      | true ↦ damage N w h
      | false ↦ elim (other_heap c) [ none ↦ 0 | some o ↦ damage o.blocks o.width o.heap ]
    ]

-- "A refusal carries value 0, or the damage kind for number 2 .., and changes no buffer."
abbrev pub refused : (kind : ℕ) → Memory → (number : ℕ) → Answer
refused kind h number = (reply number (elim (eqb number 2) [ true ↦ kind | false ↦ 0 ]) 0, h)

-- ---- what an accepted call answers

-- "each accepted call that allocates, stores a reference or may free an object .. leave it all 0": the waiting list. Request U4: "every
-- accepted call .. leaves the list true".
abbrev pub settled : ℕ → Memory → Memory
settled N h = with_sections (figures N h.a) (with_waiting (replicate N 0) h)

-- "The value is the number of blocks freed": 0 bits of the A-map after the call less those before. The second
-- value of a store is 1 where an object became stuck and 0 where not (request U5).
unfoldable pub freeing : ℕ → Memory → Memory → (second : ℕ) → Answer
freeing N h g second = (reply 0 (zeros g.a - zeros h.a) second, settled N g)

-- "The value is the first block." The second value is as in a store. Where no chunk is free the call is
-- refused, whatever block is read here.
abbrev pub allocated : ℕ → ℕ → (asData : Bool) → Memory → (n r : ℕ) → Answer
allocated N w asData h n r =
    let i = Option.get_or (lowest_free N (exponent n) h.a) 0 in
    (reply 0 i (one (birth_sticks w)), settled N (allocate_shading N w asData h n r i))

-- "Cells of an object are numbered .. beginning with the first cell of its first block": cell j of the object at block `at` is number 4 * at + j
-- of all cells.
unfoldable pub outcome : ℕ → ℕ → Memory → Call → Answer
outcome N w h format = accepted (formatted N w (length h.roots)) 0
outcome N w h check = accepted h 0
outcome N w h free_blocks = accepted h (zeros h.a)
outcome N w h collect = freeing N h (collected N w h) 0
outcome N w h (allocate n r) = allocated N w false h n r
outcome N w h (store_root r v) =
    freeing N h (store_root_shading N w h r v) (one (store_sticks N w h.counts (get_or h.roots r 0) v))
outcome N w h (store_cell at j v) =
    freeing N h (store_cell_shading N w h at j v) (one (store_sticks N w h.counts (get_or h.cells (4 * at + j) 0) v))
outcome N w h (look at) = (reply 0 (size_at N h at) (count_of N w h at), h)
-- request U10: "Its value is the blocks freed in all."
outcome N w h (return_roots chosen) = freeing N h (return_shading N w h chosen (length h.roots)) 0
outcome N w h (allocate_data n r) = allocated N w true h n r
-- A number write allocates nothing, stores no reference and frees nothing: the waiting list keeps its
-- content, as every buffer but the cell.
outcome N w h (write_number at j x) = accepted (with_cells (set h.cells (4 * at + j) x) h) 0
outcome N w h (read_number at j) = accepted h (get_or h.cells (4 * at + j) 0)
outcome N w h open_collection = accepted (opened N h) 0
-- request U8: "It replies with the steps taken .. and the blocks freed."
outcome N w h (take_steps budget) =
    let t = steps_from budget N h (progress_of N h) in
    let g = stepped N w h budget t.reached in
    (reply 0 t.steps (zeros g.a - zeros h.a), settled N g)
-- request U11: "The value is the length in bytes"; request U13: "The value is how many numbers were written".
-- The heap is only read; what the output holds afterwards is `output_after` (Promise.antt).
outcome N w h (write_reason at room) = accepted h (length (sentence_for N h at))
outcome N w h (write_shape room) = accepted h (length (shape_of N h))
-- request U14: "the value is the blocks in use in the second heap"
outcome N w h (copy_from K u first) = let g = settled N (copied K first N w) in accepted g (N - zeros g.a)
outcome N w h (copy_into M v second) = accepted h (M - zeros (copied N h M v).a)

-- ---- the answer

-- "No refusal is given when its condition is false."
unfoldable pub answer : ℕ → ℕ → Memory → Call → Answer
answer N w h c =
    let number = refused_with N w h c in
    elim (eqb number 0) [ true ↦ outcome N w h c | false ↦ refused (damage_told N w h c) h number ]

-- the plain machine on a list of calls: each answer, from the memory that the one before left
unfoldable pub run : ℕ → ℕ → Memory → List Call → List Answer
run N w h [] = []
run N w h (c ∷ cs) = let x = answer N w h c in x ∷ run N w x.1 cs

-- the memory after the last of the answers
unfoldable pub last_memory : Memory → List Answer → Memory
last_memory h [] = h
last_memory h (x ∷ xs) = last_memory x.1 xs
