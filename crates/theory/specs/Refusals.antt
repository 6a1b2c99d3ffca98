-- Request U8, "Errors": number 13 clause by clause and number 14, each if and only if.
use Rattle.std.specs.Prelude.{ℕ, ◌+◌, ◌*◌, ◌≤◌, ◌<◌, ◌≡◌, ◌≢◌, ◌⊎◌, ◌↔◌, true, false, length, get_or}
use Rattle.rules.specs.Heap.{Memory, is_first, reference}
use Rattle.rules.specs.Sections.{stale_figures}
use Rattle.rules_steps.specs.Steps.{is_open, is_marked}
use Rattle.rules_calls.specs.Calls.{Call, collect, open_collection, take_steps, tests_heap, Alone, answer}
use Rattle.theory_memories.specs.Words.{Object}
use Rattle.theory.specs.Steps.{MarkedUnlisted}
use Rattle.theory_memories.specs.Heaps.{Intact, Undamaged}

-- 13's clauses, each with what meets it
pub data Untidy (N : ℕ) (h : Memory) : Type 0 where
  -- while a collection is open, "the list isn't of that form": not "strictly rising, then 0s"
  not_rising :
      is_open N h ≡ true → (k : ℕ) → k + 1 < N → get_or h.list (k + 1) 0 ≢ 0
      → (get_or h.list k 0 ≡ 0) ⊎ (get_or h.list (k + 1) 0 ≤ get_or h.list k 0) → Untidy N h
  -- .. or one of its places is neither 0 nor one of the "1 + first blocks"
  no_first_block : is_open N h ≡ true → (k b : ℕ) → k < N → get_or h.list k 0 ≡ 1 + b → is_first N h b ≡ false → Untidy N h
  -- ".. or holds an unmarked object"
  unmarked_listed : is_open N h ≡ true → (k b : ℕ) → k < N → get_or h.list k 0 ≡ 1 + b → is_marked h b ≡ false → Untidy N h
  -- "a mark isn't on a first block"
  stray_mark_lem : is_open N h ≡ true → (i : ℕ) → is_marked h i ≡ true → is_first N h i ≡ false → Untidy N h
  -- "some root .. names an unmarked one while a collection is open"
  root_missed_lem :
      is_open N h ≡ true → (r b : ℕ) → r < length h.roots → get_or h.roots r 0 ≡ 1 + b → is_marked h b ≡ false → Untidy N h
  -- "some .. marked unlisted object names an unmarked one"
  cell_missed_lem :
      is_open N h ≡ true → (a n j b : ℕ) → Object N h a n → MarkedUnlisted N h a → j < 4 * n → reference N h (4 * a + j) ≡ 1 + b
      → is_marked h b ≡ false → Untidy N h
  -- "or a mark .. isn't 0 while none is"
  mark_left : is_open N h ≡ false → (i : ℕ) → is_marked h i ≡ true → Untidy N h
  -- "or a .. list place isn't 0 while none is", the last one included: it is neither 1 nor 0 then
  place_left : is_open N h ≡ false → (k : ℕ) → k ≤ N → get_or h.list k 0 ≢ 0 → Untidy N h

-- "13, .. next after 11": a call that tests the heap is answered so where none of 1, 2 and 11 applies and one
-- of the clauses is met, and only then. Of a copy see `CopyRefusals` (Copies.antt).
abbrev pub ThirteenExactly : Type 0
ThirteenExactly =
    (N w : ℕ) (h : Memory) (call : Call) → Alone call
    → ((answer N w h call).0.number ≡ 13)
    ↔ ((tests_heap call ≡ true) × Intact N w h × (stale_figures N h.a h.sections ≡ false) × Untidy N h)

-- "14, a step with none open, or an opening or full collection with one open"
pub data OutOfTurn (N : ℕ) (h : Memory) : Call → Type 0 where
  step : (budget : ℕ) → is_open N h ≡ false → OutOfTurn N h (take_steps budget)
  opening : is_open N h ≡ true → OutOfTurn N h open_collection
  collection : is_open N h ≡ true → OutOfTurn N h collect

-- ".. after 13", and only then
abbrev pub FourteenExactly : Type 0
FourteenExactly =
    (N w : ℕ) (h : Memory) (call : Call) → Alone call
    → ((answer N w h call).0.number ≡ 14) ↔ (Undamaged N w h × OutOfTurn N h call)
