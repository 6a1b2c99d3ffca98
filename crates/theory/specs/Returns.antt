-- Request U10, "A method returns": "It is refused with 4 if any bit is at or past the number of roots. Its
-- value is the blocks freed in all. With no collection open, the heap afterwards is that of clearing them
-- singly in whatever order; with one open, in ascending order."
use Rattle.std.specs.Prelude.{ℕ, zero, suc, ◌+◌, ◌≤◌, ◌≡◌, true, false, ◌↔◌, List, [], ◌∷◌, ◌++◌, map, length, replicate}
use Rattle.bitmap.specs.Bit.{bit_of}
use Rattle.rules.specs.Tools.{holding}
use Rattle.rules.specs.Heap.{Memory, with_waiting}
use Rattle.rules_stores.specs.Store.{is_chosen}
use Rattle.rules_steps.specs.Steps.{is_open}
use Rattle.rules_calls.specs.Calls.{store_root, return_roots, Answer, answer, run, last_memory}
use Rattle.theory_memories.specs.Heaps.{Undamaged}

-- "clearing them singly": the roots of a list, each cleared by a call of its own
abbrev pub cleared_singly : ℕ → ℕ → Memory → List ℕ → List Answer
cleared_singly N w h order = run N w h (map (λ r. store_root r 0) order)

-- the values of answers added up: where calls free, "the blocks freed in all"
unfoldable pub freed_in_all : List Answer → ℕ
freed_in_all [] = 0
freed_in_all (x ∷ xs) = x.0.value + freed_in_all xs

-- "in whatever order": the list has each root of the set exactly once, and no other
abbrev pub EachOnce : (chosen : ℕ) (order : List ℕ) → Type 0
EachOnce chosen order = (r : ℕ) → holding r order ≡ bit_of chosen r

-- The return leaves the heap that the single calls leave, and its value is the sum of theirs. "Where two heaps .. are compared, the waiting
-- list is left out": here it is cleared on both sides.
pub record SameAsSingly (N w : ℕ) (h : Memory) (chosen : ℕ) (order : List ℕ) : Type 0 where
  pub heap : with_waiting (replicate N 0) (last_memory h (cleared_singly N w h order)) ≡ (answer N w h (return_roots chosen)).1
  pub value : freed_in_all (cleared_singly N w h order) ≡ (answer N w h (return_roots chosen)).0.value

-- every accepted set, in every order of its roots: "With no collection open"
abbrev pub ReturnInAnyOrder : Type 0
ReturnInAnyOrder =
    (N w : ℕ) (h : Memory) → Undamaged N w h → is_open N h ≡ false → (chosen : ℕ) → (answer N w h (return_roots chosen)).0.number ≡ 0
    → (order : List ℕ) → EachOnce chosen order → SameAsSingly N w h chosen order

-- the roots of the set that are below n, in ascending order
unfoldable pub ascending : (chosen n : ℕ) → List ℕ
ascending chosen zero = []
ascending chosen (suc n) = ascending chosen n ++ elim (is_chosen chosen n) [ true ↦ n ∷ [] | false ↦ [] ]

-- "with one open, in ascending order"; and so with none open, too
abbrev pub ReturnInAscendingOrder : Type 0
ReturnInAscendingOrder =
    (N w : ℕ) (h : Memory) → Undamaged N w h → (chosen : ℕ) → (answer N w h (return_roots chosen)).0.number ≡ 0
    → SameAsSingly N w h chosen (ascending chosen (length h.roots))

-- "refused with 4 if any bit is at or past the number of roots", and only then
abbrev pub ReturnRefusedExactly : Type 0
ReturnRefusedExactly =
    (N w : ℕ) (h : Memory) → Undamaged N w h → (chosen : ℕ)
    → ((answer N w h (return_roots chosen)).0.number ≡ 4) ↔ ((r : ℕ) × (length h.roots ≤ r) × (bit_of chosen r ≡ 1))
