-- What the theory proves of the rules besides demand 3, for the reader: each statement is over the rules' own words.
use Rattle.std.specs.Prelude.{ℕ, ◌≤◌, ◌<◌, ◌≡◌, ◌↔◌, Bool, true, List, ◌++◌, map, length}
use Rattle.rules.specs.Heap.{Memory, shaped, exponent}
use Rattle.rules.specs.Sections.{figures}
use Rattle.rules_calls.specs.Calls.{Call, answer, format, check, allocate_as, tests_heap, other_shaped}
use Rattle.rules_stores.specs.Store.{formatted}
use Rattle.rules_calls.specs.Promise.{Promise}
use Rattle.types.specs.declared.Reply.{Reply}
use Rattle.theory_memories.specs.Words.{heap_of}
use Rattle.theory.specs.CallWords.{Made, left_by}
use Rattle.theory.specs.Demand.{Chain, Claim}
use Rattle.theory_memories.specs.Heaps.{Undamaged, NoneFree, Lowest}

-- "the proved fact that calls keep a heap undamaged"; a format makes one
abbrev pub CallsKeepUndamaged : Type 0
CallsKeepUndamaged = (N w : ℕ) (h : Memory) → Undamaged N w h → (call : Call) → Undamaged N w (answer N w h call).1

abbrev pub FormatMakesUndamaged : Type 0
FormatMakesUndamaged = (N w : ℕ) (h : Memory) → shaped N w h ≡ true → Undamaged N w (formatted N w (length h.roots))

-- "1 as before; 2 if the heap is damaged"; "11 .. next after 2"; "13 .. next after 11": where the check
-- refuses, every call that tests the heap is refused alike, with the same value, and changes no buffer
abbrev pub RefusedAsCheck : Type 0
RefusedAsCheck =
    (N w : ℕ) (h : Memory) (call : Call) → tests_heap call ≡ true → other_shaped h call ≡ true → ((answer N w h check).0.number ≡ 0 → ⊥)
    → answer N w h call ≡ answer N w h check

-- only an undamaged heap is accepted, by every call that tests the heap
abbrev pub AcceptedUndamaged : Type 0
AcceptedUndamaged =
    (N w : ℕ) (h : Memory) (call : Call) → tests_heap call ≡ true → (answer N w h call).0.number ≡ 0 → Undamaged N w h

-- 5 is given to allocations alone, of data too: so a run that collects and tries again "When allocation gives
-- 5" has to look at the number only (`turn_of`, history_turns/specs/Turns.antt)
abbrev pub FiveToAllocations : Type 0
FiveToAllocations =
    (N w : ℕ) (h : Memory) (call : Call) → (answer N w h call).0.number ≡ 5
    → (asData : Bool) × (n : ℕ) × (r : ℕ) × (call ≡ allocate_as asData n r)

-- "5 if no chunk of s blocks is free", and only then
abbrev pub RefusedExactly : Type 0
RefusedExactly =
    (N w : ℕ) (h : Memory) → Undamaged N w h → (asData : Bool) (n r : ℕ) → 1 ≤ n → n ≤ N → r < length h.roots
    → ((answer N w h (allocate_as asData n r)).0.number ≡ 5) ↔ NoneFree N (exponent n) h.a

-- "The lowest free chunk of s blocks is taken": its first block is the value. Extents stay aligned and disjoint (`Sound`, in demand 3).
abbrev pub LowestTaken : Type 0
LowestTaken =
    (N w : ℕ) (h : Memory) (asData : Bool) (n r : ℕ) → (answer N w h (allocate_as asData n r)).0.number ≡ 0
    → Lowest N (exponent n) h.a (answer N w h (allocate_as asData n r)).0.value

-- The hypothesis `Chain` of demand 3 can always be met: every list of calls, each with a waiting list of its own, has a chain.
abbrev pub EveryListHasAChain : Type 0
EveryListHasAChain =
    (N w : ℕ) (h : Memory) (lent : List (Call × ((waiting : List ℕ) × (length waiting ≡ N))))
    → (made : List Made) × (map {B = Call × List ℕ} (λ m. (m.call, m.before.waiting)) made ≡ map (λ l. (l.0, l.1.0)) lent) × Chain N w h made

-- Chains append. So a list of public calls with runs of calls in it, as a replay is one, is one list of calls.
abbrev pub ChainsAppend : Type 0
ChainsAppend =
    (N w : ℕ) (h : Memory) (made more : List Made) → Chain N w h made → Chain N w (left_by h made) more → Chain N w h (made ++ more)

-- demand 3's claim holds from every undamaged heap
abbrev pub ClaimFromUndamaged : Type 0
ClaimFromUndamaged = (N w : ℕ) (h : Memory) → Undamaged N w h → (made : List Made) → Chain N w h made → Claim N w h made

-- .. and from what an accepted call of format left, as its caller knows it
abbrev pub ClaimFromFormat : Type 0
ClaimFromFormat =
    (N w : ℕ) (lent : Memory) (x : Reply) (left : Memory) → Promise N w format lent x left → x.number ≡ 0
    → (made : List Made) → Chain N w left made → Claim N w left made

-- "The waiting list may hold anything on entry": no reply and no other list depends on it
abbrev pub WaitingUnread : Type 0
WaitingUnread =
    (N w : ℕ) (h g : Memory) → heap_of h ≡ heap_of g → length h.waiting ≡ length g.waiting → (call : Call)
    → ((answer N w h call).0 ≡ (answer N w g call).0) × (heap_of (answer N w h call).1 ≡ heap_of (answer N w g call).1)

-- "every accepted call, format too, leaves the list true": whatever the memory held
abbrev pub ListLeftTrue : Type 0
ListLeftTrue =
    (N w : ℕ) (h : Memory) (call : Call) → (answer N w h call).0.number ≡ 0
    → (answer N w h call).1.sections ≡ figures N (answer N w h call).1.a
