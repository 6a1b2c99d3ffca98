-- Demand 3 of lists of calls each of which may be lent any waiting list, of any length: of the calls that were lent N numbers it claims what it
-- claims of a chain, and every other one was refused with 1 and changed nothing.
use Rattle.std.specs.Prelude.{ℕ, ◌≡◌, ◌≢◌, true, false, List, [], ◌∷◌, ◌++◌, map, length, eqb}
use Rattle.rules.specs.Heap.{Memory}
use Rattle.rules_calls.specs.Calls.{Call, reply}
use Rattle.rules_calls.specs.Promise.{Promise}
use Rattle.theory_memories.specs.Words.{heap_of}
use Rattle.theory.specs.CallWords.{Made, left_by}
use Rattle.theory.specs.Demand.{Chain, Claim}
use Rattle.theory_memories.specs.Heaps.{Undamaged}

-- each call of the list was made on the heap that the one before it left, with whatever waiting list, and kept its promise
pub data AnySpaces (N w : ℕ) : Memory → List Made → Type 0 where
  none : {h : Memory} → AnySpaces N w h []
  next :
      {h : Memory} {m : Made} {ms : List Made} → heap_of m.before ≡ heap_of h
      → Promise N w m.call m.before m.reply m.after → AnySpaces N w m.after ms → AnySpaces N w h (m ∷ ms)

-- the calls that were lent a waiting list of N numbers
unfoldable pub with_space : ℕ → List Made → List Made
with_space N [] = []
with_space N (m ∷ ms) = elim (eqb (length m.before.waiting) N) [ true ↦ m ∷ with_space N ms | false ↦ with_space N ms ]

pub record ClaimOfAll (N w : ℕ) (start : Memory) (made : List Made) : Type 0 where
  -- the calls that were lent N numbers form a chain, as if the others had not been made, and demand 3 holds of it
  pub chain : Chain N w start (with_space N made)
  pub claim : Claim N w start (with_space N made)
  -- "1 if .. any buffer's length is not as above"; "A refusal carries value 0 .., and changes no buffer."
  pub others :
      (earlier : List Made) (m : Made) (later : List Made) → made ≡ earlier ++ (m ∷ later) → length m.before.waiting ≢ N
      → (m.reply ≡ reply 1 0 0) × (m.after ≡ m.before)
  -- the heap that all calls leave is the one that the chain leaves
  pub heap_is : heap_of (left_by start made) ≡ heap_of (left_by start (with_space N made))

abbrev pub ClaimWithAnySpaces : Type 0
ClaimWithAnySpaces = (N w : ℕ) (h : Memory) → Undamaged N w h → (made : List Made) → AnySpaces N w h made → ClaimOfAll N w h made

-- The hypothesis `AnySpaces` can always be met: every list of calls can be made, each with whatever waiting list.
abbrev pub EveryListWithAnySpaces : Type 0
EveryListWithAnySpaces =
    (N w : ℕ) (h : Memory) (lent : List (Call × List ℕ))
    → (made : List Made) × (map {B = Call × List ℕ} (λ m. (m.call, m.before.waiting)) made ≡ lent) × AnySpaces N w h made
