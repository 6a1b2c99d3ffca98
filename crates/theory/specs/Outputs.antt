-- Requests U11 and U13: what the promises of the two calls with an output come to.
use Rattle.std.specs.Prelude.{ℕ, ◌≤◌, ◌<◌, ◌≡◌, ◌≢◌, ◌↔◌, List, length, get_or}
use Rattle.rules.specs.Heap.{Memory}
use Rattle.rules_output.specs.Shape.{shape_of}
use Rattle.rules_output.specs.Sentence.{sentence_for}
use Rattle.rules_calls.specs.Calls.{write_reason, write_shape, answer}
use Rattle.rules_calls.specs.Promise.{ReasonPromise, ShapePromise}
use Rattle.types.specs.declared.Reply.{Reply}
use Rattle.theory_memories.specs.Words.{Object}
use Rattle.theory_memories.specs.Heaps.{Undamaged}

-- "later bytes of the output keep their values", "later ones keep theirs": `text` stands in front, and
-- nothing else has changed
pub record WrittenOver (text out left : List ℕ) : Type 0 where
  pub room : length left ≡ length out
  pub front : (i : ℕ) → i < length text → get_or left i 0 ≡ get_or text i 0
  pub later : (i : ℕ) → length text ≤ i → get_or left i 0 ≡ get_or out i 0

-- The heap is only read. Accepted, the call writes the text and gives its length; refused, it writes nothing.
pub record OnlyOutput (text out : List ℕ) (before : Memory) (reply : Reply) (after : Memory) (left : List ℕ) : Type 0 where
  pub heap_kept : after ≡ before
  pub accepted : reply.number ≡ 0 → (reply.value ≡ length text) × WrittenOver text out left
  pub refused : reply.number ≢ 0 → left ≡ out

-- the call for the reason: on any heap, and with any output
abbrev pub ReasonGiven : Type 0
ReasonGiven =
    (N w at : ℕ) (h : Memory) (out : List ℕ) (reply : Reply) (after : Memory) (left : List ℕ) → ReasonPromise N w at h out reply after left
    → OnlyOutput (sentence_for N h at) out h reply after left

-- the call for the shape
abbrev pub ShapeGiven : Type 0
ShapeGiven =
    (N w : ℕ) (h : Memory) (out : List ℕ) (reply : Reply) (after : Memory) (left : List ℕ) → ShapePromise N w h out reply after left
    → OnlyOutput (shape_of N h) out h reply after left

-- "15, the lent output is shorter than the sentence", and only then; where it is not, the call is accepted
pub record Fifteen (N w : ℕ) (h : Memory) (at room : ℕ) : Type 0 where
  pub too_short : ((answer N w h (write_reason at room)).0.number ≡ 15) ↔ (room < length (sentence_for N h at))
  pub long_enough : ((answer N w h (write_reason at room)).0.number ≡ 0) ↔ (length (sentence_for N h at) ≤ room)

abbrev pub FifteenExactly : Type 0
FifteenExactly = (N w : ℕ) (h : Memory) → Undamaged N w h → (at n room : ℕ) → Object N h at n → Fifteen N w h at room

-- "16, the lent list is too short", and only then
pub record Sixteen (N w : ℕ) (h : Memory) (room : ℕ) : Type 0 where
  pub too_short : ((answer N w h (write_shape room)).0.number ≡ 16) ↔ (room < length (shape_of N h))
  pub long_enough : ((answer N w h (write_shape room)).0.number ≡ 0) ↔ (length (shape_of N h) ≤ room)

abbrev pub SixteenExactly : Type 0
SixteenExactly = (N w : ℕ) (h : Memory) → Undamaged N w h → (room : ℕ) → Sixteen N w h room
