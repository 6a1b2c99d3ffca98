-- What a public function promises of one call.
use Rattle.std.specs.Prelude.{ℕ, ◌≡◌, true, false, List, ◌++◌, length, drop, eqb}
use Rattle.rules.specs.Heap.{Memory}
use Rattle.rules_output.specs.Shape.{shape_of}
use Rattle.rules_output.specs.Sentence.{sentence_for}
use Rattle.rules_calls.specs.Calls.{Call, write_reason, write_shape, copy_from, copy_into, answer}
use Rattle.types.specs.declared.Reply.{Reply}

-- The reply and every lent number of the heap after the call, the waiting list too, are the rules'. The
-- `ensures` of each public call is this; of the two that have an output and of the copy one of those below.
pub record Promise (N w : ℕ) (call : Call) (before : Memory) (reply : Reply) (after : Memory) : Type 0 where
  pub reply_is : reply ≡ (answer N w before call).0
  pub after_is : after ≡ (answer N w before call).1

-- ---- with an output

-- the output after a call with this reply: an accepted one has written `text` over its front, and "later
-- bytes of the output keep their values"; "A refusal .. changes no buffer"
unfoldable pub output_after : Reply → (text out : List ℕ) → List ℕ
output_after reply text out = elim (eqb reply.number 0) [ true ↦ text ++ drop (length text) out | false ↦ out ]

-- of a call that writes `text` into an output, which held `out` before the call and holds `left` after it
pub record OutputPromise (N w : ℕ) (call : Call) (text : List ℕ) (before : Memory) (out : List ℕ) (reply : Reply) (after : Memory) (left : List ℕ) : Type 0 where
  pub heap : Promise N w call before reply after
  pub output_is : left ≡ output_after reply text out

-- request U11
abbrev pub ReasonPromise : (N w at : ℕ) → Memory → (out : List ℕ) → Reply → Memory → (left : List ℕ) → Type 0
ReasonPromise N w at before out reply after left =
    OutputPromise N w (write_reason at (length out)) (sentence_for N before at) before out reply after left

-- request U13
abbrev pub ShapePromise : (N w : ℕ) → Memory → (out : List ℕ) → Reply → Memory → (left : List ℕ) → Type 0
ShapePromise N w before out reply after left = OutputPromise N w (write_shape (length out)) (shape_of N before) before out reply after left

-- ---- of two heaps

-- Request U14, of a copy of the first heap into the second: what each of them is promised, with one reply.
pub record CopyPromise (N w : ℕ) (first : Memory) (M v : ℕ) (second : Memory) (reply : Reply) (firstAfter secondAfter : Memory) : Type 0 where
  pub first_heap : Promise N w (copy_into M v second) first reply firstAfter
  pub second_heap : Promise M v (copy_from N w first) second reply secondAfter
