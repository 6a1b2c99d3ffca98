-- The two calls with an output, and what each writes, for cases.
use Rattle.std.specs.Prelude.{ℕ, List, replicate}
use Rattle.rules.specs.Heap.{Memory}
use Rattle.rules_output.specs.Sentence.{sentence_for}
use Rattle.rules_output.specs.Shape.{shape_of}
use Rattle.rules_calls.specs.Calls.{Call, write_reason, write_shape}

-- which of the two calls
pub data Asked : Type 0 where
  reason_for : (at : ℕ) → Asked
  the_shape : Asked

abbrev pub call_of : Asked → (room : ℕ) → Call
call_of (reason_for at) room = write_reason at room
call_of the_shape room = write_shape room

abbrev pub text_of : ℕ → Memory → Asked → List ℕ
text_of N h (reason_for at) = sentence_for N h at
text_of N h the_shape = shape_of N h

-- an output of n numbers
abbrev pub room : (n : ℕ) → List ℕ
room n = replicate n 255
