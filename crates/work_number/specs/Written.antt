-- What the work of a number write gives, on whatever heap its cells belong to: for contracts of inner functions.
use Rattle.std.specs.Prelude.{ℕ, ◌≡◌, List}
use Rattle.rules.specs.Heap.{Memory, with_cells}
use Rattle.rules_calls.specs.Calls.{write_number}
use Rattle.types.specs.Told.{Came}
use Rattle.theory_memories.specs.Heaps.{Undamaged}
use Rattle.theory.specs.Usable.{Worked}
use Rattle.test_arguments.specs.Replies.{own_test}

-- On an undamaged heap that has these cells, where the call's own test is passed. The heap's other lists are as
-- they were, the waiting list too, whatever it holds.
pub record Written (cells : List ℕ) (at j x : ℕ) (done : Came) (left : List ℕ) : Type 0 where
  pub worked :
      (N w : ℕ) (h : Memory) → Undamaged N w h → h.cells ≡ cells → (own_test N h (write_number at j x)).number ≡ 0
      → Worked N w (write_number at j x) h done (with_cells left h)
