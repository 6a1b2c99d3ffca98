-- Request U2, its claim about lists: when the count of an object that lives on comes to the capacity.
use Rattle.std.specs.Prelude.{ℕ, ◌+◌, ◌≤◌, ◌<◌, ◌≡◌, false, List, [], ◌∷◌, ◌++◌}
use Rattle.rules.specs.Heap.{Memory, capacity, count_of}
use Rattle.rules_calls.specs.Calls.{Call, format, check, collect, free_blocks, allocate, store_root, store_cell, look, return_roots, open_collection, take_steps}
use Rattle.rules_calls.specs.Calls.{allocate_data, write_number, read_number, write_reason, write_shape}
use Rattle.rules_calls.specs.Calls.{copy_from, copy_into}
use Rattle.types.specs.declared.Reply.{Reply}
use Rattle.theory_memories.specs.Words.{Object, number_of_references}
use Rattle.theory.specs.CallWords.{stored, copied_over, Made, left_by}

-- what an accepted call writes into a root or a cell as a reference, 0 where it writes none. An allocation
-- writes the reference to the block that its reply gives.
unfoldable pub writes : Call → Reply → ℕ
writes (allocate n r) x = 1 + x.value
writes (store_root r v) x = v
writes (store_cell at j v) x = v
writes format x = 0
writes check x = 0
writes collect x = 0
writes free_blocks x = 0
writes (look at) x = 0
writes (return_roots chosen) x = 0
writes (allocate_data n r) x = 1 + x.value
writes (write_number at j v) x = 0
writes (read_number at j) x = 0
writes (write_reason at room) x = 0
writes (write_shape room) x = 0
writes open_collection x = 0
writes (take_steps budget) x = 0
-- a copy makes its references with its objects, none of which stood before it
writes (copy_from K u first) x = 0
writes (copy_into M v second) x = 0

-- "wrote a reference after which, before that call let anything go, the object had at least that many references": what the call wrote
-- names the object at b, and with it written the object has as many references as the capacity, or more
pub record Wrote (N w b : ℕ) (call : Call) (h : Memory) (x : Reply) : Type 0 where
  pub accepted : x.number ≡ 0
  pub reference : writes call x ≡ 1 + b
  pub enough : capacity w ≤ number_of_references N (stored h call x) b

-- "the object living on": the object of n blocks at b stands before these calls and after each of them. "A call
-- frees an object .. if no object of that first block and size stands after it"; and no call makes an object
-- where one stood before it, but a copy, through which nothing lives on.
pub data LivesOn (N b n : ℕ) : Memory → List Made → Type 0 where
  none : {h : Memory} → Object N h b n → LivesOn N b n h []
  next :
      {h : Memory} {m : Made} {ms : List Made} → Object N h b n → copied_over m.call m.reply ≡ false → LivesOn N b n m.after ms
      → LivesOn N b n h (m ∷ ms)

-- "some call in between"
pub data SomeWrote (N w b : ℕ) : List Made → Type 0 where
  here : {m : Made} {ms : List Made} → Wrote N w b m.call m.before m.reply → SomeWrote N w b (m ∷ ms)
  later : {m : Made} {ms : List Made} → SomeWrote N w b ms → SomeWrote N w b (m ∷ ms)

-- "if an object's count is below the capacity and later, the object living on, stands at it, then some call in between wrote a reference
-- after which, before that call let anything go, the object had at least that many references." `between` are any calls of the list that
-- follow one another.
abbrev pub StuckByReferences : ℕ → ℕ → Memory → List Made → Type 0
StuckByReferences N w start made =
    (earlier between others : List Made) → made ≡ earlier ++ (between ++ others) → (b n : ℕ)
    → let h = left_by start earlier in
    LivesOn N b n h between → count_of N w h b < capacity w → count_of N w (left_by h between) b ≡ capacity w → SomeWrote N w b between
