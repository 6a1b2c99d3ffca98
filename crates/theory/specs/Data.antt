-- Request U6, "Arrays of numbers": what is proved of data.
use Rattle.std.specs.Prelude.{ℕ, ◌+◌, ◌*◌, ◌<◌, ◌≡◌, ◌≢◌, ◌↔◌, Bool, true, false, List, [], ◌∷◌, ◌++◌, get_or, set}
use Rattle.rules.specs.Heap.{Memory, with_cells, is_data, reference}
use Rattle.rules_calls.specs.Calls.{Call, store_cell, allocate_data, write_number, read_number, allocate_as, reply, answer}
use Rattle.theory_memories.specs.Words.{Object}
use Rattle.theory.specs.CallWords.{copied_over, Made, left_by}
use Rattle.theory.specs.Stuck.{LivesOn}
use Rattle.theory.specs.Demand.{Chain}
use Rattle.theory_memories.specs.Heaps.{Undamaged}

-- "A new D-map .. has 1 on the first block of an object made as data": what an accepted allocation makes at
-- the block that it gives, an object of as many blocks as were asked for, data or not as it was asked for,
-- with cells that are 0
pub record Makes (N : ℕ) (asData : Bool) (n i : ℕ) (g : Memory) : Type 0 where
  pub object : Object N g i n
  pub kind : is_data g.d i ≡ asData
  pub cells : (j : ℕ) → j < 4 * n → get_or g.cells (4 * i + j) 0 ≡ 0

-- no hypothesis: only an undamaged heap is accepted
abbrev pub AllocationsMake : Type 0
AllocationsMake =
    (N w : ℕ) (h : Memory) (asData : Bool) (n r : ℕ) → let x = answer N w h (allocate_as asData n r) in
    x.0.number ≡ 0 → Makes N asData n x.0.value x.1

-- "write and read one of its cells": what an accepted number write leaves, in h with cell j of the data at
-- block `at` holding x
pub record NumberStands (N w : ℕ) (h : Memory) (at j x : ℕ) (g : Memory) : Type 0 where
  -- one cell changes, and nothing else
  pub one_cell : g ≡ with_cells (set h.cells (4 * at + j) x) h
  -- no cell is read as another reference than before
  pub same_references : (i : ℕ) → reference N g i ≡ reference N h i
  -- the number is read back, whatever it is
  pub reads_itself_back : (answer N w g (read_number at j)).0 ≡ reply 0 x 0

-- no hypothesis: only an undamaged heap is accepted
abbrev pub NumbersWritten : Type 0
NumbersWritten =
    (N w : ℕ) (h : Memory) (at j x : ℕ) → let y = answer N w h (write_number at j x) in y.0.number ≡ 0 → NumberStands N w h at j x y.1

-- "12, a reference store or read on data, or a number on an ordinary object, placed after 7", and only then:
-- for a cell of an object
pub record Twelve (N w : ℕ) (h : Memory) (at j : ℕ) : Type 0 where
  pub reference_store : (v : ℕ) → ((answer N w h (store_cell at j v)).0.number ≡ 12) ↔ (is_data h.d at ≡ true)
  pub number_write : (x : ℕ) → ((answer N w h (write_number at j x)).0.number ≡ 12) ↔ (is_data h.d at ≡ false)
  pub number_read : ((answer N w h (read_number at j)).0.number ≡ 12) ↔ (is_data h.d at ≡ false)

abbrev pub TwelveExactly : Type 0
TwelveExactly = (N w : ℕ) (h : Memory) → Undamaged N w h → (at n j : ℕ) → Object N h at n → j < 4 * n → Twelve N w h at j

-- What stands stays what it is. An object that stands before a call and after it, not made anew by a copy, is
-- data after it where it was data before; and then each of its cells holds the number that it held, unless the
-- call writes a number into this very cell.
pub record StaysSo (h g : Memory) (call : Call) (b n : ℕ) : Type 0 where
  pub same_kind : is_data g.d b ≡ is_data h.d b
  pub same_numbers :
      is_data h.d b ≡ true → (j : ℕ) → j < 4 * n → ((x : ℕ) → call ≢ write_number b j x)
      → get_or g.cells (4 * b + j) 0 ≡ get_or h.cells (4 * b + j) 0

abbrev pub NumbersStay : Type 0
NumbersStay =
    (N w : ℕ) (h : Memory) → Undamaged N w h → (call : Call) (b n : ℕ) → let x = answer N w h call in
    copied_over call x.0 ≡ false → Object N h b n → Object N x.1 b n → StaysSo h x.1 call b n

-- ---- over a list of calls

-- none of these calls wrote a number into cell j of the data at block b; a refused one writes nothing
pub data Unwritten (b j : ℕ) : List Made → Type 0 where
  none : Unwritten b j []
  next :
      {m : Made} {ms : List Made} → ((x : ℕ) → m.call ≡ write_number b j x → m.reply.number ≢ 0) → Unwritten b j ms
      → Unwritten b j (m ∷ ms)

-- What an object of n blocks, made as data at block b, is in g, after the calls `since` that it lived
-- through: data, and each of its cells holds the number that was written there last, or 0 where none was.
pub record StillData (b n : ℕ) (since : List Made) (g : Memory) : Type 0 where
  pub kind : is_data g.d b ≡ true
  pub none_written : (j : ℕ) → j < 4 * n → Unwritten b j since → get_or g.cells (4 * b + j) 0 ≡ 0
  pub last_written :
      (earlier later : List Made) (m : Made) → since ≡ earlier ++ (m ∷ later) → (j x : ℕ) → j < 4 * n
      → m.call ≡ write_number b j x → m.reply.number ≡ 0 → Unwritten b j later → get_or g.cells (4 * b + j) 0 ≡ x

-- An object made as data is data while it lives, and so are its numbers: in every list of calls as in demand
-- 3, from whatever memory, for every accepted allocation of data in it and all calls since that the object
-- lives on through. The block is the allocation's value.
abbrev pub DataWhileItLives : Type 0
DataWhileItLives =
    (N w : ℕ) (start : Memory) (earlier since others : List Made) (m : Made) → Chain N w start (earlier ++ (m ∷ (since ++ others)))
    → (n r : ℕ) → m.call ≡ allocate_data n r → m.reply.number ≡ 0
    → let b = m.reply.value in
    LivesOn N b n m.after since → StillData b n since (left_by m.after since)
