-- Request U6, "Arrays of numbers": how the cells of a heap are read, whatever call is made.
use Rattle.std.specs.Prelude.{ℕ, ◌+◌, ◌*◌, ◌/◌, ◌<◌, ◌≡◌, true, false, get_or}
use Rattle.bitmap.specs.Bit.{bit_at}
use Rattle.rules.specs.Heap.{Memory, is_data, reference}
use Rattle.rules_steps.specs.Steps.{names}
use Rattle.theory_memories.specs.Words.{Object}
use Rattle.theory_memories.specs.Heaps.{Intact}

-- "Its cells .. are never followed, counted or checked as references": what the cells of an undamaged heap
-- are read as. Those of data as 0, those of any other object as what stands there, those of free blocks hold
-- 0.
pub record CellsRead (N : ℕ) (h : Memory) : Type 0 where
  pub of_data : (b n j : ℕ) → Object N h b n → is_data h.d b ≡ true → j < 4 * n → reference N h (4 * b + j) ≡ 0
  pub of_others : (b n j : ℕ) → Object N h b n → is_data h.d b ≡ false → j < 4 * n → reference N h (4 * b + j) ≡ get_or h.cells (4 * b + j) 0
  pub of_free : (j : ℕ) → bit_at h.a (j / 4) ≡ 0 → reference N h j ≡ 0

abbrev pub DataNeverFollowed : Type 0
DataNeverFollowed = (N w : ℕ) (h : Memory) → Intact N w h → CellsRead N h

-- Request U8: an object of data names nothing, whatever numbers stand in it. So number 13 asks nothing of it,
-- a step that takes it off the list marks and lists nothing, and where it is freed its cells mark nothing.
abbrev pub DataNamesNothing : Type 0
DataNamesNothing =
    (N w : ℕ) (h : Memory) → Intact N w h → (b n : ℕ) → Object N h b n → is_data h.d b ≡ true → (i : ℕ) → names N h b i ≡ false
