-- Document 01, "The words of demand 3": what its claims are about, each sentence beside what renders it.
-- Those about calls are in theory/specs/CallWords.antt.
use Rattle.std.specs.Prelude.{ℕ, ◌-◌, ◌+◌, ◌*◌, ◌≤◌, ◌<◌, ◌≡◌, true, [], length, get_or}
use Rattle.bitmap.specs.Bit.{zeros}
use Rattle.rules.specs.Heap.{Memory, with_waiting, is_first, size_at, reference}
use Rattle.rules_stores.specs.Collection.{references_from}

-- an object of n blocks whose first block is b
pub record Object (N : ℕ) (h : Memory) (b n : ℕ) : Type 0 where
  pub first : is_first N h b ≡ true
  pub size : size_at N h b ≡ n

-- "A reference is a root, or a cell of an object, that isn't 0. Holding 1 + b, it names the object whose
-- first block is b." Cells of data are no references (request U6): `reference` reads them as 0 (`CellsRead`,
-- Data.antt).
pub data Names (N : ℕ) (h : Memory) (b : ℕ) : Type 0 where
  by_root : (r : ℕ) → r < length h.roots → get_or h.roots r 0 ≡ 1 + b → Names N h b
  by_cell : (a n j : ℕ) → Object N h a n → j < 4 * n → reference N h (4 * a + j) ≡ 1 + b → Names N h b

-- "A root leads to an object, or reaches it, if it names it, or if a cell of an object that it leads to does, over finitely many
-- references."
pub data Leads (N : ℕ) (h : Memory) : ℕ → Type 0 where
  root : (b n r : ℕ) → Object N h b n → r < length h.roots → get_or h.roots r 0 ≡ 1 + b → Leads N h b
  cell :
      (b n a m j : ℕ) → Object N h b n → Leads N h a → Object N h a m → j < 4 * m → reference N h (4 * a + j) ≡ 1 + b → Leads N h b

-- "An object's number of references counts each such root and each such cell once."
abbrev pub number_of_references : ℕ → Memory → ℕ → ℕ
number_of_references N h b = references_from N h (is_first N h) b

-- "An extent is the blocks of one object": block i lies in that of the object at b
pub record InExtent (N : ℕ) (h : Memory) (i b : ℕ) : Type 0 where
  pub first : is_first N h b ≡ true
  pub from : b ≤ i
  pub below : i < b + size_at N h b

-- ---- a list of calls

-- "Where two heaps or two outcomes are compared, the waiting list is left out."
abbrev pub heap_of : Memory → Memory
heap_of h = with_waiting [] h

-- the blocks in use
abbrev pub in_use : ℕ → Memory → ℕ
in_use N h = N - zeros h.a
