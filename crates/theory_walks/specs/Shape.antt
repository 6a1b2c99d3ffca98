-- Request U13, "Equal shape": what is proved of the walk and of the list.
use Rattle.std.specs.Prelude.{ℕ, suc, ◌+◌, ◌-◌, ◌*◌, ◌≤◌, ◌<◌, ◌≡◌, ◌↔◌, true, false, List, length, get_or, eqb}
use Rattle.bitmap.specs.Bit.{bit_at}
use Rattle.rules.specs.Heap.{Memory, size_at, is_data, reference}
use Rattle.rules_output.specs.Walk.{number_in, object_at, walk, followed, numbered}
use Rattle.rules_output.specs.Shape.{shape_of}
use Rattle.theory_memories.specs.Words.{Leads}
use Rattle.theory_memories.specs.Heaps.{Intact}

-- ---- the walk

-- the object at block b is the one of number n
pub record Numbered (met : List ℕ) (b n : ℕ) : Type 0 where
  pub number : number_in met (suc b) ≡ n
  pub object : object_at met n ≡ suc b

-- the numbers from 1 to that of the objects met belong one to one to the objects that a root leads to; more
-- turns of the walk find no more
pub record AllMet (N : ℕ) (h : Memory) : Type 0 where
  pub each_number : (b : ℕ) → Leads N h b → (n : ℕ) × (n < length (numbered N h)) × Numbered (numbered N h) b (suc n)
  pub each_object : (n : ℕ) → n < length (numbered N h) → (b : ℕ) × Leads N h b × Numbered (numbered N h) b (suc n)
  pub no_more : (k : ℕ) → walk h.roots (followed N h) (k + N) ≡ numbered N h

abbrev pub AllNumbered : Type 0
AllNumbered = (N w : ℕ) (h : Memory) → Intact N w h → AllMet N h

-- ---- the list

-- a reference to the object that the one named is paired with; nothing stays nothing
abbrev pub moved : (to : ℕ → ℕ) → (v : ℕ) → ℕ
moved to v = elim (eqb v 0) [ true ↦ 0 | false ↦ 1 + to (v - 1) ]

-- "reached objects can be paired one to one, keeping roots and their number, sizes, D bits, references and
-- data": those of h, of N blocks, with those of g, of M blocks
pub record Paired (N : ℕ) (h : Memory) (M : ℕ) (g : Memory) : Type 0 where
  -- the first block of the object that one is paired with, and the other way
  pub to : ℕ → ℕ
  pub back : ℕ → ℕ
  pub there : (b : ℕ) → Leads N h b → Leads M g (to b) × (back (to b) ≡ b)
  pub again : (c : ℕ) → Leads M g c → Leads N h (back c) × (to (back c) ≡ c)
  pub number : length h.roots ≡ length g.roots
  pub roots : (r : ℕ) → r < length h.roots → get_or g.roots r 0 ≡ moved to (get_or h.roots r 0)
  pub sizes : (b : ℕ) → Leads N h b → size_at M g (to b) ≡ size_at N h b
  pub bits : (b : ℕ) → Leads N h b → bit_at g.d (to b) ≡ bit_at h.d b
  pub references :
      (b j : ℕ) → Leads N h b → j < 4 * size_at N h b → reference M g (4 * to b + j) ≡ moved to (reference N h (4 * b + j))
  pub numbers :
      (b j : ℕ) → Leads N h b → is_data h.d b ≡ true → j < 4 * size_at N h b
      → get_or g.cells (4 * to b + j) 0 ≡ get_or h.cells (4 * b + j) 0

-- "Two lists are equal exactly when .."; number of blocks and count width may differ
abbrev pub EqualShape : Type 0
EqualShape =
    (N w : ℕ) (h : Memory) → Intact N w h → (M v : ℕ) (g : Memory) → Intact M v g → (shape_of N h ≡ shape_of M g) ↔ Paired N h M g

-- "Write each as 32-bit numbers": where blocks, roots and cells are below a limit, so is each number of the
-- list; and how long it is at most
pub record Bounded (N : ℕ) (h : Memory) : Type 0 where
  pub fits : (limit : ℕ) → N < limit → 64 < limit → ((j : ℕ) → get_or h.cells j 0 < limit) → (i : ℕ) → get_or (shape_of N h) i 0 < limit
  pub room : length (shape_of N h) ≤ 1 + length h.roots + 6 * N

abbrev pub ShapeBounded : Type 0
ShapeBounded = (N w : ℕ) (h : Memory) → Intact N w h → Bounded N h
