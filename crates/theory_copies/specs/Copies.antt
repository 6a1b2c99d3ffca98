-- Request U14, "Copy into a second heap": what an accepted copy leaves and where, which number a refused one is
-- given, and what a copy depends on. The first heap is h, of N blocks and count width w; the second, which the
-- call is made on, is g, of M blocks and count width v.
use Rattle.std.specs.Prelude.{ℕ, zero, suc, ◌/◌, ◌<◌, min, ◌≡◌, ◌↔◌, true, false, List, length, replicate}
use Rattle.bitmap.specs.Bit.{fill_bits}
use Rattle.rules.specs.Heap.{Memory, shaped, capacity, count_of, is_first, exponent}
use Rattle.rules_steps.specs.Steps.{is_open}
use Rattle.rules_output.specs.Walk.{block_at, numbered}
use Rattle.rules_output.specs.Shape.{shape_of}
use Rattle.rules_copy.specs.Copy.{size_of}
use Rattle.rules_calls.specs.Calls.{check, collect, copy_from, copy_into, reply, answer}
use Rattle.theory_memories.specs.Words.{Object, Leads, number_of_references, heap_of}
use Rattle.theory_memories.specs.Sound.{Sound}
use Rattle.theory_memories.specs.Heaps.{Undamaged, NoneFree, Lowest}
use Rattle.theory_memories.specs.Words.{in_use}
use Rattle.theory_walks.specs.Shape.{Paired}

-- ---- where the copies lie

-- the A-map of M blocks with the first k of some objects in it, of these sizes at these places
unfoldable pub map_with : (M : ℕ) → (sizes places : ℕ → ℕ) → (k : ℕ) → List ℕ
map_with M sizes places zero = replicate (M / 8) 0
map_with M sizes places (suc k) = fill_bits (map_with M sizes places k) (places k) (sizes k) 1

-- "by document 01's allocation rule": each of the first k objects lies in the lowest free chunk for its size of
-- the map with those before it
abbrev pub InTurn : (M : ℕ) → (sizes places : ℕ → ℕ) → (k : ℕ) → Type 0
InTurn M sizes places k = (i : ℕ) → i < k → Lowest M (exponent (sizes i)) (map_with M sizes places i) (places i)

-- "in U13's order": the sizes of the objects by their numbers, that of object 1 first
abbrev pub sizes_met : (N : ℕ) → Memory → ℕ → ℕ
sizes_met N h = size_of N h (numbered N h)

-- ---- what a copy leaves

-- left is the second heap after the call
pub record ExactCopy (N : ℕ) (h : Memory) (M v : ℕ) (left : Memory) : Type 0 where
  -- "Both heaps then have one shape"
  pub one_shape : shape_of N h ≡ shape_of M left
  -- "Copy the reached objects": each object that a root of the first heap leads to has one that stands for it,
  -- with its size, D bit, references and data; and nothing else stands there
  pub paired : Paired N h M left
  pub all_led : (b n : ℕ) → Object M left b n → Leads M left b
  -- "in U13's order and by document 01's allocation rule"; and the A-map is the one that this gives
  pub in_turn_lem : InTurn M (sizes_met N h) (λ i. paired.to (block_at (numbered N h) (suc i))) (length (numbered N h))
  pub map_is : left.a ≡ map_with M (sizes_met N h) (λ i. paired.to (block_at (numbered N h) (suc i))) (length (numbered N h))
  -- "Counts are those a collection gives at the new width": the capacity, or the number of references where it is
  -- smaller. So a collection frees nothing and changes nothing.
  pub counted : (b : ℕ) → is_first M left b ≡ true → count_of M v left b ≡ min (capacity v) (number_of_references M left b)
  pub collected_already : answer M v left collect ≡ (reply 0 0 0, left)
  -- it is sound and undamaged, with no collection open, and its waiting list is 0. So demand 3's claim holds of
  -- every list of calls that follows (`ClaimFromUndamaged`, Statements.antt).
  pub sound : Sound M v left
  pub undamaged : Undamaged M v left
  pub shut : is_open M left ≡ false
  pub waiting_clear : left.waiting ≡ replicate M 0

-- No hypothesis on the second heap: whatever stood there, damaged or with a collection open, the copy is exact;
-- "the value is the blocks in use in the second heap".
abbrev pub CopiesExactly : Type 0
CopiesExactly =
    (M v : ℕ) (g : Memory) (N w : ℕ) (h : Memory) → let x = answer M v g (copy_from N w h) in
    x.0.number ≡ 0 → (x.0 ≡ reply 0 (in_use M x.1) 0) × ExactCopy N h M v x.1

-- ---- in both lists

-- A copy stands in the list of each of its two heaps (demand 3), with one reply; the first heap "is only read".
-- No hypothesis.
pub record OneCopy (N w : ℕ) (h : Memory) (M v : ℕ) (g : Memory) : Type 0 where
  pub one_reply : (answer N w h (copy_into M v g)).0 ≡ (answer M v g (copy_from N w h)).0
  pub only_read : (answer N w h (copy_into M v g)).1 ≡ h

abbrev pub OneCopyInBothLists : Type 0
OneCopyInBothLists = (N w : ℕ) (h : Memory) (M v : ℕ) (g : Memory) → OneCopy N w h M v g

-- ---- refusals

-- both heaps are of the right shape, and "its roots are as many"
pub record CopyShaped (N w : ℕ) (h : Memory) (M v : ℕ) (g : Memory) : Type 0 where
  pub first : shaped N w h ≡ true
  pub second : shaped M v g ≡ true
  pub as_many : length h.roots ≡ length g.roots

-- Object number k + 1 "finds no chunk at its turn": those before it have their places, and in the map with them
-- every chunk for its size has a used block.
pub record NoChunk (N : ℕ) (h : Memory) (M k : ℕ) : Type 0 where
  pub reached : k < length (numbered N h)
  pub places : ℕ → ℕ
  pub in_turn_lem : InTurn M (sizes_met N h) places k
  pub none_free : NoneFree M (exponent (sizes_met N h k)) (map_with M (sizes_met N h) places k)

-- The numbers of a copy in their order, each if and only if. Of the second heap nothing but its shape is tested.
pub record CopyRefusals (N w : ℕ) (h : Memory) (M v : ℕ) (g : Memory) : Type 0 where
  pub one : ((answer M v g (copy_from N w h)).0.number ≡ 1) ↔ (CopyShaped N w h M v g → ⊥)
  -- 2 with the first heap's damage kind, 11 and 13: as the check of the first heap
  pub as_check :
      CopyShaped N w h M v g → ((answer N w h check).0.number ≡ 0 → ⊥) → (answer M v g (copy_from N w h)).0 ≡ (answer N w h check).0
  -- "with a collection open it gives 14"
  pub fourteen : CopyShaped N w h M v g → Undamaged N w h → ((answer M v g (copy_from N w h)).0.number ≡ 14) ↔ (is_open N h ≡ true)
  -- "17, an object finds no chunk at its turn, after all others"
  pub seventeen :
      CopyShaped N w h M v g → Undamaged N w h → is_open N h ≡ false
      → ((answer M v g (copy_from N w h)).0.number ≡ 17) ↔ ((k : ℕ) × NoChunk N h M k)
  -- a refused copy formats nothing
  pub unchanged : ((answer M v g (copy_from N w h)).0.number ≡ 0 → ⊥) → (answer M v g (copy_from N w h)).1 ≡ g

abbrev pub CopyRefusedExactly : Type 0
CopyRefusedExactly = (N w : ℕ) (h : Memory) (M v : ℕ) (g : Memory) → CopyRefusals N w h M v g

-- ---- what a copy depends on

-- "The waiting list may hold anything on entry": that of the first heap too
abbrev pub FirstWaitingUnread : Type 0
FirstWaitingUnread =
    (N w : ℕ) (h f : Memory) → heap_of h ≡ heap_of f → length h.waiting ≡ length f.waiting
    → (M v : ℕ) (g : Memory) → answer M v g (copy_from N w h) ≡ answer M v g (copy_from N w f)

-- "nothing that stood there lives on": second heaps of one shape, with as many roots, get one reply, and from an
-- accepted copy one memory
pub record SecondUnread (N w : ℕ) (h : Memory) (M v : ℕ) (g k : Memory) : Type 0 where
  pub one_reply : (answer M v g (copy_from N w h)).0 ≡ (answer M v k (copy_from N w h)).0
  pub one_memory : (answer M v g (copy_from N w h)).0.number ≡ 0 → answer M v g (copy_from N w h) ≡ answer M v k (copy_from N w h)

abbrev pub SecondHeapUnread : Type 0
SecondHeapUnread =
    (N w : ℕ) (h : Memory) (M v : ℕ) (g k : Memory) → shaped M v g ≡ shaped M v k → length g.roots ≡ length k.roots
    → SecondUnread N w h M v g k

-- Where the objects of the first heap lie can't be seen in the copy, nor its number of blocks, its width or its
-- counts: heaps of one shape are answered alike, with the same memory, or both with 17.
abbrev pub OneShapeOneCopy : Type 0
OneShapeOneCopy =
    (N w : ℕ) (h : Memory) → Undamaged N w h → is_open N h ≡ false → (K u : ℕ) (f : Memory) → Undamaged K u f → is_open K f ≡ false
    → shape_of N h ≡ shape_of K f → (M v : ℕ) (g : Memory) → answer M v g (copy_from N w h) ≡ answer M v g (copy_from K u f)

-- so heaps whose copies are equal are those of one shape
abbrev pub EqualCopies : Type 0
EqualCopies =
    (M v : ℕ) (g : Memory) (N w : ℕ) (h : Memory) (K u : ℕ) (f : Memory) → let x = answer M v g (copy_from N w h) in
    let y = answer M v g (copy_from K u f) in
    x.0.number ≡ 0 → y.0.number ≡ 0 → (x.1 ≡ y.1) ↔ (shape_of N h ≡ shape_of K f)

-- A copy copied again, into any heap of its size, is the same copy.
abbrev pub CopyOfCopy : Type 0
CopyOfCopy =
    (M v : ℕ) (g : Memory) (N w : ℕ) (h : Memory) → let x = answer M v g (copy_from N w h) in
    x.0.number ≡ 0 → (k : Memory) → shaped M v k ≡ true → length k.roots ≡ length g.roots → answer M v k (copy_from M v x.1) ≡ x
