-- What the theory proves of heaps, whatever call is made, for the reader: each statement is over the rules' own words.
use Rattle.std.specs.Prelude.{ℕ, ◌+◌, ◌*◌, ◌%◌, ◌^◌, ◌≤◌, ◌<◌, ◌≡◌, ◌↔◌, Bool, true, false, List, length, get_or, set, replicate}
use Rattle.std.proofs.Math.Option.{some}
use Rattle.bitmap.specs.Bit.{bit_at, count_below, zeros}
use Rattle.rules.specs.Heap.{Memory, with_counts, with_cells, with_roots, shaped, is_first, size_at, is_ref, is_data, exponent, lowest_free}
use Rattle.rules.specs.Tools.{some_below}
use Rattle.rules.specs.Damage.{end_on_free, open_end, damage}
use Rattle.rules.specs.Sections.{stale_figures}
use Rattle.rules_steps.specs.Steps.{is_untidy}
use Rattle.rules_stores.specs.Store.{count_up, let_go_in, change_root, change_cell, placed, allocate_in}
use Rattle.rules_stores.specs.Collection.{marked, reached}
use Rattle.theory_memories.specs.Words.{Object, Leads}

-- right shape and no damage, whatever the list of sections holds: refused with neither 1 nor 2
pub record Intact (N w : ℕ) (h : Memory) : Type 0 where
  pub right_shape : shaped N w h ≡ true
  pub no_damage : damage N w h ≡ 0

-- .. and a true list of sections, and marks and a second list as they have to be: refused with none of 1, 2,
-- 11 and 13
pub record Undamaged (N w : ℕ) (h : Memory) : Type 0 where
  pub intact : Intact N w h
  pub true_list : stale_figures N h.a h.sections ≡ false
  pub tidy : is_untidy N h ≡ false

-- "0 stands on the last block of each object and 1 everywhere else": of every heap without damage. A bit is 0 or 1.
abbrev pub EndsOnLast : Type 0
EndsOnLast =
    (N w : ℕ) (h : Memory) → Intact N w h → (i : ℕ) → i < N
    → (bit_at h.b i ≡ 0) ↔ ((b : ℕ) × (n : ℕ) × Object N h b n × (i + 1 ≡ b + n))

-- 2 ^ exponent n is "the least power of two that is n or more"
abbrev pub LeastPower : Type 0
LeastPower = (n : ℕ) → (n ≤ 2 ^ exponent n) × ((k : ℕ) → n ≤ 2 ^ k → 2 ^ exponent n ≤ 2 ^ k)

-- some block of the chunk of 2 ^ k blocks at block i is used
abbrev pub UsedChunk : List ℕ → (k i : ℕ) → Type 0
UsedChunk a k i = (j : ℕ) × (i ≤ j) × (j < i + 2 ^ k) × (bit_at a j ≡ 1)

-- every chunk of 2 ^ k blocks of the heap, being "s blocks starting at a multiple of s", has a used block
abbrev pub NoneFree : (N k : ℕ) → List ℕ → Type 0
NoneFree N k a = (c : ℕ) → (c + 1) * 2 ^ k ≤ N → UsedChunk a k (c * 2 ^ k)

-- The lowest free chunk of s = 2 ^ k blocks starts at block i: i is a multiple of s, the s blocks from it lie in the heap and are free, and
-- every lower chunk has a used block.
pub record Lowest (N k : ℕ) (a : List ℕ) (i : ℕ) : Type 0 where
  pub aligned : i % 2 ^ k ≡ 0
  pub inside : i + 2 ^ k ≤ N
  pub free : (j : ℕ) → i ≤ j → j < i + 2 ^ k → bit_at a j ≡ 0
  pub lowest : (c : ℕ) → c * 2 ^ k < i → UsedChunk a k (c * 2 ^ k)

-- The N rounds of `reached` are enough: what they mark is exactly what a root leads to.
abbrev pub ReachedIsLed : Type 0
ReachedIsLed = (N : ℕ) (h : Memory) (b : ℕ) → (marked (reached N h) b ≡ true) ↔ Leads N h b

-- The N steps of `release` are enough: with more of them a store or an allocation ends in the same heap.
pub record StepsSuffice (N w : ℕ) (h : Memory) (steps : ℕ) : Type 0 where
  pub in_root : (r v : ℕ) → r < length h.roots → is_ref N h v ≡ true
      → let written : Memory = with_roots (set h.roots r v) (with_counts (count_up N w h.counts v) h) in
      let_go_in steps N w written (get_or h.roots r 0) ≡ change_root N w h r v
  pub in_cell : (a j v : ℕ) → is_first N h a ≡ true → j < 4 * size_at N h a → is_data h.d a ≡ false → is_ref N h v ≡ true
      → let written : Memory = with_cells (set h.cells (4 * a + j) v) (with_counts (count_up N w h.counts v) h) in
      let_go_in steps N w written (get_or h.cells (4 * a + j) 0) ≡ change_cell N w h (4 * a + j) v
  pub new : (asData : Bool) (n r i : ℕ) → 1 ≤ n → r < length h.roots → lowest_free N (exponent n) h.a ≡ some i
      → let written : Memory = with_roots (set h.roots r (i + 1)) (placed N w asData h i n) in
      let_go_in steps N w written (get_or h.roots r 0) ≡ allocate_in N w asData h n r i

abbrev pub NStepsSuffice : Type 0
NStepsSuffice = (N w : ℕ) (h : Memory) → Intact N w h → (steps : ℕ) → N ≤ steps → StepsSuffice N w h steps

-- Request U9: "Show that a heap passing kinds 1 and 2 has as many objects as 0 bits in the B-map. Then drop the kind". Kind 6 asked for just
-- this equality, after kinds 1 and 2, so no heap could have it as the first kind found, and it could go.
abbrev pub ObjectsAreEnds : Type 0
ObjectsAreEnds =
    (N w : ℕ) (h : Memory) → shaped N w h ≡ true → some_below (end_on_free h) N ≡ false → some_below (open_end N h) N ≡ false
    → count_below (is_first N h) N ≡ zeros h.b

-- refused with none of 1, 2, 11 and 13, and the waiting list is cleared
pub record Usable (N w : ℕ) (h : Memory) : Type 0 where
  pub undamaged : Undamaged N w h
  pub idle : h.waiting ≡ replicate N 0
