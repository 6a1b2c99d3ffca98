-- The loop that frees waiting objects goes as `release` does, counts as `released_blocks` and marks as `released_marks` does.
use mathlib.Core.Path.{◌≡◌, refl, sym, ap, ap₂, ◌∙◌}
use mathlib.Core.Bool.{Bool}
use mathlib.Core.List.{List, [], ◌∷◌}
use Prim.Native.Nat.{ℕ, zero, suc, ◌+◌, ◌-◌, ◌*◌, ◌/◌, ◌≤◌, ◌<◌}
use native.Mathlib.Omega.{arith}
use lib.ListN.{length, get_or, set, replicate}
use borrow.Author.Tests.{eqb-true, not-false}
use Rattle.bitmap.specs.Bit.{set_bit, fill_bits}
use Rattle.planes.specs.Plane.{set_count}
use Rattle.planes.proofs.Counts.{set_count_there}
use Rattle.rules.specs.Heap.{Memory, with_counts, size_from, max_blocks}
use Rattle.rules_stores.specs.Store.{Work, work, count_down_each, clear_cells, freed, naming_cells, release}
use Rattle.step_marks.specs.Marks.{freed_marks}
use Rattle.step_marks.proofs.Marked.{length_freed_marks}
use Rattle.count_up.specs.Ready.{Planes, Extents, part_memory}
use Rattle.count_up.specs.Stack.{top_first, counted, remaining, Stack, Worked}
use Rattle.release.specs.Blocks.{released_blocks}
use Rattle.release.specs.Marks.{released_marks}
use Rattle.count_up.proofs.Shapes.{extents_written}
use Rattle.count_up.proofs.Stack.{top_first_kept, top_first_pop, stack_emptied}

-- ---- one object freed

-- the counts and the stack once the object of n blocks at i is freed
abbrev after : ℕ → ℕ → Memory → ℕ → ℕ → List ℕ → Work
after N w h i n rest = count_down_each N w (work (freed N w h i n).counts rest) h.cells (4 * i) (naming_cells h.d i n)

-- the memory then
abbrev left : ℕ → ℕ → Memory → ℕ → ℕ → List ℕ → Memory
left N w h i n rest = with_counts (after N w h i n rest).counts (freed N w h i n)

module _ (f N w : ℕ) (h : Memory) (i n : ℕ) (rest : List ℕ) (some : 0 < f) (size : n ≡ size_from (N - i) h.b i) where
  one_more : f ≡ suc (f - 1)
  one_more = omega arith

  release_pop : release f N w h (i ∷ rest) ≡ release (f - 1) N w (left N w h i n rest) (after N w h i n rest).stack
  unfolding release
  release_pop =
      ap (λ (k : ℕ). release k N w h (i ∷ rest)) one_more
      ∙ ap (λ (m : ℕ). release (f - 1) N w (left N w h i m rest) (after N w h i m rest).stack) (sym size)

  released_pop : released_blocks f N w h (i ∷ rest)
      ≡ n + released_blocks (f - 1) N w (left N w h i n rest) (after N w h i n rest).stack
  unfolding released_blocks
  released_pop =
      ap (λ (k : ℕ). released_blocks k N w h (i ∷ rest)) one_more
      ∙ ap (λ (m : ℕ). m + released_blocks (f - 1) N w (left N w h i m rest) (after N w h i m rest).stack) (sym size)

  marks_pop : (shade : Bool) (marks : List ℕ) → released_marks shade f N w h (i ∷ rest) marks
      ≡ released_marks shade (f - 1) N w (left N w h i n rest) (after N w h i n rest).stack
      (freed_marks shade N marks h.cells i (naming_cells h.d i n))
  unfolding released_marks
  marks_pop shade marks =
      ap (λ (k : ℕ). released_marks shade k N w h (i ∷ rest) marks) one_more
      ∙ ap
      (λ (m : ℕ).
      released_marks shade (f - 1) N w (left N w h i m rest) (after N w h i m rest).stack
      (freed_marks shade N marks h.cells i (naming_cells h.d i m)))
      (sym size)

-- ---- the loop

-- What it keeps: what is still to be done from here gives `goal`, what is still to be counted gives `total`, and what is still to be marked
-- `map`. The last part bounds the sum: whatever can still come to be freed has at most `max_blocks` blocks.
pub record ReleaseUnderWay (N w : ℕ) (shade : Bool) (goal : Memory) (total : ℕ) (map a b counts cells waiting d marks : List ℕ)
    (top done : ℕ) : Type 0 where
  pub planes : Planes N w counts
  pub extents : Extents N a b cells d
  pub marks_length : length marks ≡ N / 8
  pub stack : Stack counted N w counts waiting top
  pub steps : ℕ
  pub enough : remaining counted N w counts top ≤ steps
  pub rest : goal ≡ release steps N w (part_memory a b counts cells [] d) (top_first waiting top)
  pub blocks : total ≡ done + released_blocks steps N w (part_memory a b counts cells [] d) (top_first waiting top)
  pub marking : map ≡ released_marks shade steps N w (part_memory a b counts cells [] d) (top_first waiting top) marks
  pub bound : done + max_blocks * remaining counted N w counts top ≤ max_blocks * max_blocks

pub releasing_start :
    {N w : ℕ} {shade : Bool} {a b counts cells waiting d marks : List ℕ} {top : ℕ}
    → Planes N w counts → Extents N a b cells d → Stack counted N w counts waiting top → length marks ≡ N / 8
    → ReleaseUnderWay N w shade (release N N w (part_memory a b counts cells [] d) (top_first waiting top))
    (released_blocks N N w (part_memory a b counts cells [] d) (top_first waiting top))
    (released_marks shade N N w (part_memory a b counts cells [] d) (top_first waiting top) marks) a b counts cells waiting d marks top 0
releasing_start {N} p x s long = record {
  planes = p;
  extents = x;
  marks_length = long;
  stack = s;
  steps = N;
  enough = s.room;
  rest = refl;
  blocks = omega arith;
  marking = refl;
  bound = omega (arith, s.room, p.most);
}

-- an object of n blocks at i is taken off the stack and freed
module _ {N w : ℕ} {shade : Bool} {goal : Memory} {total : ℕ} {map a b counts cells waiting d marks : List ℕ} {top done i n : ℕ}
    {a' b' counts' cells' waiting' d' marks' : List ℕ} {top' : ℕ}
    (taken : 0 < top) (ei : i ≡ get_or waiting (top - 1) 0) (size : n ≡ size_from (N - i) b i) (inside : i + n ≤ N)
    (ea : a' ≡ fill_bits a i n 0) (eb : b' ≡ set_bit b (i + n - 1) 1) (ee : cells' ≡ clear_cells cells (4 * i) (4 * n))
    (down :
    Worked counted N w (count_down_each N w (work counts (top_first (set waiting (top - 1) 0) (top - 1))) cells (4 * i) (naming_cells d i n))
    (remaining counted N w counts (top - 1)) counts' waiting' top')
    (ed : d' ≡ set_bit d i 0) (em : marks' ≡ freed_marks shade N marks cells i (naming_cells d i n))
    (r : ReleaseUnderWay N w shade goal total map a b counts cells waiting d marks top done) where
  abbrev before : Memory
  before = part_memory a b counts cells [] d

  abbrev rest : List ℕ
  rest = top_first waiting (top - 1)

  popped : top_first waiting top ≡ i ∷ rest
  popped = top_first_pop waiting top taken ∙ ap {B = List ℕ} (λ x. x ∷ rest) (sym ei)

  -- the count of a freed object is 0 already
  same_work : work counts (top_first (set waiting (top - 1) 0) (top - 1)) ≡ work (set_count (N / 8) w counts i 0) rest
  same_work =
      ap₂ (λ (c l : List ℕ). work c l)
      (sym (set_count_there (N / 8) w counts i 0 (rw ei (eqb-true _ 0 (not-false _ (r.stack.come (top - 1) (omega arith)))))))
      (top_first_kept waiting (top - 1) (top - 1) 0 (omega arith))

  result : after N w before i n rest ≡ work counts' (top_first waiting' top')
  unfolding freed
  result = sym (down.result ∙ ap (λ (s : Work). count_down_each N w s cells (4 * i) (naming_cells d i n)) same_work)

  memory_left_lem : left N w before i n rest ≡ part_memory a' b' counts' cells' [] d'
  unfolding freed
  memory_left_lem = λ k. part_memory (sym ea k) (sym eb k) (result k).counts (sym ee k) [] (sym ed k)

  stack_left : (after N w before i n rest).stack ≡ top_first waiting' top'
  stack_left = ap (λ (s : Work). s.stack) result

  release_left : release r.steps N w before (top_first waiting top)
      ≡ release (r.steps - 1) N w (part_memory a' b' counts' cells' [] d') (top_first waiting' top')
  release_left =
      ap (λ (s : List ℕ). release r.steps N w before s) popped
      ∙ release_pop r.steps N w before i n rest (omega (arith, r.enough)) size
      ∙ ap₂ (λ (g : Memory) (s : List ℕ). release (r.steps - 1) N w g s) memory_left_lem stack_left

  blocks_left : released_blocks r.steps N w before (top_first waiting top)
      ≡ n + released_blocks (r.steps - 1) N w (part_memory a' b' counts' cells' [] d') (top_first waiting' top')
  blocks_left =
      ap (λ (s : List ℕ). released_blocks r.steps N w before s) popped
      ∙ released_pop r.steps N w before i n rest (omega (arith, r.enough)) size
      ∙ ap₂ (λ (g : Memory) (s : List ℕ). n + released_blocks (r.steps - 1) N w g s) memory_left_lem stack_left

  marks_left_lem : released_marks shade r.steps N w before (top_first waiting top) marks
      ≡ released_marks shade (r.steps - 1) N w (part_memory a' b' counts' cells' [] d') (top_first waiting' top') marks'
  marks_left_lem =
      ap (λ (s : List ℕ). released_marks shade r.steps N w before s marks) popped
      ∙ marks_pop r.steps N w before i n rest (omega (arith, r.enough)) size shade marks
      ∙ (λ k. released_marks shade (r.steps - 1) N w (memory_left_lem k) (stack_left k) (sym em k))

  pub releasing_step : ReleaseUnderWay N w shade goal total map a' b' counts' cells' waiting' d' marks' top' (done + n)
  releasing_step = record {
    planes = down.planes;
    extents = extents_written i n 0 (i + n - 1) 1 (4 * i) (4 * n) 0 ea eb ee ed r.extents;
    marks_length = ap length em ∙ length_freed_marks shade N marks cells i (naming_cells d i n) ∙ r.marks_length;
    stack = down.stack;
    steps = r.steps - 1;
    enough = omega (arith, down.left_is, r.enough);
    rest = r.rest ∙ release_left;
    blocks = omega (arith, r.blocks, blocks_left);
    marking = r.marking ∙ marks_left_lem;
    bound = omega (arith, down.left_is, r.bound, r.planes.most);
  }

-- nothing waits any more
module _ {N w : ℕ} {shade : Bool} {goal : Memory} {total : ℕ} {map a b counts cells waiting d marks : List ℕ} {top done : ℕ}
    (r : ReleaseUnderWay N w shade goal total map a b counts cells waiting d marks top done) (none : top ≡ 0) where
  pub releasing_done : part_memory a b counts cells [] d ≡ goal
  unfolding release top_first
  releasing_done =
      sym
      (r.rest ∙ ap (λ (k : ℕ). release r.steps N w (part_memory a b counts cells [] d) (top_first waiting k)) none ∙ end r.steps)
    where
      end : (f : ℕ) → release f N w (part_memory a b counts cells [] d) [] ≡ part_memory a b counts cells [] d
      end zero = refl
      end (suc f) = refl

  pub blocks_done : done ≡ total
  unfolding released_blocks top_first
  blocks_done = omega (arith, r.blocks, last)
    where
      end : (f : ℕ) → released_blocks f N w (part_memory a b counts cells [] d) [] ≡ 0
      end zero = refl
      end (suc f) = refl

      last : released_blocks r.steps N w (part_memory a b counts cells [] d) (top_first waiting top) ≡ 0
      last =
          ap (λ (k : ℕ). released_blocks r.steps N w (part_memory a b counts cells [] d) (top_first waiting k)) none ∙ end r.steps

  pub marks_done : marks ≡ map
  unfolding released_marks top_first
  marks_done =
      sym
      (r.marking
      ∙ ap (λ (k : ℕ). released_marks shade r.steps N w (part_memory a b counts cells [] d) (top_first waiting k) marks) none
      ∙ end r.steps)
    where
      end : (f : ℕ) → released_marks shade f N w (part_memory a b counts cells [] d) [] marks ≡ marks
      end zero = refl
      end (suc f) = refl

  pub waiting_done : waiting ≡ replicate N 0
  waiting_done = stack_emptied (rw none at r.stack)
