-- Request U8, "Collection in small steps": the mark map and the second list, what opens, steps and closes a
-- collection, and what the other calls mark and list while one is open.
use Rattle.std.specs.Prelude.{ℕ, zero, suc, ◌+◌, ◌-◌, ◌*◌, ◌/◌, Bool, true, false, not, ◌&&◌, ◌||◌, List, [], ◌∷◌, ◌++◌, length, get_or, set, replicate, leb, ltb, eqb}
use Rattle.std.proofs.Math.Option.{Option, none, some}
use Rattle.bitmap.specs.Bit.{bit_at, set_bit, one, count_below}
use Rattle.rules.specs.Tools.{holding, some_below, is_some, tabulate}
use Rattle.rules.specs.Heap.{Memory, with_counts, with_cells, with_roots, with_marks, with_list, is_first, size_at, reference}
use Rattle.rules_stores.specs.Store.{Work, work, count_down, release, change_root, change_cell, placed, allocate_in, is_chosen}
use Rattle.rules_stores.specs.Collection.{marked, swept}

-- ---- what objects name

-- a cell of the object at block x names the object at block i; a cell of data names none (request U6)
unfoldable pub names : ℕ → Memory → (x i : ℕ) → Bool
names N h x i = some_below (λ j. eqb (reference N h (4 * x + j)) (i + 1)) (4 * size_at N h x)

-- ---- the two lists

-- "the last place being 1 while a collection is open and else 0"
abbrev pub is_open : ℕ → Memory → Bool
is_open N h = eqb (get_or h.list N 0) 1

abbrev pub is_marked : Memory → ℕ → Bool
is_marked h i = eqb (bit_at h.marks i) 1

-- 1 + block i stands on the second list
unfoldable pub is_listed : ℕ → Memory → ℕ → Bool
is_listed N h i = some_below (λ k. eqb (get_or h.list k 0) (i + 1)) N

-- a map with the bits below n written: 1 for each block of a set, 0 for every other
unfoldable pub map_of : (map : List ℕ) → (test : ℕ → Bool) → (n : ℕ) → List ℕ
map_of map test zero = map
map_of map test (suc n) = set_bit (map_of map test n) n (one (test n))

-- "1 + first blocks, strictly rising": 1 + each block of the set that is below n, before the rest
unfoldable pub rising : (test : ℕ → Bool) → (n : ℕ) → (rest : List ℕ) → List ℕ
rising test zero rest = rest
rising test (suc n) rest = rising test n (elim (test n) [ true ↦ (n + 1) ∷ rest | false ↦ rest ])

-- "The list has N + 1 numbers ..: 1 + first blocks, strictly rising, then 0s, the last place being 1
-- while a collection is open"
unfoldable pub list_of : ℕ → (test : ℕ → Bool) → List ℕ
list_of N test = rising test N (replicate (N - count_below test N) 0) ++ (1 ∷ [])

-- the memory with these blocks marked and those listed, a collection being open
unfoldable pub with_progress : ℕ → (marks list : ℕ → Bool) → Memory → Memory
with_progress N marks list h = with_marks (map_of h.marks marks N) (with_list (list_of N list) h)

-- none open: every "mark or list place" is 0
unfoldable pub with_none : ℕ → Memory → Memory
with_none N h = with_marks (replicate (N / 8) 0) (with_list (replicate (N + 1) 0) h)

-- ---- number 13

-- place k + 1 of the list doesn't follow place k as it has to: "strictly rising, then 0s"
unfoldable pub bad_next : Memory → (k : ℕ) → Bool
bad_next h k =
    let v = get_or h.list k 0 in
    let next = get_or h.list (k + 1) 0 in
    not (eqb next 0) && (eqb v 0 || leb next v)

-- place k of the list is neither 0 nor one of the "1 + first blocks", "or holds an unmarked object"
unfoldable pub bad_place : ℕ → Memory → (k : ℕ) → Bool
bad_place N h k =
    let v = get_or h.list k 0 in
    not (eqb v 0) && not (is_first N h (v - 1) && is_marked h (v - 1))

-- "a mark isn't on a first block"
unfoldable pub stray_mark : ℕ → Memory → (i : ℕ) → Bool
stray_mark N h i = is_marked h i && not (is_first N h i)

-- "some root .. names an unmarked one"
unfoldable pub root_missed : Memory → (r : ℕ) → Bool
root_missed h r = let v = get_or h.roots r 0 in not (eqb v 0) && not (is_marked h (v - 1))

-- "some .. marked unlisted object names an unmarked one"
unfoldable pub cell_missed : ℕ → Memory → (x : ℕ) → Bool
cell_missed N h x = is_first N h x && is_marked h x && not (is_listed N h x) && some_below (λ i. names N h x i && not (is_marked h i)) N

-- "13, the list isn't of that form or holds an unmarked object, a mark isn't on a first block, some root or
-- marked unlisted object names an unmarked one while a collection is open, or a mark or list place isn't 0
-- while none is"
unfoldable pub is_untidy : ℕ → Memory → Bool
is_untidy N h =
    elim (is_open N h) [
      | true ↦
          some_below (bad_next h) (N - 1) || some_below (bad_place N h) N || some_below (stray_mark N h) N
          || some_below (root_missed h) (length h.roots) || some_below (cell_missed N h) N
      | false ↦ some_below (is_marked h) N || some_below (λ k. not (eqb (get_or h.list k 0) 0)) (N + 1)
    ]

-- ---- the opening

-- a root names the object at block i
unfoldable pub root_names : Memory → ℕ → Bool
root_names h i = ltb 0 (holding (i + 1) h.roots)

-- "Opening marks every object a root names, in a new mark map of N/8 bytes, and puts it on a second list."
unfoldable pub opened : ℕ → Memory → Memory
opened N h = with_progress N (root_names h) (root_names h) h

-- ---- steps

-- how far a collection has come: the blocks that are marked and those that are listed, as lists of N marks
pub record Progress : Type 0 where
  pub marks : List Bool
  pub list : List Bool

abbrev pub progress : List Bool → List Bool → Progress
progress marks list = record { marks = marks; list = list }

unfoldable pub progress_of : ℕ → Memory → Progress
progress_of N h = progress (tabulate N (is_marked h)) (tabulate N (is_listed N h))

-- the lowest place of a list of marks that has one, counted from i
unfoldable pub lowest : List Bool → (i : ℕ) → Option ℕ
lowest [] i = none
lowest (t ∷ ts) i = elim t [ true ↦ some i | false ↦ lowest ts (i + 1) ]

-- one step: the object at block x is taken off the list. "Steps mark and list what they first meet."
unfoldable pub scanned : ℕ → Memory → Progress → (x : ℕ) → Progress
scanned N h p x =
    progress
    (tabulate N (λ i. marked p.marks i || names N h x i))
    (tabulate N (λ i. (marked p.list i && not (eqb i x)) || (names N h x i && not (marked p.marks i))))

-- the steps taken, and how far the collection has come then
pub record StepsTaken : Type 0 where
  pub steps : ℕ
  pub reached : Progress

abbrev pub taken : ℕ → Progress → StepsTaken
taken steps reached = record { steps = steps; reached = reached }

-- "A step takes the lowest. A call may take at most the given number of steps, one for each object taken off
-- the list, data too. It replies with the steps taken, all of them unless the list ran out"
unfoldable pub steps_from : (budget : ℕ) → ℕ → Memory → Progress → StepsTaken
steps_from zero N h p = taken 0 p
steps_from (suc k) N h p =
    elim (lowest p.list 0) [
      | none ↦ taken 0 p
      | some x ↦ let t = steps_from k N h (scanned N h p x) in taken (suc t.steps) t.reached
    ]

-- ---- the close

-- the reference v where it names a survivor, which is a marked object; else 0
unfoldable pub to_survivor : List Bool → (v : ℕ) → ℕ
to_survivor marks v = elim (marked marks (v - 1)) [ true ↦ v | false ↦ 0 ]

-- of the n cells from cell j on: "counts down the survivors that these named, once for each cell". A cell of
-- data named none.
unfoldable pub survivors_down : ℕ → ℕ → List Bool → Memory → Work → (j n : ℕ) → Work
survivors_down N w marks h s j zero = s
survivors_down N w marks h s j (suc n) =
    count_down N w (survivors_down N w marks h s j n) (to_survivor marks (reference N h (j + n)))

-- the same for the cells of the unmarked objects that start below n
unfoldable pub survivors_let_go : ℕ → ℕ → List Bool → Memory → Work → (n : ℕ) → Work
survivors_let_go N w marks h s zero = s
survivors_let_go N w marks h s (suc n) =
    let t = survivors_let_go N w marks h s n in
    elim (is_first N h n && not (marked marks n)) [
      | true ↦ survivors_down N w marks h t (4 * n) (4 * size_at N h n)
      | false ↦ t
    ]

-- "it frees all objects then unmarked, marking none of them, and counts down the survivors that these named,
-- once for each cell (one that reaches 0 is freed as in a store)". In what order those are freed can't be
-- seen (proved as `CloseOrderUnseen`, theory_memories/specs/Orders.antt).
unfoldable pub unmarked_freed : ℕ → ℕ → List Bool → Memory → Memory
unmarked_freed N w marks h =
    let g = swept N w h marks N in
    let s = survivors_let_go N w marks h (work g.counts []) N in
    release N N w (with_counts s.counts g) s.stack

-- ".. and clears the mark map and the list"
unfoldable pub closed : ℕ → ℕ → List Bool → Memory → Memory
closed N w marks h = with_none N (unmarked_freed N w marks h)

-- "When a call with a budget above 0 leaves the list empty"
unfoldable pub closes : (budget : ℕ) → Progress → Bool
closes budget p = ltb 0 budget && not (is_some (lowest p.list 0))

unfoldable pub stepped : ℕ → ℕ → Memory → (budget : ℕ) → Progress → Memory
stepped N w h budget p =
    elim (closes budget p) [
      | true ↦ closed N w p.marks h
      | false ↦ with_progress N (marked p.marks) (marked p.list) h
    ]

-- ---- what the other calls mark while a collection is open

-- A call that stores took the memory h; k is h with a new object placed and what the call stores written in,
-- and g what is left once all is let go. `touched` are the references to "its owner, old and new objects".
module _ (N : ℕ) (h k : Memory) (touched : List ℕ) (g : Memory) where
  -- marked before; and "objects are born marked"
  unfoldable pub was_marked : ℕ → Bool
  was_marked i = is_marked h i || (is_first N k i && not (is_first N h i))

  -- "clearing a freed object's cells marks and lists the unmarked ones they named": a cell of an object that
  -- this call freed names it. An object's cells stay as they are written until it is freed, so this needs no
  -- order of freeing.
  unfoldable pub named_by_freed : ℕ → Bool
  named_by_freed i = some_below (λ x. is_first N k x && not (is_first N g x) && names N k x i) N

  -- what is marked then: "a freed object leaves map and list"
  unfoldable pub marks_after : ℕ → Bool
  marks_after i = is_first N g i && (was_marked i || ltb 0 (holding (i + 1) touched) || named_by_freed i)

  -- "marks and lists what is unmarked": what was marked before is not listed again, nor is the new object,
  -- which is born marked
  unfoldable pub list_after : ℕ → Bool
  list_after i = marks_after i && (is_listed N h i || not (was_marked i))

  unfoldable pub shaded : Memory
  shaded = elim (is_open N h) [ true ↦ with_progress N marks_after list_after g | false ↦ g ]

-- "each reference store that changes a value .. marks and lists what is unmarked among its owner, old and new
-- objects"; request U2: "an accepted store of the value present changes no buffer but the waiting list". A
-- root has no owner.
unfoldable pub store_root_shading : ℕ → ℕ → Memory → (r v : ℕ) → Memory
store_root_shading N w h r v =
    let old = get_or h.roots r 0 in
    elim (eqb old v) [
      | true ↦ h
      | false ↦ shaded N h (with_roots (set h.roots r v) h) (old ∷ v ∷ []) (change_root N w h r v)
    ]

-- cell j of the object at block `at`, its owner
unfoldable pub store_cell_shading : ℕ → ℕ → Memory → (at j v : ℕ) → Memory
store_cell_shading N w h at j v =
    let c = 4 * at + j in
    let old = get_or h.cells c 0 in
    elim (eqb old v) [
      | true ↦ h
      | false ↦ shaded N h (with_cells (set h.cells c v) h) ((at + 1) ∷ old ∷ v ∷ []) (change_cell N w h c v)
    ]

-- ".. an allocation's included"
unfoldable pub allocate_shading : ℕ → ℕ → (asData : Bool) → Memory → (n r i : ℕ) → Memory
allocate_shading N w asData h n r i =
    shaded N h (with_roots (set h.roots r (i + 1)) (placed N w asData h i n)) (get_or h.roots r 0 ∷ (i + 1) ∷ []) (allocate_in N w asData h n r i)

-- request U10: root r is cleared, by a store of 0, where it is one of the set
unfoldable pub clear_shading : ℕ → ℕ → Memory → (chosen r : ℕ) → Memory
clear_shading N w h chosen r = elim (is_chosen chosen r) [ true ↦ store_root_shading N w h r 0 | false ↦ h ]

-- "A return lets go of all local variables together": the roots of the set that are below n, "with one open,
-- in ascending order". With none open any other order ends in the same heap (proved as `ReturnInAnyOrder`,
-- theory/specs/Returns.antt).
unfoldable pub return_shading : ℕ → ℕ → Memory → (chosen n : ℕ) → Memory
return_shading N w h chosen zero = h
return_shading N w h chosen (suc n) = clear_shading N w (return_shading N w h chosen n) chosen n
