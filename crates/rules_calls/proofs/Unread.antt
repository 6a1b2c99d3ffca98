-- The rules of document 01 read neither the waiting list nor the list of sections nor those of request U8,
-- and letting go does not read the roots either: what they do to a memory they do beside whatever stands in
-- these lists.
use mathlib.Core.Path.{◌≡◌, refl, ap, ◌∙◌}
use mathlib.Core.Bool.{Bool, true, false, not, ◌&&◌}
use mathlib.Core.List.{List, [], ◌∷◌, map}
use mathlib.Core.Option.{Option, none, some}
use Prim.Native.Nat.{ℕ, zero, suc, ◌+◌, ◌*◌, ◌/◌, min}
use lib.Dec.{eqb}
use lib.ListN.{length, get_or, set}
use Rattle.planes.specs.Plane.{set_count}
use Rattle.rules.specs.Heap.{Memory, with_a, with_b, with_counts, with_cells, with_roots, with_waiting, with_sections, with_d, with_marks, with_list, capacity, is_first}
use Rattle.rules.specs.Heap.{size_at, reference}
use Rattle.rules_stores.specs.Store.{Work, work, count_up, count_down, freed, work_after, memory_after, release, let_go, put_root, put_cell, placed}
use Rattle.rules_stores.specs.Store.{change_root, change_cell, is_chosen, allocate_in}
use Rattle.rules_stores.proofs.Plain.{store_root_in, clear_chosen, return_in}
use Rattle.rules_stores.specs.Collection.{is_cell_of, cell_of_chosen, references_from, marked, reached_next, reached_in, reached, swept, recounted, collected}
use Rattle.rules_steps.specs.Steps.{names, is_listed, is_open, with_progress, with_none, root_names, opened, Progress, lowest, scanned, StepsTaken}
use Rattle.rules_steps.specs.Steps.{taken, steps_from, survivors_down, survivors_let_go, unmarked_freed, closed, closes, stepped, was_marked, named_by_freed}
use Rattle.rules_steps.specs.Steps.{to_survivor, marks_after, list_after, shaded, store_root_shading, store_cell_shading, allocate_shading}
use Rattle.rules_steps.specs.Steps.{clear_shading, return_shading}
use Rattle.rules_copy.specs.Copy.{Laid, size_of, lay_first, lay_all, places_in, new_reference, new_cell, copy_one, copy_first, copy_all, copied}
use Rattle.rules_output.specs.Walk.{number_in, block_at, references_of, followed, numbered}
use Rattle.rules_output.specs.Shape.{cells_of, described, shape_of}
use Rattle.rules_output.specs.Reason.{chain_to}
use Rattle.rules_output.specs.Sentence.{sentence_for}
use Rattle.rules.proofs.Tests.{choose, choose_both}

-- the lists that letting go does not read, with the others empty
abbrev unread : Memory → Memory
unread h = with_a [] (with_b [] (with_counts [] (with_cells [] (with_d [] h))))

-- the memory with these lists as `other` makes them, which sees no others: beside another waiting list x, `other` is `with_waiting x`
abbrev pub beside : (other : Memory → Memory) → Memory → Memory
beside other h =
    with_roots (other (unread h)).roots (with_waiting (other (unread h)).waiting (with_sections (other (unread h)).sections
    (with_marks (other (unread h)).marks (with_list (other (unread h)).list h))))

module _ (N w : ℕ) (other : Memory → Memory) where
  pub release_beside :
      (fuel : ℕ) (h : Memory) (stack : List ℕ) → release fuel N w (beside other h) stack ≡ beside other (release fuel N w h stack)
  unfolding release freed
  release_beside zero h stack = refl
  release_beside (suc fuel) h [] = refl
  release_beside (suc fuel) h (b ∷ rest) = release_beside fuel (memory_after N w h b rest) (work_after N w h b rest).stack

  pub let_go_beside : (h : Memory) (v : ℕ) → let_go N w (beside other h) v ≡ beside other (let_go N w h v)
  unfolding let_go
  let_go_beside h v =
      let s = count_down N w (work h.counts []) v in
      release_beside N (with_counts s.counts h) s.stack

-- ---- beside the roots that there are

-- the roots as they are, and the rest as `other` makes it, which does not see the roots
abbrev rooted : (Memory → Memory) → Memory → Memory
rooted other h = with_roots h.roots (other (with_roots [] h))

module _ (N w : ℕ) (others : Memory → Memory) where
  abbrev other : Memory → Memory
  other h = beside (rooted others) h

  let_go_other : (h : Memory) (v : ℕ) → let_go N w (other h) v ≡ other (let_go N w h v)
  let_go_other h v = let_go_beside N w (rooted others) h v

  module _ (h : Memory) where
    pub store_root_beside : (r v : ℕ) → store_root_in N w (other h) r v ≡ other (store_root_in N w h r v)
    unfolding store_root_in change_root put_root
    store_root_beside r v =
        choose_both other (eqb (get_or h.roots r 0) v) h _ refl
        (let_go_other (with_roots (set h.roots r v) (with_counts (count_up N w h.counts v) h)) (get_or h.roots r 0))

    -- ---- the collection

    reached_beside : (k : ℕ) → reached_in k N (other h) ≡ reached_in k N h
    unfolding reached_in reached_next references_from cell_of_chosen is_cell_of
    reached_beside zero = refl
    reached_beside (suc k) = ap (reached_next N h) (reached_beside k)

    swept_beside : (marks : List Bool) (n : ℕ) → swept N w (other h) marks n ≡ other (swept N w h marks n)
    unfolding swept freed
    swept_beside marks zero = refl
    swept_beside marks (suc n) =
        let before : Memory = swept N w h marks n in
        choose_both other (is_first N h n && not (marked marks n)) (freed N w before n (size_at N h n)) before
        (ap (λ (g : Memory). freed N w g n (size_at N h n)) (swept_beside marks n)) (swept_beside marks n)

    recounted_beside :
        (marks : List Bool) (counts : List ℕ) (n : ℕ) → recounted N w (other h) marks counts n ≡ recounted N w h marks counts n
    unfolding recounted references_from cell_of_chosen is_cell_of
    recounted_beside marks counts zero = refl
    recounted_beside marks counts (suc n) =
        let count : ℕ = min (capacity w) (references_from N h (marked marks) n) in
        ap (λ (c : List ℕ). elim (marked marks n) [ true ↦ set_count (N / 8) w c n count | false ↦ c ]) (recounted_beside marks counts n)

    pub collect_beside : collected N w (other h) ≡ other (collected N w h)
    unfolding collected reached
    collect_beside =
        rw (reached_beside N, swept_beside (reached_in N N h) N, recounted_beside (reached_in N N h) (swept N w h (reached_in N N h) N).counts N)

-- ---- what document 01's rules leave of the lists that they don't read

-- g has the mark map and the second list of h
pub record Keeps (h g : Memory) : Type 0 where
  pub marks : g.marks ≡ h.marks
  pub list : g.list ≡ h.list

module _ (N w : ℕ) (h : Memory) where
  let_go_keeps : (v : ℕ) → Keeps h (let_go N w h v)
  let_go_keeps v =
      let e = let_go_beside N w (λ g. h) h v in
      record { marks = ap (λ (g : Memory). g.marks) e; list = ap (λ (g : Memory). g.list) e }

module _ (N w : ℕ) (h : Memory) where
  pub change_root_keeps : (r v : ℕ) → Keeps h (change_root N w h r v)
  unfolding change_root put_root
  change_root_keeps r v =
      let k = let_go_keeps N w (with_roots (set h.roots r v) (with_counts (count_up N w h.counts v) h)) (get_or h.roots r 0) in
      record { marks = k.marks; list = k.list }

  pub change_cell_keeps : (c v : ℕ) → Keeps h (change_cell N w h c v)
  unfolding change_cell put_cell
  change_cell_keeps c v =
      let k = let_go_keeps N w (with_cells (set h.cells c v) (with_counts (count_up N w h.counts v) h)) (get_or h.cells c 0) in
      record { marks = k.marks; list = k.list }

  pub allocate_keeps : (asData : Bool) (n r i : ℕ) → Keeps h (allocate_in N w asData h n r i)
  unfolding allocate_in put_root placed
  allocate_keeps asData n r i =
      let k = let_go_keeps N w (with_roots (set h.roots r (i + 1)) (placed N w asData h i n)) (get_or h.roots r 0) in
      record { marks = k.marks; list = k.list }

  pub store_root_keeps : (r v : ℕ) → Keeps h (store_root_in N w h r v)
  unfolding store_root_in
  store_root_keeps r v =
      choose (λ (g : Memory). Keeps h g) (eqb (get_or h.roots r 0) v) {x = h} (record { marks = refl; list = refl }) (change_root_keeps r v)

  pub collect_keeps : Keeps h (collected N w h)
  collect_keeps =
      let e = collect_beside N w (λ g. h) h in
      record { marks = ap (λ (g : Memory). g.marks) e; list = ap (λ (g : Memory). g.list) e }

pub return_keeps : (N w : ℕ) (h : Memory) (chosen n : ℕ) → Keeps h (return_in N w h chosen n)
unfolding return_in clear_chosen
return_keeps N w h chosen zero = record { marks = refl; list = refl }
return_keeps N w h chosen (suc n) =
    let g : Memory = return_in N w h chosen n in
    let before = return_keeps N w h chosen n in
    let more = store_root_keeps N w g n 0 in
    choose (λ (k : Memory). Keeps h k) (is_chosen chosen n) {y = g}
    (record { marks = more.marks ∙ before.marks; list = more.list ∙ before.list }) before

-- ---- request U8: beside whatever stands in the waiting list and the list of sections

-- the mark map and the second list as they are, and the rest as `others` makes it, which sees neither
abbrev kept : (Memory → Memory) → Memory → Memory
kept others h = with_marks h.marks (with_list h.list (others (with_marks [] (with_list [] h))))

module _ (N w : ℕ) (others : Memory → Memory) where
  abbrev aside : Memory → Memory
  aside h = beside (rooted (kept others)) h

  let_go_aside : (h : Memory) (v : ℕ) → let_go N w (aside h) v ≡ aside (let_go N w h v)
  let_go_aside h v = let_go_beside N w (rooted (kept others)) h v

  shaded_aside : (h k : Memory) (touched : List ℕ) (g : Memory) → shaded N (aside h) (aside k) touched (aside g) ≡ aside (shaded N h k touched g)
  unfolding shaded with_progress marks_after list_after was_marked named_by_freed names is_listed
  shaded_aside h k touched g =
      choose_both aside (is_open N h) (with_progress N (marks_after N h k touched g) (list_after N h k touched g) g) g refl refl

  module _ (h : Memory) where
    pub store_root_aside : (r v : ℕ) → store_root_shading N w (aside h) r v ≡ aside (store_root_shading N w h r v)
    unfolding store_root_shading change_root put_root
    store_root_aside r v =
        let old : ℕ = get_or h.roots r 0 in
        let k : Memory = with_roots (set h.roots r v) h in
        choose_both aside (eqb old v) h (shaded N h k (old ∷ v ∷ []) (change_root N w h r v)) refl
        (ap (λ (g : Memory). shaded N (aside h) (aside k) (old ∷ v ∷ []) g)
        (let_go_aside (with_roots (set h.roots r v) (with_counts (count_up N w h.counts v) h)) old)
        ∙ shaded_aside h k (old ∷ v ∷ []) (change_root N w h r v))

    pub store_cell_aside : (a j v : ℕ) → store_cell_shading N w (aside h) a j v ≡ aside (store_cell_shading N w h a j v)
    unfolding store_cell_shading change_cell put_cell
    store_cell_aside a j v =
        let c : ℕ = 4 * a + j in
        let old : ℕ = get_or h.cells c 0 in
        let k : Memory = with_cells (set h.cells c v) h in
        choose_both aside (eqb old v) h (shaded N h k ((a + 1) ∷ old ∷ v ∷ []) (change_cell N w h c v)) refl
        (ap (λ (g : Memory). shaded N (aside h) (aside k) ((a + 1) ∷ old ∷ v ∷ []) g)
        (let_go_aside (with_cells (set h.cells c v) (with_counts (count_up N w h.counts v) h)) old)
        ∙ shaded_aside h k ((a + 1) ∷ old ∷ v ∷ []) (change_cell N w h c v))

    pub allocate_aside :
        (asData : Bool) (n r i : ℕ) → allocate_shading N w asData (aside h) n r i ≡ aside (allocate_shading N w asData h n r i)
    unfolding allocate_shading allocate_in put_root placed
    allocate_aside asData n r i =
        let old : ℕ = get_or h.roots r 0 in
        let k : Memory = with_roots (set h.roots r (i + 1)) (placed N w asData h i n) in
        ap (λ (g : Memory). shaded N (aside h) (aside k) (old ∷ (i + 1) ∷ []) g) (let_go_aside k old)
        ∙ shaded_aside h k (old ∷ (i + 1) ∷ []) (allocate_in N w asData h n r i)

    pub open_aside : opened N (aside h) ≡ aside (opened N h)
    unfolding opened with_progress root_names
    open_aside = refl

    -- ---- steps and the close

    pub steps_aside : (budget : ℕ) (p : Progress) → steps_from budget N (aside h) p ≡ steps_from budget N h p
    unfolding steps_from scanned names
    steps_aside zero p = refl
    steps_aside (suc k) p = go (λ x. steps_aside k (scanned N h p x)) (lowest p.list 0)
      where
        go : ((x : ℕ) → steps_from k N (aside h) (scanned N h p x) ≡ steps_from k N h (scanned N h p x)) → (o : Option ℕ)
            → ◌≡◌ {A = StepsTaken}
            (elim o [
              | none ↦ taken 0 p
              | some x ↦ let t = steps_from k N (aside h) (scanned N h p x) in taken (suc t.steps) t.reached
            ])
            (elim o [
              | none ↦ taken 0 p
              | some x ↦ let t = steps_from k N h (scanned N h p x) in taken (suc t.steps) t.reached
            ])
        go more none = refl
        go more (some x) = ap (λ (t : StepsTaken). taken (suc t.steps) t.reached) (more x)

    down_aside :
        (marks : List Bool) (s : Work) (j n : ℕ) → survivors_down N w marks (aside h) s j n ≡ survivors_down N w marks h s j n
    unfolding survivors_down
    down_aside marks s j zero = refl
    down_aside marks s j (suc n) =
        ap (λ (t : Work). count_down N w t (to_survivor marks (reference N h (j + n)))) (down_aside marks s j n)

    survivors_aside : (marks : List Bool) (s : Work) (n : ℕ) → survivors_let_go N w marks (aside h) s n ≡ survivors_let_go N w marks h s n
    unfolding survivors_let_go
    survivors_aside marks s zero = refl
    survivors_aside marks s (suc n) =
        let t : Work = survivors_let_go N w marks h s n in
        ap
        (λ (t : Work).
        elim (is_first N h n && not (marked marks n)) [
          | true ↦ survivors_down N w marks (aside h) t (4 * n) (4 * size_at N h n)
          | false ↦ t
        ])
        (survivors_aside marks s n)
        ∙ ap
        (λ (m : Work). elim (is_first N h n && not (marked marks n)) [ true ↦ m | false ↦ t ])
        (down_aside marks t (4 * n) (4 * size_at N h n))

    freed_aside : (marks : List Bool) → unmarked_freed N w marks (aside h) ≡ aside (unmarked_freed N w marks h)
    unfolding unmarked_freed
    freed_aside marks =
        let g : Memory = swept N w h marks N in
        let s : Work = survivors_let_go N w marks h (work g.counts []) N in
        ap
        (λ (m : Memory).
        let s = survivors_let_go N w marks (aside h) (work m.counts []) N in
        release N N w (with_counts s.counts m) s.stack)
        (swept_beside N w (kept others) h marks N)
        ∙ ap (λ (t : Work). release N N w (with_counts t.counts (aside g)) t.stack) (survivors_aside marks (work g.counts []) N)
        ∙ release_beside N w (rooted (kept others)) N (with_counts s.counts g) s.stack

    pub stepped_aside : (budget : ℕ) (p : Progress) → stepped N w (aside h) budget p ≡ aside (stepped N w h budget p)
    unfolding stepped closed with_none with_progress
    stepped_aside budget p =
        choose_both aside (closes budget p) (closed N w p.marks h) (with_progress N (marked p.marks) (marked p.list) h)
        (ap (with_none N) (freed_aside p.marks)) refl

  -- a return
  clear_aside : (h : Memory) (chosen r : ℕ) → clear_shading N w (aside h) chosen r ≡ aside (clear_shading N w h chosen r)
  unfolding clear_shading
  clear_aside h chosen r = choose_both aside (is_chosen chosen r) (store_root_shading N w h r 0) h (store_root_aside h r 0) refl

  pub return_aside : (h : Memory) (chosen n : ℕ) → return_shading N w (aside h) chosen n ≡ aside (return_shading N w h chosen n)
  unfolding return_shading
  return_aside h chosen zero = refl
  return_aside h chosen (suc n) =
      ap (λ (g : Memory). clear_shading N w g chosen n) (return_aside h chosen n) ∙ clear_aside (return_shading N w h chosen n) chosen n

-- ---- requests U13 and U11: neither the list nor the sentence reads it

pub shape_aside : (N : ℕ) (x : List ℕ) (h : Memory) → shape_of N (with_waiting x h) ≡ shape_of N h
unfolding shape_of numbered followed references_of described cells_of
shape_aside N x h = refl

pub sentence_aside : (N : ℕ) (x : List ℕ) (h : Memory) (a : ℕ) → sentence_for N (with_waiting x h) a ≡ sentence_for N h a
unfolding sentence_for chain_to followed references_of
sentence_aside N x h a = refl

-- ---- request U14: nor does the copy of a heap

module _ (N : ℕ) (x : List ℕ) (h : Memory) where
  numbered_aside : numbered N (with_waiting x h) ≡ numbered N h
  unfolding numbered followed references_of
  numbered_aside = refl

  copy_aside : (met places : List ℕ) (M v k : ℕ) → copy_first N (with_waiting x h) met places M v k ≡ copy_first N h met places M v k
  unfolding copy_first copy_one new_cell
  copy_aside met places M v zero = refl
  copy_aside met places M v (suc k) =
      ap (λ (g : Memory). copy_one N h met places M v g (block_at met (suc k)) (get_or places k 0)) (copy_aside met places M v k)

  pub laid_aside : (M : ℕ) → lay_all N (with_waiting x h) M ≡ lay_all N h M
  unfolding lay_all
  laid_aside M = ap (λ (met : List ℕ). lay_first M (size_of N h met) (length met)) numbered_aside

  pub copied_aside : (M v : ℕ) → copied N (with_waiting x h) M v ≡ copied N h M v
  unfolding copied copy_all
  copied_aside M v =
      let met = numbered N h in
      ap (λ (m : List ℕ). collected M v (copy_all N (with_waiting x h) m (places_in (lay_all N (with_waiting x h) M)) M v)) numbered_aside
      ∙ ap (λ (o : Option Laid). collected M v (copy_all N (with_waiting x h) met (places_in o) M v)) (laid_aside M)
      ∙ ap (λ (g : Memory). collected M v (with_roots (map (λ y. new_reference (places_in (lay_all N h M)) (number_in met y)) h.roots) g))
      (copy_aside met (places_in (lay_all N h M)) M v (length met))
