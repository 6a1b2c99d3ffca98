-- `check_marks::is_untidy` meets its contract: one law of the whole test for each way out.
use mathlib.Core.Path.{◌≡◌, refl, sym, ap, ◌∙◌}
use mathlib.Core.Bool.{Bool, true, false, not, ◌&&◌, ◌||◌, false≢true}
use mathlib.Core.List.{List, []}
use Prim.Native.Nat.{ℕ, ◌/◌}
use native.Mathlib.Omega.{arith}
use lib.Dec.{eqb}
use lib.ListN.{length, get_or, length-replicate}
use borrow.Author.Tests.{lt-ltb}
use Rattle.rules.specs.Heap.{Memory, lent_memory, max_blocks}
use Rattle.rules.specs.Damage.{stray_data}
use Rattle.rules.specs.Tools.{some_below}
use Rattle.rules_steps.specs.Steps.{is_untidy}
use Rattle.rules.proofs.Shape.{Shaped, shape_facts}
use Rattle.theory_memories.specs.Heaps.{Intact}
use Rattle.step_list.specs.Lists.{is_set}
use Rattle.step_list.proofs.Bits.{shows_none}
use Rattle.check_marks.specs.Tidy.{root_missed_in, missed_apart}
use Rattle.check_marks.proofs.TidySame.{unread, remains_marked, remains_listed}
use Rattle.check_marks.proofs.TidyOpen.{untidy_all}
use Rattle.check_marks.proofs.is_untidy.Goals as goal
use Rattle.check_marks.proofs.is_untidy.Goals.{then-not-read_list, else-not-read_list, then-has_stray_data, else-has_stray_data, then-has_unmarked, else-has_unmarked}

-- the lengths of a heap that 1 and 2 did not refuse
lengths : {N w : ℕ} {h : Memory} → Intact N w h → Shaped N w h
lengths {N} {w} {h} fit = shape_facts N w h fit.right_shape

-- number 13 of it is that of every memory with these seven lists
for_all : {N w : ℕ} {h : Memory} → Intact N w h → {t : Bool} → t ≡ is_untidy N h → (counts waiting sections : List ℕ)
    → t ≡ is_untidy N (lent_memory h.a h.b counts h.cells h.roots waiting sections h.d h.marks h.list)
for_all {N} {w} {h} fit e counts waiting sections = e ∙ unread N h counts waiting sections

-- a test that passes, with another behind it
or_here : (v x : Bool) → v ≡ true → v ≡ (v || x)
or_here true x e = refl
or_here false x e = absurd (false≢true e)

pub offset_bounds-list-blocks : goal.offset_bounds-list-blocks
offset_bounds-list-blocks c =
    omega (arith, (lengths c.requires.4).length_list)

pub bounds-list-blocks : goal.bounds-list-blocks
bounds-list-blocks c =
    omega (arith, (lengths c.requires.4).length_list)

pub next_bit-requires : goal.next_bit-requires
next_bit-requires c =
    let shape = lengths c.requires.4 in
    (omega arith, sym shape.whole_bytes, omega (arith, shape.length_marks, shape.whole_bytes), shape.blocks_max)

pub returns-then-is_some : goal.returns-then-is_some
returns-then-is_some c =
    for_all c.requires.4 (c.if-is_some.true ∙ remains_marked _ _ c.if-list-blocks-ne1.true _ c.next_bit.ensures (sym c.is_some.ensures ∙ c.if-is_some.true))

pub returns-else-is_some : goal.returns-else-is_some
returns-else-is_some c =
    for_all c.requires.4
    (remains_listed _ _ c.if-list-blocks-ne1.true _ c.next_bit.ensures (sym c.is_some.ensures ∙ c.if-is_some.false)
    (c.has_number.ensures
    ∙ ap (some_below (λ k. not (eqb (get_or c.args.list.now k 0) 0))) (lengths c.requires.4).length_list))

pub read_list-requires : goal.read_list-requires
read_list-requires c = (
  (lengths c.requires.4).length_list,
  omega (arith, (lengths c.requires.4).blocks_max, length-replicate {A = ℕ} (max_blocks / 8) 0),
  shows_none c.args.list.now (max_blocks / 8) refl,
)

pub has_stray_data-requires : goal.has_stray_data-requires
has_stray_data-requires c =
    let shape = lengths c.requires.4 in (
      omega (arith, shape.length_a, shape.whole_bytes),
      omega (arith, shape.length_b, shape.whole_bytes),
      omega (arith, shape.length_marks, shape.whole_bytes),
      sym shape.whole_bytes,
    )

pub has_unmarked-requires : goal.has_unmarked-requires
has_unmarked-requires c =
    let shape = lengths c.requires.4 in (
      sym shape.whole_bytes,
      omega (arith, shape.length_marks, shape.whole_bytes),
      omega (arith, shape.blocks_max, c.read_list.auto.map, length-replicate {A = ℕ} (max_blocks / 8) 0),
    )

pub has_missed_root-requires : goal.has_missed_root-requires
has_missed_root-requires c =
    omega (arith, (lengths c.requires.4).length_marks, (lengths c.requires.4).whole_bytes)

pub has_missed_cell-requires : goal.has_missed_cell-requires
has_missed_cell-requires c =
    let shape = lengths c.requires.4 in (
      sym shape.whole_bytes,
      shape.blocks_max,
      omega (arith, shape.length_b, shape.whole_bytes),
      omega (arith, shape.length_d, shape.whole_bytes),
      shape.length_cells,
      omega (arith, shape.length_marks, shape.whole_bytes),
      omega (arith, shape.blocks_max, c.read_list.auto.map, length-replicate {A = ℕ} (max_blocks / 8) 0),
    )

pub returns-then-has_missed_root : goal.returns-then-has_missed_root
returns-then-has_missed_root c =
    let S = some_below (stray_data c.args.blocks (lent_memory c.args.a.now c.args.b.now [] [] [] [] [] c.args.marks.now [] [])) c.args.blocks in
    let U = some_below (λ i. is_set c.read_list.new.map i && not (is_set c.args.marks.now i)) c.args.blocks in
    let T = some_below (root_missed_in c.args.roots.now c.args.marks.now) (length c.args.roots.now) in
    let X = some_below (missed_apart c.args.blocks c.args.b.now c.args.d.now c.args.cells.now c.args.marks.now c.read_list.new.map) c.args.blocks in
    let to_stray : c.if-not-read_list.value ≡ (not c.read_list.result || S) =
    elim c.if-not-read_list.branch [
      | then-not-read_list w ↦ rw (w.value-is, w.if-not-read_list.true) refl
      | else-not-read_list w ↦ rw (w.value-is, w.if-not-read_list.false) w.has_stray_data.ensures
    ] in
    let to_unmarked : c.if-has_stray_data.value ≡ (c.if-not-read_list.value || U) =
    elim c.if-has_stray_data.branch [
      | then-has_stray_data w ↦ rw (w.value-is, w.if-has_stray_data.true) refl
      | else-has_stray_data w ↦ rw (w.value-is, w.if-has_stray_data.false) w.has_unmarked.ensures
    ] in
    let to_root : c.if-has_unmarked.value ≡ (c.if-has_stray_data.value || T) =
    elim c.if-has_unmarked.branch [
      | then-has_unmarked w ↦ rw (w.value-is, w.if-has_unmarked.true) refl
      | else-has_unmarked w ↦ rw (w.value-is, w.if-has_unmarked.false) w.has_missed_root.ensures
    ] in
    let joined : c.if-has_unmarked.value ≡ (not c.read_list.result || S || U || T) =
    to_root ∙ ap (λ (v : Bool). v || T) (to_unmarked ∙ ap (λ (v : Bool). v || U) to_stray) in
    for_all c.requires.4
    (or_here c.if-has_unmarked.value X c.if-has_missed_root.true
    ∙ ap (λ (v : Bool). v || X) joined
    ∙ untidy_all _ c.requires.4 c.if-list-blocks-ne1.false c.read_list.result c.read_list.ensures)

pub returns-else-has_missed_root : goal.returns-else-has_missed_root
returns-else-has_missed_root c =
    let S = some_below (stray_data c.args.blocks (lent_memory c.args.a.now c.args.b.now [] [] [] [] [] c.args.marks.now [] [])) c.args.blocks in
    let U = some_below (λ i. is_set c.read_list.new.map i && not (is_set c.args.marks.now i)) c.args.blocks in
    let T = some_below (root_missed_in c.args.roots.now c.args.marks.now) (length c.args.roots.now) in
    let X = some_below (missed_apart c.args.blocks c.args.b.now c.args.d.now c.args.cells.now c.args.marks.now c.read_list.new.map) c.args.blocks in
    let to_stray : c.if-not-read_list.value ≡ (not c.read_list.result || S) =
    elim c.if-not-read_list.branch [
      | then-not-read_list w ↦ rw (w.value-is, w.if-not-read_list.true) refl
      | else-not-read_list w ↦ rw (w.value-is, w.if-not-read_list.false) w.has_stray_data.ensures
    ] in
    let to_unmarked : c.if-has_stray_data.value ≡ (c.if-not-read_list.value || U) =
    elim c.if-has_stray_data.branch [
      | then-has_stray_data w ↦ rw (w.value-is, w.if-has_stray_data.true) refl
      | else-has_stray_data w ↦ rw (w.value-is, w.if-has_stray_data.false) w.has_unmarked.ensures
    ] in
    let to_root : c.if-has_unmarked.value ≡ (c.if-has_stray_data.value || T) =
    elim c.if-has_unmarked.branch [
      | then-has_unmarked w ↦ rw (w.value-is, w.if-has_unmarked.true) refl
      | else-has_unmarked w ↦ rw (w.value-is, w.if-has_unmarked.false) w.has_missed_root.ensures
    ] in
    let joined : c.if-has_unmarked.value ≡ (not c.read_list.result || S || U || T) =
    to_root ∙ ap (λ (v : Bool). v || T) (to_unmarked ∙ ap (λ (v : Bool). v || U) to_stray) in
    for_all c.requires.4
    (c.has_missed_cell.ensures
    ∙ ap (λ (v : Bool). v || X) (sym c.if-has_missed_root.false ∙ joined)
    ∙ untidy_all _ c.requires.4 c.if-list-blocks-ne1.false c.read_list.result c.read_list.ensures)
