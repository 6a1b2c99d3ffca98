-- `copy` meets its contract: nothing is written where an object has no chunk; else the lists hold the objects and the roots, the other four are
-- cleared or true, and the collection leaves the second heap of the rules.
use mathlib.Core.Path.{ap, ◌∙◌}
use Prim.Native.Nat.{ℕ, ◌-◌}
use native.Mathlib.Omega.{arith}
use lib.ListN.{replicate}
use Rattle.rules_calls.specs.Calls.{reply}
use Rattle.rules.proofs.Shape.{shape_facts, shaped_blocks}
use Rattle.walk_objects.proofs.Beginning.{walkable}
use Rattle.work_copy.proofs.CopyWork.{fillable, copy_unplaced, full_usable, full_shut, copy_collected}
use Rattle.work_copy.proofs.copy.Goals as goal

pub write_lists-requires : goal.write_lists-requires
write_lists-requires c =
    (walkable c.requires.0, fillable c.requires.0 _ _ _ c.requires.2 c.requires.3)

pub returns-then-not-write_lists : goal.returns-then-not-write_lists
returns-then-not-write_lists c =
    copy_unplaced c.requires.0 _ _ _ c.requires.2 c.requires.3 c.requires.1 c.write_lists.ensures c.if-not-write_lists.true c.into.ensures

pub find_figures-requires : goal.find_figures-requires
find_figures-requires c =
    let shape = shape_facts _ _ _ c.requires.2 in
    (shaped_blocks _ _ _ shape, omega (arith, c.write_lists.auto.a2, shape.length_a, shape.whole_bytes), shape.length_sections)

pub collect-requires : goal.collect-requires
collect-requires c =
    let shape = shape_facts _ _ _ c.requires.2 in
    let idle = c.clear_all.ensures ∙ ap (λ (n : ℕ). replicate n 0) shape.length_waiting in
    let unmarked = c.fill_bytes.ensures ∙ ap (λ (n : ℕ). replicate n 0) shape.length_marks in
    let unlisted = c.clear_all-2.ensures ∙ ap (λ (n : ℕ). replicate n 0) shape.length_list in (
      full_usable c.requires.0 _ _ _ c.requires.2 c.requires.3 c.write_lists.ensures c.if-not-write_lists.false idle unmarked unlisted c.find_figures.ensures,
      full_shut c.requires.0 _ _ _ c.requires.2 c.requires.3 c.write_lists.ensures c.if-not-write_lists.false idle unmarked unlisted c.find_figures.ensures,
    )

pub count_zeros-requires : goal.count_zeros-requires
count_zeros-requires c =
    let shape = shape_facts _ _ _ c.requires.2 in
    omega (arith, c.collect.auto.a, c.write_lists.auto.a2, shape.length_a, shape.blocks_max)

pub overflow_sub-blocks2 : goal.overflow_sub-blocks2
overflow_sub-blocks2 c =
    let shape = shape_facts _ _ _ c.requires.2 in
    omega (arith, c.count_zeros.ensures.1, c.collect.auto.a, c.write_lists.auto.a2, shape.length_a, shape.whole_bytes)

pub returns : goal.returns
returns c =
    let shape = shape_facts _ _ _ c.requires.2 in
    let idle = c.clear_all.ensures ∙ ap (λ (n : ℕ). replicate n 0) shape.length_waiting in
    let unmarked = c.fill_bytes.ensures ∙ ap (λ (n : ℕ). replicate n 0) shape.length_marks in
    let unlisted = c.clear_all-2.ensures ∙ ap (λ (n : ℕ). replicate n 0) shape.length_list in
    copy_collected c.requires.0 _ _ _ c.requires.2 c.requires.3 c.write_lists.ensures c.if-not-write_lists.false idle unmarked unlisted c.find_figures.ensures
    c.requires.1 c.collect.ensures (c.acceptance.ensures ∙ ap (λ (n : ℕ). reply 0 (c.args.blocks2 - n) 0) c.count_zeros.ensures.0)
