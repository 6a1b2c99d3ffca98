-- `public_store::write_number` meets its contract: the gate, and then the work on the lent heap as it is.
use mathlib.Core.Path.{refl, sym, ap, ◌∙◌}
use native.Mathlib.Omega.{arith}
use Rattle.types.proofs.Refused.{number_ne0}
use Rattle.rules.specs.Heap.{Memory, lent_memory}
use Rattle.types.specs.declared.Reply.{Reply}
use Rattle.test_arguments.proofs.ArgumentTests.{goes_on, number_tested, number_passed}
use Rattle.theory_memories.proofs.Memories.Fit.{undamaged_fit}
use Rattle.public_store.proofs.write_number.Goals as goal

pub returns-in-Err : goal.returns-in-Err
returns-in-Err c = rw c.into.ensures (c.in-Err.ensures.refused (number_ne0 _))

pub write_number-requires-2 : goal.write_number-requires-2
write_number-requires-2 c =
    let heap =
    lent_memory c.args.a.now c.args.b.now c.args.counts.now c.args.cells.now c.args.roots.now c.args.waiting.now
    c.args.sections.now c.args.d.now c.args.marks.now c.args.list.now in
    let shape = (undamaged_fit _ _ heap (c.in_default.ensures.fit refl)).healthy.shape in
    let passed = number_passed (ap (λ (y : Reply). y.number) (sym (c.in_default.ensures.tested refl)) ∙ refl) in
    (omega (arith, passed.cell_inside, shape.length_cells), omega (arith, shape.length_cells, shape.blocks_max))

pub returns : goal.returns
returns c =
    let heap =
    lent_memory c.args.a.now c.args.b.now c.args.counts.now c.args.cells.now c.args.roots.now c.args.waiting.now
    c.args.sections.now c.args.d.now c.args.marks.now c.args.list.now in
    let promise =
    (c.write_number-2.ensures.worked _ _ heap (c.in_default.ensures.fit refl) refl
    (goes_on (number_tested {h = heap} (c.in_default.ensures.tested refl)) refl)).promise in
    record { reply_is = c.into-2.ensures ∙ promise.reply_is; after_is = promise.after_is }
