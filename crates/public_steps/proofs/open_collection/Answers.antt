-- `public_steps::open_collection` meets its contract: the gate, and then the work on the lent heap as it is.
use mathlib.Core.Path.{refl, sym}
use Rattle.types.proofs.Refused.{number_ne0}
use Rattle.rules.specs.Heap.{Memory, lent_memory}
use Rattle.theory_memories.proofs.Memories.Fit.{undamaged_fit}
use Rattle.test_calls.proofs.CheckAtGate.{gate_none_open}
use Rattle.work_open.proofs.Opening.{open_promised}
use Rattle.public_steps.proofs.open_collection.Goals as goal

pub returns-in-Err : goal.returns-in-Err
returns-in-Err c = rw c.into.ensures (c.in-Err.ensures.1.refused (number_ne0 _))

-- the lent heap
abbrev lent-After-open_collection-arg-2-1 : (c : goal.After-open_collection-arg-2-1) → Memory
lent-After-open_collection-arg-2-1 c =
    lent_memory c.args.a.now c.args.b.now c.args.counts.now c.args.cells.now c.args.roots.now c.args.waiting.now
    c.args.sections.now c.args.d.now c.args.marks.now c.args.list.now

pub open_collection-requires : goal.open_collection-requires
open_collection-requires c =
    let shape = (undamaged_fit _ _ (lent-After-open_collection-arg-2-1 c) (c.in_default.ensures.1.fit refl)).healthy.shape in
    (sym shape.whole_bytes, shape.blocks_max, shape.length_marks, shape.length_list)

-- the lent heap
abbrev lent-After-slice_known-4-1 : (c : goal.After-slice_known-4-1) → Memory
lent-After-slice_known-4-1 c =
    lent_memory c.args.a.now c.args.b.now c.args.counts.now c.args.cells.now c.args.roots.now c.args.waiting.now
    c.args.sections.now c.args.d.now c.args.marks.now c.args.list.now

pub returns : goal.returns
returns c =
    open_promised {h = lent-After-slice_known-4-1 c} (c.in_default.ensures.1.fit refl)
    (gate_none_open _ _ (c.in_default.ensures.1.tested refl) refl) c.open_collection.ensures
