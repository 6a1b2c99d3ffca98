-- `work_format::format` meets its contract: every buffer filled.
use Rattle.rules.specs.Heap.{Memory, lent_memory}
use Rattle.rules.proofs.Shape.{shape_facts, shaped_blocks}
use Rattle.work_format.proofs.FormatPromise.{format_done}
use Rattle.work_format.proofs.format.Goals as goal

-- the lent heap
abbrev lent-After-fill_free-arg-1 : (c : goal.After-fill_free-arg-1) → Memory
lent-After-fill_free-arg-1 c =
    lent_memory c.args.a.now c.args.b.now c.args.counts.now c.args.cells.now c.args.roots.now c.args.waiting.now
    c.args.sections.now c.args.d.now c.args.marks.now c.args.list.now

pub fill_free-requires : goal.fill_free-requires
fill_free-requires c =
    let shape = shape_facts _ _ (lent-After-fill_free-arg-1 c) c.requires in
    (shaped_blocks _ _ (lent-After-fill_free-arg-1 c) shape, shape.length_sections)

-- the lent heap
abbrev lent-After-acceptance : (c : goal.After-acceptance) → Memory
lent-After-acceptance c =
    lent_memory c.args.a.now c.args.b.now c.args.counts.now c.args.cells.now c.args.roots.now c.args.waiting.now
    c.args.sections.now c.args.d.now c.args.marks.now c.args.list.now

pub returns : goal.returns
returns c =
    format_done {h = lent-After-acceptance c} c.requires c.acceptance.ensures
    c.fill_bytes.ensures
    c.fill_bytes-2.ensures
    c.fill_bytes-3.ensures
    c.clear_all.ensures
    c.clear_all-2.ensures
    c.clear_all-3.ensures
    c.fill_free.ensures
    c.fill_bytes-4.ensures
    c.fill_bytes-5.ensures
    c.clear_all-4.ensures
