-- `work_collect::collect` meets its contract: a marking of some lists and a sweep of others are the collection of all, on maps of bytes, as lent
-- slices are.
use native.Mathlib.Omega.{arith}
use Rattle.bitmap.proofs.Maps.{bytes_given}
use Rattle.count_up.proofs.Shapes.{memory_of, planes_same}
use Rattle.theory.proofs.Usable.UsableHeap.{usable_healthy}
use Rattle.refinement.proofs.ReadyHeap.{usable_ready}
use Rattle.work_collect.proofs.Collects.{collected_memory, collected_blocks}
use Rattle.work_collect.proofs.CollectionAnswer.{collect_worked}
use Rattle.work_collect.proofs.collect.Goals as goal

pub mark-requires : goal.mark-requires
mark-requires c =
    let ready = usable_ready c.requires.0 in
    (ready.planes, ready.extents.b_length, ready.extents.cells_length, ready.idle, ready.extents.d_length)

pub sweep-freed-requires : goal.sweep-freed-requires
sweep-freed-requires c =
    let ready = usable_ready c.requires.0 in (
      planes_same ready.planes c.mark.auto.counts,
      ready.extents,
      ready.coherent,
    )

pub renew-requires : goal.renew-requires
renew-requires c =
    let shape = (usable_healthy c.requires.0).shape in
    (c.sweep-freed.ensures.2, omega (arith, c.sweep-freed.auto.a, shape.length_a, shape.whole_bytes))

pub returns : goal.returns
returns c =
    let ready = usable_ready c.requires.0 in
    collect_worked c.requires.0 c.requires.1
    (record {
      a = bytes_given _ c.slice_known-1.given;
      b = bytes_given _ c.slice_known-2-1.given;
      counts = bytes_given _ c.slice_known-3-1.given;
      d = bytes_given _ c.slice_known-7-1.given;
    })
    (collected_memory _ _ (memory_of ready) ready.idle c.mark.ensures.0 c.mark.ensures.1 c.sweep-freed.ensures.0)
    c.renew.ensures
    (collected_blocks _ _ (memory_of ready) ready.idle c.mark.ensures.0 c.mark.ensures.1 c.sweep-freed.ensures.1)
