use native.Mathlib.Omega.{arith}
use Rattle.bitmap.proofs.Zeros.{zeros_le}
use Rattle.theory.proofs.Usable.UsableHeap.{usable_healthy}
use Rattle.work_return.proofs.ReturnAnswer.{progress_start, progress_next, progress_done}
use Rattle.work_return.proofs.clear_roots.Goals as goal

pub loop-r-init : goal.loop-r-init
loop-r-init c = progress_start c.requires.0

pub clear_chosen-more-requires : goal.clear_chosen-more-requires
clear_chosen-more-requires c = (c.loop-r.invariant.usable, omega arith)

-- what was freed so far are blocks of the heap
pub overflow_add-freed : goal.overflow_add-freed
overflow_add-freed c =
    let shape = (usable_healthy c.clear_chosen-more.ensures.usable).shape in
    omega (
      arith,
      c.clear_chosen-more.ensures.blocks,
      c.loop-r.invariant.blocks,
      zeros_le c.clear_chosen-more.new.a,
      shape.length_a,
      shape.whole_bytes,
      shape.blocks_max,
    )

pub loop-r-preserved : goal.loop-r-preserved
loop-r-preserved c =
    progress_next (omega arith) c.clear_chosen-more.auto.roots c.clear_chosen-more.ensures c.loop-r.invariant

pub returns : goal.returns
returns c =
    progress_done c.requires.0 c.requires.1 (omega arith) c.loop-r.invariant
