-- What came of the code's collection: memory and number of blocks freed are the rule's.
use mathlib.Core.Path.{◌≡◌, ◌∙◌}
use mathlib.Core.Bool.{false}
use Prim.Native.Nat.{ℕ}
use Rattle.rules.specs.Heap.{Memory, with_waiting, with_sections}
use Rattle.rules.specs.Sections.{figures}
use Rattle.rules_stores.specs.Collection.{collected}
use Rattle.rules_steps.specs.Steps.{is_open}
use Rattle.rules_calls.specs.Calls.{collect}
use Rattle.rules_calls.proofs.Unread.{collect_beside}
use Rattle.theory_memories.specs.Heaps.{Usable}
use Rattle.theory.specs.Usable.{outcome_of, Worked}
use Rattle.theory.proofs.EachCall.Balance.{blocks_add_up}
use Rattle.theory.proofs.Usable.UsableHeap.{usable_fit, usable_healthy, left_settled}
use Rattle.theory.proofs.Usable.WorkDone.{worked_freeing, collect_answered}
use Rattle.refinement.proofs.Collection.{collect_by, collect_blocks}
use Rattle.refinement.proofs.Bytewise.{Bytewise}
use Rattle.refinement.proofs.CollectorProcedure.{collect_by_is, collect_blocks_is}

pub collect_worked :
    {N w : ℕ} {h : Memory} → Usable N w h → is_open N h ≡ false → Bytewise h → {freed : ℕ} {g : Memory}
    → with_sections h.sections g ≡ collect_by N w h → g.sections ≡ figures N g.a → freed ≡ collect_blocks N w h
    → Worked N w collect h (outcome_of 0 freed freed false) g
collect_worked {N} {w} {h} usable shut bytes left listed counted =
    let healthy = usable_healthy usable in
    worked_freeing (blocks_add_up N w h).collection (collected N w h) (collect_answered (usable_fit usable) shut)
    (counted ∙ collect_blocks_is N w h healthy)
    (left_settled usable (left ∙ collect_by_is N w h healthy bytes) (collect_beside N w (with_waiting h.waiting) h) listed)
