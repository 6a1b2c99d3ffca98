-- `work_step::take_steps` meets its contract.
use mathlib.Core.Path.{refl, sym, ap, ◌∙◌}
use Prim.Native.Nat.{ℕ}
use lib.ListN.{replicate}
use native.Mathlib.Omega.{arith}
use borrow.Author.Tests.{not-true, not-false}
use Rattle.theory.proofs.Usable.UsableHeap.{usable_fit, usable_healthy}
use Rattle.refinement.proofs.ReadyHeap.{usable_ready}
use Rattle.refinement_steps.proofs.EndedList.{listed_ended}
use Rattle.refinement_steps.proofs.StepAnswer.{steps_promised, close_promised}
use Rattle.work_step.proofs.take_steps.Goals as goal

pub advance-moves-requires : goal.advance-moves-requires
advance-moves-requires c =
    let shape = (usable_healthy c.requires.0).shape in (
      sym shape.whole_bytes,
      shape.blocks_max,
      omega (arith, shape.length_b, shape.whole_bytes),
      omega (arith, shape.length_d, shape.whole_bytes),
      shape.length_cells,
      shape.length_marks,
      shape.length_list,
      listed_ended _ _ c.requires.1 (usable_fit c.requires.0).tidy,
    )

pub returns-then-not-moves : goal.returns-then-not-moves
returns-then-not-moves c =
    steps_promised c.args.budget c.requires.0 c.requires.1 c.advance-moves.ensures.0 c.advance-moves.ensures.1 c.advance-moves.ensures.2 (not-true _ c.if-not-moves.true) c.stepped.ensures

pub close-freed-requires : goal.close-freed-requires
close-freed-requires c =
    let ready = usable_ready c.requires.0 in
    (ready.planes, ready.extents, ready.idle, ready.coherent, c.advance-moves.auto.marks ∙ ready.marks_length)

pub renew-requires : goal.renew-requires
renew-requires c =
    let shape = (usable_healthy c.requires.0).shape in
    (c.close-freed.ensures.3, omega (arith, c.close-freed.auto.a, shape.length_a, shape.whole_bytes))

pub returns : goal.returns
returns c =
    let shape = (usable_healthy c.requires.0).shape in
    close_promised c.args.budget c.requires.0 c.requires.1 c.advance-moves.ensures.0 c.advance-moves.ensures.1 c.advance-moves.ensures.2
    (not-false _ c.if-not-moves.false) _ c.close-freed.ensures.0 c.close-freed.ensures.1 refl c.close-freed.ensures.2 c.renew.ensures
    (c.fill_bytes.ensures ∙ ap (λ (n : ℕ). replicate n 0) (c.close-freed.auto.marks ∙ c.advance-moves.auto.marks ∙ shape.length_marks))
    (c.clear_all.ensures ∙ ap (λ (n : ℕ). replicate n 0) (c.advance-moves.auto.list ∙ shape.length_list))
    c.stepped-2.ensures
