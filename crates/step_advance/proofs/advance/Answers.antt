-- `step_advance::advance` meets its contract.
use mathlib.Core.Path.{◌∙◌}
use Rattle.step_list.specs.Naming.{cell_names}
use Rattle.step_advance.proofs.Progresses.{advanced, done_never, done_is}
use Rattle.bitmap.proofs.Maps.{bytes_given}
use native.Mathlib.Omega.{arith}
use borrow.Author.Rules.{rules}
use Rattle.step_advance.proofs.advance.Goals as goal

pub name_all-requires : goal.name_all-requires
name_all-requires c =
    omega (arith, c.listed_numbers-n.ensures.within)

pub returns-then-budget-gt0 : goal.returns-then-budget-gt0
returns-then-budget-gt0 c =
    advanced c.args.blocks c.args.budget (cell_names c.args.blocks c.args.b.now c.args.d.now c.args.cells.now) c.args.marks.now c.args.list.now
    c.requires.0 c.listed_numbers-n.ensures c.name_all.ensures c.take_steps-steps.ensures
    (bytes_given c.args.marks.now (search rules)) c.requires.5 (bytes_given _ c.type_inv.marks) (c.take_steps-steps.auto.marks ∙ c.requires.5) c.write_list.ensures
    (done_is _ _ _ _ c.if-budget-gt0.true _ c.next_bit.ensures _ c.is_none-done.ensures)

pub returns-else-budget-gt0 : goal.returns-else-budget-gt0
returns-else-budget-gt0 c =
    advanced c.args.blocks c.args.budget (cell_names c.args.blocks c.args.b.now c.args.d.now c.args.cells.now) c.args.marks.now c.args.list.now
    c.requires.0 c.listed_numbers-n.ensures c.name_all.ensures c.take_steps-steps.ensures
    (bytes_given c.args.marks.now (search rules)) c.requires.5 (bytes_given _ c.type_inv.marks) (c.take_steps-steps.auto.marks ∙ c.requires.5) c.write_list.ensures
    (done_never _ _ c.if-budget-gt0.false)
