-- `outcome::done_after` meets its contract.
use Rattle.std.proofs.Common.{refl, sym, add-zero}
use mathlib.Core.Bool.{false}
use borrow.Author.Tests.{ne_eqb}
use Rattle.types.proofs.Refused.{number_ne0}
use Rattle.history_turns.specs.Outcomes.{done, done_after}
use Rattle.history_turns.proofs.outcome.done_after.Goals as goal

pub returns-in-Ok : goal.returns-in-Ok
unfolding done_after
returns-in-Ok c = rw c.in-Ok.is refl

pub returns-in-Err : goal.returns-in-Err
unfolding done_after
returns-in-Err c =
    rw c.in-Err.is
    (rw (ne_eqb _ 0 (number_ne0 c.in-Err.refusal), done_after)
    (λ i. done (c.number.ensures i) 0 c.args.collected (sym (add-zero c.args.freed) i) false))
