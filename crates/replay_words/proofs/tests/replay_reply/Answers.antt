-- `tests::replay_reply` meets its contract.
use mathlib.Core.Path.{sym, ◌∙◌}
use Prim.Native.Nat.{◌*◌, ◌/◌}
use native.Mathlib.Omega.{arith}
use lib.ListN.{length}
use borrow.Author.Tests.{le-leb, lt-leb, eq-eqb, ne_eqb}
use Rattle.rules.specs.Tools.{first_number}
use Rattle.replay_words.specs.Refusals.{list_refusals, reply_on}
use Rattle.replay_words.proofs.tests.replay_reply.Goals as goal

pub returns-then-not-is_shaped : goal.returns-then-not-is_shaped
unfolding reply_on list_refusals first_number
returns-then-not-is_shaped c =
    let fails = sym c.is_shaped.ensures ∙ c.if-not-is_shaped.true in
    rw (fails, reply_on, list_refusals, first_number)

pub returns-then-calls-ne0 : goal.returns-then-calls-ne0
unfolding reply_on list_refusals first_number
returns-then-calls-ne0 c =
    rw (sym c.is_shaped.ensures ∙ c.if-not-is_shaped.false, ne_eqb _ 0 c.if-calls-ne0.true, reply_on, list_refusals, first_number)

pub returns-then-not-are_calls : goal.returns-then-not-are_calls
unfolding reply_on list_refusals first_number
returns-then-not-are_calls c =
    let fails = sym c.are_calls.ensures ∙ c.if-not-are_calls.true in
    rw (sym c.is_shaped.ensures ∙ c.if-not-is_shaped.false, eq-eqb _ 0 c.if-calls-ne0.false, fails, reply_on, list_refusals, first_number)

pub returns-then-room-n : goal.returns-then-room-n
unfolding reply_on list_refusals first_number
returns-then-room-n c =
    rw (
      sym c.is_shaped.ensures ∙ c.if-not-is_shaped.false,
      eq-eqb _ 0 c.if-calls-ne0.false,
      sym c.are_calls.ensures ∙ c.if-not-are_calls.false,
      lt-leb (3 * (length c.args.calls.now / 4)) c.args.room (omega arith),
      reply_on,
      list_refusals,
      first_number,
    )

pub returns : goal.returns
unfolding reply_on list_refusals first_number
returns c =
    rw (
      sym c.is_shaped.ensures ∙ c.if-not-is_shaped.false,
      eq-eqb _ 0 c.if-calls-ne0.false,
      sym c.are_calls.ensures ∙ c.if-not-are_calls.false,
      le-leb (3 * (length c.args.calls.now / 4)) c.args.room (omega arith),
      reply_on,
      list_refusals,
      first_number,
    )
