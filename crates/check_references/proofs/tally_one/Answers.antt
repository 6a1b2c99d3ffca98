-- `check_references::tally_one` meets its contract.
use mathlib.Core.Path.{sym, ◌∙◌}
use mathlib.Core.Logic.{inl, inr}
use Rattle.std.proofs.Common.{⊎_elim}
use mathlib.Core.Bool.{true≢false}
use Prim.Native.Nat.{◌-◌}
use native.Mathlib.Omega.{arith}
use borrow.Author.Tests.{lt-ltb, le-ltb}
use Rattle.rules.proofs.Tests.{true_or, false_or}
use Rattle.check_references.proofs.Tallies.{tallied_start, tallied_none, tallied_one}
use Rattle.check_references.proofs.Wilds.{once, wild_zero, wild_other}
use Rattle.check_references.proofs.tally_one.Goals as goal

pub returns-then-v-eq0 : goal.returns-then-v-eq0
returns-then-v-eq0 c = record {
  told = sym (once _ ∙ wild_zero c.args.blocks c.args.free c.args.v c.if-v-eq0.true);
  tallied = λ e.
      tallied_none (λ j. c.args.v) c.args.at.now 0 c.args.at.now c.if-v-eq0.true
      (tallied_start (λ j. c.args.v) c.args.at.now c.requires.1);
}

pub returns-then-free : goal.returns-then-free
returns-then-free c = record {
  told = sym
      (once _ ∙ wild_other c.args.blocks c.args.free c.args.v c.if-v-eq0.false
      ∙ true_or c.args.free _ (⊎_elim (λ e. inl e) (λ o. inr (lt-ltb c.args.blocks c.args.v o.1)) c.then-free.either));
  tallied = λ e. absurd (true≢false e);
}

pub returns : goal.returns
returns c = record {
  told = sym
      (once _ ∙ wild_other c.args.blocks c.args.free c.args.v c.if-v-eq0.false
      ∙ false_or _ _ c.if-free.false (le-ltb c.args.blocks c.args.v (omega arith)));
  tallied = λ e.
      tallied_one (λ j. c.args.v) c.args.at.now 0 c.args.at.now (c.args.v - 1) c.saturating_add.result (omega arith) (omega arith)
      (omega (arith, c.saturating_add.ensures))
      (tallied_start (λ j. c.args.v) c.args.at.now c.requires.1);
}
