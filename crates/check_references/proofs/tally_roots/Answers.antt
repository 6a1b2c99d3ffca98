use mathlib.Core.Path.{◌≡◌, refl, sym, ◌∙◌, subst}
use mathlib.Core.Bool.{true≢false}
use Prim.Native.Nat.{ℕ}
use native.Mathlib.Omega.{arith}
use lib.ListN.{length, get_or}
use Rattle.rules.proofs.Searches.{searched_start, searched_next, searched_all, searched_hit}
use Rattle.check_references.specs.Wild.{wild_root}
use Rattle.check_references.specs.Tally.{Tallied}
use Rattle.check_references.proofs.Tallies.{tallied_start, tallied_next}
use Rattle.check_references.proofs.Wilds.{once}
use Rattle.check_references.proofs.tally_roots.Goals as goal

pub loop-v-init : goal.loop-v-init
loop-v-init c = (
  searched_start (wild_root c.args.blocks c.args.roots.now) (length c.args.roots.now),
  tallied_start (λ i. get_or c.args.roots.now i 0) c.args.at.now c.requires.2,
)

pub returns-then-tally_one : goal.returns-then-tally_one
returns-then-tally_one c = record {
  told = searched_hit (wild_root c.args.blocks c.args.roots.now) (length c.args.roots.now) c.loop-v.v-index c.loop-v-test.true
      (sym (once _) ∙ sym c.tally_one.ensures.told ∙ c.if-tally_one.true);
  tallied = λ e. absurd (true≢false e);
}

pub loop-v-preserved : goal.loop-v-preserved
loop-v-preserved c = (
  searched_next (wild_root c.args.blocks c.args.roots.now) (length c.args.roots.now) c.loop-v.v-index c.loop-v.invariant.0 c.loop-v-test.true
      (sym (once _) ∙ sym c.tally_one.ensures.told ∙ c.if-tally_one.false),
  tallied_next (λ i. get_or c.args.roots.now i 0) c.args.at.now _ c.loop-v.v-index c.loop-v.at _ refl c.loop-v.invariant.1
      (c.tally_one.ensures.tallied c.if-tally_one.false),
)

pub returns : goal.returns
returns c =
    let done : c.loop-v.v-index ≡ length c.args.roots.now = omega (arith, c.loop-v.invariant.0.0, c.loop-v-test.false) in
    record {
      told = searched_all (wild_root c.args.blocks c.args.roots.now) (length c.args.roots.now) c.loop-v.v-index c.loop-v.invariant.0 c.loop-v-test.false;
      tallied = λ e. subst (λ (n : ℕ). Tallied (λ i. get_or c.args.roots.now i 0) n c.args.at.now c.loop-v.at) done c.loop-v.invariant.1;
    }
