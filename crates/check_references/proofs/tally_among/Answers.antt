use mathlib.Core.Path.{sym, ap, ◌∙◌}
use mathlib.Core.Bool.{true≢false}
use Prim.Native.Nat.{ℕ, ◌-◌, ◌/◌}
use native.Mathlib.Omega.{arith}
use lib.Bits.{and_le_r}
use lib.Count.{count_trailing_zeros}
use lib.Dec.{eqb}
use Rattle.bitmap.specs.Bit.{bit_of}
use Rattle.bitmap.proofs.Digits.{trailing_lowest}
use Rattle.rules.proofs.Tests.{true_some}
use Rattle.check_references.specs.Wild.{wild as wildTest}
use Rattle.check_references.proofs.Tallies.{tallied_next}
use Rattle.check_references.proofs.Wilds.{once}
use Rattle.check_references.proofs.Visited.{read, wild_at, visited_start, visited_come, visited_next, visited_all}
use Rattle.check_references.proofs.tally_among.Goals as goal

pub loop-left-init : goal.loop-left-init
loop-left-init c = (
  omega arith,
  visited_start c.args.blocks c.args.used c.args.made c.args.cells.now c.args.k c.args.these c.args.at.now c.requires.4,
)

pub returns-then-tally_one : goal.returns-then-tally_one
returns-then-tally_one c =
    let bit : ℕ = count_trailing_zeros 32 c.loop-left.left in
    let low = trailing_lowest 32 c.loop-left.left c.loop-left.invariant.0 c.loop-left-test.true in
    record {
      told = sym
          (true_some (wild_at c.args.blocks c.args.used c.args.made c.args.cells.now c.args.k c.args.these c.args.at.now) 32 bit low.inside
          (ap (wildTest c.args.blocks (eqb (bit_of c.args.used (bit / 4)) 0)) (sym c.read_cell.ensures)
          ∙ sym (once _) ∙ sym c.tally_one.ensures.told ∙ c.if-tally_one.true));
      tallied = λ e. absurd (true≢false e);
    }

pub loop-left-preserved : goal.loop-left-preserved
loop-left-preserved c =
    let N : ℕ = c.args.blocks in
    let used : ℕ = c.args.used in
    let made : ℕ = c.args.made in
    let k : ℕ = c.args.k in
    let these : ℕ = c.args.these in
    let left : ℕ = c.loop-left.left in
    let bit : ℕ = count_trailing_zeros 32 left in
    let reads = read N used made c.args.cells.now k these c.args.at.now in
    let some = c.loop-left-test.true in
    let ready = visited_come N used made c.args.cells.now k these c.args.at.now c.requires.3 left c.loop-left.at c.loop-left.invariant.0 some c.loop-left.invariant.1 in
    let next = visited_next N used made c.args.cells.now k these c.args.at.now c.requires.3 left c.loop-left.at c.loop-left.invariant.0 some c.loop-left.invariant.1 in (
      omega (arith, and_le_r left (left - 1)),
      next c.tally_one.new.at
          (ap (wildTest N (eqb (bit_of used (bit / 4)) 0)) (sym c.read_cell.ensures)
          ∙ sym (once _) ∙ sym c.tally_one.ensures.told ∙ c.if-tally_one.false)
          (tallied_next reads c.args.at.now c.read_cell.result bit c.loop-left.at c.tally_one.new.at (sym c.read_cell.ensures) ready.0
          (c.tally_one.ensures.tallied c.if-tally_one.false)),
    )

pub returns : goal.returns
returns c =
    let all =
    visited_all c.args.blocks c.args.used c.args.made c.args.cells.now c.args.k c.args.these c.args.at.now
    c.requires.3 c.loop-left.left c.loop-left.at c.loop-left-test.false c.loop-left.invariant.1 in
    record { told = sym all.1; tallied = λ e. all.0 }
