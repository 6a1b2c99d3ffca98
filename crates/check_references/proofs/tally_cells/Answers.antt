use mathlib.Core.Path.{◌≡◌, sym, ap, ◌∙◌, subst}
use mathlib.Core.Bool.{true≢false}
use mathlib.Core.List.{List}
use Prim.Native.Nat.{ℕ, ◌≤◌, ◌<◌, ◌-◌, ◌+◌, ◌*◌}
use native.Mathlib.Omega.{arith}
use lib.ListN.{get_or}
use Rattle.rules.specs.Heap.{ref_at}
use Rattle.rules.proofs.Searches.{searched_start, searched_all}
use Rattle.rules.proofs.Stretches.{none_further}
use Rattle.rules.proofs.Tests.{some_true, some_false, true_some}
use Rattle.map_objects.proofs.Walk.{walk_start}
use Rattle.check_references.specs.Wild.{wild_cell, read_in, wild_in}
use Rattle.check_references.specs.Tally.{Tallied}
use Rattle.check_references.proofs.Tallies.{tallied_start, tallied_more}
use Rattle.check_references.proofs.Eights.{last_before, eight_read, eight_wild}
use Rattle.check_references.proofs.tally_cells.Goals as goal

-- the cells of one byte more
byte_more : (read more : ℕ → ℕ) (at₀ at next : List ℕ) (k : ℕ) → ((j : ℕ) → j < 32 → read (32 * k + j) ≡ more j)
    → Tallied read (32 * k) at₀ at → Tallied more 32 at next → Tallied read (32 * (k + 1)) at₀ next
byte_more read more at₀ at next k same t u =
    let end : 32 * k + 32 ≡ 32 * (k + 1) = omega arith in
    subst (λ (n : ℕ). Tallied read n at₀ next) end (tallied_more read at₀ more (32 * k) 32 at next same t u)

pub loop-k-init : goal.loop-k-init
loop-k-init c = (
  walk_start c.args.blocks c.args.a.now c.args.b.now c.args.d.now,
  searched_start (wild_cell c.args.blocks c.args.a.now c.args.b.now c.args.d.now c.args.cells.now) (4 * c.args.blocks),
  tallied_start (ref_at c.args.blocks c.args.a.now c.args.b.now c.args.d.now c.args.cells.now) c.args.at.now c.requires.7,
)

pub returns-then-tally_byte : goal.returns-then-tally_byte
returns-then-tally_byte c =
    let k : ℕ = c.loop-k.k in
    let found =
    some_true (wild_in c.args.blocks (get_or c.args.a.now k 0) c.data_byte-made.result c.args.cells.now k) 32
    (sym c.tally_byte.ensures.told ∙ c.if-tally_byte.true) in
    record {
      told = sym
          (true_some (wild_cell c.args.blocks c.args.a.now c.args.b.now c.args.d.now c.args.cells.now) (4 * c.args.blocks) (32 * k + found.0) (omega (arith, found.1, c.loop-k-test.true))
          (eight_wild c.args.blocks c.args.a.now c.args.b.now c.args.d.now k (omega (arith, c.loop-k-test.true))
          c.args.cells.now c.data_byte-made.result c.data_byte-made.ensures found.0 found.1 ∙ found.2));
      tallied = λ e. absurd (true≢false e);
    }

pub loop-k-preserved : goal.loop-k-preserved
loop-k-preserved c =
    let N : ℕ = c.args.blocks in
    let k : ℕ = c.loop-k.k in
    let made : ℕ = c.data_byte-made.result in
    let inside : 8 * (k + 1) ≤ N = omega (arith, c.loop-k-test.true) in
    let none = sym c.tally_byte.ensures.told ∙ c.if-tally_byte.false in (
      last_before N c.args.a.now c.args.b.now c.args.d.now k inside made (omega arith) c.data_byte-made.ensures,
      (
        omega (arith, inside),
        none_further (wild_cell c.args.blocks c.args.a.now c.args.b.now c.args.d.now c.args.cells.now) (32 * k) (32 * (k + 1)) c.loop-k.invariant.1.1
            (λ i from to.
            let place : i ≡ 32 * k + (i - 32 * k) = omega arith in
            ap (wild_cell c.args.blocks c.args.a.now c.args.b.now c.args.d.now c.args.cells.now) place
            ∙ eight_wild N c.args.a.now c.args.b.now c.args.d.now k inside c.args.cells.now made c.data_byte-made.ensures (i - 32 * k) (omega arith)
            ∙ some_false (wild_in N (get_or c.args.a.now k 0) made c.args.cells.now k) 32 none (i - 32 * k) (omega arith)),
      ),
      byte_more (ref_at c.args.blocks c.args.a.now c.args.b.now c.args.d.now c.args.cells.now) (read_in made c.args.cells.now k) c.args.at.now c.loop-k.at _ k
          (eight_read N c.args.a.now c.args.b.now c.args.d.now k inside c.args.cells.now made c.data_byte-made.ensures) c.loop-k.invariant.2
          (c.tally_byte.ensures.tallied c.if-tally_byte.false),
    )

pub returns : goal.returns
returns c =
    let done : 32 * c.loop-k.k ≡ 4 * c.args.blocks = omega (arith, c.loop-k.auto.k-end) in
    record {
      told = searched_all (wild_cell c.args.blocks c.args.a.now c.args.b.now c.args.d.now c.args.cells.now) (4 * c.args.blocks) (32 * c.loop-k.k) c.loop-k.invariant.1 (omega arith);
      tallied = λ e. subst (λ (n : ℕ). Tallied (ref_at c.args.blocks c.args.a.now c.args.b.now c.args.d.now c.args.cells.now) n c.args.at.now c.loop-k.at) done c.loop-k.invariant.2;
    }
