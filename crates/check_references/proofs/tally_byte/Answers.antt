-- `check_references::tally_byte` meets its contract.
use mathlib.Core.Path.{◌≡◌, sym, ap, ◌∙◌}
use mathlib.Core.Bool.{not}
use Prim.Native.Nat.{ℕ, ◌/◌, ◌≤◌, ◌<◌}
use native.Mathlib.Omega.{arith}
use lib.Dec.{eqb}
use borrow.Author.Tests.{eq-eqb}
use Rattle.bitmap.specs.Bit.{bit_of}
use Rattle.bitmap.proofs.Bits.{bit_ones}
use Rattle.rules.proofs.Tests.{false_some}
use Rattle.check_references.specs.Wild.{read_in, wild_in}
use Rattle.check_references.proofs.Tallies.{tallied_start, tallied_past}
use Rattle.check_references.proofs.Wilds.{wild_zero, read_made}
use Rattle.check_references.proofs.tally_byte.Goals as goal

pub returns-else-made-ne255 : goal.returns-else-made-ne255
returns-else-made-ne255 c =
    let made : ℕ = c.args.made in
    let k : ℕ = c.args.k in
    let zeros : (j : ℕ) → 0 ≤ j → j < 32 → read_in made c.args.cells.now k j ≡ 0 =
    λ j l u. read_made made c.args.cells.now k j (λ e. omega (arith, e, ap (λ (x : ℕ). bit_of x (j / 4)) c.if-made-ne255.false, bit_ones 8 (j / 4) (omega arith))) in
    record {
      told = ap not (eq-eqb made 255 c.if-made-ne255.false)
          ∙ sym
          (false_some (wild_in c.args.blocks c.args.used made c.args.cells.now k) 32
          (λ j u. wild_zero c.args.blocks (eqb (bit_of c.args.used (j / 4)) 0) (read_in made c.args.cells.now k j) (zeros j (omega arith) u)));
      tallied = λ e.
          tallied_past (read_in made c.args.cells.now k) c.args.at.now c.args.at.now 0 32 (omega arith) zeros
          (tallied_start (read_in made c.args.cells.now k) c.args.at.now c.requires.3);
    }
