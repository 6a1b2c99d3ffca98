-- `walk_reason::sentence_length` meets its contract.
use mathlib.Core.Path.{◌≡◌}
use Prim.Native.Nat.{◌+◌, ◌*◌, ◌≤◌}
use lib.ListN.{length}
use Rattle.text.specs.Text.{decimal}
use Rattle.walk_reason.proofs.Sentences.{left}
use Rattle.walk_reason.proofs.sentence_length.Given as goal

abbrev pub invariant-loop-cell : goal.invariant-loop-cell
invariant-loop-cell l = record {
  long : l.n + length (left l.at l.cells 0) ≡ 5 + length (decimal l.root) + length (left l.at l.cells l.cell-index);
  small : l.n ≤ 25 + 26 * l.cell-index;
}
