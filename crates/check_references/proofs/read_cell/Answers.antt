-- `check_references::read_cell` meets its contract.
use mathlib.Core.Path.{sym}
use Prim.Native.Nat.{◌+◌, ◌*◌}
use native.Mathlib.Omega.{arith}
use Rattle.check_references.proofs.Wilds.{read_made, read_plain}
use Rattle.check_references.proofs.read_cell.Goals as goal

pub returns-then-made-j-ne0 : goal.returns-then-made-j-ne0
returns-then-made-j-ne0 c =
    sym (read_made c.args.made c.args.cells.now c.args.k c.args.j c.if-made-j-ne0.true)

pub overflow_cast-result : goal.overflow_cast-result
overflow_cast-result c =
    omega (arith, c.type_inv.cells (32 * c.args.k + c.args.j))

pub returns-else-made-j-ne0 : goal.returns-else-made-j-ne0
returns-else-made-j-ne0 c =
    sym (read_plain c.args.made c.args.cells.now c.args.k c.args.j c.if-made-j-ne0.false)
