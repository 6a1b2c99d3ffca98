-- `map_objects::objects::first_byte` meets its contract: the bits are those of blocks that no link leads into.
use Prim.Native.Nat.{◌-◌}
use Rattle.map_objects.proofs.Eights.{first_eight_zero, first_eight}
use Rattle.map_objects.proofs.objects.first_byte.Goals as goal

pub returns-then-k-eq0 : goal.returns-then-k-eq0
returns-then-k-eq0 c = rw c.if-k-eq0.true (first_eight_zero c.args.a.now c.args.b.now)

pub returns-else-k-eq0 : goal.returns-else-k-eq0
returns-else-k-eq0 c = λ N.
    first_eight c.args.a.now c.args.b.now c.args.k N (c.type_inv.a (c.args.k - 1)).fits c.if-k-eq0.false
