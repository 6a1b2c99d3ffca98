-- `count_down::end_kind` meets its contract: the bit is read before it is cleared, and a bit that is 0 is left.
use mathlib.Core.Path.{◌≡◌, sym, ◌∙◌}
use native.Mathlib.Omega.{arith}
use Rattle.bitmap.proofs.Maps.{set_bit_there}
use Rattle.map_objects.proofs.Naming.{naming_none, naming_all}
use Rattle.count_down.proofs.end_kind.Goals as goal

pub returns-then-get_bit-eq1 : goal.returns-then-get_bit-eq1
returns-then-get_bit-eq1 c =
    (naming_none _ _ _ (sym c.get_bit.ensures.0 ∙ c.if-get_bit-eq1.true), omega arith, c.set_bit.ensures, omega arith)

pub returns-else-get_bit-eq1 : goal.returns-else-get_bit-eq1
returns-else-get_bit-eq1 c =
    let zero-there : c.get_bit.result ≡ 0 = omega (arith, c.get_bit.ensures.1, c.if-get_bit-eq1.false) in
    (naming_all _ _ _ (λ e. c.if-get_bit-eq1.false (c.get_bit.ensures.0 ∙ e)), omega arith, sym (set_bit_there _ _ 0 (sym c.get_bit.ensures.0 ∙ zero-there)), omega arith)
