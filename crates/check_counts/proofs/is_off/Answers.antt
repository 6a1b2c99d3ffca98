-- `check_counts::is_off` meets its contract.
use native.Mathlib.Omega.{arith}
use mathlib.Core.Path.{sym, ap₂, ◌∙◌}
use mathlib.Core.Bool.{not}
use Prim.Native.Nat.{ℕ, ◌+◌, ◌*◌}
use lib.Bits.{bit_and}
use lib.Dec.{eqb}
use Rattle.check_counts.proofs.Eights.{eight_apart, eight_free, eight_held}
use Rattle.check_counts.proofs.is_off.Goals as goal

pub returns-then-some_byte-first : goal.returns-then-some_byte-first
returns-then-some_byte-first c =
    sym
    (eight_apart c.args.first c.args.bytes c.args.width c.args.counts.now c.args.at.now c.args.k
    c.some_byte.result (omega arith) (omega arith) c.some_byte.ensures c.if-some_byte-first.true)

pub returns-then-first-eq0 : goal.returns-then-first-eq0
returns-then-first-eq0 c =
    sym
    (eight_free c.args.first c.args.bytes c.args.width c.args.counts.now c.args.at.now c.args.k
    c.some_byte.result (omega arith) (omega arith) c.some_byte.ensures c.if-some_byte-first.false c.if-first-eq0.true)

pub returns-else-first-eq0 : goal.returns-else-first-eq0
returns-else-first-eq0 c =
    ap₂ (λ (x y : ℕ). not (eqb x y)) (ap₂ bit_and c.tallies.ensures c.mask-kept.ensures)
    (ap₂ bit_and c.count_lanes.ensures c.mask-kept.ensures)
    ∙ eight_held c.args.first c.args.bytes c.args.width c.args.counts.now c.args.at.now c.args.k
    c.some_byte.result (omega arith) (omega arith) c.some_byte.ensures c.if-some_byte-first.false c.full_byte.result (omega arith)
    c.full_byte.ensures (omega arith) (λ i l. omega (arith, c.requires.6 (8 * c.args.k + i) (omega arith)))
