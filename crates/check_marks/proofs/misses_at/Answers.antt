-- `check_marks::misses_at` meets its contract.
use mathlib.Core.Path.{◌≡◌, ap, ◌∙◌}
use Prim.Native.Nat.{ℕ, ◌+◌, ◌-◌, ◌*◌}
use native.Mathlib.Omega.{arith}
use lib.ListN.{get_or, take, drop}
use Rattle.std.proofs.Common.{rules}
use borrow.Author.Tests.{tests}
use Rattle.rules.specs.Tools.{some_below}
use Rattle.check_maps.proofs.Chains.{any_items, part_items}
use Rattle.check_marks.proofs.Misses.{missed, missed_any, missed_read}
use Rattle.check_marks.proofs.misses_at.Goals as goal

pub returns : goal.returns
returns c =
    let from : ℕ = 4 * c.args.x in
    let named : ℕ = c.naming_cells-named.result in
    let number : from + named - from ≡ named = omega arith in
    any_items (missed c.args.blocks c.args.marks.now) (take (from + named - from) (drop from c.args.cells.now)) _ _ c.any.result c.any.ensures.ran (cc)
    (λ x b q k. search (rules, tests))
    ∙ part_items (missed c.args.blocks c.args.marks.now) c.args.cells.now from (from + named) (omega arith)
    ∙ ap (some_below (λ m. missed c.args.blocks c.args.marks.now (get_or c.args.cells.now (from + m) 0))) number
    ∙ missed_any c.args.blocks c.args.cells.now c.args.marks.now from named
    ∙ missed_read c.args.blocks c.args.b.now c.args.d.now c.args.cells.now c.args.marks.now c.args.x c.object_size-n.ensures.0 c.naming_cells-named.ensures.0
