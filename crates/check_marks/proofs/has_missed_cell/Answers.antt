-- `check_marks::has_missed_cell` meets its contract.
use mathlib.Core.Path.{◌≡◌, refl, sym, ap, ◌∙◌}
use Prim.Native.Nat.{ℕ, ◌+◌, ◌-◌, ◌*◌, ◌/◌}
use native.Mathlib.Omega.{arith}
use lib.Bits.{bit_and}
use lib.ListN.{get_or}
use Rattle.std.proofs.Common.{rules}
use borrow.Author.Tests.{tests}
use Rattle.rules.specs.Tools.{some_below}
use Rattle.check_maps.proofs.Chains.{any_range, by_eights, some_same}
use Rattle.check_marks.specs.Tidy.{missed_apart, missed_of}
use Rattle.check_marks.proofs.Tests.{of_eight}
use Rattle.check_marks.proofs.has_missed_cell.Goals as goal

pub returns : goal.returns
unfolding some_below
returns c =
    let N : ℕ = c.args.blocks in
    let b = c.args.b.now in
    let d = c.args.d.now in
    let cells = c.args.cells.now in
    let marks = c.args.marks.now in
    let map = c.args.map.now in
    let whole : 8 * (N / 8) ≡ N = omega arith in
    any_range (λ k. some_below (missed_of (bit_and (get_or marks k 0) (255 - get_or map k 0)) k N b d cells marks) 8) 0 (N / 8) _ _ c.any.result c.any.ensures.ran
    (λ x r q k. search (rules, tests)) (omega arith) refl
    ∙ some_same _ (λ k. some_below (λ s. missed_apart N b d cells marks map (8 * k + s)) 8) (N / 8)
    (λ k l. some_same _ _ 8 (λ s u. sym (of_eight N b d cells marks map k (c.type_inv.map k).fits s u)))
    ∙ by_eights (missed_apart N b d cells marks map) (N / 8)
    ∙ ap (some_below (missed_apart N b d cells marks map)) whole
