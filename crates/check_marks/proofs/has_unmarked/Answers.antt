use mathlib.Core.Path.{◌≡◌, refl, subst}
use mathlib.Core.Bool.{Bool, not, ◌&&◌}
use mathlib.Core.List.{List}
use Prim.Native.Nat.{ℕ, ◌-◌, ◌*◌, ◌/◌}
use native.Mathlib.Omega.{arith}
use lib.Bits.{bit_and, and_le_r}
use lib.Dec.{eqb}
use lib.ListN.{length, get_or, take}
use Rattle.std.proofs.Common.{rules}
use Rattle.std.proofs.lemmas.List.{length_push, length-take}
use Rattle.std.proofs.lemmas.Slice.Zip.{zip_turn, zip_end}
use Rattle.rules.specs.Tools.{some_below}
use Rattle.rules.proofs.Stretches.{gathered_more}
use Rattle.step_list.specs.Lists.{is_set}
use Rattle.check_maps.proofs.Chains.{front_item}
use Rattle.check_marks.proofs.Tests.{apart_eight}
use Rattle.check_marks.proofs.has_unmarked.Goals as goal

-- in the one map and not in the other
abbrev test : (map marks : List ℕ) → ℕ → Bool
test map marks i = is_set map i && not (is_set marks i)

pub loop-x-init : goal.loop-x-init
unfolding some_below
loop-x-init c = refl

pub loop-x-preserved : goal.loop-x-preserved
loop-x-preserved c =
    let map = c.args.map.now in
    let marks = c.args.marks.now in
    let n = c.args.blocks / 8 - 0 in
    let k = length c.loop-x.yielded in
    let turn = zip_turn (take n map) (take n marks) c.loop-x.yielded _ c.loop-x.x-iterator c.next.new.self _ (search rules) (search rules) c.loop-x.yielded_by _ c.in-Some.is c.next.ensures.steps in
    let own = front_item (c.args.blocks / 8) map k c.in-Some.x.now turn.0 (turn.2 0) in
    let other = front_item (c.args.blocks / 8) marks k c.in-Some.y.now turn.1 (turn.3 0) in
    rw (length_push c.loop-x.yielded (c.in-Some.x, c.in-Some.y), own.1, other.1)
    (gathered_more (test map marks) k c.loop-x.found (bit_and (get_or map k 0) (255 - get_or marks k 0))
    (omega (arith, and_le_r (get_or map k 0) (255 - get_or marks k 0)))
    (apart_eight map marks k (c.type_inv.marks k).fits) c.loop-x.invariant)

pub returns : goal.returns
returns c =
    let map = c.args.map.now in
    let marks = c.args.marks.now in
    let n = c.args.blocks / 8 - 0 in
    let end = zip_end (take n map) (take n marks) c.loop-x.yielded _ c.loop-x.x-iterator c.next.new.self _ (search rules) (search rules) c.loop-x.yielded_by c.in-None.is c.next.ensures.steps in
    let done : 8 * length c.loop-x.yielded ≡ c.args.blocks = omega (arith, end, length-take n map, length-take n marks) in
    subst (λ (n : ℕ). not (eqb c.loop-x.found 0) ≡ some_below (test map marks) n) done c.loop-x.invariant
