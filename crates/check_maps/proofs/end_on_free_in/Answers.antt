use mathlib.Core.Path.{◌≡◌, refl, subst}
use mathlib.Core.List.{[]}
use Prim.Native.Nat.{ℕ, ◌-◌}
use native.Mathlib.Omega.{arith}
use lib.Bits.{bit_or}
use lib.ListN.{length, get_or, take}
use Rattle.std.proofs.Common.{rules}
use Rattle.std.proofs.lemmas.List.{length_push, length-take}
use Rattle.std.proofs.lemmas.Slice.Zip.{zip_turn, zip_end}
use Rattle.rules.specs.Heap.{memory}
use Rattle.rules.specs.Tools.{some_below}
use Rattle.rules.proofs.Stretches.{Gathered, gathered_more}
use Rattle.rules.specs.Damage.{end_on_free}
use Rattle.check_maps.proofs.Chains.{front_item}
use Rattle.check_maps.proofs.Eights.{end_eight}
use Rattle.check_maps.proofs.end_on_free_in.Goals as goal

pub loop-x-init : goal.loop-x-init
unfolding some_below
loop-x-init c = refl

pub loop-x-preserved : goal.loop-x-preserved
loop-x-preserved c =
    let a = c.args.a.now in
    let b = c.args.b.now in
    let n = c.args.bytes - 0 in
    let k = length c.loop-x.yielded in
    let turn = zip_turn (take n a) (take n b) c.loop-x.yielded _ c.loop-x.x-iterator c.next.new.self _ (search rules) (search rules) c.loop-x.yielded_by _ c.in-Some.is c.next.ensures.steps in
    let own = front_item c.args.bytes a k c.in-Some.x.now turn.0 (turn.2 0) in
    let other = front_item c.args.bytes b k c.in-Some.y.now turn.1 (turn.3 0) in
    rw (length_push c.loop-x.yielded (c.in-Some.x, c.in-Some.y), own.1, other.1)
    (gathered_more (end_on_free (memory a b [] [] [] [])) k c.loop-x.found (255 - bit_or (get_or a k 0) (get_or b k 0)) (omega arith)
    (end_eight a b k (c.type_inv.a k).fits (c.type_inv.b k).fits) c.loop-x.invariant)

pub returns : goal.returns
returns c =
    let a = c.args.a.now in
    let b = c.args.b.now in
    let n = c.args.bytes - 0 in
    let end = zip_end (take n a) (take n b) c.loop-x.yielded _ c.loop-x.x-iterator c.next.new.self _ (search rules) (search rules) c.loop-x.yielded_by c.in-None.is c.next.ensures.steps in
    let done : length c.loop-x.yielded ≡ c.args.bytes = omega (arith, end, length-take n a, length-take n b) in
    subst (λ (k : ℕ). Gathered (end_on_free (memory a b [] [] [] [])) k c.loop-x.found) done c.loop-x.invariant
