use mathlib.Core.Path.{refl, ◌∙◌}
use Prim.Native.Nat.{◌<◌}
use lib.ListN.{length, length-take}
use Rattle.std.proofs.lemmas.List.{get_or-take}
use Rattle.step_list.proofs.Bits.{shows_none, shows_more, gains_marked}
use native.Mathlib.Omega.{arith}
use Rattle.step_list.proofs.name_all.Goals as goal

pub loop-v-init : goal.loop-v-init
loop-v-init c = (shows_none c.args.list.now (length c.args.map.now) c.fill_bytes.ensures, refl)

pub loop-v-preserved : goal.loop-v-preserved
loop-v-preserved c =
    let inside : c.loop-v.v-index < c.args.n = omega (arith, length-take c.args.n c.args.list.now) in
    let marked = rw (get_or-take c.args.n c.args.list.now c.loop-v.v-index 0 inside) at c.mark_one.ensures in
    (shows_more c.loop-v.v-index c.args.list.now c.loop-v.invariant.0 (gains_marked _ _ _ (omega arith) marked), c.mark_one.auto.marks ∙ c.loop-v.invariant.1)
