use mathlib.Core.Path.{◌≡◌, refl, ap, ◌∙◌}
use mathlib.Core.List.{List}
use Prim.Native.Nat.{ℕ, ◌+◌, ◌*◌}
use native.Mathlib.Omega.{arith}
use Rattle.rules_stores.specs.Store.{count_down_each, clear_cells}
use Rattle.map_objects.proofs.Cells.{clear_join}
use Rattle.count_down.proofs.CountDown.{each_several}
use Rattle.count_down.proofs.drop_cells.Goals as goal

pub loop-i-init : goal.loop-i-init
unfolding clear_cells count_down_each
loop-i-init c =
    (refl, record { result = refl; planes = c.requires.0; stack = c.requires.1; left_is = refl })

pub drop_four-top-requires : goal.drop_four-top-requires
drop_four-top-requires c = (c.loop-i.invariant.1.planes, c.loop-i.invariant.1.stack, omega (arith, c.requires.2))

pub loop-i-preserved : goal.loop-i-preserved
loop-i-preserved c =
    let more : 4 * c.loop-i.i + 4 ≡ 4 * (c.loop-i.i + 1) = omega arith in (
      rw (← more) (c.drop_four-top.ensures.1 ∙ ap (λ (x : List ℕ). clear_cells x (c.args.j + 4 * c.loop-i.i) 4) c.loop-i.invariant.0 ∙ clear_join c.args.cells.now c.args.j (4 * c.loop-i.i) 4),
      rw (← more) (each_several _ _ _ (4 * c.loop-i.i) 4 c.loop-i.invariant.0 c.loop-i.invariant.1 c.drop_four-top.ensures.0),
    )

pub returns : goal.returns
returns c =
    let done : 4 * c.loop-i.i ≡ c.args.n = omega (arith, c.requires.3) in
    (rw (← done) c.loop-i.invariant.1, rw (← done) c.loop-i.invariant.0)
