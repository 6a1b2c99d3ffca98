use mathlib.Core.Path.{◌≡◌, refl, ◌∙◌}
use Prim.Native.Nat.{ℕ, ◌+◌, ◌-◌, ◌<◌}
use lib.ListN.{get_or, take, drop, length-take, length-drop}
use Rattle.std.proofs.lemmas.List.{get_or-take, get_or-drop}
use Rattle.step_advance.proofs.Flags.{flying_start, flying_more}
use native.Mathlib.Omega.{arith}
use Rattle.step_advance.proofs.shade_cells.Goals as goal

pub loop-v-init : goal.loop-v-init
loop-v-init c = (flying_start c.args.cells.now c.args.j, refl, refl, refl)

pub loop-v-preserved : goal.loop-v-preserved
loop-v-preserved c =
    let k : ℕ = c.loop-v.v-index in
    let j : ℕ = c.args.j in
    let n : ℕ = j + c.args.n - j in
    let inside : k < n = omega (arith, length-take n (drop j c.args.cells.now)) in
    let cell : get_or (take n (drop j c.args.cells.now)) k 0 ≡ get_or c.args.cells.now (j + k) 0 =
    get_or-take n (drop j c.args.cells.now) k 0 inside ∙ get_or-drop j c.args.cells.now k 0 in (
      flying_more _ _ k c.loop-v.invariant.0 (rw cell at c.shade_one-bound.ensures),
      c.shade_one-bound.auto.marks ∙ c.loop-v.invariant.1,
      c.shade_one-bound.auto.listed ∙ c.loop-v.invariant.2,
      c.shade_one-bound.auto.flags ∙ c.loop-v.invariant.3,
    )

pub returns : goal.returns
returns c =
    let done : c.loop-v.v-index ≡ c.args.n =
    omega (arith, length-take (c.args.j + c.args.n - c.args.j) (drop c.args.j c.args.cells.now), length-drop c.args.j c.args.cells.now) in
    rw (← done) c.loop-v.invariant.0
