use mathlib.Core.Path.{◌≡◌, refl, subst}
use mathlib.Core.Bool.{Bool, not}
use mathlib.Core.List.{List, []}
use Prim.Native.Nat.{ℕ, ◌-◌, ◌*◌}
use native.Mathlib.Omega.{arith}
use lib.Bits.{bit_and, and_le_r}
use lib.Dec.{eqb}
use lib.ListN.{get_or}
use Rattle.rules.specs.Heap.{lent_memory}
use Rattle.rules.specs.Tools.{some_below}
use Rattle.rules.specs.Damage.{stray_data}
use Rattle.rules.proofs.Stretches.{gathered_more}
use Rattle.check_maps.proofs.Eights.{stray_eight}
use Rattle.check_maps.proofs.has_stray_data.Goals as goal

-- the rule's test, on what is lent
abbrev test : ℕ → (a b d : List ℕ) → ℕ → Bool
test blocks a b d = stray_data blocks (lent_memory a b [] [] [] [] [] d [] [])

pub loop-k-init : goal.loop-k-init
unfolding some_below
loop-k-init c = refl

pub loop-k-preserved : goal.loop-k-preserved
loop-k-preserved c =
    let k : ℕ = c.loop-k.k in
    let first : ℕ = c.first_byte.result in
    gathered_more (test c.args.blocks c.args.a.now c.args.b.now c.args.d.now) k c.loop-k.found (bit_and (get_or c.args.d.now k 0) (255 - first)) (omega (arith, and_le_r (get_or c.args.d.now k 0) (255 - first)))
    (stray_eight c.args.blocks c.args.a.now c.args.b.now c.args.d.now k first (omega arith)
    (c.first_byte.ensures c.args.blocks (omega arith)))
    c.loop-k.invariant

pub returns : goal.returns
returns c =
    let done : 8 * c.loop-k.k ≡ c.args.blocks = omega arith in
    subst (λ (n : ℕ). not (eqb c.loop-k.found 0) ≡ some_below (test c.args.blocks c.args.a.now c.args.b.now c.args.d.now) n) done c.loop-k.invariant
