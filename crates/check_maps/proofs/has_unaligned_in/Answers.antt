-- `check_maps::has_unaligned_in` meets its contract.
use mathlib.Core.Path.{refl, ◌∙◌}
use mathlib.Core.Bool.{Bool}
use mathlib.Core.List.{List, []}
use Prim.Native.Nat.{ℕ, ◌+◌, ◌*◌}
use native.Mathlib.Omega.{arith}
use Rattle.std.proofs.Common.{rules}
use borrow.Author.Tests.{tests}
use Rattle.rules.specs.Heap.{memory}
use Rattle.rules.specs.Tools.{some_below}
use Rattle.rules.specs.Damage.{unaligned}
use Rattle.check_maps.proofs.Chains.{any_range, by_eights}
use Rattle.check_maps.proofs.has_unaligned_in.Goals as goal

-- the rule's test, on what is lent
abbrev test : ℕ → (a b : List ℕ) → ℕ → Bool
test blocks a b = unaligned blocks (memory a b [] [] [] [])

pub returns : goal.returns
unfolding some_below
returns c =
    any_range (λ k. some_below (λ s. test c.args.blocks c.args.a.now c.args.b.now (8 * k + s)) 8) 0 c.args.bytes _ _ c.any.result c.any.ensures.ran
    (λ x b q k. search (rules, tests)) (omega arith) refl
    ∙ by_eights (test c.args.blocks c.args.a.now c.args.b.now) c.args.bytes
