use mathlib.Core.Path.{sym, ◌∙◌}
use mathlib.Core.Bool.{Bool}
use mathlib.Core.List.{List, []}
use Prim.Native.Nat.{ℕ, ◌*◌, ◌/◌}
use native.Mathlib.Omega.{arith}
use Rattle.std.proofs.Common.{rules}
use borrow.Author.Tests.{tests}
use Rattle.rules.specs.Heap.{memory}
use Rattle.rules.specs.Damage.{unaligned}
use Rattle.check_maps.proofs.Chains.{found_further, any_range}
use Rattle.check_maps.proofs.has_unaligned.Goals as goal

-- the rule's test, on what is lent
abbrev test : ℕ → (a b : List ℕ) → ℕ → Bool
test blocks a b = unaligned blocks (memory a b [] [] [] [])

pub returns-then-has_unaligned_in : goal.returns-then-has_unaligned_in
returns-then-has_unaligned_in c =
    found_further (test c.args.blocks c.args.a.now c.args.b.now) (8 * (c.args.blocks / 8)) c.args.blocks c.has_unaligned_in.result (omega arith) c.has_unaligned_in.ensures c.if-has_unaligned_in.true

pub returns-else-has_unaligned_in : goal.returns-else-has_unaligned_in
unfolding unaligned
returns-else-has_unaligned_in c =
    any_range (test c.args.blocks c.args.a.now c.args.b.now) (8 * (c.args.blocks / 8)) c.args.blocks _ _ c.any.result c.any.ensures.ran
    (λ x b q k. search (rules, tests)) (omega arith) (sym c.has_unaligned_in.ensures ∙ c.if-has_unaligned_in.false)
