use mathlib.Core.Path.{sym, ◌∙◌}
use mathlib.Core.Bool.{Bool}
use mathlib.Core.List.{List, []}
use Prim.Native.Nat.{ℕ, ◌*◌, ◌/◌}
use native.Mathlib.Omega.{arith}
use Rattle.std.proofs.Common.{rules}
use borrow.Author.Tests.{tests}
use Rattle.rules.specs.Heap.{memory}
use Rattle.rules.specs.Damage.{end_on_free}
use Rattle.check_maps.proofs.Chains.{found_further, any_range}
use Rattle.check_maps.proofs.has_end_on_free.Goals as goal

-- the rule's test, on what is lent
abbrev test : (a b : List ℕ) → ℕ → Bool
test a b = end_on_free (memory a b [] [] [] [])

pub returns-then-end_on_free_in : goal.returns-then-end_on_free_in
returns-then-end_on_free_in c =
    found_further (test c.args.a.now c.args.b.now) (8 * (c.args.blocks / 8)) c.args.blocks c.end_on_free_in.result (omega arith) c.end_on_free_in.ensures c.if-end_on_free_in.true

pub returns-else-end_on_free_in : goal.returns-else-end_on_free_in
unfolding end_on_free
returns-else-end_on_free_in c =
    any_range (test c.args.a.now c.args.b.now) (8 * (c.args.blocks / 8)) c.args.blocks _ _ c.any.result c.any.ensures.ran
    (λ x b q k. search (rules, tests)) (omega arith) (sym c.end_on_free_in.ensures ∙ c.if-end_on_free_in.false)
