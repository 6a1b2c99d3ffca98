use mathlib.Core.Path.{sym, ◌∙◌}
use mathlib.Core.Bool.{Bool}
use mathlib.Core.List.{List, []}
use Prim.Native.Nat.{ℕ, ◌*◌}
use native.Mathlib.Omega.{arith}
use Rattle.std.proofs.Common.{rules}
use borrow.Author.Tests.{tests}
use Rattle.rules.specs.Heap.{memory}
use Rattle.rules.specs.Damage.{open_end}
use Rattle.check_maps.proofs.Chains.{found_further, any_range}
use Rattle.check_maps.proofs.has_open_end.Goals as goal

-- the rule's test, on what is lent
abbrev test : ℕ → (a b : List ℕ) → ℕ → Bool
test blocks a b = open_end blocks (memory a b [] [] [] [])

pub returns-then-open_end_in : goal.returns-then-open_end_in
returns-then-open_end_in c =
    found_further (test c.args.blocks c.args.a.now c.args.b.now) (8 * c.saturating_sub-bytes.result) c.args.blocks c.open_end_in.result (omega arith) c.open_end_in.ensures c.if-open_end_in.true

pub returns-else-open_end_in : goal.returns-else-open_end_in
unfolding open_end
returns-else-open_end_in c =
    any_range (test c.args.blocks c.args.a.now c.args.b.now) (8 * c.saturating_sub-bytes.result) c.args.blocks _ _ c.any.result c.any.ensures.ran
    (λ x b q k. search (rules, tests)) (omega arith) (sym c.open_end_in.ensures ∙ c.if-open_end_in.false)
