-- `looking::look_reply` meets its contract.
use mathlib.Core.Path.{◌≡◌, sym, ◌∙◌}
use mathlib.Core.Bool.{true}
use native.Mathlib.Omega.{arith}
use Rattle.rules.specs.Heap.{first_in}
use Rattle.rules.proofs.Objects.{first_facts}
use Rattle.test_arguments.specs.Replies.{look_reply}
use Rattle.test_arguments.proofs.looking.look_reply.Goals as goal

pub returns-then-not-is_first : goal.returns-then-not-is_first
unfolding look_reply
returns-then-not-is_first c =
    let fails = sym c.is_first.ensures ∙ c.if-not-is_first.true in
    rw (fails, look_reply) c.into.ensures

-- past the test block `at` is a first block
first-Else-not-is_first : (c : goal.Else-not-is_first) → first_in c.args.blocks c.args.a.now c.args.b.now c.args.at ≡ true
first-Else-not-is_first c = sym c.is_first.ensures ∙ c.if-not-is_first.false

pub object_size-size-requires : goal.object_size-size-requires
object_size-size-requires c = omega (arith, (first_facts _ _ _ _ (first-Else-not-is_first c)).inside)

-- past the test block `at` is a first block
first-After-get_count-count : (c : goal.After-get_count-count) → first_in c.args.blocks c.args.a.now c.args.b.now c.args.at ≡ true
first-After-get_count-count c = sym c.is_first.ensures ∙ c.if-not-is_first.false

pub returns : goal.returns
unfolding look_reply
returns c =
    rw (first-After-get_count-count c, look_reply) (λ i. record { number = 0; value = c.object_size-size.ensures.0 i; second = c.get_count-count.ensures.0 i })
