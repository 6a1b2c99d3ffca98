use mathlib.Core.Path.{◌≡◌}
use mathlib.Core.Bool.{Bool, false}
use mathlib.Core.List.{[]}
use Prim.Native.Nat.{ℕ, ◌+◌, ◌-◌, ◌%◌, ◌≤◌, ◌<◌}
use native.Mathlib.Decide.{dec_lt}
use native.Mathlib.Omega.{arith}
use lib.Count.{count_trailing_zeros, trailing_le}
use Rattle.count_up.specs.Ready.{part_memory}
use Rattle.collect_sweep.specs.Sweep.{is_unmarked}
use Rattle.collect_sweep.proofs.Unmarked.{rest_at, rest_none, rest_inside, rest_here, rest_before}
use Rattle.collect_sweep.proofs.next_unmarked.Goals.{After-unmarked_byte}
use Rattle.collect_sweep.proofs.next_unmarked.Goals as goal

pub loop-at-init : goal.loop-at-init
loop-at-init c = (omega arith, omega arith, λ j l u. absurd (omega arith))

pub unmarked_byte-requires : goal.unmarked_byte-requires
unmarked_byte-requires c =
    (c.requires.0, c.requires.1, c.requires.2, omega (arith, c.requires.0.eighths))

pub overflow_cast-result : goal.overflow_cast-result
overflow_cast-result c =
    omega (arith, trailing_le 8 (rest_at c.unmarked_byte.result c.loop-at.at))

-- the test at a block
abbrev test : (c : After-unmarked_byte) → ℕ → Bool
test c = is_unmarked c.args.blocks c.args.width (part_memory c.args.a.now c.args.b.now c.args.counts.now [] [] [])

pub overflow_add-result : goal.overflow_add-result
overflow_add-result c =
    omega (
      arith,
      rest_inside (test (goal.at.overflow_add-result c).After-unmarked_byte) c.loop-at.at c.unmarked_byte.result (omega arith) c.unmarked_byte.ensures c.if-rest-ne0.true,
    )

-- a block that is passed, in an earlier turn or in this one
passed : (c : After-unmarked_byte) → (to : ℕ)
    → ((j : ℕ) → c.loop-at.at ≤ j → j < to → test c j ≡ false)
    → (j : ℕ) → c.args.i ≤ j → j < to → test c j ≡ false
passed c to now j l u = elim (dec_lt j c.loop-at.at) [ yes s ↦ c.loop-at.invariant.2 j l s | no s ↦ now j (omega arith) u ]

pub returns-then-rest-ne0 : goal.returns-then-rest-ne0
returns-then-rest-ne0 c =
    let x = c.unmarked_byte.result in
    let inside = rest_inside (test (goal.at.returns-then-rest-ne0 c).After-unmarked_byte) c.loop-at.at x (omega arith) c.unmarked_byte.ensures c.if-rest-ne0.true in
    record {
      from = omega arith;
      inside = omega (arith, inside, c.requires.0.eighths);
      none_before =
          passed (goal.at.returns-then-rest-ne0 c).After-unmarked_byte (c.loop-at.at + count_trailing_zeros 8 (rest_at x c.loop-at.at)) (rest_before (test (goal.at.returns-then-rest-ne0 c).After-unmarked_byte) c.loop-at.at x (omega arith) c.unmarked_byte.ensures c.if-rest-ne0.true);
      here = rest_here (test (goal.at.returns-then-rest-ne0 c).After-unmarked_byte) c.loop-at.at x (omega arith) c.unmarked_byte.ensures c.if-rest-ne0.true;
    }

pub overflow_add-at : goal.overflow_add-at
overflow_add-at c =
    omega (arith, c.requires.0.eighths)

pub loop-at-preserved : goal.loop-at-preserved
loop-at-preserved c = (
  omega arith,
  omega (arith, c.requires.0.eighths),
  passed (goal.at.loop-at-preserved c).After-unmarked_byte (c.loop-at.at + (8 - c.loop-at.at % 8))
      (rest_none (test (goal.at.loop-at-preserved c).After-unmarked_byte) c.loop-at.at c.unmarked_byte.result (omega arith) c.unmarked_byte.ensures c.if-rest-ne0.false),
)

pub returns : goal.returns
returns c = λ j p q. c.loop-at.invariant.2 j p (omega arith)
