-- `walk_reader::digits_at` meets its contract.
use mathlib.Core.Path.{refl, sym, ap, ◌∙◌}
use mathlib.Core.List.{List}
use mathlib.Core.Option.{some}
use Prim.Native.Nat.{ℕ, ◌-◌}
use native.Mathlib.Omega.{arith}
use lib.ListN.{length, take, drop}
use Rattle.rules_output.specs.Sentence.{number_from}
use Rattle.walk_reader.specs.Reader.{limited, seen_in}
use Rattle.walk_reader.proofs.Laws.{digit_more, digit_large, digits_none, digits_low, digits_high}
use Rattle.walk_reader.proofs.digits_at.Goals.{in_default, in_default-2, in_default-3}
use Rattle.walk_reader.proofs.digits_at.Goals as goal

pub loop-rest-init : goal.loop-rest-init
loop-rest-init c = (refl, omega arith)

pub returns-in_err-value : goal.returns-in_err-value
returns-in_err-value c =
    ap seen_in c.from_residual.ensures
    ∙ sym
    (c.loop-rest.invariant.0
    ∙ digit_large c.loop-rest.value c.loop-rest.rest.now (omega arith) (omega arith) (omega arith) (omega (arith, c.in_err-value.ensures)))

pub loop-rest-preserved : goal.loop-rest-preserved
loop-rest-preserved c =
    let l : List ℕ = c.loop-rest.rest.now in (
      c.loop-rest.invariant.0
          ∙ ap (λ (x : ℕ × List ℕ). limited (some x)) (digit_more c.loop-rest.value l (omega arith) (omega arith) (omega arith))
          ∙ ap (λ (k : ℕ). limited (some (number_from k (take (length l - 1) (drop 1 l))))) (sym c.in_ok-value.ensures.1),
      omega (arith, c.in_ok-value.ensures),
    )

pub returns : goal.returns
returns c =
    sym
    (c.loop-rest.invariant.0
    ∙ elim c.if-rest-lt1.branch [
      | in_default w ↦ digits_none c.loop-rest.value c.loop-rest.rest.now c.loop-rest.invariant.1 (omega arith)
      | in_default-2 w ↦ digits_low c.loop-rest.value c.loop-rest.rest.now c.loop-rest.invariant.1 (omega arith) (omega arith)
      | in_default-3 w ↦ digits_high c.loop-rest.value c.loop-rest.rest.now c.loop-rest.invariant.1 (omega arith) (omega arith)
    ])
