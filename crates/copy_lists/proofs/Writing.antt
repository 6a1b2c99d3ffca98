-- What the plan says, of the lists that are written or left.
use mathlib.Core.Path.{◌≡◌, refl, sym, ap, ◌∙◌}
use mathlib.Core.Bool.{Bool, true, false, true≢false, false≢true}
use mathlib.Core.List.{List}
use Prim.Native.Nat.{ℕ}
use Rattle.rules.specs.Heap.{Memory}
use Rattle.rules_copy.specs.Copy.{lay_first, lay_all, all_laid}
use Rattle.copy_plan.specs.Plan.{Planned}
use Rattle.refinement_copy.specs.Routed.{filled_lists}
use Rattle.copy_lists.specs.Written.{CopyWritten}

module _ {N : ℕ} {h : Memory} {M v met : ℕ} {sizes : ℕ → ℕ} {numbers moved : List ℕ} {r : Bool} (p : Planned M sizes met N numbers moved r)
    (plan : lay_first M sizes met ≡ lay_all N h M) where
  pub left_unwritten : r ≡ false → {g : Memory} → CopyWritten N h M v g g false
  left_unwritten e =
      record { found = sym e ∙ p.laid_all ∙ ap all_laid plan; kept = λ _. refl; filled = λ t. absurd (false≢true t) }

  pub lists_filled : r ≡ true → {g after : Memory} → after ≡ filled_lists N h M v
      → CopyWritten N h M v g after true
  lists_filled e filled =
      record { found = sym e ∙ p.laid_all ∙ ap all_laid plan; kept = λ t. absurd (true≢false t); filled = λ _. filled }
