-- What a copy leaves in the heap that it is made into, where none of its numbers applies.
use mathlib.Core.Path.{◌≡◌, refl, sym, ap, ◌∙◌, subst}
use mathlib.Core.Bool.{true, false, false≢true}
use mathlib.Core.Option.{Option, none, some}
use Prim.Native.Nat.{ℕ}
use lib.ListN.{length}
use Rattle.rules.specs.Heap.{Memory, with_counts}
use Rattle.rules_stores.specs.Store.{formatted}
use Rattle.rules_steps.specs.Steps.{is_open}
use Rattle.rules_output.specs.Walk.{numbered}
use Rattle.rules_copy.specs.Copy.{Laid, lay_all, all_laid, copy_all, copied}
use Rattle.rules_calls.specs.Calls.{settled}
use Rattle.rules_calls.proofs.Replies.{CopyPassed}
use Rattle.rules.proofs.Shape.{Shaped}
use Rattle.rules_stores.proofs.FormattedShape.{formatted_shaped}
use Rattle.theory_memories.specs.Heaps.{Intact}
use Rattle.theory_copies.specs.Copies.{ExactCopy}
use Rattle.theory_memories.proofs.Memories.Fit.{Fit}
use Rattle.theory_walks.proofs.Walks.Reached.{Named, intact_named}
use Rattle.theory_copies.proofs.Copies.Copied.{second_counts, second_is, second_fit, second_shut, second_exact}

-- every object has a place
pub there_laid : (o : Option Laid) → all_laid o ≡ true → (s : Laid) × (o ≡ some s)
unfolding all_laid
there_laid none e = absurd (false≢true e)
there_laid (some s) e = (s, refl)

module _ (N w : ℕ) (h : Memory) (shape : Shaped N w h) (K u : ℕ) (first : Memory) (p : CopyPassed N h K u first) where
  intact : Intact K u first
  intact = record { right_shape = p.right_shape; no_damage = p.no_damage }

  named : Named K first
  named = intact_named K u first intact

  empty_shaped : Shaped N w (formatted N w (length first.roots))
  empty_shaped = subst (λ (r : ℕ). Shaped N w (formatted N w r)) (sym p.as_many) (formatted_shaped N w h shape)

  abbrev laid_all : (s : Laid) × (lay_all K first N ≡ some s)
  laid_all = there_laid (lay_all K first N) p.room

  abbrev left : Memory
  left = settled N (copied K first N w)

  abbrev second : Memory
  second = settled N (with_counts (second_counts K first named N w empty_shaped laid_all.0 laid_all.1) (copy_all K first (numbered K first) laid_all.0.places N w))

  left_is : left ≡ second
  left_is = second_is K first named N w empty_shaped laid_all.0 laid_all.1

  pub copy_fit : Fit N w left
  copy_fit = subst (Fit N w) (sym left_is) (second_fit K first named N w empty_shaped laid_all.0 laid_all.1)

  -- no collection is open
  pub copy_shut : is_open N left ≡ false
  copy_shut = ap (is_open N) left_is ∙ second_shut K first named N w empty_shaped laid_all.0 laid_all.1

  pub copy_exact : ExactCopy K first N w left
  copy_exact =
      subst (ExactCopy K first N w) (sym left_is) (second_exact K first named N w empty_shaped laid_all.0 laid_all.1 u intact)
