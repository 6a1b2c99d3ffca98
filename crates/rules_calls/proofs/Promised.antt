-- The promise of a call whose answer is known, and that of a copy in both heaps' lists.
use mathlib.Core.Path.{◌≡◌, refl, sym, ap, ◌∙◌}
use mathlib.Core.Bool.{Bool, true, false, not, ◌&&◌}
use mathlib.Core.List.{List, ◌∷◌}
use Prim.Native.Nat.{ℕ}
use native.Mathlib.Decide.{ℕ_discrete}
use lib.ListN.{length}
use lib.Dec.{eqb}
use Rattle.rules.specs.Tools.{first_number}
use Rattle.rules.specs.Heap.{Memory, shaped}
use Rattle.rules.specs.Damage.{damage}
use Rattle.rules_calls.specs.Calls.{Call, copy_from, copy_into, Answer, own_refusals, refusals, refused_with, refused, outcome, answer}
use Rattle.rules_calls.specs.Promise.{Promise, CopyPromise}
use Rattle.types.specs.declared.Reply.{Reply}
use Rattle.rules.proofs.Tests.{eqb_either_way}
use Rattle.rules_calls.proofs.Replies.{none_applies, one_applies}

pub promised :
    (N w : ℕ) (h : Memory) (c : Call) (y : Answer) → answer N w h c ≡ y → (x : Reply) (g : Memory) → x ≡ y.0 → g ≡ y.1
    → Promise N w c h x g
promised N w h c y e x g reply after =
    record { reply_is = reply ∙ ap (λ (z : Answer). z.0) (sym e); after_is = after ∙ ap (λ (z : Answer). z.1) (sym e) }

-- ---- request U14

module _ (N w : ℕ) (first : Memory) (M v : ℕ) (second : Memory) where
  -- both shapes and as many roots are 1; what is tested then is the first heap
  same_tests : (s t e : Bool) (more : List (ℕ × Bool))
      → first_number ((1, not ((t && e) && s)) ∷ more) ≡ first_number ((1, not ((s && e) && t)) ∷ (2, false) ∷ (11, false) ∷ (13, false) ∷ more)
  unfolding first_number
  same_tests true true true more = refl
  same_tests true true false more = refl
  same_tests false true true more = refl
  same_tests false true false more = refl
  same_tests true false true more = refl
  same_tests true false false more = refl
  same_tests false false true more = refl
  same_tests false false false more = refl

  same_number : refused_with N w first (copy_into M v second) ≡ refused_with M v second (copy_from N w first)
  unfolding refused_with refusals own_refusals
  same_number =
      rw (eqb_either_way (length first.roots) (length second.roots), refused_with, refusals)
      (same_tests (shaped N w first) (shaped M v second) (eqb (length second.roots) (length first.roots)) _)

  -- a copy has one reply in both heaps' lists, and the first heap "is only read"
  pub copy_in_both : answer N w first (copy_into M v second) ≡ ((answer M v second (copy_from N w first)).0, first)
  unfolding outcome
  copy_in_both = elim (ℕ_discrete (refused_with M v second (copy_from N w first)) 0) [
    | yes e ↦
        none_applies N w first (copy_into M v second) (same_number ∙ e)
        ∙ ap {B = Answer} (λ (x : Answer). (x.0, first)) (sym (none_applies M v second (copy_from N w first) e))
    | no n ↦
        one_applies N w first (copy_into M v second) (λ e. n (sym same_number ∙ e))
        ∙ ap (refused (damage N w first) first) same_number
        ∙ ap {B = Answer} (λ (x : Answer). (x.0, first)) (sym (one_applies M v second (copy_from N w first) n))
  ]

  -- what is promised of the second heap is enough
  pub copy_promised :
      (x : Reply) (after : Memory) → Promise M v (copy_from N w first) second x after → CopyPromise N w first M v second x first after
  copy_promised x after p = record { first_heap = promised N w first (copy_into M v second) _ copy_in_both x first p.reply_is refl; second_heap = p }
