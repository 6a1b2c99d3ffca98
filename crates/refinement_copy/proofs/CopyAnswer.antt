-- The promise of a copy, from what its tests said and what its work left.
use mathlib.Core.Path.{◌≡◌, refl, sym, ap, ◌∙◌}
use mathlib.Core.Logic.{◌≢◌}
use mathlib.Core.Bool.{Bool, true, false, not, ◌&&◌}
use mathlib.Core.List.{List, [], ◌∷◌, ◌++◌}
use mathlib.Core.Option.{some}
use Prim.Native.Nat.{ℕ, ◌-◌}
use native.Mathlib.Omega.{arith}
use lib.Dec.{eqb}
use lib.ListN.{length}
use borrow.Author.Tests.{eq-eqb}
use Rattle.bitmap.specs.Bit.{zeros}
use Rattle.types.specs.declared.Reply.{Reply}
use Rattle.rules.specs.Tools.{first_number}
use Rattle.rules.specs.Heap.{Memory, shaped}
use Rattle.rules.specs.Damage.{damage}
use Rattle.rules.specs.Sections.{stale_figures}
use Rattle.rules_steps.specs.Steps.{is_open, is_untidy}
use Rattle.rules_copy.specs.Copy.{Laid, lay_all, all_laid, copied}
use Rattle.rules_calls.specs.Calls.{collect, copy_from, copy_into, Answer, reply, other_shaped, own_refusals, refusals, refused_with, refused, settled, outcome, answer}
use Rattle.rules_calls.specs.Promise.{Promise}
use Rattle.rules.proofs.Tests.{true_and, first_past, first_found}
use Rattle.rules_calls.proofs.Replies.{number_is, none_applies, one_applies, refused_with_lem, CopyPassed, Passed, passed_own, copy_number}
use Rattle.rules_calls.proofs.Promised.{promised, copy_in_both}
use Rattle.theory_memories.specs.Heaps.{Undamaged}

-- ---- refusals of the heaps

-- tests behind those that found a number
first_more : (ks more : List (ℕ × Bool)) → first_number ks ≢ 0 → first_number (ks ++ more) ≡ first_number ks
unfolding first_number
first_more [] more found = absurd (found refl)
first_more ((k, true) ∷ ks) more found = refl
first_more ((k, false) ∷ ks) more found = first_more ks more found

module _ {N w : ℕ} {h : Memory} {M v : ℕ} {g : Memory} where
  -- a heap is not as it has to be, or the roots are not as many
  pub copy_misshapen : {x : Reply} → other_shaped g (copy_from N w h) && shaped M v g ≡ false → x ≡ reply 1 0 0 → Promise M v (copy_from N w h) g x g
  unfolding refused_with refusals
  copy_misshapen {x} fails x_is =
      promised M v g (copy_from N w h) (reply 1 0 0, g)
      (refused_with_lem M v g (copy_from N w h) 1 (omega arith) (first_found 1 (not (other_shaped g (copy_from N w h) && shaped M v g)) _ (ap not fails)))
      x g x_is refl

  -- what a collection of the first heap is refused with, a copy of it is
  pub copy_refused : {x : Reply} → shaped M v g ≡ true → length h.roots ≡ length g.roots → Promise N w collect h x h → x.number ≢ 0
      → Promise M v (copy_from N w h) g x g
  unfolding refused_with refusals own_refusals
  copy_refused {x} fits as_many promise fails =
      let other : other_shaped h (copy_into M v g) ≡ true =
      true_and (shaped M v g) (eqb (length h.roots) (length g.roots)) fits (eq-eqb (length h.roots) (length g.roots) as_many) in
      let n : refused_with N w h collect ≢ 0 =
      λ e. fails (ap (λ (y : Reply). y.number) promise.reply_is ∙ number_is N w h collect ∙ e) in
      let same : refused_with N w h (copy_into M v g) ≡ refused_with N w h collect =
      rw (other, refused_with, refusals) (first_more (refusals N w h collect) ((17, not (all_laid (lay_all N h M))) ∷ []) n) in
      let into : answer N w h (copy_into M v g) ≡ answer N w h collect =
      one_applies N w h (copy_into M v g) (λ e. n (sym same ∙ e)) ∙ ap (refused (damage N w h) h) same ∙ sym (one_applies N w h collect n) in
      record {
        reply_is = promise.reply_is ∙ ap (λ (y : Answer). y.0) (sym into ∙ copy_in_both N w h M v g);
        after_is = sym (ap (λ (y : Answer). y.1) (one_applies M v g (copy_from N w h) (λ e. fails (number_zero into e))));
      }
    where
      number_zero : answer N w h (copy_into M v g) ≡ answer N w h collect → refused_with M v g (copy_from N w h) ≡ 0 → x.number ≡ 0
      number_zero into e =
          ap (λ (y : Reply). y.number) (promise.reply_is ∙ ap (λ (y : Answer). y.0) (sym into ∙ copy_in_both N w h M v g))
          ∙ number_is M v g (copy_from N w h) ∙ e

  -- ---- the plan

  module _ (u : Undamaged N w h) (shut : is_open N h ≡ false) (fits : shaped M v g ≡ true) (as_many : length h.roots ≡ length g.roots) where
    -- an object finds no chunk
    pub copy_nowhere : {x : Reply} → all_laid (lay_all N h M) ≡ false → x ≡ reply 17 0 0 → Promise M v (copy_from N w h) g x g
    unfolding own_refusals
    copy_nowhere {x} missed x_is =
        promised M v g (copy_from N w h) (reply 17 0 0, g)
        (refused_with_lem M v g (copy_from N w h) 17 (omega arith)
        (copy_number M v g fits N w h u.intact.right_shape as_many
        ∙ first_past 2 (not (eqb (damage N w h) 0)) _ (ap not (eq-eqb (damage N w h) 0 u.intact.no_damage))
        ∙ first_past 11 (stale_figures N h.a h.sections) _ u.true_list
        ∙ first_past 13 (is_untidy N h) _ u.tidy
        ∙ first_past 14 (is_open N h) _ shut
        ∙ first_found 17 (not (all_laid (lay_all N h M))) _ (ap not missed)))
        x g x_is refl

    -- all have their places, and the second heap is the rule's
    pub copy_done :
        {laid : Laid} → lay_all N h M ≡ some laid → {x : Reply} {after : Memory} → after ≡ settled M (copied N h M v)
        → x ≡ reply 0 (M - zeros after.a) 0 → Promise M v (copy_from N w h) g x after
    unfolding Passed outcome all_laid
    copy_done {laid} all {x} {after} left x_is =
        let p : CopyPassed M g N w h =
        record {
          right_shape = u.intact.right_shape;
          as_many = as_many;
          no_damage = u.intact.no_damage;
          true_list = u.true_list;
          tidy = u.tidy;
          none_open = shut;
          room = ap all_laid all;
        } in
        promised M v g (copy_from N w h) _
        (none_applies M v g (copy_from N w h) (copy_number M v g fits N w h u.intact.right_shape as_many ∙ passed_own M g (copy_from N w h) p)) x after
        (x_is ∙ ap (λ (m : Memory). reply 0 (M - zeros m.a) 0) left) left
