-- Questions with what is right and what is wrong: where a promise is an equation with what is asked, a test
-- that tells the wrong from the right shows that nothing wrong is promised.
use mathlib.Core.Path.{◌≡◌, sym, ap, subst, ◌∙◌}
use mathlib.Core.Bool.{Bool, true, not, ◌&&◌, false≢true}
use mathlib.Core.List.{List, [], ◌∷◌, map}
use lib.ListN.{get_or, drop}
use Rattle.rules.proofs.Tests.{Each, done, also, and_true}

-- what is right is promised and nothing that is wrong
abbrev pub Tells : {Q X : Type 0} → (right : Q → X) → (wrong : Q → List X) → (Promised : Q → X → Type 0) → Q → Type 0
Tells right wrong Promised q = Promised q (right q) × Each (λ x. ¬ Promised q x) (wrong q)

module _ {Q X : Type 0} (right : Q → X) (wrong : Q → List X) (same : X → X → Bool) where
  -- none of the list is the one given
  unfoldable pub none_is : X → List X → Bool
  none_is x [] = true
  none_is x (y ∷ ys) = not (same x y) && none_is x ys

  unfoldable pub wrong_differ : List Q → Bool
  wrong_differ [] = true
  wrong_differ (q ∷ qs) = none_is (right q) (wrong q) && wrong_differ qs

  -- the test passes where both sides are one; what is promised is what is asked, and this is promised
  module _ (asked : Q → X) (Promised : Q → X → Type 0) (one : (x : X) → same x x ≡ true) (promised : (q : Q) (x : X) → Promised q x → x ≡ asked q)
      (answered : (q : Q) (x : X) → asked q ≡ x → Promised q x) where
    differ : (x y : X) → not (same x y) ≡ true → x ≡ y → ⊥
    differ x y e p = false≢true (sym (ap not (subst (λ (z : X). same x z ≡ true) p (one x))) ∙ e)

    none_promised : (q : Q) (xs : List X) → asked q ≡ right q → none_is (right q) xs ≡ true → Each (λ x. ¬ Promised q x) xs
    unfolding none_is
    none_promised q [] is e = done
    none_promised q (x ∷ xs) is e =
        let both = and_true (not (same (right q) x)) (none_is (right q) xs) e in
        also (λ p. differ (right q) x both.0 (sym (promised q x p ∙ is))) (none_promised q xs is both.1)

    pub each_told : (qs : List Q) → map asked qs ≡ map right qs → wrong_differ qs ≡ true → Each (Tells right wrong Promised) qs
    unfolding wrong_differ
    each_told [] rights differs = done
    each_told (q ∷ qs) rights differs =
        let is : asked q ≡ right q = ap (λ (l : List X). get_or l 0 (asked q)) rights in
        let both = and_true (none_is (right q) (wrong q)) (wrong_differ qs) differs in
        also (answered q (right q) is, none_promised q (wrong q) is both.0) (each_told qs (ap (λ (l : List X). drop 1 l) rights) both.1)
