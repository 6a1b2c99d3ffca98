-- The references that a store touches as the rules list them, and as three tests.
use mathlib.Core.Path.{◌≡◌, refl, sym, ap, ◌∙◌}
use mathlib.Core.Bool.{Bool, true, false, not, ◌&&◌, ◌||◌, or-false, or_assoc}
use mathlib.Core.List.{List, [], ◌∷◌}
use Prim.Native.Nat.{ℕ, ◌+◌}
use native.Mathlib.Omega.{arith}
use lib.Dec.{ltb, eqb}
use borrow.Author.Tests.{ne_eqb, lt-ltb, le-ltb}
use Rattle.bitmap.specs.Bit.{one}
use Rattle.rules.specs.Tools.{holding}
use Rattle.rules.specs.Heap.{Memory, is_first}
use Rattle.rules_steps.specs.Steps.{is_marked, was_marked}
use Rattle.rules.proofs.Objects.{holding_nil, holding_cons}

some_held : (x : ℕ) (l : List ℕ) (b : ℕ) → ltb 0 (holding (b + 1) (x ∷ l)) ≡ eqb x (b + 1) || ltb 0 (holding (b + 1) l)
some_held x l b =
    ap (λ (n : ℕ). ltb 0 n) (holding_cons (b + 1) x l) ∙ go (eqb x (b + 1)) (holding (b + 1) l)
  where
    go : (t : Bool) (n : ℕ) → ltb 0 (one t + n) ≡ t || ltb 0 n
    go true n = lt-ltb 0 (1 + n) (omega arith)
    go false n = let same : 0 + n ≡ n = omega arith in ap (ltb 0) same

none_held : (b : ℕ) → ltb 0 (holding (b + 1) []) ≡ false
none_held b = ap (ltb 0) (holding_nil (b + 1)) ∙ le-ltb 0 0 (omega arith)

pub three_held :
    (x y z b : ℕ) → ltb 0 (holding (b + 1) (x ∷ y ∷ z ∷ [])) ≡ (eqb x (b + 1) || eqb y (b + 1)) || eqb z (b + 1)
three_held x y z b =
    some_held x (y ∷ z ∷ []) b
    ∙ ap (λ (t : Bool). eqb x (b + 1) || t)
    (some_held y (z ∷ []) b
    ∙ ap (λ (t : Bool). eqb y (b + 1) || t)
    (some_held z [] b ∙ ap (λ (t : Bool). eqb z (b + 1) || t) (none_held b) ∙ or-false (eqb z (b + 1))))
    ∙ sym (or_assoc (eqb x (b + 1)) (eqb y (b + 1)) (eqb z (b + 1)))

-- 0 names none
pub two_held : (y z b : ℕ) → ltb 0 (holding (b + 1) (y ∷ z ∷ [])) ≡ (eqb 0 (b + 1) || eqb y (b + 1)) || eqb z (b + 1)
two_held y z b =
    ap (λ (t : Bool). t || ltb 0 (holding (b + 1) (y ∷ z ∷ []))) (sym (ne_eqb 0 (b + 1) (λ e. omega arith)))
    ∙ sym (some_held 0 (y ∷ z ∷ []) b) ∙ three_held 0 y z b

not_both : (t : Bool) → t && not t ≡ false
not_both true = refl
not_both false = refl

-- where no first block is new, what was marked is what was marked before
pub was_same :
    (N : ℕ) (h k : Memory) (touched : List ℕ) (g : Memory) (b : ℕ) → is_first N k b ≡ is_first N h b
    → was_marked N h k touched g b ≡ is_marked h b
unfolding was_marked
was_same N h k touched g b e =
    ap (λ (t : Bool). is_marked h b || (t && not (is_first N h b))) e
    ∙ ap (λ (t : Bool). is_marked h b || t) (not_both (is_first N h b)) ∙ or-false (is_marked h b)
