-- Lists one behind the other, each saying its own length, can be told apart again.
use mathlib.Core.Path.{◌≡◌, refl, sym, ap, ◌∙◌, subst}
use mathlib.Core.Logic.{◌≢◌}
use mathlib.Core.List.{List, [], ◌∷◌, ◌++◌, append_assoc}
use Prim.Native.Nat.{ℕ, zero, suc, ◌+◌, ◌*◌, ◌≤◌, ◌<◌}
use native.Mathlib.Decide.{ℕ_discrete}
use native.Mathlib.Omega.{arith}
use lib.ListN.{length}
use Rattle.rules_output.specs.Shape.{joined}

pub append_apart : (a b c d : List ℕ) → length a ≡ length b → a ++ c ≡ b ++ d → (a ≡ b) × (c ≡ d)
append_apart [] [] c d l e = (refl, e)
append_apart [] (y ∷ b) c d l e = absurd (omega arith)
append_apart (x ∷ a) [] c d l e = absurd (omega arith)
append_apart (x ∷ a) (y ∷ b) c d l e =
    let heads : x ≡ y = cc in
    let tails : a ++ c ≡ b ++ d = cc in
    let rest = append_apart a b c d (omega arith) tails in
    (cc rest.0, rest.1)

-- from the front
pub joined_from : (ℕ → List ℕ) → (k n : ℕ) → List ℕ
joined_from f k zero = []
joined_from f k (suc n) = f k ++ joined_from f (suc k) n

pub joined_from_lem : (f : ℕ → List ℕ) (k n : ℕ) → joined f k ++ joined_from f k n ≡ joined f (n + k)
unfolding joined joined_from
joined_from_lem f k zero = let place : k ≡ 0 + k = omega arith in nothing_behind (joined f k) ∙ ap (joined f) place
  where
    nothing_behind : (l : List ℕ) → l ++ [] ≡ l
    nothing_behind [] = refl
    nothing_behind (x ∷ l) = ap (λ (m : List ℕ). x ∷ m) (nothing_behind l)
joined_from_lem f k (suc n) =
    let place : n + suc k ≡ suc n + k = omega arith in
    sym (append_assoc (joined f k) (f k) (joined_from f (suc k) n)) ∙ joined_from_lem f (suc k) n ∙ ap (joined f) place

pub joined_front : (f : ℕ → List ℕ) (n : ℕ) → joined f n ≡ joined_from f 0 n
unfolding joined
joined_front f n = let place : n + 0 ≡ n = omega arith in sym (joined_from_lem f 0 n ∙ ap (joined f) place)

-- a size, a bit, and four numbers for each block of the size
pub record Block (l : List ℕ) : Type 0 where
  pub size : ℕ
  pub bit : ℕ
  pub rest : List ℕ
  pub is : l ≡ size ∷ bit ∷ rest
  pub long : length rest ≡ 4 * size

block_apart : (l m c d : List ℕ) → Block l → Block m → l ++ c ≡ m ++ d → (l ≡ m) × (c ≡ d)
block_apart l m c d b b' e =
    let shown : (b.size ∷ b.bit ∷ b.rest) ++ c ≡ (b'.size ∷ b'.bit ∷ b'.rest) ++ d =
    ap (λ (x : List ℕ). x ++ c) (sym b.is) ∙ e ∙ ap (λ (x : List ℕ). x ++ d) b'.is in
    let sizes : b.size ≡ b'.size = cc in
    append_apart l m c d (ap length b.is ∙ omega (arith, b.long, b'.long) ∙ sym (ap length b'.is)) e

block_some : (l c : List ℕ) → Block l → l ++ c ≢ []
block_some l c b e =
    let shown : (b.size ∷ b.bit ∷ b.rest) ++ c ≡ [] = ap (λ (x : List ℕ). x ++ c) (sym b.is) ∙ e in
    let z : ◌≡◌ {A = ℕ} 0 1 = cc in
    absurd (omega arith)

pub joined_apart :
    (f g : ℕ → List ℕ) → (k n m : ℕ) → ((i : ℕ) → Block (f i)) → ((i : ℕ) → Block (g i))
    → joined_from f k n ≡ joined_from g k m → (n ≡ m) × ((i : ℕ) → k ≤ i → i < k + n → f i ≡ g i)
unfolding joined_from
joined_apart f g k zero zero bf bg e = (refl, λ i low high. absurd (omega arith))
joined_apart f g k zero (suc m) bf bg e = absurd (block_some (g k) (joined_from g (suc k) m) (bg k) (sym e))
joined_apart f g k (suc n) zero bf bg e = absurd (block_some (f k) (joined_from f (suc k) n) (bf k) e)
joined_apart f g k (suc n) (suc m) bf bg e =
    let both = block_apart (f k) (g k) (joined_from f (suc k) n) (joined_from g (suc k) m) (bf k) (bg k) e in
    let rest = joined_apart f g (suc k) n m bf bg both.1 in
    (ap suc rest.0, λ i low high. pick i both.0 rest.1 low high)
  where
    pick : (i : ℕ) → f k ≡ g k → ((i : ℕ) → suc k ≤ i → i < suc k + n → f i ≡ g i) → k ≤ i → i < k + suc n → f i ≡ g i
    pick i here later low high = elim (ℕ_discrete k i) [ yes q ↦ subst (λ (x : ℕ). f x ≡ g x) q here | no q ↦ later i (omega arith) (omega arith) ]

pub joined_same : (f g : ℕ → List ℕ) (n : ℕ) → ((i : ℕ) → i < n → f i ≡ g i) → joined f n ≡ joined g n
unfolding joined
joined_same f g zero h = refl
joined_same f g (suc n) h = cc (joined_same f g n (λ i l. h i (omega arith)), h n (omega arith))
