-- What is read back is a sentence.
use mathlib.Core.Path.{◌≡◌, refl, sym, ap, ◌∙◌}
use mathlib.Core.Logic.{◌≢◌, inl, inr}
use mathlib.Core.Bool.{Bool, true, false, ◌&&◌}
use mathlib.Core.List.{List, [], ◌∷◌, ◌++◌, append_assoc}
use mathlib.Core.Option.{Option, none, some, map, none-ne-some, some-injective}
use Prim.Native.Nat.{ℕ, zero, suc, ◌+◌, ◌-◌, ◌*◌, ◌/◌, ◌%◌, ◌≤◌, ◌<◌}
use native.Mathlib.Decide.{ℕ_discrete, dec_lt}
use native.Mathlib.Omega.{arith}
use lib.ListN.{length}
use lib.Dec.{leb}
use borrow.Author.Tests.{eq-eqb, ne_eqb, lt-ltb, le-ltb, leb-true}
use Rattle.rules.proofs.Tests.{test_cases_lem, and_true}
use Rattle.text.specs.Text.{decimal_in, decimal}
use Rattle.rules_output.specs.Reason.{Reason, kept_by, no_chain}
use Rattle.rules_output.specs.Sentence.{root_text, cell_text, block_text, no_root_text, ending, links, sentence}
use Rattle.rules_output.specs.Sentence.{behind, number_from, number_at, ended, links_of, read_back}

behind_exact : (t l m : List ℕ) → behind t l ≡ some m → l ≡ t ++ m
unfolding behind
behind_exact [] l m e = cc
behind_exact (x ∷ t) [] m e = let z : ◌≡◌ {A = ℕ} 0 1 = cc in absurd (omega arith)
behind_exact (x ∷ t) (y ∷ l) m e = elim (ℕ_discrete x y) [
  | yes q ↦ let rest = behind_exact t l m (rw (eq-eqb x y q, behind) at e) in cc (rest, q)
  | no d ↦ let z : ◌≡◌ {A = ℕ} 0 1 = cc (rw (ne_eqb x y d, behind) at e) in absurd (omega arith)
]

-- enough fuel is enough
digits_fuel : (f g n : ℕ) → n < f → n < g → decimal_in f n ≡ decimal_in g n
unfolding decimal_in
digits_fuel zero g n h k = absurd (omega arith)
digits_fuel (suc f) zero n h k = absurd (omega arith)
digits_fuel (suc f) (suc g) n h k = elim (dec_lt n 10) [
  | yes small ↦ rw (lt-ltb n 10 small, decimal_in) refl
  | no large ↦ rw (le-ltb n 10 (omega arith), decimal_in) (ap (λ (x : List ℕ). x ++ ((48 + n % 10) ∷ [])) (digits_fuel f g (n / 10) (omega arith) (omega arith)))
]

decimal_push : (n c m : ℕ) → 1 ≤ n → c < 10 → m ≡ n * 10 + c → decimal m ≡ decimal n ++ ((48 + c) ∷ [])
unfolding decimal decimal_in
decimal_push n c m l h e =
    let quotient : m / 10 ≡ n = omega arith in
    let digit : m % 10 ≡ c = omega arith in
    rw (le-ltb m 10 (omega arith), decimal_in)
    (rw (quotient, digit) (ap (λ (x : List ℕ). x ++ ((48 + c) ∷ [])) (digits_fuel m (suc n) n (omega arith) (omega arith))))

decimal_digit : (c : ℕ) → c < 10 → decimal c ≡ (48 + c) ∷ []
unfolding decimal decimal_in
decimal_digit c h = rw (lt-ltb c 10 h, decimal_in) refl

number_back : (n : ℕ) (l : List ℕ) → 1 ≤ n → decimal n ++ l ≡ decimal (number_from n l).0 ++ (number_from n l).1
unfolding number_from
number_back n [] h = refl
number_back n (c ∷ l) h = go (λ m low. number_back m l low) (leb 48 c && leb c 57) refl
  where
    go : ((m : ℕ) → 1 ≤ m → decimal m ++ l ≡ decimal (number_from m l).0 ++ (number_from m l).1) → (t : Bool) → (leb 48 c && leb c 57) ≡ t
        → let x : ℕ × List ℕ = elim t [ true ↦ number_from (n * 10 + (c - 48)) l | false ↦ (n, c ∷ l) ] in decimal n ++ (c ∷ l) ≡ decimal x.0 ++ x.1
    go rec false q = refl
    go rec true q =
        let both = and_true (leb 48 c) (leb c 57) q in
        let low = leb-true 48 c both.0 in
        let high = leb-true c 57 both.1 in
        let byte : 48 + (c - 48) ≡ c = omega arith in
        let pushed : decimal (n * 10 + (c - 48)) ≡ decimal n ++ ((48 + (c - 48)) ∷ []) = decimal_push n (c - 48) (n * 10 + (c - 48)) h (omega arith) refl in
        sym (append_assoc (decimal n) (c ∷ []) l)
        ∙ ap (λ (x : List ℕ). x ++ l) (ap (λ (b : ℕ). decimal n ++ (b ∷ [])) (sym byte) ∙ sym pushed)
        ∙ rec (n * 10 + (c - 48)) (omega arith)

number_step : (c : ℕ) (l : List ℕ) → (leb 48 c && leb c 57) ≡ true → number_from 0 (c ∷ l) ≡ number_from (0 * 10 + (c - 48)) l
unfolding number_from
number_step c l t = rw (t, number_from) refl

number_exact : (l : List ℕ) (x : ℕ × List ℕ) → number_at l ≡ some x → l ≡ decimal x.0 ++ x.1
unfolding number_at
number_exact [] x e = let z : ◌≡◌ {A = ℕ} 0 1 = cc in absurd (omega arith)
number_exact (c ∷ l) x e = elim (ℕ_discrete c 48) [
  | yes q ↦
      let is : x ≡ (0, l) = cc (rw (eq-eqb c 48 q, number_at) at e) in
      ap (λ (b : ℕ). b ∷ l) q ∙ sym (ap (λ (y : ℕ × List ℕ). decimal y.0 ++ y.1) is ∙ ap (λ (y : List ℕ). y ++ l) (decimal_digit 0 (omega arith)))
  | no d ↦ elim (test_cases_lem (leb 48 c && leb c 57)) [
    | inl t ↦
        let is : x ≡ number_from 0 (c ∷ l) = cc (rw (ne_eqb c 48 d, number_at) at e, t) in
        first is t d
    | inr t ↦ let z : ◌≡◌ {A = ℕ} 0 1 = cc (rw (ne_eqb c 48 d, number_at) at e, t) in absurd (omega arith)
  ]
]
  where
    first : x ≡ number_from 0 (c ∷ l) → (leb 48 c && leb c 57) ≡ true → c ≢ 48 → c ∷ l ≡ decimal x.0 ++ x.1
    first is t d =
        let both = and_true (leb 48 c) (leb c 57) t in
        let low = leb-true 48 c both.0 in
        let high = leb-true c 57 both.1 in
        let byte : 48 + (c - 48) ≡ c = omega arith in
        let start : 0 * 10 + (c - 48) ≡ c - 48 = omega arith in
        let whole : x ≡ number_from (c - 48) l = is ∙ number_step c l t ∙ ap (λ (n : ℕ). number_from n l) start in
        ap (λ (b : ℕ). b ∷ l) (sym byte)
        ∙ ap (λ (y : List ℕ). y ++ l) (sym (decimal_digit (c - 48) (omega arith)))
        ∙ number_back (c - 48) l (omega arith)
        ∙ sym (ap (λ (y : ℕ × List ℕ). decimal y.0 ++ y.1) whole)

ended_exact : (l : List ℕ) (a : ℕ) → ended (number_at l) ≡ some a → l ≡ ending a
unfolding ended
ended_exact l a e = go (number_at l) refl e
  where
    nothing : none ≡ some a → ⊥
    nothing q = let z : ◌≡◌ {A = ℕ} 0 1 = cc in absurd (omega arith)

    go : (x : Option (ℕ × List ℕ)) → number_at l ≡ x → ended x ≡ some a → l ≡ ending a
    go none q e = absurd (nothing e)
    go (some (n, [])) q e = absurd (nothing e)
    go (some (n, c ∷ b ∷ k)) q e = absurd (nothing e)
    go (some (n, c ∷ [])) q e = elim (ℕ_discrete c 10) [
      | yes s ↦
          let same : n ≡ a = cc (rw (eq-eqb c 10 s, ended) at e) in
          number_exact l (n, c ∷ []) q ∙ ap (λ (b : ℕ). decimal n ++ (b ∷ [])) s ∙ ap (λ (m : ℕ). decimal m ++ (10 ∷ [])) same
      | no d ↦ absurd (nothing (rw (ne_eqb c 10 d, ended) at e))
    ]

-- what a map gives comes from something
mapped : {A B : Type 0} (f : A → B) (x : Option A) (y : B) → map f x ≡ some y → (z : A) × (x ≡ some z) × (f z ≡ y)
mapped f none y e = absurd (none-ne-some y e)
mapped f (some z) y e = (z, refl, some-injective (f z) y e)

links_exact : (f : ℕ) (l js : List ℕ) (a : ℕ) → links_of f l ≡ some (js, a) → l ≡ links js a
unfolding links_of links
links_exact zero l js a e = absurd (none-ne-some _ e)
links_exact (suc f) l js a e = go (λ k js a q. links_exact f k js a q) (behind cell_text l) refl e
  where
    last : (x : Option (List ℕ)) → behind block_text l ≡ x
        → ◌≡◌ {A = Option (List ℕ × ℕ)} (elim x [ some m ↦ map (λ b. ([], b)) (ended (number_at m)) | none ↦ none ]) (some (js, a)) → l ≡ links js a
    last none q e = absurd (none-ne-some _ e)
    last (some m) q e =
        let parts = mapped {B = List ℕ × ℕ} (λ b. ([], b)) (ended (number_at m)) (js, a) e in
        behind_exact block_text l m q ∙ ap (λ (x : List ℕ). block_text ++ x) (ended_exact m parts.0 parts.1)
        ∙ ap (λ (x : List ℕ × ℕ). links x.0 x.1) parts.2

    cell : ((k js : List ℕ) (a : ℕ) → links_of f k ≡ some (js, a) → k ≡ links js a) → (m : List ℕ) → behind cell_text l ≡ some m
        → (y : Option (ℕ × List ℕ)) → number_at m ≡ y
        → ◌≡◌ {A = Option (List ℕ × ℕ)} (elim y [ some x ↦ map (λ y. (x.0 ∷ y.0, y.1)) (links_of f x.1) | none ↦ none ]) (some (js, a)) → l ≡ links js a
    cell rec m q none r e = absurd (none-ne-some _ e)
    cell rec m q (some (j, k)) r e =
        let parts = mapped {B = List ℕ × ℕ} (λ (y : List ℕ × ℕ). (j ∷ y.0, y.1)) (links_of f k) (js, a) e in
        behind_exact cell_text l m q
        ∙ ap (λ (x : List ℕ). cell_text ++ x)
        (number_exact m (j, k) r ∙ ap (λ (x : List ℕ). decimal j ++ x) (rec k parts.0.0 parts.0.1 parts.1))
        ∙ ap (λ (x : List ℕ × ℕ). links x.0 x.1) parts.2

    go : ((k js : List ℕ) (a : ℕ) → links_of f k ≡ some (js, a) → k ≡ links js a) → (x : Option (List ℕ)) → behind cell_text l ≡ x
        → ◌≡◌ {A = Option (List ℕ × ℕ)} (elim x [
          | some m ↦ elim (number_at m) [ some x ↦ map (λ y. (x.0 ∷ y.0, y.1)) (links_of f x.1) | none ↦ none ]
          | none ↦ elim (behind block_text l) [ some m ↦ map (λ b. ([], b)) (ended (number_at m)) | none ↦ none ]
        ]) (some (js, a)) → l ≡ links js a
    go rec (some m) q e = cell rec m q (number_at m) refl e
    go rec none q e = last (behind block_text l) refl e

-- only sentences are read
pub read_exact : (l : List ℕ) (y : Reason) (a : ℕ) → read_back l ≡ some (y, a) → l ≡ sentence y a
unfolding read_back sentence
read_exact l y a e = go (behind no_root_text l) refl e
  where
    number : (m : List ℕ) → behind root_text l ≡ some m → (z : Option (ℕ × List ℕ)) → number_at m ≡ z
        → ◌≡◌ {A = Option (Reason × ℕ)} (elim z [ some x ↦ map (λ y. (kept_by x.0 y.0, y.1)) (links_of (length x.1) x.1) | none ↦ none ]) (some (y, a)) → l ≡ sentence y a
    number m q none r e = absurd (none-ne-some _ e)
    number m q (some (n, k)) r e =
        let parts = mapped {B = Reason × ℕ} (λ (x : List ℕ × ℕ). (kept_by n x.0, x.1)) (links_of (length k) k) (y, a) e in
        behind_exact root_text l m q
        ∙ ap (λ (x : List ℕ). root_text ++ x)
        (number_exact m (n, k) r ∙ ap (λ (x : List ℕ). decimal n ++ x) (links_exact (length k) k parts.0.0 parts.0.1 parts.1))
        ∙ ap (λ (x : Reason × ℕ). sentence x.0 x.1) parts.2

    root : (x : Option (List ℕ)) → behind root_text l ≡ x
        → ◌≡◌ {A = Option (Reason × ℕ)} (elim x [
          | some m ↦ elim (number_at m) [ some x ↦ map (λ y. (kept_by x.0 y.0, y.1)) (links_of (length x.1) x.1) | none ↦ none ]
          | none ↦ none
        ]) (some (y, a)) → l ≡ sentence y a
    root none q e = absurd (none-ne-some _ e)
    root (some m) q e = number m q (number_at m) refl e

    go : (x : Option (List ℕ)) → behind no_root_text l ≡ x
        → ◌≡◌ {A = Option (Reason × ℕ)} (elim x [
          | some m ↦ map (λ b. (no_chain, b)) (ended (number_at m))
          | none ↦ elim (behind root_text l) [
            | some m ↦ elim (number_at m) [ some x ↦ map (λ y. (kept_by x.0 y.0, y.1)) (links_of (length x.1) x.1) | none ↦ none ]
            | none ↦ none
          ]
        ]) (some (y, a)) → l ≡ sentence y a
    go none q e = root (behind root_text l) refl e
    go (some m) q e =
        let parts = mapped {B = Reason × ℕ} (λ b. (no_chain, b)) (ended (number_at m)) (y, a) e in
        behind_exact no_root_text l m q ∙ ap (λ (x : List ℕ). no_root_text ++ x) (ended_exact m parts.0 parts.1)
        ∙ ap (λ (x : Reason × ℕ). sentence x.0 x.1) parts.2
