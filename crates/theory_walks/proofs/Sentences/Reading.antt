-- Each sentence is read back as what it was written from.
use mathlib.Core.Path.{◌≡◌, refl, sym, ap, ◌∙◌}
use mathlib.Core.Bool.{true, false, ◌&&◌}
use mathlib.Core.List.{List, [], ◌∷◌, ◌++◌, append_assoc}
use mathlib.Core.Option.{Option, none, some, map}
use Prim.Native.Nat.{ℕ, zero, suc, ◌+◌, ◌-◌, ◌*◌, ◌/◌, ◌%◌, ◌≤◌, ◌<◌}
use native.Mathlib.Decide.{dec_lt}
use native.Mathlib.Omega.{arith}
use lib.ListN.{length, length-append}
use lib.Dec.{eqb, leb}
use borrow.Author.Tests.{eq-eqb, ne_eqb, lt-ltb, le-ltb, le-leb}
use Rattle.rules.proofs.Tests.{true_and}
use Rattle.text.specs.Text.{decimal_in, decimal}
use Rattle.rules_output.specs.Reason.{Reason, kept_by, no_chain}
use Rattle.rules_output.specs.Sentence.{cell_text, block_text, ending, links, sentence}
use Rattle.rules_output.specs.Sentence.{behind, number_from, number_at, ended, links_of, read_back}

behind_text : (t l : List ℕ) → behind t (t ++ l) ≡ some l
unfolding behind
behind_text [] l = refl
behind_text (x ∷ t) l = rw (eq-eqb x x refl, behind) (behind_text t l)

-- one digit more
digit_next : (n c : ℕ) (l : List ℕ) → c < 10 → number_from n ((48 + c) ∷ l) ≡ number_from (n * 10 + c) l
unfolding number_from
digit_next n c l h =
    let low : 48 ≤ 48 + c = omega arith in
    let high : 48 + c ≤ 57 = omega arith in
    let same : 48 + c - 48 ≡ c = omega arith in
    rw (true_and (leb 48 (48 + c)) (leb (48 + c) 57) (le-leb 48 (48 + c) low) (le-leb (48 + c) 57 high), number_from)
    (ap (λ (x : ℕ). number_from (n * 10 + x) l) same)

number_digits : (f n : ℕ) (l : List ℕ) → n < f → number_from 0 (decimal_in f n ++ l) ≡ number_from n l
unfolding decimal_in
number_digits zero n l h = absurd (omega arith)
number_digits (suc f) n l h = elim (dec_lt n 10) [
  | yes small ↦
      let same : 0 * 10 + n ≡ n = omega arith in
      rw (lt-ltb n 10 small, decimal_in) (digit_next 0 n l small ∙ ap (λ (x : ℕ). number_from x l) same)
  | no large ↦
      let digit : n % 10 < 10 = omega arith in
      let whole : n / 10 * 10 + n % 10 ≡ n = omega arith in
      rw (le-ltb n 10 (omega arith), decimal_in)
      (ap (number_from 0) (append_assoc (decimal_in f (n / 10)) ((48 + n % 10) ∷ []) l)
      ∙ number_digits f (n / 10) ((48 + n % 10) ∷ l) (omega arith)
      ∙ digit_next (n / 10) (n % 10) l digit
      ∙ ap (λ (x : ℕ). number_from x l) whole)
]

number_decimal : (n : ℕ) (l : List ℕ) → number_from 0 (decimal n ++ l) ≡ number_from n l
unfolding decimal
number_decimal n l = number_digits (suc n) n l (omega arith)

-- the first digit is not 0
record Headed (l : List ℕ) : Type 0 where
  first : ℕ
  rest : List ℕ
  is : l ≡ first ∷ rest
  low : 49 ≤ first
  high : first ≤ 57

digits_headed : (f n : ℕ) → n < f → 1 ≤ n → Headed (decimal_in f n)
unfolding decimal_in
digits_headed zero n h l = absurd (omega arith)
digits_headed (suc f) n h l = elim (dec_lt n 10) [
  | yes small ↦ record { first = 48 + n; rest = []; is = rw (lt-ltb n 10 small, decimal_in) refl; low = omega arith; high = omega arith }
  | no large ↦
      let before = digits_headed f (n / 10) (omega arith) (omega arith) in
      record {
        first = before.first;
        rest = before.rest ++ ((48 + n % 10) ∷ []);
        is = rw (le-ltb n 10 (omega arith), decimal_in) (ap (λ (x : List ℕ). x ++ ((48 + n % 10) ∷ [])) before.is);
        low = before.low;
        high = before.high;
      }
]

headed_read : (l : List ℕ) → Headed l → (m : List ℕ) → number_at (l ++ m) ≡ some (number_from 0 (l ++ m))
unfolding number_at
headed_read l h m =
    let c = h.first in
    let other : eqb c 48 ≡ false = ne_eqb c 48 (λ e. omega (arith, h.low)) in
    let digit : (leb 48 c && leb c 57) ≡ true = true_and (leb 48 c) (leb c 57) (le-leb 48 c (omega (arith, h.low))) (le-leb c 57 h.high) in
    rw h.is (rw (other, number_at) (rw digit refl))

-- behind a number stands a byte that is no digit
number_read : (n c : ℕ) (l : List ℕ) → number_from n (c ∷ l) ≡ (n, c ∷ l) → number_at (decimal n ++ (c ∷ l)) ≡ some (n, c ∷ l)
unfolding decimal decimal_in number_at
number_read zero c l stop = refl
number_read (suc n) c l stop =
    headed_read (decimal_in (suc (suc n)) (suc n)) (digits_headed (suc (suc n)) (suc n) (omega arith) (omega arith)) (c ∷ l)
    ∙ ap some (number_digits (suc (suc n)) (suc n) (c ∷ l) (omega arith) ∙ stop)

ending_read : (a : ℕ) → ended (number_at (ending a)) ≡ some a
unfolding ended number_from
ending_read a = ap ended (number_read a 10 [] refl)

-- links begin with a space, which ends the number before them
links_number : (n : ℕ) (js : List ℕ) (a : ℕ) → number_at (decimal n ++ links js a) ≡ some (n, links js a)
unfolding links number_from
links_number n [] a = number_read n 32 _ refl
links_number n (j ∷ js) a = number_read n 32 _ refl

links_read : (f : ℕ) (js : List ℕ) (a : ℕ) → length js < f → links_of f (links js a) ≡ some (js, a)
unfolding links_of links behind
links_read zero js a h = absurd (omega arith)
links_read (suc f) [] a h = ap (map (λ (b : ℕ). ([], b))) (ending_read a)
links_read (suc f) (j ∷ js) a h =
    ap (λ (y : Option (ℕ × List ℕ)). elim y [ some x ↦ map (λ y. (x.0 ∷ y.0, y.1)) (links_of f x.1) | none ↦ none ]) (links_number j js a)
    ∙ ap (map (λ (y : List ℕ × ℕ). (j ∷ y.0, y.1))) (links_read f js a (omega arith))

links_long : (js : List ℕ) (a : ℕ) → length js < length (links js a)
unfolding links
links_long [] a = omega (arith, length-append block_text (ending a))
links_long (j ∷ js) a = omega (arith, length-append cell_text (decimal j ++ links js a), length-append (decimal j) (links js a), links_long js a)

pub read_sentence : (x : Reason) (a : ℕ) → read_back (sentence x a) ≡ some (x, a)
unfolding read_back sentence behind
read_sentence no_chain a = ap (map (λ (b : ℕ). (no_chain, b))) (ending_read a)
read_sentence (kept_by r js) a =
    ap (λ (y : Option (ℕ × List ℕ)). elim y [ some x ↦ map (λ y. (kept_by x.0 y.0, y.1)) (links_of (length x.1) x.1) | none ↦ none ]) (links_number r js a)
    ∙ ap (map (λ (y : List ℕ × ℕ). (kept_by r y.0, y.1))) (links_read (length (links js a)) js a (links_long js a))

-- "Each sentence can be read back in only one way."
pub sentence_one : (x y : Reason) (a b : ℕ) → sentence x a ≡ sentence y b → (x ≡ y) × (a ≡ b)
sentence_one x y a b e =
    let same : ◌≡◌ {A = Option (Reason × ℕ)} (some (x, a)) (some (y, b)) = sym (read_sentence x a) ∙ ap read_back e ∙ read_sentence y b in
    let apart : ◌≡◌ {A = Reason × ℕ} (x, a) (y, b) = cc in
    (ap (λ (p : Reason × ℕ). p.0) apart, ap (λ (p : Reason × ℕ). p.1) apart)
