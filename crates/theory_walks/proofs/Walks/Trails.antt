-- The walk with where each object was first met: its words are chains, they rise, and each is the least that
-- leads to its object.
use mathlib.Core.Path.{◌≡◌, refl, sym, ap, ◌∙◌}
use mathlib.Core.Logic.{◌≢◌, ◌⊎◌, inl, inr}
use mathlib.Core.Bool.{Bool, true, false, not, ◌||◌}
use mathlib.Core.List.{List, [], ◌∷◌}
use Prim.Native.Nat.{ℕ, zero, suc, ◌+◌, ◌≤◌, ◌<◌}
use native.Mathlib.Decide.{ℕ_discrete}
use native.Mathlib.Omega.{arith}
use lib.ListN.{length, get_or}
use lib.Dec.{eqb}
use borrow.Author.Tests.{eq-eqb, ne_eqb}
use Rattle.rules_output.specs.Walk.{number_in, object_at, meet, meet_each, walk}
use Rattle.theory_walks.specs.Trail.{Entry, entry, met_in, meet_at, meet_each_at, trail, links_to}
use Rattle.theory_walks.proofs.Walks.Numbers.{number_le, number_same, number_other}
use Rattle.theory_walks.proofs.Walks.Words.{Before, empty, earlier, lower, AtMost}

pub met_length : (l : List Entry) → length (met_in l) ≡ length l
unfolding met_in
met_length [] = refl
met_length (e ∷ l) = ap suc (met_length l)

pub word_same : (e : Entry) (l : List Entry) (n : ℕ) → n ≡ suc (length l) → links_to (e ∷ l) n ≡ e.cell ∷ links_to l e.owner
unfolding links_to
word_same e l n q = rw (eq-eqb n (suc (length l)) q, links_to)

pub word_other : (e : Entry) (l : List Entry) (n : ℕ) → n ≢ suc (length l) → links_to (e ∷ l) n ≡ links_to l n
unfolding links_to
word_other e l n d = rw (ne_eqb n (suc (length l)) d, links_to)

pub word_zero : (l : List Entry) → links_to l 0 ≡ []
unfolding links_to
word_zero [] = refl
word_zero (e ∷ l) = word_other e l 0 (omega arith) ∙ word_zero l

-- ---- one reference is looked at

pub data MetAt (l : List Entry) (p j v : ℕ) : List Entry → Type 0 where
  nothing : v ≡ 0 → MetAt l p j v l
  again : (n : ℕ) → v ≢ 0 → number_in (met_in l) v ≡ suc n → MetAt l p j v l
  new : v ≢ 0 → number_in (met_in l) v ≡ 0 → MetAt l p j v (entry v p j ∷ l)

pub met_at_cases : (l : List Entry) (p j v : ℕ) → MetAt l p j v (meet_at l p j v)
unfolding meet_at
met_at_cases l p j v = elim (ℕ_discrete v 0) [
  | yes e ↦ rw (eq-eqb v 0 e, meet_at) (nothing e)
  | no d ↦ some (number_in (met_in l) v) refl d
]
  where
    some : (k : ℕ) → number_in (met_in l) v ≡ k → v ≢ 0 → MetAt l p j v (meet_at l p j v)
    some zero e d = rw (ne_eqb v 0 d, eq-eqb (number_in (met_in l) v) 0 e, meet_at) (new d e)
    some (suc n) e d = rw (ne_eqb v 0 d, ne_eqb (number_in (met_in l) v) 0 (omega arith), meet_at) (again n d e)

-- what is met is that of the plain walk
meet_at_met : (l : List Entry) (p j v : ℕ) → met_in (meet_at l p j v) ≡ meet (met_in l) v
unfolding meet_at meet met_in
meet_at_met l p j v = pick (eqb v 0 || not (eqb (number_in (met_in l) v) 0))
  where
    pick : (t : Bool) → met_in (elim t [ true ↦ l | false ↦ entry v p j ∷ l ]) ≡ elim t [ true ↦ met_in l | false ↦ v ∷ met_in l ]
    pick true = refl
    pick false = refl

meet_each_met : (l : List Entry) (p j : ℕ) (vs : List ℕ) → met_in (meet_each_at l p j vs) ≡ meet_each (met_in l) vs
unfolding meet_each_at meet_each
meet_each_met l p j [] = refl
meet_each_met l p j (v ∷ vs) = meet_each_met (meet_at l p j v) p (suc j) vs ∙ ap (λ (m : List ℕ). meet_each m vs) (meet_at_met l p j v)

pub trail_met : (roots : List ℕ) (out : ℕ → List ℕ) (k : ℕ) → met_in (trail roots out k) ≡ walk roots out k
unfolding trail walk met_in
trail_met roots out zero = meet_each_met [] 0 0 roots
trail_met roots out (suc k) =
    meet_each_met (trail roots out k) (suc k) 0 (out (object_at (met_in (trail roots out k)) (suc k)))
    ∙ ap (λ (m : List ℕ). meet_each m (out (object_at m (suc k)))) (trail_met roots out k)

-- ---- words rise

-- the place at which an entry was met is before cell j of owner p
abbrev pub Sooner : ℕ → ℕ → Entry → Type 0
Sooner p j e = (e.owner < p) ⊎ ((e.owner ≡ p) × (e.cell < j))

pub data Each (P : Entry → Type 0) : List Entry → Type 0 where
  nil : Each P []
  cons : {e : Entry} {l : List Entry} → P e → Each P l → Each P (e ∷ l)

-- words of smaller numbers are before those of larger ones; number 0 has the empty word
abbrev pub Rising : List Entry → Type 0
Rising l = (m n : ℕ) → m < n → n ≤ length l → Before (links_to l m) (links_to l n)

-- owners come before what they own
pub data Owned : List Entry → Type 0 where
  nil : Owned []
  cons : {e : Entry} {l : List Entry} → e.owner ≤ length l → Owned l → Owned (e ∷ l)

-- every word is before that of the place looked at
ahead :
    (l : List Entry) (p j : ℕ) → Rising l → p ≤ length l → (k : List Entry) → ((n : ℕ) → n ≤ length k → links_to l n ≡ links_to k n) → length k ≤ length l → Owned k → Each (Sooner p j) k
    → (n : ℕ) → 1 ≤ n → n ≤ length k → Before (links_to l n) (j ∷ links_to l p)
ahead l p j rising inside [] same shorter owned each n low high = absurd (omega arith)
ahead l p j rising inside (e ∷ k) same shorter (cons own owned) (cons sooner each) n low high =
    elim (ℕ_discrete n (suc (length k))) [
      | yes q ↦
          let word : links_to l n ≡ e.cell ∷ links_to l e.owner =
          same n high ∙ word_same e k n q
          ∙ ap (λ (w : List ℕ). e.cell ∷ w) (sym (word_other e k e.owner (omega arith)) ∙ sym (same e.owner (omega arith))) in
          rw word (last sooner)
      | no d ↦
          ahead l p j rising inside k (λ m h. same m (omega arith) ∙ word_other e k m (omega arith)) (omega arith) owned each n low (omega arith)
    ]
  where
    last : Sooner p j e → Before (e.cell ∷ links_to l e.owner) (j ∷ links_to l p)
    last (inl h) = earlier (rising e.owner p h inside)
    last (inr (q, h)) = rw q (lower h)

-- the state while cell j of owner p is looked at
pub record Going (l : List Entry) (p j : ℕ) : Type 0 where
  pub rising : Rising l
  pub owned : Owned l
  pub sooner : Each (Sooner p j) l
  pub inside : p ≤ length l

pub going_ahead : {l : List Entry} {p j : ℕ} → Going l p j → (n : ℕ) → 1 ≤ n → n ≤ length l → Before (links_to l n) (j ∷ links_to l p)
going_ahead {l} {p} {j} g n low high = ahead l p j g.rising g.inside l (λ m h. refl) (omega arith) g.owned g.sooner n low high

each_more : {P Q : Entry → Type 0} {l : List Entry} → ((e : Entry) → P e → Q e) → Each P l → Each Q l
each_more f nil = nil
each_more f (cons {e} p each) = cons (f e p) (each_more f each)

next_cell : (p j : ℕ) (e : Entry) → Sooner p j e → Sooner p (suc j) e
next_cell p j e (inl h) = inl h
next_cell p j e (inr (q, h)) = inr (q, omega arith)

next_owner : (p j : ℕ) (e : Entry) → Sooner p j e → Sooner (suc p) 0 e
next_owner p j e (inl h) = inl (omega arith)
next_owner p j e (inr (q, h)) = inl (omega arith)

-- a new word is the last
push_rising : (l : List Entry) (v p j : ℕ) → Going l p j → Rising (entry v p j ∷ l)
push_rising l v p j g m n less high =
    elim (ℕ_discrete n (suc (length l))) [
      | yes q ↦ rw (word_same e l n q, word_other e l m (omega arith)) (below m (omega arith))
      | no d ↦ rw (word_other e l n d, word_other e l m (omega arith)) (g.rising m n less (omega arith))
    ]
  where
    e : Entry
    e = entry v p j

    below : (m : ℕ) → m ≤ length l → Before (links_to l m) (j ∷ links_to l p)
    below zero h = rw (word_zero l) empty
    below (suc m) h = going_ahead g (suc m) (omega arith) h

pub going_next : {l next : List Entry} {p j v : ℕ} → MetAt l p j v next → Going l p j → Going next p (suc j)
going_next {l} {p} {j} (nothing e) g = record { rising = g.rising; owned = g.owned; sooner = each_more (next_cell p j) g.sooner; inside = g.inside }
going_next {l} {p} {j} (again n d e) g = record { rising = g.rising; owned = g.owned; sooner = each_more (next_cell p j) g.sooner; inside = g.inside }
going_next {l} {p} {j} {v} (new d e) g =
    record {
      rising = push_rising l v p j g;
      owned = cons g.inside g.owned;
      sooner = cons {e = entry v p j} (inr (refl, omega arith)) (each_more (next_cell p j) g.sooner);
      inside = omega (arith, g.inside);
    }

-- between two owners
pub record Settled (l : List Entry) (p : ℕ) : Type 0 where
  pub rising : Rising l
  pub owned : Owned l
  pub sooner : Each (Sooner p 0) l

pub going_settled : {l : List Entry} {p j : ℕ} → Going l p j → Settled l (suc p)
going_settled {l} {p} {j} g = record { rising = g.rising; owned = g.owned; sooner = each_more (next_owner p j) g.sooner }

pub settled_going : {l : List Entry} {p : ℕ} → Settled l p → p ≤ length l → Going l p 0
settled_going s h = record { rising = s.rising; owned = s.owned; sooner = s.sooner; inside = h }

pub settled_next : {l : List Entry} {p : ℕ} → Settled l p → Settled l (suc p)
settled_next {l} {p} s = record { rising = s.rising; owned = s.owned; sooner = each_more (next_owner p 0) s.sooner }

-- a word has at most as many cells as its number says
pub word_length : {l : List Entry} → Owned l → (n : ℕ) → length (links_to l n) ≤ n
unfolding links_to
word_length nil n = omega arith
word_length (cons {e} {l} own owned) n = elim (ℕ_discrete n (suc (length l))) [
  | yes q ↦ rw (word_same e l n q) (omega (arith, word_length owned e.owner))
  | no d ↦ rw (word_other e l n d) (word_length owned n)
]

-- ---- what was met keeps its number and its word

pub record Keeps (l m : List Entry) : Type 0 where
  pub longer : length l ≤ length m
  pub numbers : (v n : ℕ) → number_in (met_in l) v ≡ suc n → number_in (met_in m) v ≡ suc n
  pub words : (n : ℕ) → n ≤ length l → links_to m n ≡ links_to l n

keeps_same : (l : List Entry) → Keeps l l
keeps_same l = record { longer = omega arith; numbers = λ v n e. e; words = λ n h. refl }

pub keeps_trans : {l m k : List Entry} → Keeps l m → Keeps m k → Keeps l k
keeps_trans a b = record {
  longer = omega (arith, a.longer, b.longer);
  numbers = λ v n e. b.numbers v n (a.numbers v n e);
  words = λ n h. b.words n (omega (arith, a.longer)) ∙ a.words n h;
}

pub met_keeps : {l next : List Entry} {p j v : ℕ} → MetAt l p j v next → Keeps l next
unfolding met_in
met_keeps {l} (nothing e) = keeps_same l
met_keeps {l} (again n d e) = keeps_same l
met_keeps {l} {p} {j} {v} (new d e) = record {
  longer = omega arith;
  numbers = λ u n q. number_other v u (met_in l) (λ z. omega (arith, ap (number_in (met_in l)) z)) ∙ q;
  words = λ n h. word_other (entry v p j) l n (omega arith);
}

pub each_keeps : (l : List Entry) (p j : ℕ) (vs : List ℕ) → Keeps l (meet_each_at l p j vs)
unfolding meet_each_at
each_keeps l p j [] = keeps_same l
each_keeps l p j (v ∷ vs) = keeps_trans (met_keeps (met_at_cases l p j v)) (each_keeps (meet_at l p j v) p (suc j) vs)

-- ---- what is looked at has a word that is at most the one by which it is looked at

pub record Least (l : List Entry) (v : ℕ) (w : List ℕ) : Type 0 where
  pub number : ℕ
  pub number_is : number_in (met_in l) v ≡ suc number
  pub least : AtMost (links_to l (suc number)) w

pub least_kept : {l m : List Entry} {v : ℕ} {w : List ℕ} → Keeps l m → Least l v w → Least m v w
least_kept {l} {m} {v} {w} k x = record {
  number = x.number;
  number_is = k.numbers v x.number x.number_is;
  least = rw (k.words (suc x.number) (omega (arith, number_le (met_in l) v, met_length l, x.number_is))) x.least;
}

met_least : {l next : List Entry} {p j v : ℕ} → Going l p j → MetAt l p j v next → v ≢ 0 → Least next v (j ∷ links_to l p)
unfolding met_in
met_least g (nothing e) s = absurd (s e)
met_least {l} {v} g (again n d e) s = record {
  number = n;
  number_is = e;
  least = inr (going_ahead g (suc n) (omega arith) (omega (arith, number_le (met_in l) v, met_length l)));
}
met_least {l} {p} {j} {v} g (new d e) s = record {
  number = length l;
  number_is = number_same v v (met_in l) refl ∙ ap suc (met_length l);
  least = inl (word_same (entry v p j) l (suc (length l)) refl);
}

pub each_least : (l : List Entry) (p j : ℕ) (vs : List ℕ) → Going l p j → (i : ℕ) → get_or vs i 0 ≢ 0 → Least (meet_each_at l p j vs) (get_or vs i 0) ((j + i) ∷ links_to l p)
unfolding meet_each_at
each_least l p j [] g i s = absurd (s refl)
each_least l p j (v ∷ vs) g zero s =
    let place : j + 0 ≡ j = omega arith in
    rw place (least_kept (each_keeps (meet_at l p j v) p (suc j) vs) (met_least g (met_at_cases l p j v) s))
each_least l p j (v ∷ vs) g (suc i) s =
    let place : j + suc i ≡ suc j + i = omega arith in
    let word : links_to l p ≡ links_to (meet_at l p j v) p = sym ((met_keeps (met_at_cases l p j v)).words p g.inside) in
    rw (place, word) (each_least (meet_at l p j v) p (suc j) vs (going_next (met_at_cases l p j v) g) i s)

pub each_going : (l : List Entry) (p j : ℕ) (vs : List ℕ) → Going l p j → (i : ℕ) × Going (meet_each_at l p j vs) p i
unfolding meet_each_at
each_going l p j [] g = (j, g)
each_going l p j (v ∷ vs) g = each_going (meet_at l p j v) p (suc j) vs (going_next (met_at_cases l p j v) g)
