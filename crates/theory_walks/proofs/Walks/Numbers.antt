-- Numbers and objects of a list of what was met.
use mathlib.Core.Path.{◌≡◌, refl, sym, ap, ◌∙◌}
use mathlib.Core.Logic.{◌≢◌}
use mathlib.Core.List.{List, [], ◌∷◌}
use Prim.Native.Nat.{ℕ, zero, suc, ◌≤◌, ◌<◌}
use native.Mathlib.Decide.{ℕ_discrete}
use native.Mathlib.Omega.{arith}
use lib.ListN.{length}
use borrow.Author.Tests.{eq-eqb, ne_eqb}
use Rattle.rules_output.specs.Walk.{number_in, object_at, meet, meet_each}

-- no object twice, and 0 is none
pub data Distinct : List ℕ → Type 0 where
  none : Distinct []
  more : {x : ℕ} {l : List ℕ} → number_in l x ≡ 0 → x ≢ 0 → Distinct l → Distinct (x ∷ l)

-- ---- one more

pub number_same : (x v : ℕ) (l : List ℕ) → x ≡ v → number_in (x ∷ l) v ≡ suc (length l)
unfolding number_in
number_same x v l e = rw (eq-eqb x v e, number_in)

pub number_other : (x v : ℕ) (l : List ℕ) → x ≢ v → number_in (x ∷ l) v ≡ number_in l v
unfolding number_in
number_other x v l n = rw (ne_eqb x v n, number_in)

pub number_nil : (v : ℕ) → number_in [] v ≡ 0
unfolding number_in
number_nil v = refl

pub object_same : (x n : ℕ) (l : List ℕ) → n ≡ suc (length l) → object_at (x ∷ l) n ≡ x
unfolding object_at
object_same x n l e = rw (eq-eqb n (suc (length l)) e, object_at)

pub object_other : (x n : ℕ) (l : List ℕ) → n ≢ suc (length l) → object_at (x ∷ l) n ≡ object_at l n
unfolding object_at
object_other x n l d = rw (ne_eqb n (suc (length l)) d, object_at)

pub object_nil : (n : ℕ) → object_at [] n ≡ 0
unfolding object_at
object_nil n = refl

-- ---- numbers and objects

pub number_le : (l : List ℕ) (v : ℕ) → number_in l v ≤ length l
number_le [] v = omega (arith, number_nil v)
number_le (x ∷ l) v = elim (ℕ_discrete x v) [
  | yes e ↦ omega (arith, number_same x v l e)
  | no n ↦ omega (arith, number_other x v l n, number_le l v)
]

pub number_object : (l : List ℕ) (v n : ℕ) → number_in l v ≡ suc n → object_at l (suc n) ≡ v
number_object [] v n e = absurd (omega (arith, number_nil v))
number_object (x ∷ l) v n e = elim (ℕ_discrete x v) [
  | yes q ↦ object_same x (suc n) l (sym e ∙ number_same x v l q) ∙ q
  | no d ↦
      let same = number_other x v l d in
      object_other x (suc n) l (λ z. omega (arith, same, number_le l v)) ∙ number_object l v n (sym same ∙ e)
]

pub object_past : (l : List ℕ) (n : ℕ) → length l < n → object_at l n ≡ 0
object_past [] n h = object_nil n
object_past (x ∷ l) n h = object_other x n l (omega arith) ∙ object_past l n (omega arith)

pub object_zero : (l : List ℕ) → object_at l 0 ≡ 0
object_zero [] = object_nil 0
object_zero (x ∷ l) = object_other x 0 l (omega arith) ∙ object_zero l

pub object_number : {l : List ℕ} → Distinct l → (n : ℕ) → 1 ≤ n → n ≤ length l → number_in l (object_at l n) ≡ n
object_number none n low high = absurd (omega arith)
object_number (more {x} {l} new some d) n low high = elim (ℕ_discrete n (suc (length l))) [
  | yes e ↦ rw (object_same x n l e) (number_same x x l refl ∙ sym e)
  | no q ↦
      let before = object_number d n low (omega arith) in
      let same = object_other x n l q in
      rw same (number_other x (object_at l n) l (λ z. omega (arith, before, new, ap (number_in l) z)) ∙ before)
]

pub object_some : {l : List ℕ} → Distinct l → (n : ℕ) → 1 ≤ n → n ≤ length l → object_at l n ≢ 0
object_some none n low high = absurd (omega arith)
object_some (more {x} {l} new some d) n low high = elim (ℕ_discrete n (suc (length l))) [
  | yes e ↦ λ z. some (sym (object_same x n l e) ∙ z)
  | no q ↦ λ z. object_some d n low (omega arith) (sym (object_other x n l q) ∙ z)
]

pub number_zero : {l : List ℕ} → Distinct l → number_in l 0 ≡ 0
number_zero none = number_nil 0
number_zero (more {x} {l} new some d) = number_other x 0 l some ∙ number_zero d

-- ---- what was met stays

pub data Grows (l : List ℕ) : List ℕ → Type 0 where
  stay : Grows l l
  push : {m : List ℕ} (x : ℕ) → Grows l m → Grows l (x ∷ m)

pub grows_length : {l m : List ℕ} → Grows l m → length l ≤ length m
grows_length stay = omega arith
grows_length (push x g) = omega (arith, grows_length g)

pub grows_object : {l m : List ℕ} → Grows l m → (n : ℕ) → n ≤ length l → object_at m n ≡ object_at l n
grows_object stay n h = refl
grows_object (push {m} x g) n h = object_other x n m (λ z. omega (arith, grows_length g)) ∙ grows_object g n h

pub grows_number : {l m : List ℕ} → Grows l m → Distinct m → (v n : ℕ) → number_in l v ≡ suc n → number_in m v ≡ suc n
grows_number stay d v n e = e
grows_number (push {m} x g) (more new some d) v n e =
    let before = grows_number g d v n e in
    number_other x v m (λ z. omega (arith, before, new, ap (number_in m) z)) ∙ before

pub grows_trans : {l m k : List ℕ} → Grows l m → Grows m k → Grows l k
grows_trans g stay = g
grows_trans g (push x h) = push x (grows_trans g h)

-- ---- meeting

pub data Met (met : List ℕ) (v : ℕ) : List ℕ → Type 0 where
  nothing : v ≡ 0 → Met met v met
  again : (n : ℕ) → v ≢ 0 → number_in met v ≡ suc n → Met met v met
  new : v ≢ 0 → number_in met v ≡ 0 → Met met v (v ∷ met)

pub meet_cases : (met : List ℕ) (v : ℕ) → Met met v (meet met v)
unfolding meet
meet_cases met v = elim (ℕ_discrete v 0) [
  | yes e ↦ rw (eq-eqb v 0 e, meet) (nothing e)
  | no d ↦ some (number_in met v) refl d
]
  where
    some : (k : ℕ) → number_in met v ≡ k → v ≢ 0 → Met met v (meet met v)
    some zero e d = rw (ne_eqb v 0 d, eq-eqb (number_in met v) 0 e, meet) (new d e)
    some (suc n) e d = rw (ne_eqb v 0 d, ne_eqb (number_in met v) 0 (omega arith), meet) (again n d e)

pub met_grows : {met next : List ℕ} {v : ℕ} → Met met v next → Grows met next
met_grows (nothing e) = stay
met_grows (again n d e) = stay
met_grows {v} (new d e) = push v stay

pub met_distinct : {met next : List ℕ} {v : ℕ} → Met met v next → Distinct met → Distinct next
met_distinct (nothing e) d = d
met_distinct (again n s e) d = d
met_distinct (new s e) d = more e s d

-- what v names has a number now
pub met_known : {met next : List ℕ} {v : ℕ} → Met met v next → v ≢ 0 → (n : ℕ) × (number_in next v ≡ suc n)
met_known (nothing e) s = absurd (s e)
met_known (again n d e) s = (n, e)
met_known {met} {v} (new d e) s = (length met, number_same v v met refl)

pub each_grows : (met vs : List ℕ) → Grows met (meet_each met vs)
unfolding meet_each
each_grows met [] = stay
each_grows met (v ∷ vs) = grows_trans (met_grows (meet_cases met v)) (each_grows (meet met v) vs)

pub each_distinct : (met vs : List ℕ) → Distinct met → Distinct (meet_each met vs)
unfolding meet_each
each_distinct met [] d = d
each_distinct met (v ∷ vs) d = each_distinct (meet met v) vs (met_distinct (meet_cases met v) d)
