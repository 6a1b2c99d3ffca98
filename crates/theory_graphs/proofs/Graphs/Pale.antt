-- U8's third claim on object graphs: the objects that are unmarked or listed. A step makes them fewer, a
-- store never more.
use mathlib.Core.Path.{◌≡◌, refl, sym, ap, ◌∙◌}
use mathlib.Core.Logic.{◌≢◌, ◌⊎◌, inl, inr}
use mathlib.Core.Bool.{Bool, true, false, false≢true}
use Prim.Native.Nat.{ℕ, zero, suc, ◌+◌, ◌≤◌, ◌<◌}
use native.Mathlib.Decide.{ℕ_discrete}
use native.Mathlib.Omega.{arith}
use lib.Dec.{eqb}
use borrow.Author.Tests.{eqb-false, ne_eqb}
use Rattle.bitmap.specs.Bit.{count_below, one}
use Rattle.rules.proofs.Tests.{test_cases_lem}
use Rattle.theory_graphs.proofs.Graphs.Graph.{Graph, size, slot, Owns}
use Rattle.theory_graphs.proofs.Graphs.Tidy.{Tidy, Lets, Was, Shades}

-- a test that passes wherever another does is passed no less often ..
pub count_le : (p q : ℕ → Bool) (n : ℕ) → ((i : ℕ) → p i ≡ true → q i ≡ true) → count_below p n ≤ count_below q n
unfolding count_below
count_le p q zero f = omega arith
count_le p q (suc n) f = omega (arith, count_le p q n f, step (p n) (q n) (f n))
  where
    step : (s t : Bool) → (s ≡ true → t ≡ true) → one s ≤ one t
    step true t g = rw (g refl) (omega arith)
    step false t g = omega arith

-- .. and more often, if at some place it alone does
pub count_less :
    (p q : ℕ → Bool) (n : ℕ) → ((i : ℕ) → p i ≡ true → q i ≡ true) → (x : ℕ) → x < n → p x ≡ false → q x ≡ true
    → count_below p n + 1 ≤ count_below q n
unfolding count_below
count_less p q zero f x l off on = absurd (omega arith)
count_less p q (suc n) f x l off on =
    elim (ℕ_discrete x n) [
      | yes e ↦
          omega (
            arith,
            count_le p q n f,
            ap one (ap p (sym e) ∙ off),
            ap one (ap q (sym e) ∙ on),
          )
      | no d ↦ omega (arith, count_less p q n f x (omega arith) off on, step (p n) (q n) (f n))
    ]
  where
    step : (s t : Bool) → (s ≡ true → t ≡ true) → one s ≤ one t
    step true t g = rw (g refl) (omega arith)
    step false t g = omega arith

-- an object that is unmarked or listed
pub pale_by : (absent marked listed : Bool) → Bool
pale_by true m l = false
pale_by false true l = l
pale_by false false l = true

-- the object at b is
abbrev pub is_pale : Graph → (marks list : ℕ → Bool) → ℕ → Bool
is_pale h marks list b = pale_by (eqb (size h b) 0) (marks b) (list b)

pale_by_lem : (a m l : Bool) → a ≡ false → (m ≡ false) ⊎ (l ≡ true) → pale_by a m l ≡ true
unfolding pale_by
pale_by_lem true m l e o = absurd (false≢true (sym e))
pale_by_lem false false l e o = refl
pale_by_lem false true true e o = refl
pale_by_lem false true false e (inl p) = absurd (false≢true (sym p))
pale_by_lem false true false e (inr p) = absurd (false≢true p)

by_pale : (a m l : Bool) → pale_by a m l ≡ true → (a ≡ false) × ((m ≡ false) ⊎ (l ≡ true))
unfolding pale_by
by_pale true m l e = absurd (false≢true e)
by_pale false false l e = (refl, inl refl)
by_pale false true l e = (refl, inr e)

pub pale : (h : Graph) (marks list : ℕ → Bool) (b : ℕ) → size h b ≢ 0 → (marks b ≡ false) ⊎ (list b ≡ true) → is_pale h marks list b ≡ true
pale h marks list b n o = pale_by_lem (eqb (size h b) 0) (marks b) (list b) (ne_eqb (size h b) 0 n) o

pub pale_facts : (h : Graph) (marks list : ℕ → Bool) (b : ℕ) → is_pale h marks list b ≡ true → (size h b ≢ 0) × ((marks b ≡ false) ⊎ (list b ≡ true))
pale_facts h marks list b e = let f = by_pale (eqb (size h b) 0) (marks b) (list b) e in (eqb-false (size h b) 0 f.0, f.1)

module _ (r : ℕ) (h k g : Graph) (T : ℕ → Type 0) (marks list marks' list' : ℕ → Bool) (tidy : Tidy r h marks list)
    (lets : Lets r h k g T) (shades : Shades r h k g T marks list marks' list') where
  pale_before : (b : ℕ) → is_pale g marks' list' b ≡ true → is_pale h marks list b ≡ true
  pale_before b e = go (pale_facts g marks' list' b e).1
    where
      stands : size g b ≢ 0
      stands = (pale_facts g marks' list' b e).0

      -- what was neither marked nor born is an unmarked object of h
      unmarked : ¬ (Was h k marks b) → is_pale h marks list b ≡ true
      unmarked not-was =
          pale h marks list b (old (lets.placed b)) (inl (elim (test_cases_lem (marks b)) [ inl m ↦ absurd (not-was (inl m)) | inr m ↦ m ]))
        where
          sized : size k b ≢ 0
          sized z = stands (lets.stands b stands ∙ z)

          old : (size k b ≡ size h b) ⊎ ((size h b ≡ 0) × ((s : ℕ) → Owns r k.sizes b s → slot k s ≡ 0)) → size h b ≢ 0
          old (inl same) z = sized (same ∙ z)
          old (inr new) z = not-was (inr (z, sized))

      go : (marks' b ≡ false) ⊎ (list' b ≡ true) → is_pale h marks list b ≡ true
      go (inl u) = unmarked (λ w. false≢true (sym u ∙ shades.also b stands (inl w)))
      go (inr l) =
          elim (shades.listed b l).1 [
            | inl was ↦ pale h marks list b (tidy.objects b (tidy.listed_marked b was)) (inr was)
            | inr not-was ↦ unmarked not-was
          ]

  -- a store, an allocation: never more
  pub pale_shades : (N : ℕ) → count_below (is_pale g marks' list') N ≤ count_below (is_pale h marks list) N
  pale_shades N = count_le (is_pale g marks' list') (is_pale h marks list) N pale_before

-- a step: one fewer
pub pale_scanned :
    (h : Graph) (marks list marks' list' : ℕ → Bool) (x N : ℕ) → x < N → size h x ≢ 0 → list x ≡ true → marks' x ≡ true → list' x ≡ false
    → ((b : ℕ) → marks' b ≡ false → marks b ≡ false)
    → ((b : ℕ) → list' b ≡ true → (list b ≡ true) ⊎ (marks b ≡ false))
    → count_below (is_pale h marks' list') N + 1 ≤ count_below (is_pale h marks list) N
unfolding pale_by
pale_scanned h marks list marks' list' x N l n on m off less old =
    count_less (is_pale h marks' list') (is_pale h marks list) N before x l dark (pale h marks list x n (inr on))
  where
    before : (b : ℕ) → is_pale h marks' list' b ≡ true → is_pale h marks list b ≡ true
    before b e =
        let f = pale_facts h marks' list' b e in
        pale h marks list b f.0
        (elim f.1 [
          | inl u ↦ inl (less b u)
          | inr o ↦ elim (old b o) [ inl p ↦ inr p | inr u ↦ inl u ]
        ])

    dark : is_pale h marks' list' x ≡ false
    dark = rw (ne_eqb (size h x) 0 n, m, off)
