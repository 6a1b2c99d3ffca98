-- The links by which an object was first met, read off the local arrays.
use mathlib.Core.Path.{◌≡◌, refl, sym, ap, ◌∙◌}
use mathlib.Core.Logic.{◌≢◌}
use mathlib.Core.List.{List, [], ◌∷◌, ◌++◌, append-nil}
use Prim.Native.Nat.{ℕ, zero, suc, ◌+◌, ◌-◌, ◌≤◌, ◌<◌}
use native.Mathlib.Numerals.{add-one}
use native.Mathlib.Decide.{ℕ_discrete}
use native.Mathlib.Omega.{arith}
use lib.ListN.{length, get_or, set, take}
use lib.Seq.{take-suc-set}
use Rattle.theory_walks.specs.Trail.{Entry, entry, links_to}
use Rattle.theory_walks.proofs.Walks.Trails.{word_same, word_other}
use Rattle.walk_objects.specs.Walking.{entries}

pub entries_length : (order owners vias : List ℕ) (n : ℕ) → length (entries order owners vias n) ≡ n
unfolding entries
entries_length order owners vias zero = refl
entries_length order owners vias (suc n) = ap suc (entries_length order owners vias n)

module _ (owners vias : List ℕ) where
  abbrev up_to : ℕ → List Entry
  up_to n = entries [] owners vias n

  -- what was met later does not matter, nor do the names
  pub later : (order : List ℕ) (n k : ℕ) → k ≤ n → ((i : ℕ) → i < n → get_or owners i 0 ≤ i) → links_to (entries order owners vias n) k ≡ links_to (up_to k) k
  unfolding entries
  later order zero k h owned = let z : k ≡ 0 = omega arith in rw z refl
  later order (suc n) k h owned = elim (ℕ_discrete k (suc n)) [
    | no d ↦
        word_other (entry (get_or order n 0) (get_or owners n 0) (get_or vias n 0)) (entries order owners vias n) k
        (omega (arith, entries_length order owners vias n))
        ∙ later order n k (omega arith) (λ i l. owned i (omega arith))
    | yes e ↦
        rw e
        (word_same (entry (get_or order n 0) (get_or owners n 0) (get_or vias n 0)) (entries order owners vias n) (suc n) (ap suc (sym (entries_length order owners vias n)))
        ∙ ap (λ (l : List ℕ). get_or vias n 0 ∷ l)
        (later order n (get_or owners n 0) (owned n (omega arith)) (λ i l. owned i (omega arith))
        ∙ sym (later [] n (get_or owners n 0) (owned n (omega arith)) (λ i l. owned i (omega arith))))
        ∙ sym (word_same (entry (get_or {A = ℕ} [] n 0) (get_or owners n 0) (get_or vias n 0)) (up_to n) (suc n) (ap suc (sym (entries_length [] owners vias n)))))
  ]

  -- one link
  pub one_link : (m : ℕ) → m ≢ 0 → ((i : ℕ) → i < m → get_or owners i 0 ≤ i)
      → links_to (up_to m) m ≡ get_or vias (m - 1) 0 ∷ links_to (up_to (get_or owners (m - 1) 0)) (get_or owners (m - 1) 0)
  unfolding entries
  one_link zero s owned = absurd (s refl)
  one_link (suc n) s owned =
      let place : suc n - 1 ≡ n = omega arith in
      rw place
      (word_same (entry (get_or {A = ℕ} [] n 0) (get_or owners n 0) (get_or vias n 0)) (up_to n) (suc n) (ap suc (sym (entries_length [] owners vias n)))
      ∙ ap (λ (l : List ℕ). get_or vias n 0 ∷ l) (later [] n (get_or owners n 0) (owned n (omega arith)) (λ i l. owned i (omega arith))))

  -- t links are written, and those of object m are left
  abbrev pub Linked : (n : ℕ) → (links : List ℕ) → (t m : ℕ) → Type 0
  Linked n links t m = (take t links ++ links_to (up_to m) m ≡ links_to (up_to n) n) × (t + m ≤ n)

  pub link_start : (n : ℕ) (links : List ℕ) → Linked n links 0 n
  link_start n links = (refl, omega arith)

  pub link_more : (n : ℕ) (links : List ℕ) (t m : ℕ) → m ≢ 0 → n ≤ length links → ((i : ℕ) → i < n → get_or owners i 0 ≤ i) → Linked n links t m
      → Linked n (set links t (get_or vias (m - 1) 0)) (t + 1) (get_or owners (m - 1) 0)
  link_more n links t m s long owned (is, few) = (
    rw (add-one t)
        (ap (λ (l : List ℕ). l ++ links_to (up_to (get_or owners (m - 1) 0)) (get_or owners (m - 1) 0)) (take-suc-set links t (get_or vias (m - 1) 0) (omega arith))
        ∙ snoc (take t links) (get_or vias (m - 1) 0) (links_to (up_to (get_or owners (m - 1) 0)) (get_or owners (m - 1) 0))
        ∙ ap (λ (l : List ℕ). take t links ++ l) (sym (one_link m s (λ i l. owned i (omega arith))))
        ∙ is),
    omega (arith, owned (m - 1) (omega arith)),
  )
    where
      snoc : (a : List ℕ) (x : ℕ) (c : List ℕ) → (a ++ (x ∷ [])) ++ c ≡ a ++ (x ∷ c)
      snoc [] x c = refl
      snoc (y ∷ a) x c = ap (λ (l : List ℕ). y ∷ l) (snoc a x c)

  pub link_end : (n : ℕ) (links : List ℕ) (t m : ℕ) → m ≡ 0 → Linked n links t m → (take t links ≡ links_to (up_to n) n) × (t ≤ n)
  unfolding entries links_to
  link_end n links t m z (is, few) =
      (sym (append-nil (take t links)) ∙ ap (λ (k : ℕ). take t links ++ links_to (up_to k) k) (sym z) ∙ is, omega arith)
