-- One step of a collection in small steps (request U8) on object graphs: the object at x is taken off the
-- list, and what its slots name is marked and, where it was not marked, listed. Number 13's condition stays,
-- and the step makes the objects that are unmarked or listed fewer.
use mathlib.Core.Path.{◌≡◌, refl, sym, ◌∙◌}
use mathlib.Core.Logic.{◌≢◌, ◌⊎◌, inl, inr}
use mathlib.Core.Bool.{Bool, true, false, true≢false}
use Prim.Native.Nat.{ℕ, suc, ◌+◌, ◌≤◌, ◌<◌}
use native.Mathlib.Decide.{ℕ_discrete}
use Rattle.bitmap.specs.Bit.{count_below}
use Rattle.rules.proofs.Tests.{test_cases_lem, false_unless}
use Rattle.theory_graphs.proofs.Graphs.Graph.{Graph, size, slot, Owns}
use Rattle.theory_graphs.proofs.Graphs.Tidy.{Tidy}
use Rattle.theory_graphs.proofs.Graphs.Apart.{Apart, apart_scanned}
use Rattle.theory_graphs.proofs.Graphs.Pale.{is_pale, pale_scanned, count_le, pale, pale_facts}

-- equal sets
pub tidy_same :
    (r : ℕ) (h : Graph) (marks list marks' list' : ℕ → Bool) → ((b : ℕ) → marks' b ≡ marks b) → ((b : ℕ) → list' b ≡ list b)
    → Tidy r h marks list → Tidy r h marks' list'
tidy_same r h marks list marks' list' m l tidy =
    record {
      listed_marked = λ b e. m b ∙ tidy.listed_marked b (sym (l b) ∙ e);
      objects = λ b e. tidy.objects b (sym (m b) ∙ e);
      roots = λ s b u e. m b ∙ tidy.roots s b u e;
      cells = λ x s b e u own f. m b ∙ tidy.cells x s b (sym (m x) ∙ e) (sym (l x) ∙ u) own f;
    }

pub apart_same :
    (r : ℕ) (h : Graph) (marks marks' : ℕ → Bool) (b : ℕ) → ((c : ℕ) → marks' c ≡ marks c) → Apart r h marks b → Apart r h marks' b
apart_same r h marks marks' b m apart = record { marked = λ c e to. apart.marked c (sym (m c) ∙ e) to; rooted = apart.rooted }

pub pale_same :
    (h : Graph) (marks list marks' list' : ℕ → Bool) → ((b : ℕ) → marks' b ≡ marks b) → ((b : ℕ) → list' b ≡ list b) → (N : ℕ)
    → count_below (is_pale h marks' list') N ≤ count_below (is_pale h marks list) N
pale_same h marks list marks' list' m l N =
    count_le (is_pale h marks' list') (is_pale h marks list) N
    (λ b e.
    let f = pale_facts h marks' list' b e in
    pale h marks list b f.0 (elim f.1 [ inl u ↦ inl (sym (m b) ∙ u) | inr o ↦ inr (sym (l b) ∙ o) ]))

-- a slot of the object at x names the object at b
abbrev pub Names : (r : ℕ) (h : Graph) (x b : ℕ) → Type 0
Names r h x b = (s : ℕ) × Owns r h.sizes x s × (slot h s ≡ suc b)

pub record Scans (r : ℕ) (h : Graph) (x : ℕ) (marks list marks' list' : ℕ → Bool) : Type 0 where
  pub taken : list x ≡ true
  pub now : (b : ℕ) → marks' b ≡ true → (marks b ≡ true) ⊎ Names r h x b
  pub also : (b : ℕ) → (marks b ≡ true) ⊎ Names r h x b → marks' b ≡ true
  pub listed : (b : ℕ) → list' b ≡ true → ((list b ≡ true) × (b ≢ x)) ⊎ (Names r h x b × (marks b ≡ false))
  pub stays : (b : ℕ) → list b ≡ true → b ≢ x → list' b ≡ true
  pub joins : (b : ℕ) → Names r h x b → marks b ≡ false → list' b ≡ true

module _ (r : ℕ) (h : Graph) (x : ℕ) (marks list marks' list' : ℕ → Bool) (tidy : Tidy r h marks list)
    (scans : Scans r h x marks list marks' list') (named : (s b : ℕ) → slot h s ≡ suc b → size h b ≢ 0) where
  marked_x : marks x ≡ true
  marked_x = tidy.listed_marked x scans.taken

  pub tidy_scanned : Tidy r h marks' list'
  tidy_scanned =
      record {
        listed_marked = λ b e.
            elim (scans.listed b e) [
              | inl q ↦ scans.also b (inl (tidy.listed_marked b q.0))
              | inr q ↦ scans.also b (inr q.0)
            ];
        objects = λ b e.
            elim (scans.now b e) [ inl m ↦ tidy.objects b m | inr q ↦ named q.0 b q.2 ];
        roots = λ s b l e. scans.also b (inl (tidy.roots s b l e));
        cells = λ y s b m u own e. scans.also b (cell y s b (scans.now y m) u own e);
      }
    where
      cell : (y s b : ℕ) → (marks y ≡ true) ⊎ Names r h x y → list' y ≡ false → Owns r h.sizes y s → slot h s ≡ suc b
          → (marks b ≡ true) ⊎ Names r h x b
      cell y s b o u own e =
          elim (ℕ_discrete y x) [
            | yes q ↦ inr (s, rw q at own, e)
            | no d ↦ elim (test_cases_lem (marks y)) [
              | inl m ↦
                  inl
                  (tidy.cells y s b m (false_unless (list y) (λ l. true≢false (sym (scans.stays y l d) ∙ u))) own e)
              | inr n ↦ absurd (met o n)
            ]
          ]
        where
          met : (marks y ≡ true) ⊎ Names r h x y → marks y ≡ false → ⊥
          met (inl m) n = true≢false (sym m ∙ n)
          met (inr q) n = true≢false (sym (scans.joins y q n) ∙ u)

  pub apart_step : (b : ℕ) → Apart r h marks b → Apart r h marks' b
  apart_step b apart = apart_scanned r h marks marks' b x apart marked_x scans.now

  pub pale_step : (N : ℕ) → x < N → count_below (is_pale h marks' list') N + 1 ≤ count_below (is_pale h marks list) N
  pale_step N l =
      pale_scanned h marks list marks' list' x N l (tidy.objects x marked_x) scans.taken (scans.also x (inl marked_x)) off
      (λ b u. false_unless (marks b) (λ m. true≢false (sym (scans.also b (inl m)) ∙ u)))
      (λ b o. elim (scans.listed b o) [ inl q ↦ inl q.0 | inr q ↦ inr q.1 ])
    where
      off : list' x ≡ false
      off =
          false_unless (list' x)
          (λ e. elim (scans.listed x e) [ inl q ↦ q.1 refl | inr q ↦ true≢false (sym marked_x ∙ q.1) ])
