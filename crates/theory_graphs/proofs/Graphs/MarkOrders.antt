-- U7 for U8's marks: objects of count 0 are freed in any order, each leaving the map, its slots marking what
-- they named. The marks at the end are those of the rule: they depend on the first graph and the last one
-- alone.
use mathlib.Core.Path.{◌≡◌, sym, ◌∙◌}
use mathlib.Core.Logic.{◌≢◌, ◌⊎◌, inl, inr}
use mathlib.Core.Bool.{Bool, true}
use Prim.Native.Nat.{ℕ, suc, ◌<◌}
use native.Mathlib.Decide.{ℕ_discrete}
use Rattle.theory_graphs.proofs.Graphs.Stretch.{side}
use Rattle.theory_graphs.proofs.Graphs.Graph.{Graph, size, count, slot, first_slot, slots_of, Owns, Disjoint, free}
use Rattle.theory_graphs.proofs.Graphs.Balance.{Balanced, unnamed, named_object, free_balanced}
use Rattle.theory_graphs.proofs.Graphs.Keep.{Runs, done, free_one, one_owner, free_size_same, free_size_other, free_slot_out}
use Rattle.theory_graphs.proofs.Graphs.Order.{Leaves, runs_leave}
use Rattle.theory_graphs.proofs.Graphs.Tidy.{FreedNames}

-- slot s of the object at x names b
abbrev pub SlotNames : ℕ → Graph → ℕ → ℕ → Type 0
SlotNames r h x b = (s : ℕ) × Owns r h.sizes x s × (slot h s ≡ suc b)

-- the marks m' once the object at x is freed
pub record Marks (r : ℕ) (h : Graph) (x : ℕ) (m m' : ℕ → Bool) : Type 0 where
  pub now : (b : ℕ) → m' b ≡ true → ((b ≢ x) × (m b ≡ true)) ⊎ SlotNames r h x b
  pub also : (b : ℕ) → ((b ≢ x) × (m b ≡ true)) ⊎ SlotNames r h x b → m' b ≡ true

-- a run of releases with its marks
pub data Marking (cap r : ℕ) : Graph → (ℕ → Bool) → Graph → (ℕ → Bool) → Type 0 where
  ends : {h : Graph} {m : ℕ → Bool} → Marking cap r h m h m
  frees : {h k : Graph} {m m₁ m' : ℕ → Bool} (x : ℕ) → size h x ≢ 0 → count h x ≡ 0 → Marks r h x m m₁
      → Marking cap r (free cap r h x) m₁ k m' → Marking cap r h m k m'

pub runs_of : {cap r : ℕ} {h k : Graph} {m m' : ℕ → Bool} → Marking cap r h m k m' → Runs cap r (λ i. ⊥) h k
runs_of ends = done
runs_of (frees x n z marks rest) = free_one x n z (runs_of rest)

pub record Marked (r : ℕ) (h k : Graph) (m m' : ℕ → Bool) : Type 0 where
  pub now : (b : ℕ) → m' b ≡ true → (size k b ≢ 0) × ((m b ≡ true) ⊎ FreedNames r h k b)
  pub also : (b : ℕ) → size k b ≢ 0 → (m b ≡ true) ⊎ FreedNames r h k b → m' b ≡ true

-- one object is freed: what its marks, and the marks of the rest of the run, come to
module _ (cap : ℕ) (pos : 0 < cap) (r : ℕ) (h k : Graph) (m m₁ m' : ℕ → Bool) (x : ℕ) (n : size h x ≢ 0) (z : count h x ≡ 0)
    (marks : Marks r h x m m₁) (balanced : Balanced cap h 0) (disjoint : Disjoint h.sizes) (objects : (b : ℕ) → m b ≡ true → size h b ≢ 0)
    (leaves : Leaves cap r (free cap r h x) k) where
  abbrev h₁ : Graph
  h₁ = free cap r h x

  other : (y : ℕ) → y ≢ x → size h₁ y ≡ size h y
  other y d = free_size_other cap r h x y d

  gone : size h₁ x ≡ 0
  gone = free_size_same cap r h x

  -- an object that stands then is another one
  apart : (y : ℕ) → size h₁ y ≢ 0 → y ≢ x
  apart y s e = s (rw e gone)

  disjoint_next : Disjoint h₁.sizes
  disjoint_next y w l p q =
      rw (other y (apart y p)) (disjoint y w l (λ e. p (other y (apart y p) ∙ e)) (λ e. q (other w (apart w q) ∙ e)))

  named : (b : ℕ) → SlotNames r h x b → (size h b ≢ 0) × (b ≢ x)
  named b (s, own, e) = (named_object cap pos h balanced s b e, λ q. unnamed cap pos h x s balanced z (rw q at e))

  objects_next : (b : ℕ) → m₁ b ≡ true → size h₁ b ≢ 0
  objects_next b e = go (marks.now b e)
    where
      go : ((b ≢ x) × (m b ≡ true)) ⊎ SlotNames r h x b → size h₁ b ≢ 0
      go (inl (d, old)) s = objects b old (sym (other b d) ∙ s)
      go (inr by) s = (named b by).0 (sym (other b (named b by).1) ∙ s)

  gone_in_k : size k x ≡ 0
  gone_in_k = elim (leaves.objects x) [ inl e ↦ e ∙ gone | inr e ↦ e.0 ]

  -- a slot of another object is as it was
  slot_other : (y s : ℕ) → y ≢ x → Owns r h.sizes y s → slot h₁ s ≡ slot h s
  slot_other y s d own =
      free_slot_out cap r h x s
      (elim (side (first_slot r x) (slots_of h x) s) [
        | inl mine ↦ absurd (d (one_owner r h.sizes y x s disjoint own mine))
        | inr o ↦ o
      ])

  back : (b : ℕ) → (m₁ b ≡ true) ⊎ FreedNames r h₁ k b → (m b ≡ true) ⊎ FreedNames r h k b
  back b (inl e) = go (marks.now b e)
    where
      go : ((b ≢ x) × (m b ≡ true)) ⊎ SlotNames r h x b → (m b ≡ true) ⊎ FreedNames r h k b
      go (inl (d, old)) = inl old
      go (inr (s, own, f)) = inr (record { object = x; place = s; stood = n; gone = gone_in_k; owns = own; names = f })
  back b (inr f) =
      let d = apart f.object f.stood in
      let own : Owns r h.sizes f.object f.place = rw (other f.object d) at f.owns in
      inr (record {
        object = f.object;
        place = f.place;
        stood = λ e. f.stood (other f.object d ∙ e);
        gone = f.gone;
        owns = own;
        names = sym (slot_other f.object f.place d own) ∙ f.names;
      })

  on : (b : ℕ) → size k b ≢ 0 → (m b ≡ true) ⊎ FreedNames r h k b → (m₁ b ≡ true) ⊎ FreedNames r h₁ k b
  on b s (inl e) = inl (marks.also b (inl ((λ q. s (rw q gone_in_k)), e)))
  on b s (inr f) =
      elim (ℕ_discrete f.object x) [
        | yes q ↦ inl (marks.also b (inr (f.place, rw q at f.owns, f.names)))
        | no d ↦
            inr (record {
              object = f.object;
              place = f.place;
              stood = λ e. f.stood (sym (other f.object d) ∙ e);
              gone = f.gone;
              owns = rw (other f.object d) f.owns;
              names = slot_other f.object f.place d f.owns ∙ f.names;
            })
      ]

  marked_next : Marked r h₁ k m₁ m' → Marked r h k m m'
  marked_next later =
      record {
        now = λ b e. ((later.now b e).0, back b (later.now b e).1);
        also = λ b s o. later.also b s (on b s o);
      }

-- In whatever order waiting objects are freed, the marks at the end are those of the rule.
pub marking_marked :
    (cap : ℕ) (pos : 0 < cap) (r : ℕ) {h k : Graph} {m m' : ℕ → Bool} → Marking cap r h m k m' → Balanced cap h 0 → Disjoint h.sizes
    → ((b : ℕ) → m b ≡ true → size h b ≢ 0) → Marked r h k m m'
marking_marked cap pos r ends balanced disjoint objects =
    record {
      now = λ b e. (objects b e, inl e);
      also = λ b n o. elim o [ inl e ↦ e | inr f ↦ absurd (f.stood f.gone) ];
    }
marking_marked cap pos r {h} {k} {m} {m'} (frees {m₁ = m₁} x n z marks rest) balanced disjoint objects =
    let leaves = runs_leave cap r (λ i. ⊥) pos (runs_of rest) in
    marked_next cap pos r h k m m₁ m' x n z marks balanced disjoint objects leaves
    (marking_marked cap pos r rest (free_balanced cap pos r h x z balanced)
    (disjoint_next cap pos r h k m m₁ m' x n z marks balanced disjoint objects leaves)
    (objects_next cap pos r h k m m₁ m' x n z marks balanced disjoint objects leaves))

-- So two orders that leave nothing waiting end with the same marks: they end in the same graph (`same_end`),
-- and the marks follow from it.
pub same_marks :
    (cap : ℕ) (pos : 0 < cap) (r : ℕ) (h k : Graph) (m m' m'' : ℕ → Bool) → Marking cap r h m k m' → Marking cap r h m k m'' → Balanced cap h 0
    → Disjoint h.sizes → ((b : ℕ) → m b ≡ true → size h b ≢ 0) → (b : ℕ) → m' b ≡ true → m'' b ≡ true
same_marks cap pos r h k m m' m'' one two balanced disjoint objects b e =
    let p = (marking_marked cap pos r one balanced disjoint objects).now b e in
    (marking_marked cap pos r two balanced disjoint objects).also b p.0 p.1
