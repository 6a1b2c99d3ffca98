-- What the releases keep, in whatever order they come. A run frees objects of count 0, one after another in any order; it may also let go
-- of slots from a given set. The keep lemma is about a set K of objects and a set P of slots, such that each object of K has a stuck count
-- or is named by a slot of P, and P has no slot of an object outside K. Then no object of K is ever freed and no slot of P ever written:
-- the first object of K to be freed would have count 0, hence no reference, though a slot of P still named it.
-- With K the objects that a root leads to, this says that nothing is freed early. Order.antt takes for K what another run has left.
use mathlib.Core.Path.{◌≡◌, refl, ◌∙◌}
use mathlib.Core.Logic.{◌≢◌, ◌⊎◌, inl, inr}
use mathlib.Core.List.{List, [], ◌∷◌}
use Prim.Native.Nat.{ℕ, zero, suc, ◌+◌, ◌<◌}
use native.Mathlib.Decide.{ℕ_discrete, dec_lt}
use native.Mathlib.Omega.{arith}
use lib.ListN.{get_or}
use lib.Seq.{get_or-set_other}
use Rattle.theory_graphs.proofs.Graphs.Occurrences.{nonzero_inside}
use Rattle.theory_graphs.proofs.Graphs.Stretch.{Outside, side, stretch_out, clear_in, set_zero}
use Rattle.theory_graphs.proofs.Graphs.Graph.{Graph, size, count, slot, first_slot, slots_of, Owns, Disjoint, count_down, count_down_each, let_go}
use Rattle.theory_graphs.proofs.Graphs.Graph.{free, free_stack, release, lowered_stuck, count_down_same, count_down_other}
use Rattle.theory_graphs.proofs.Graphs.Balance.{Balanced, Waits, waits_head, unnamed, let_go_balanced, free_balanced, free_waits}

-- objects of count 0 are freed, and slots of S let go, one after another, in any order
pub data Runs (cap r : ℕ) (S : ℕ → Type 0) : Graph → Graph → Type 0 where
  done : {h : Graph} → Runs cap r S h h
  free_one : {h k : Graph} (x : ℕ) → size h x ≢ 0 → count h x ≡ 0 → Runs cap r S (free cap r h x) k → Runs cap r S h k
  let_go_lem : {h k : Graph} (i : ℕ) → S i → Runs cap r S (let_go cap h i) k → Runs cap r S h k

-- the release by a stack is such a run
pub release_runs :
    (cap : ℕ) (pos : 0 < cap) (r : ℕ) (S : ℕ → Type 0) (fuel : ℕ) (h : Graph) (stack : List ℕ) → Balanced cap h 0 → Waits h stack
    → Runs cap r S h (release cap r fuel h stack)
unfolding release
release_runs cap pos r S zero h stack balanced waits = done
release_runs cap pos r S (suc fuel) h [] balanced waits = done
release_runs cap pos r S (suc fuel) h (x ∷ stack) balanced waits =
    let z = waits_head h x stack waits in
    free_one
    x
    z.0
    z.1
    (release_runs
    cap
    pos
    r
    S
    fuel
    (free cap r h x)
    (free_stack cap r h x stack)
    (free_balanced cap pos r h x z.1 balanced)
    (free_waits cap pos r h x stack balanced waits))

-- ---- a stuck count stays

pub count_down_stuck :
    (cap : ℕ) (pos : 0 < cap) (counts : List ℕ) (v b : ℕ) → get_or counts b 0 ≡ cap → get_or (count_down cap counts v) b 0 ≡ cap
count_down_stuck cap pos counts v b e =
    elim (ℕ_discrete v (suc b)) [
      | yes q ↦ rw q (count_down_same cap counts b (nonzero_inside counts b (omega arith)) ∙ lowered_stuck cap (get_or counts b 0) e ∙ e)
      | no n ↦ count_down_other cap counts v b n ∙ e
    ]

count_down_each_stuck :
    (cap : ℕ) (pos : 0 < cap) (counts slots : List ℕ) (i n b : ℕ) → get_or counts b 0 ≡ cap
    → get_or (count_down_each cap counts slots i n) b 0 ≡ cap
unfolding count_down_each
count_down_each_stuck cap pos counts slots i zero b e = e
count_down_each_stuck cap pos counts slots i (suc n) b e =
    count_down_stuck
    cap
    pos
    (count_down_each cap counts slots i n)
    (get_or slots (i + n) 0)
    b
    (count_down_each_stuck cap pos counts slots i n b e)

-- ---- what freeing x does to a size, a slot, a stuck count

module _ (cap r : ℕ) (h : Graph) (x : ℕ) where
  pub free_size_same : size (free cap r h x) x ≡ 0
  unfolding free
  free_size_same = set_zero h.sizes x

  pub free_size_other : (y : ℕ) → y ≢ x → size (free cap r h x) y ≡ size h y
  unfolding free
  free_size_other y n = get_or-set_other h.sizes x y 0 0 n

  pub free_slot_in : (s : ℕ) → Owns r h.sizes x s → slot (free cap r h x) s ≡ 0
  unfolding free
  free_slot_in s own = clear_in (first_slot r x) (slots_of h x) h.slots s own

  pub free_slot_out : (s : ℕ) → Outside (first_slot r x) (slots_of h x) s → slot (free cap r h x) s ≡ slot h s
  unfolding free
  free_slot_out s o = stretch_out (λ j. 0) (first_slot r x) h.slots (slots_of h x) s o

  pub free_stuck : (pos : 0 < cap) (b : ℕ) → count h b ≡ cap → count (free cap r h x) b ≡ cap
  unfolding free
  free_stuck pos b e = count_down_each_stuck cap pos h.counts h.slots (first_slot r x) (slots_of h x) b e

-- ---- the keep lemma

-- what holds of every graph h that a run from h₀ comes to
pub record Kept (cap : ℕ) (K P : ℕ → Type 0) (h₀ h : Graph) : Type 0 where
  pub slots_kept : (s : ℕ) → P s → slot h s ≡ slot h₀ s
  pub kept_or_gone : (x : ℕ) → (size h x ≡ size h₀ x) ⊎ (size h x ≡ 0)
  pub sizes_kept : (x : ℕ) → K x → size h x ≡ size h₀ x
  pub stuck : (x : ℕ) → count h₀ x ≡ cap → count h x ≡ cap

kept_refl : (cap : ℕ) (K P : ℕ → Type 0) (h : Graph) → Kept cap K P h h
kept_refl cap K P h =
    record { slots_kept = λ s p. refl; kept_or_gone = λ x. inl refl; sizes_kept = λ x k. refl; stuck = λ x e. e }

module _ (cap : ℕ) (pos : 0 < cap) (r : ℕ) (S K P : ℕ → Type 0) (h₀ : Graph)
    (held : (b : ℕ) → K b → (count h₀ b ≡ cap) ⊎ ((s : ℕ) × P s × (slot h₀ s ≡ suc b)))
    (apart : (x s : ℕ) → ¬ K x → Owns r h₀.sizes x s → ¬ P s)
    (spare : (i : ℕ) → S i → ¬ P i) where
  not_kept : (h : Graph) (x : ℕ) → Balanced cap h 0 → Kept cap K P h₀ h → count h x ≡ 0 → ¬ K x
  not_kept h x balanced kept z k = go (held x k)
    where
      go : (count h₀ x ≡ cap) ⊎ ((s : ℕ) × P s × (slot h₀ s ≡ suc x)) → ⊥
      go (inl e) = omega (arith, kept.stuck x e)
      go (inr t) = unnamed cap pos h x t.0 balanced z (kept.slots_kept t.0 t.1 ∙ t.2)

  free_kept : (h : Graph) (x : ℕ) → Balanced cap h 0 → Kept cap K P h₀ h → size h x ≢ 0 → count h x ≡ 0 → Kept cap K P h₀ (free cap r h x)
  free_kept h x balanced kept n z =
      record {
        slots_kept = λ s p. free_slot_out cap r h x s (outside s p) ∙ kept.slots_kept s p;
        kept_or_gone =
            λ y.
            elim (ℕ_discrete y x) [
              | yes e ↦ inr (rw e (free_size_same cap r h x))
              | no d ↦ rw (free_size_other cap r h x y d) (kept.kept_or_gone y)
            ];
        sizes_kept = λ y k. free_size_other cap r h x y (λ e. unkept (rw e at k)) ∙ kept.sizes_kept y k;
        stuck = λ y e. free_stuck cap r h x pos y (kept.stuck y e);
      }
    where
      unkept : ¬ K x
      unkept = not_kept h x balanced kept z

      whole : size h x ≡ size h₀ x
      whole = elim (kept.kept_or_gone x) [ inl e ↦ e | inr e ↦ absurd (n e) ]

      outside : (s : ℕ) → P s → Outside (first_slot r x) (slots_of h x) s
      outside s p = elim (side (first_slot r x) (slots_of h x) s) [ inl i ↦ absurd (apart x s unkept (rw whole at i) p) | inr o ↦ o ]

  keeps : {h k : Graph} → Runs cap r S h k → Balanced cap h 0 → Kept cap K P h₀ h → Kept cap K P h₀ k
  keeps done balanced kept = kept
  keeps {h} (free_one x n z rest) balanced kept = keeps rest (free_balanced cap pos r h x z balanced) (free_kept h x balanced kept n z)
  keeps {h} (let_go_lem i q rest) balanced kept =
      keeps rest (let_go_balanced cap pos h i balanced)
      (record {
        slots_kept = λ s p. get_or-set_other h.slots i s 0 0 (λ e. spare i q (rw e at p)) ∙ kept.slots_kept s p;
        kept_or_gone = kept.kept_or_gone;
        sizes_kept = kept.sizes_kept;
        stuck = λ x e. count_down_stuck cap pos h.counts (slot h i) x (kept.stuck x e);
      })

  pub runs_kept : {k : Graph} → Runs cap r S h₀ k → Balanced cap h₀ 0 → Kept cap K P h₀ k
  runs_kept runs balanced = keeps runs balanced (kept_refl cap K P h₀)

-- ---- no early free

-- a root leads to the object at b
pub data Reach (r : ℕ) (sizes slots : List ℕ) : ℕ → Type 0 where
  root : {b : ℕ} (s : ℕ) → s < r → get_or slots s 0 ≡ suc b → Reach r sizes slots b
  link : {b : ℕ} (a s : ℕ) → Reach r sizes slots a → Owns r sizes a s → get_or slots s 0 ≡ suc b → Reach r sizes slots b

-- two objects do not share a slot
pub one_owner : (r : ℕ) (sizes : List ℕ) (x y s : ℕ) → Disjoint sizes → Owns r sizes x s → Owns r sizes y s → x ≡ y
one_owner r sizes x y s disjoint p q =
    elim (ℕ_discrete x y) [
      | yes e ↦ e
      | no n ↦
          absurd
          (elim (dec_lt x y) [
            | yes l ↦ let t = disjoint x y l (omega (arith, p)) (omega (arith, q)) in omega (arith, p, q)
            | no l ↦ let t = disjoint y x (omega arith) (omega (arith, q)) (omega (arith, p)) in omega (arith, p, q)
          ])
    ]

-- a run of releases frees nothing that a root leads to
pub runs_reach :
    (cap : ℕ) (pos : 0 < cap) (r : ℕ) (h k : Graph) → Runs cap r (λ i. ⊥) h k → Balanced cap h 0 → Disjoint h.sizes
    → (b : ℕ) → Reach r h.sizes h.slots b → size k b ≡ size h b
runs_reach cap pos r h k runs balanced disjoint b reach =
    (runs_kept cap pos r (λ i. ⊥) K P h held apart (λ i e p. e) runs balanced).sizes_kept b reach
  where
    K : ℕ → Type 0
    K a = Reach r h.sizes h.slots a

    P : ℕ → Type 0
    P s = (s < r) ⊎ ((a : ℕ) × K a × Owns r h.sizes a s)

    held : (b : ℕ) → K b → (count h b ≡ cap) ⊎ ((s : ℕ) × P s × (slot h s ≡ suc b))
    held b (root s l e) = inr (s, inl l, e)
    held b (link a s k own e) = inr (s, inr (a, k, own), e)

    apart : (x s : ℕ) → ¬ K x → Owns r h.sizes x s → ¬ P s
    apart x s unreached own (inl l) = omega (arith, own)
    apart x s unreached own (inr (a, k, other)) = unreached (rw (one_owner r h.sizes a x s disjoint other own) at k)
