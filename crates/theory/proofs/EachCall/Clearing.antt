-- Roots of a healthy memory are cleared (request U10): the memory stays healthy, and in the object graph this is a run that lets go of the
-- slots of these roots and of no other.
use mathlib.Core.Path.{◌≡◌, refl, sym, ap, ◌∙◌, subst}
use mathlib.Core.Logic.{◌⊎◌, inl, inr}
use mathlib.Core.Bool.{Bool, true, false}
use mathlib.Core.List.{[]}
use Prim.Native.Nat.{ℕ, zero, suc, ◌≤◌, ◌<◌}
use native.Mathlib.Decide.{ℕ_discrete}
use native.Mathlib.Omega.{arith}
use lib.Dec.{eqb}
use lib.ListN.{length, get_or, set}
use borrow.Author.Tests.{eqb-true, eqb-false}
use Rattle.bitmap.specs.Bit.{bit_of, zeros}
use Rattle.bitmap.proofs.Rewrites.{same}
use Rattle.rules.specs.Heap.{Memory, with_roots, capacity, is_ref}
use Rattle.rules_stores.specs.Store.{work, count_up, let_go, put_root, change_root, is_chosen}
use Rattle.rules_stores.proofs.Plain.{store_root_in, clear_chosen, return_in}
use Rattle.rules_calls.specs.Calls.{settled}
use Rattle.rules.proofs.Objects.{ref_test}
use Rattle.theory_graphs.proofs.Graphs.Graph as graph
use Rattle.theory_graphs.proofs.Graphs.Graph.{Graph, slot}
use Rattle.theory_graphs.proofs.Graphs.Keep.{Runs, done}
use Rattle.theory_graphs.proofs.Graphs.Returns.{runs_append, clear_runs, clear_slot, stays_clear}
use Rattle.theory_memories.proofs.Memories.View.{view}
use Rattle.theory_memories.proofs.Memories.Slots.{root_slot}
use Rattle.theory_memories.proofs.Memories.Healthy.{Healthy}
use Rattle.theory_memories.proofs.Memories.ViewRelease.{Shows}
use Rattle.theory_memories.proofs.Memories.SameView.{Rewrites, rewrites_trans, rewrites_same, down_rewritten}
use Rattle.theory_memories.proofs.Memories.Orders.{release_rewrites}
use Rattle.theory_memories.proofs.Memories.Stores.{memory_left, positive, store_root_lem}
use Rattle.theory_memories.proofs.Memories.Settled.{settled_healthy}
use Rattle.theory.proofs.EachCall.StoresServed.{store_root_healthy}

-- 0 may always be stored
pub none_ref : (N : ℕ) (h : Memory) → is_ref N h 0 ≡ true
none_ref N h = ref_test N h.a h.b 0 (inl refl)

-- g was got from h by clearing roots of S, all those of T among them
pub record Cleared (N w : ℕ) (S T : ℕ → Type 0) (h g : Memory) : Type 0 where
  pub healthy : Healthy N w g
  pub roots_are : length g.roots ≡ length h.roots
  pub runs : Runs (capacity w) (length h.roots) S (view N w h) (view N w g)
  pub clear : (i : ℕ) → T i → slot (view N w g) i ≡ 0
  pub rewrites : Rewrites N h g
  pub grows : zeros h.a ≤ zeros g.a

-- ---- none, and some after others

pub cleared_none : (N w : ℕ) (S : ℕ → Type 0) (h : Memory) → Healthy N w h → Cleared N w S (λ i. ⊥) h h
cleared_none N w S h healthy =
    record { healthy = healthy; roots_are = refl; runs = done; clear = λ i z. absurd z; rewrites = rewrites_same N h; grows = omega arith }

pub cleared_then :
    (N w : ℕ) (S T U Both : ℕ → Type 0) (h g k : Memory) → Cleared N w S T h g → Cleared N w S U g k → ((i : ℕ) → Both i → T i ⊎ U i)
    → Cleared N w S Both h k
cleared_then N w S T U Both h g k p q split =
    let run : Runs (capacity w) (length h.roots) S (view N w g) (view N w k) =
    subst (λ (r : ℕ). Runs (capacity w) r S (view N w g) (view N w k)) p.roots_are q.runs in
    record {
      healthy = q.healthy;
      roots_are = q.roots_are ∙ p.roots_are;
      runs = runs_append p.runs run;
      clear = λ i b.
          elim (split i b) [ inl t ↦ stays_clear (positive N w g p.healthy) run i (p.clear i t) | inr u ↦ q.clear i u ];
      rewrites = rewrites_trans p.rewrites q.rewrites;
      grows = omega (arith, p.grows, q.grows);
    }

-- the waiting list may be cleared too
pub cleared_settled : (N w : ℕ) (S T : ℕ → Type 0) (h g : Memory) → Cleared N w S T h g → Cleared N w S T h (settled N g)
cleared_settled N w S T h g p =
    record {
      healthy = settled_healthy N w g p.healthy;
      roots_are = p.roots_are;
      runs = p.runs;
      clear = p.clear;
      rewrites = record {
        a = p.rewrites.a;
        b = p.rewrites.b;
        counts = p.rewrites.counts;
        d = p.rewrites.d;
        keeps = λ x some. let kept = p.rewrites.keeps x some in record { size = kept.size; kind = kept.kind; cells = kept.cells };
      };
      grows = p.grows;
    }

-- ---- one root

module _ (N w : ℕ) (S : ℕ → Type 0) (h : Memory) (healthy : Healthy N w h) (r : ℕ) (l : r < length h.roots) (s : S r) where
  shows : Shows N w (length h.roots) (change_root N w h r 0) (graph.store (capacity w) (length h.roots) (view N w h) r 0)
  unfolding change_root put_root
  shows = (store_root_lem N w h healthy 0 (none_ref N h) r l).shows

  changed_rewrites : Rewrites N h (change_root N w h r 0) × (zeros h.a ≤ zeros (change_root N w h r 0).a)
  unfolding change_root put_root let_go count_up
  changed_rewrites =
      let released = release_rewrites N w _ _ (store_root_lem N w h healthy 0 (none_ref N h) r l).releasing in
      let dropped : Memory = memory_left N w (with_roots (set h.roots r 0) h) (get_or h.roots r 0) in
      let first : Rewrites N h dropped =
      record {
        a = same;
        b = same;
        counts = down_rewritten N w (work h.counts []) (get_or h.roots r 0);
        d = same;
        keeps = λ x some. record { size = refl; kind = refl; cells = λ j inside. refl };
      } in
      (rewrites_trans first released.0, released.1)

  pub root_cleared : Cleared N w S (λ i. i ≡ r) h (store_root_in N w h r 0)
  unfolding store_root_in
  root_cleared = go (eqb (get_or h.roots r 0) 0) refl (store_root_healthy N w h healthy r 0 l (none_ref N h))
    where
      go : (t : Bool) → eqb (get_or h.roots r 0) 0 ≡ t → Healthy N w (elim t [ true ↦ h | false ↦ change_root N w h r 0 ])
          → Cleared N w S (λ i. i ≡ r) h (elim t [ true ↦ h | false ↦ change_root N w h r 0 ])
      go true e fine =
          record {
            healthy = fine;
            roots_are = refl;
            runs = done;
            clear = λ i q. rw q (root_slot N h r l ∙ eqb-true (get_or h.roots r 0) 0 e);
            rewrites = rewrites_same N h;
            grows = omega arith;
          }
      go false e fine =
          record {
            healthy = fine;
            roots_are = shows.roots_are;
            runs =
                subst (λ (k : Graph). Runs (capacity w) (length h.roots) S (view N w h) k) (sym shows.view_is)
                (clear_runs (capacity w) (positive N w h healthy) (length h.roots) S (view N w h) healthy.whole r s);
            clear = λ i q.
                rw q
                (ap (λ (k : Graph). slot k r) shows.view_is
                ∙ clear_slot (capacity w) (positive N w h healthy) (length h.roots) (view N w h) healthy.whole r);
            rewrites = changed_rewrites.0;
            grows = changed_rewrites.1;
          }

-- ---- the roots of a set

-- root i is one of the set, and below n
abbrev pub InSet : (chosen n i : ℕ) → Type 0
InSet chosen n i = (i < n) × (bit_of chosen i ≡ 1)

module _ (N w : ℕ) (h : Memory) (healthy : Healthy N w h) (chosen : ℕ) where
  abbrev ReturnedTo : ℕ → Memory → Type 0
  ReturnedTo n g = Cleared N w (InSet chosen (length h.roots)) (InSet chosen n) h g

  return_one :
      (n : ℕ) → n < length h.roots → (g : Memory) → ReturnedTo n g → (t : Bool) → is_chosen chosen n ≡ t
      → ReturnedTo (suc n) (elim t [ true ↦ store_root_in N w g n 0 | false ↦ g ])
  return_one n l g before true e =
      cleared_then N w (InSet chosen (length h.roots)) (InSet chosen n) (λ i. i ≡ n) (InSet chosen (suc n)) h g (store_root_in N w g n 0) before
      (root_cleared N w (InSet chosen (length h.roots)) g before.healthy n (omega (arith, before.roots_are))
      (l, eqb-true (bit_of chosen n) 1 e))
      (λ i s. elim (ℕ_discrete i n) [ yes q ↦ inr q | no q ↦ inl (omega (arith, s.0), s.1) ])
  return_one n l g before false e =
      cleared_then N w (InSet chosen (length h.roots)) (InSet chosen n) (λ i. ⊥) (InSet chosen (suc n)) h g g before
      (cleared_none N w (InSet chosen (length h.roots)) g before.healthy)
      (λ i s.
      elim (ℕ_discrete i n) [
        | yes q ↦ absurd (eqb-false (bit_of chosen n) 1 e (ap (λ (k : ℕ). bit_of chosen k) (sym q) ∙ s.1))
        | no q ↦ inl (omega (arith, s.0), s.1)
      ])

  pub returned : (n : ℕ) → n ≤ length h.roots → ReturnedTo n (return_in N w h chosen n)
  unfolding return_in clear_chosen
  returned zero l =
      let none = cleared_none N w (InSet chosen (length h.roots)) h healthy in
      cleared_then N w (InSet chosen (length h.roots)) (λ i. ⊥) (λ i. ⊥) (InSet chosen 0) h h h none none
      (λ i s. absurd (omega (arith, s.0)))
  returned (suc n) l =
      return_one n (omega arith) (return_in N w h chosen n) (returned n (omega arith)) (is_chosen chosen n) refl
