-- U8's second claim on object graphs. For a fixed object b: no root and no marked object leads to it. The
-- opening makes this so where no root leads to b, a step keeps it, and so does a store none of whose parties
-- leads to b. So b is unmarked at the close.
use mathlib.Core.Path.{◌≡◌, sym, ◌∙◌}
use mathlib.Core.Logic.{◌≢◌, ◌⊎◌, inl, inr}
use mathlib.Core.Bool.{Bool, true}
use mathlib.Core.List.{List}
use Prim.Native.Nat.{ℕ, suc, ◌<◌}
use native.Mathlib.Decide.{dec_lt}
use native.Mathlib.Omega.{arith}
use lib.ListN.{get_or}
use Rattle.theory_graphs.proofs.Graphs.Occurrences.{equals_none, occurrences_find}
use Rattle.theory_graphs.proofs.Graphs.Graph.{Graph, size, count, slot, Owns, Disjoint}
use Rattle.theory_graphs.proofs.Graphs.Balance.{Balanced}
use Rattle.theory_graphs.proofs.Graphs.Keep.{Runs, runs_kept, one_owner}
use Rattle.theory_graphs.proofs.Graphs.Sweep.{Owned}
use Rattle.theory_graphs.proofs.Graphs.Tidy.{Lets, Was, FreedNames}

-- the object at c is the one at b, or leads to it
pub data To (r : ℕ) (sizes slots : List ℕ) (b : ℕ) : ℕ → Type 0 where
  self : To r sizes slots b b
  link : {c : ℕ} (a s : ℕ) → Owns r sizes c s → get_or slots s 0 ≡ suc a → To r sizes slots b a → To r sizes slots b c

pub record Apart (r : ℕ) (h : Graph) (marks : ℕ → Bool) (b : ℕ) : Type 0 where
  pub marked : (c : ℕ) → marks c ≡ true → ¬ (To r h.sizes h.slots b c)
  pub rooted : (s c : ℕ) → s < r → slot h s ≡ suc c → ¬ (To r h.sizes h.slots b c)

-- ---- what leads to b is not freed, unless the old object does

-- k is the graph when the old object is counted down: its counts are none 0 but, it may be, the old object's
pub to_kept :
    (cap : ℕ) (pos : 0 < cap) (r : ℕ) (k g : Graph) (b : ℕ) → Runs cap r (λ i. ⊥) k g → Balanced cap k 0 → Disjoint k.sizes
    → Owned r k.sizes k.slots → ((c : ℕ) → To r k.sizes k.slots b c → count k c ≢ 0)
    → (c : ℕ) → To r k.sizes k.slots b c → size g c ≡ size k c
to_kept cap pos r k g b runs balanced disjoint owned counted c leads =
    (runs_kept cap pos r (λ i. ⊥) K P k held apart (λ i e p. e) runs balanced).sizes_kept c leads
  where
    K : ℕ → Type 0
    K a = To r k.sizes k.slots b a

    P : ℕ → Type 0
    P s = (s < r) ⊎ ((a : ℕ) × K a × Owns r k.sizes a s)

    held : (a : ℕ) → K a → (count k a ≡ cap) ⊎ ((s : ℕ) × P s × (slot k s ≡ suc a))
    held a leads =
        elim (dec_lt (count k a) cap) [
          | no l ↦ inl (omega (arith, (balanced a).bounded))
          | yes l ↦
              let e = (balanced a).exact l in
              let n = counted a leads in
              let f = occurrences_find (suc a) k.slots (omega (arith, equals_none a)) in
              inr (f.0, by f.0 f.2 (owned f.0 (omega (arith, f.2))), f.2)
        ]
      where
        by : (s : ℕ) → slot k s ≡ suc a → (s < r) ⊎ ((x : ℕ) × Owns r k.sizes x s) → P s
        by s e (inl l) = inl l
        by s e (inr (x, own)) = inr (x, link a s own e leads, own)

    apart : (x s : ℕ) → ¬ K x → Owns r k.sizes x s → ¬ P s
    apart x s out own (inl l) = omega (arith, own)
    apart x s out own (inr (a, q, other)) = out (rw (one_owner r k.sizes a x s disjoint other own) at q)

-- ---- a store

module _ (r : ℕ) (h k g : Graph) (T : ℕ → Type 0) (marks list marks' list' : ℕ → Bool) (b : ℕ) (apart : Apart r h marks b)
    (lets : Lets r h k g T) (stood : size h b ≢ 0)
    (now : (c : ℕ) → marks' c ≡ true → Was h k marks c ⊎ (T c ⊎ FreedNames r k g c))
    -- "no owner, old or new object .. was or led to" b
    (untouched : (c : ℕ) → T c → ¬ (To r k.sizes k.slots b c))
    (kept : (c : ℕ) → To r k.sizes k.slots b c → size g c ≡ size k c) where
  -- what leads to b afterwards led to it before anything was let go, and before the store
  to_left : {c : ℕ} → To r g.sizes g.slots b c → To r k.sizes k.slots b c
  to_left self = self
  to_left {c} (link a s own e rest) = link a s (rw (lets.stands c (omega (arith, own))) at own) (lets.left s a e) (to_left rest)

  -- what leads to b before anything is let go is an object of h: b itself, or one with a slot that isn't 0
  sized : {c : ℕ} → To r k.sizes k.slots b c → size h c ≢ 0
  sized self = stood
  sized {c} (link a s own e rest) =
      λ z.
      elim (lets.placed c) [
        | inl same ↦ omega (arith, own, same)
        | inr new ↦ omega (arith, new.1 s own)
      ]

  to_stored : {c : ℕ} → To r k.sizes k.slots b c → To r h.sizes h.slots b c
  to_stored self = self
  to_stored {c} (link a s own e rest) = go (lets.stored s a e) (lets.placed c) (to_stored rest)
    where
      go : (slot h s ≡ suc a) ⊎ T a → (size k c ≡ size h c) ⊎ ((size h c ≡ 0) × ((s : ℕ) → Owns r k.sizes c s → slot k s ≡ 0))
          → To r h.sizes h.slots b a → To r h.sizes h.slots b c
      go (inr t) p more = absurd (untouched a t rest)
      go (inl f) (inr new) more = absurd (omega (arith, new.1 s own))
      go (inl f) (inl same) more = link a s (rw same at own) f more

  pub apart_shades : Apart r g marks' b
  apart_shades =
      record {
        marked = λ c m to. go c (now c m) (to_left to);
        rooted = λ s c l e to. root s c l (lets.stored s c (lets.left s c e)) (to_left to);
      }
    where
      go : (c : ℕ) → Was h k marks c ⊎ (T c ⊎ FreedNames r k g c) → To r k.sizes k.slots b c → ⊥
      go c (inl (inl m)) to = apart.marked c m (to_stored to)
      go c (inl (inr born)) to = sized to born.0
      go c (inr (inl t)) to = untouched c t to
      go c (inr (inr f)) to =
          let up : To r k.sizes k.slots b f.object = link c f.place f.owns f.names to in
          f.stood (sym (kept f.object up) ∙ f.gone)

      root : (s c : ℕ) → s < r → (slot h s ≡ suc c) ⊎ T c → To r k.sizes k.slots b c → ⊥
      root s c l (inl e) to = apart.rooted s c l e (to_stored to)
      root s c l (inr t) to = untouched c t to

-- ---- the opening and a step

pub apart_opened :
    (r : ℕ) (h : Graph) (marks : ℕ → Bool) (b : ℕ) → ((s c : ℕ) → s < r → slot h s ≡ suc c → ¬ (To r h.sizes h.slots b c))
    → ((c : ℕ) → marks c ≡ true → (s : ℕ) × (s < r) × (slot h s ≡ suc c)) → Apart r h marks b
apart_opened r h marks b unled named =
    record { marked = λ c m to. unled (named c m).0 c (named c m).1 (named c m).2 to; rooted = unled }

-- the marked object at x is taken off the list; what its slots name is marked
pub apart_scanned :
    (r : ℕ) (h : Graph) (marks marks' : ℕ → Bool) (b x : ℕ) → Apart r h marks b → marks x ≡ true
    → ((c : ℕ) → marks' c ≡ true → (marks c ≡ true) ⊎ ((s : ℕ) × Owns r h.sizes x s × (slot h s ≡ suc c))) → Apart r h marks' b
apart_scanned r h marks marks' b x apart m now =
    record { marked = λ c n to. go c (now c n) to; rooted = apart.rooted }
  where
    go : (c : ℕ) → (marks c ≡ true) ⊎ ((s : ℕ) × Owns r h.sizes x s × (slot h s ≡ suc c)) → To r h.sizes h.slots b c → ⊥
    go c (inl old) to = apart.marked c old to
    go c (inr (s, own, e)) to = apart.marked x m (link c s own e to)
