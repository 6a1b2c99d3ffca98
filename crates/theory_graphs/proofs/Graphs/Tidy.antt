-- U8 on object graphs: marks and list after a call that stores keep number 13's condition. Three graphs: h
-- before the call, k with a new object placed and the slot written, g when all is let go. No induction over
-- the release is needed.
use mathlib.Core.Path.{◌≡◌, ◌∙◌}
use mathlib.Core.Logic.{◌≢◌, ◌⊎◌, inl, inr}
use mathlib.Core.Bool.{Bool, true, false}
use Prim.Native.Nat.{ℕ, suc, ◌<◌}
use native.Mathlib.Omega.{arith}
use Rattle.theory_graphs.proofs.Graphs.Graph.{Graph, size, slot, Owns}

-- while a collection is open: number 13's conditions on marks and list as sets
pub record Tidy (r : ℕ) (h : Graph) (marks list : ℕ → Bool) : Type 0 where
  pub listed_marked : (b : ℕ) → list b ≡ true → marks b ≡ true
  pub objects : (b : ℕ) → marks b ≡ true → size h b ≢ 0
  pub roots : (s b : ℕ) → s < r → slot h s ≡ suc b → marks b ≡ true
  pub cells : (x s b : ℕ) → marks x ≡ true → list x ≡ false → Owns r h.sizes x s → slot h s ≡ suc b → marks b ≡ true

-- what a call that stores does to the graph; T are its owner, old and new objects
pub record Lets (r : ℕ) (h k g : Graph) (T : ℕ → Type 0) : Type 0 where
  -- an object of k stood in h, or is new, with slots that are 0
  pub placed : (x : ℕ) → (size k x ≡ size h x) ⊎ ((size h x ≡ 0) × ((s : ℕ) → Owns r k.sizes x s → slot k s ≡ 0))
  -- what a slot of k names it named in h, or it is the new object of the store
  pub stored : (s b : ℕ) → slot k s ≡ suc b → (slot h s ≡ suc b) ⊎ T b
  -- letting go leaves objects and slots as they were, or nothing
  pub stands : (x : ℕ) → size g x ≢ 0 → size g x ≡ size k x
  pub left : (s b : ℕ) → slot g s ≡ suc b → slot k s ≡ suc b
  pub named : (s b : ℕ) → slot g s ≡ suc b → size g b ≢ 0

-- marked before, or born
abbrev pub Was : (h k : Graph) → (marks : ℕ → Bool) → ℕ → Type 0
Was h k marks b = (marks b ≡ true) ⊎ ((size h b ≡ 0) × (size k b ≢ 0))

-- named by a slot of an object that is freed
pub record FreedNames (r : ℕ) (k g : Graph) (b : ℕ) : Type 0 where
  pub object : ℕ
  pub place : ℕ
  pub stood : size k object ≢ 0
  pub gone : size g object ≡ 0
  pub owns : Owns r k.sizes object place
  pub names : slot k place ≡ suc b

-- `marks_after` and `list_after` of the rules
pub record Shades (r : ℕ) (h k g : Graph) (T : ℕ → Type 0) (marks list marks' list' : ℕ → Bool) : Type 0 where
  pub now : (b : ℕ) → marks' b ≡ true → (size g b ≢ 0) × (Was h k marks b ⊎ (T b ⊎ FreedNames r k g b))
  pub also : (b : ℕ) → size g b ≢ 0 → Was h k marks b ⊎ (T b ⊎ FreedNames r k g b) → marks' b ≡ true
  pub listed : (b : ℕ) → list' b ≡ true → (marks' b ≡ true) × ((list b ≡ true) ⊎ ¬ (Was h k marks b))
  pub unlisted : (b : ℕ) → marks' b ≡ true → list' b ≡ false → Was h k marks b × (list b ≡ false)

module _ (r : ℕ) (h k g : Graph) (T : ℕ → Type 0) (marks list marks' list' : ℕ → Bool) (tidy : Tidy r h marks list)
    (lets : Lets r h k g T) (shades : Shades r h k g T marks list marks' list') where
  -- what a slot of g names is marked then, if what it named in h was marked
  named_marked : (s b : ℕ) → slot g s ≡ suc b → (slot h s ≡ suc b → marks b ≡ true) → marks' b ≡ true
  named_marked s b e was = go (lets.stored s b (lets.left s b e))
    where
      go : (slot h s ≡ suc b) ⊎ T b → marks' b ≡ true
      go (inl f) = shades.also b (lets.named s b e) (inl (inl (was f)))
      go (inr t) = shades.also b (lets.named s b e) (inr (inl t))

  -- a slot of g is one of the same object in k
  pub owns_before : (x s : ℕ) → Owns r g.sizes x s → Owns r k.sizes x s
  owns_before x s own = rw (lets.stands x (omega (arith, own))) at own

  pub tidy_shades : Tidy r g marks' list'
  tidy_shades =
      record {
        listed_marked = λ b e. (shades.listed b e).0;
        objects = λ b e. (shades.now b e).0;
        roots = λ s b l e. named_marked s b e (tidy.roots s b l);
        cells = λ x s b m u own e. named_marked s b e (cell x s b (shades.unlisted x m u).0 (shades.unlisted x m u).1 (owns_before x s own) e);
      }
    where
      cell : (x s b : ℕ) → Was h k marks x → list x ≡ false → Owns r k.sizes x s → slot g s ≡ suc b → slot h s ≡ suc b → marks b ≡ true
      cell x s b was u own e f = go was (lets.placed x)
        where
          go : Was h k marks x → (size k x ≡ size h x) ⊎ ((size h x ≡ 0) × ((s : ℕ) → Owns r k.sizes x s → slot k s ≡ 0)) → marks b ≡ true
          go (inl m) (inl same) = tidy.cells x s b m u (rw same at own) f
          go (inl m) (inr new) = absurd (tidy.objects x m new.0)
          go (inr born) (inl same) = absurd (born.1 (same ∙ born.0))
          go (inr born) (inr new) = absurd (omega (arith, new.1 s own, lets.left s b e))
