-- An object that stands has the size, the D bit and the cells that it had: what the freeing of another leaves of it.
use mathlib.Core.Path.{◌≡◌, refl, sym, ap, ◌∙◌}
use mathlib.Core.Logic.{◌≢◌, ◌⊎◌, inl, inr}
use mathlib.Core.Bool.{true, false}
use mathlib.Core.List.{List}
use Prim.Native.Nat.{ℕ, ◌+◌, ◌-◌, ◌*◌, ◌/◌}
use native.Mathlib.Decide.{dec_lt}
use native.Mathlib.Omega.{arith}
use lib.ListN.{get_or, set}
use lib.Seq.{get_or-set_other}
use Rattle.bitmap.specs.Bit.{bit_at, set_bit, fill_bits}
use Rattle.bitmap.proofs.Maps.{bit_set_other}
use Rattle.rules.specs.Heap.{Memory, first_in}
use Rattle.rules_stores.specs.Store.{freed}
use Rattle.rules.proofs.Objects.{bit_cases}
use Rattle.rules.proofs.Tests.{test_cases_lem}
use Rattle.theory_memories.proofs.Maps.Extents.{Represents, sizes_of, first_size, represents_is}
use Rattle.theory_memories.proofs.Maps.Moves.{freed_represents}
use Rattle.theory_graphs.proofs.Graphs.Stretch.{Inside, Outside, set_zero}
use Rattle.theory_memories.proofs.Memories.Reading.{Bare, cleared_out}

abbrev pub sizes_in : ℕ → Memory → List ℕ
sizes_in N h = sizes_of N h.a h.b

-- the object at x has in g the size, the D bit and the cells that it has in h
pub record Kept (N : ℕ) (h g : Memory) (x : ℕ) : Type 0 where
  pub size : get_or (sizes_in N g) x 0 ≡ get_or (sizes_in N h) x 0
  pub kind : bit_at g.d x ≡ bit_at h.d x
  pub cells : (j : ℕ) → Inside (4 * x) (4 * get_or (sizes_in N h) x 0) j → get_or g.cells j 0 ≡ get_or h.cells j 0

pub kept_same : (N : ℕ) (h : Memory) (x : ℕ) → Kept N h h x
kept_same N h x = record { size = refl; kind = refl; cells = λ j inside. refl }

pub kept_trans : {N : ℕ} {h g k : Memory} {x : ℕ} → Kept N h g x → Kept N g k x → Kept N h k x
kept_trans early late =
    record {
      size = late.size ∙ early.size;
      kind = late.kind ∙ early.kind;
      cells = λ j inside. late.cells j (rw early.size inside) ∙ early.cells j inside;
    }

module _ (N w : ℕ) (g : Memory) (sizes : List ℕ) (rep : Represents N g.a g.b sizes) (x n : ℕ) (e : get_or sizes x 0 ≡ n)
    (some : n ≢ 0) where
  -- another object's cells are not among those of the freed one
  apart : (y j : ℕ) → y ≢ x → get_or sizes y 0 ≢ 0 → Inside (4 * y) (4 * get_or sizes y 0) j → Outside (4 * x) (4 * n) j
  apart y j other stands inside =
      elim (dec_lt y x) [
        | yes l ↦ let t = rep.apart y x l stands (omega arith) in inl (omega (arith, inside))
        | no l ↦ let t = rep.apart x y (omega arith) (omega arith) stands in inr (omega (arith, inside))
      ]

  pub freed_kept : (y : ℕ) → get_or (sizes_in N (freed N w g x n)) y 0 ≢ 0 → Kept N g (freed N w g x n) y
  unfolding freed
  freed_kept y stands =
      let gone =
      represents_is N (fill_bits g.a x n 0) (set_bit g.b (x + n - 1) 1) (set sizes x 0)
      (freed_represents N g.a g.b sizes rep x n e some) in
      let left = ap (λ (l : List ℕ). get_or l y 0) (sym gone) in
      let other : y ≢ x = λ q. stands (left ∙ ap (λ (k : ℕ). get_or (set sizes x 0) k 0) q ∙ set_zero sizes x) in
      let still = left ∙ get_or-set_other sizes x y 0 0 other in
      let was = ap (λ (l : List ℕ). get_or l y 0) (represents_is N g.a g.b sizes rep) in
      record {
        size = still ∙ was;
        kind = bit_set_other g.d x 0 y other (omega arith);
        cells = λ j inside. cleared_out g.cells (4 * x) (4 * n) j (apart y j other (λ z. stands (still ∙ z)) (rw was inside));
      }

-- ---- two memories in which what stands is as it was in h, and with one pair of maps: their cells and their D bits are the same

module _ (N : ℕ) (h : Memory) {g k : Memory} (represents : Represents N g.a g.b (sizes_in N g))
    (bare-g : Bare N g.a g.b g.d g.cells) (bare-k : Bare N k.a k.b k.d k.cells)
    (keeps-g : (x : ℕ) → get_or (sizes_in N g) x 0 ≢ 0 → Kept N h g x) (keeps-k : (x : ℕ) → get_or (sizes_in N k) x 0 ≢ 0 → Kept N h k x)
    (maps_a : g.a ≡ k.a) (maps_b : g.b ≡ k.b) where
  stands : (x : ℕ) → get_or (sizes_in N g) x 0 ≢ 0 → get_or (sizes_in N k) x 0 ≢ 0
  stands x some z = some (rw (maps_a, maps_b) z)

  pub kept_cell : (j : ℕ) → get_or g.cells j 0 ≡ get_or k.cells j 0
  kept_cell j = go (bit_cases g.a (j / 4))
    where
      go : (bit_at g.a (j / 4) ≡ 0) ⊎ (bit_at g.a (j / 4) ≡ 1) → get_or g.cells j 0 ≡ get_or k.cells j 0
      go (inl z) = bare-g.free_cells j z ∙ sym (bare-k.free_cells j (ap (λ (m : List ℕ). bit_at m (j / 4)) (sym maps_a) ∙ z))
      go (inr u) =
          let o = represents.owner (j / 4) u in
          let some : get_or (sizes_in N g) o.0 0 ≢ 0 = omega (arith, o.1, o.2) in
          let in_g = keeps-g o.0 some in
          let in-k = keeps-k o.0 (stands o.0 some) in
          let inside : Inside (4 * o.0) (4 * get_or (sizes_in N h) o.0 0) j = (omega (arith, o.1), omega (arith, o.2, in_g.size)) in
          in_g.cells j inside ∙ sym (in-k.cells j inside)

  pub kept_kind : (x : ℕ) → bit_at g.d x ≡ bit_at k.d x
  kept_kind x = go (test_cases_lem (first_in N g.a g.b x))
    where
      go : (first_in N g.a g.b x ≡ true) ⊎ (first_in N g.a g.b x ≡ false) → bit_at g.d x ≡ bit_at k.d x
      go (inl f) =
          let some = first_size N g.a g.b (sizes_in N g) represents x f in
          (keeps-g x some).kind ∙ sym (keeps-k x (stands x some)).kind
      go (inr f) = bare-g.data_first x f ∙ sym (bare-k.data_first x (rw (← maps_a, ← maps_b) f))
