-- What the walk meets in a heap is what roots lead to.
use mathlib.Core.Path.{◌≡◌, refl, sym, ap, ◌∙◌, subst}
use mathlib.Core.Logic.{◌≢◌, inl, inr}
use mathlib.Core.Bool.{true}
use mathlib.Core.List.{List, [], ◌∷◌}
use Prim.Native.Nat.{ℕ, zero, suc, ◌+◌, ◌-◌, ◌*◌, ◌≤◌, ◌<◌}
use native.Mathlib.Decide.{ℕ_discrete}
use native.Mathlib.Omega.{arith}
use lib.ListN.{length, get_or}
use lib.Dec.{eqb}
use borrow.Author.Tests.{eqb-true, ne_eqb}
use Rattle.rules.specs.Heap.{Memory, is_first, size_at, is_ref, ref_in, reference}
use Rattle.rules_output.specs.Walk.{number_in, object_at, walk, references_of, followed, numbered}
use Rattle.rules.proofs.Tests.{or_true}
use Rattle.rules.proofs.Objects.{first_facts, size_le}
use Rattle.rules.proofs.Tabulate.{length_tabulate, get_d_tabulate}
use Rattle.theory_memories.specs.Words.{Object, Leads, root, cell}
use Rattle.theory_memories.specs.Heaps.{Intact}
use Rattle.theory_memories.specs.Cells.{CellsRead}
use Rattle.theory_walks.specs.Shape.{AllMet, AllNumbered}
use Rattle.theory_memories.proofs.Maps.Undamaged.{damage_facts}
use Rattle.theory_memories.proofs.Memories.Healthy.{healthy_facts}
use Rattle.theory_memories.proofs.Memories.Cells.{cells_read}
use Rattle.theory_walks.proofs.Walks.Numbers.{Distinct, number_le, number_object, object_number}
use Rattle.theory_walks.proofs.Walks.Steps.{all_object, walk_all, walk_distinct, walk_length, walk_stands, roots_known, closed}

pub inside_list : (l : List ℕ) (i : ℕ) → get_or l i 0 ≢ 0 → i < length l
inside_list [] i n = absurd (n refl)
inside_list (x ∷ l) zero n = omega arith
inside_list (x ∷ l) (suc i) n = omega (arith, inside_list l i n)

module _ (N : ℕ) (h : Memory) where
  pub references_length : (b : ℕ) → length (references_of N h b) ≡ 4 * size_at N h b
  unfolding references_of
  references_length b = length_tabulate (4 * size_at N h b) (λ j. reference N h (4 * b + j))

  pub references_at : (b j : ℕ) → j < 4 * size_at N h b → get_or (references_of N h b) j 0 ≡ reference N h (4 * b + j)
  unfolding references_of
  references_at b j l = get_d_tabulate 0 (4 * size_at N h b) (λ j. reference N h (4 * b + j)) j l

  pub followed_zero : followed N h 0 ≡ []
  unfolding followed
  followed_zero = refl

  pub followed_block : (b : ℕ) → followed N h (suc b) ≡ references_of N h b
  unfolding followed
  followed_block b =
      let some : suc b ≢ 0 = omega arith in
      let same : suc b - 1 ≡ b = omega arith in
      rw (ne_eqb (suc b) 0 some, same, followed) refl

  -- what is followed is a cell of the object
  pub record Follows (v j : ℕ) : Type 0 where
    pub below : j < 4 * size_at N h (v - 1)
    pub is : get_or (followed N h v) j 0 ≡ reference N h (4 * (v - 1) + j)

  pub follows : (v j : ℕ) → get_or (followed N h v) j 0 ≢ 0 → Follows v j
  follows zero j s = absurd (s (ap (λ (l : List ℕ). get_or l j 0) followed_zero))
  follows (suc b) j s =
      let same : suc b - 1 ≡ b = omega arith in
      let list = followed_block b in
      let low : j < 4 * size_at N h b = omega (arith, inside_list (followed N h (suc b)) j s, ap length list, references_length b) in
      record { below = rw same low; is = rw same (ap (λ (l : List ℕ). get_or l j 0) list ∙ references_at b j low) }

  -- ---- references

  pub ref_first : (v : ℕ) → is_ref N h v ≡ true → v ≢ 0 → is_first N h (v - 1) ≡ true
  unfolding ref_in
  ref_first v e s = elim (or_true (eqb v 0) (is_first N h (v - 1)) e) [ inl z ↦ absurd (s (eqb-true v 0 z)) | inr f ↦ f ]

  ref_le : (v : ℕ) → is_ref N h v ≡ true → v ≤ N
  ref_le v e = elim (ℕ_discrete v 0) [
    | yes z ↦ omega arith
    | no s ↦ omega (arith, (first_facts N h.a h.b (v - 1) (ref_first v e s)).inside)
  ]

  pub led_first : {b : ℕ} → Leads N h b → is_first N h b ≡ true
  led_first (root b n r object l q) = object.first
  led_first (cell b n a m j object before owner l q) = object.first

  object_at_lem : (b : ℕ) → is_first N h b ≡ true → Object N h b (size_at N h b)
  object_at_lem b first = record { first = first; size = refl }

-- what the walk asks of a heap, and what a heap without damage has: roots and cells name objects (kind 4),
-- and cells of data are read as 0
pub record Named (N : ℕ) (h : Memory) : Type 0 where
  pub of_root : (r : ℕ) → r < length h.roots → is_ref N h (get_or h.roots r 0) ≡ true
  pub of_cell : (j : ℕ) → j < 4 * N → is_ref N h (reference N h j) ≡ true
  pub read : CellsRead N h

pub intact_named : (N w : ℕ) (h : Memory) → Intact N w h → Named N h
intact_named N w h u =
    let free = damage_facts N w h u.no_damage in
    record {
      of_root = free.root_refs;
      of_cell = free.cell_refs_lem;
      read = cells_read N w h (healthy_facts N w h u.right_shape u.no_damage);
    }

module _ (N : ℕ) (h : Memory) (named : Named N h) where
  root_ref : (r : ℕ) → get_or h.roots r 0 ≢ 0 → is_ref N h (get_or h.roots r 0) ≡ true
  root_ref r s = named.of_root r (inside_list h.roots r s)

  cell_ref : (b j : ℕ) → j < 4 * size_at N h b → is_ref N h (reference N h (4 * b + j)) ≡ true
  cell_ref b j l = named.of_cell (4 * b + j) (omega (arith, size_le (N - b) h.b b))

  -- what a root names is led to, and so is what a cell of an object names that is led to
  pub root_led : (r : ℕ) → get_or h.roots r 0 ≢ 0 → Leads N h (get_or h.roots r 0 - 1)
  root_led r s =
      let v = get_or h.roots r 0 in
      root (v - 1) (size_at N h (v - 1)) r (object_at_lem N h (v - 1) (ref_first N h v (root_ref r s) s)) (inside_list h.roots r s) (omega arith)

  pub cell_led : {b : ℕ} → Leads N h b → (j : ℕ) → j < 4 * size_at N h b → reference N h (4 * b + j) ≢ 0 → Leads N h (reference N h (4 * b + j) - 1)
  cell_led {b} led j l s =
      let v = reference N h (4 * b + j) in
      cell (v - 1) (size_at N h (v - 1)) b (size_at N h b) j (object_at_lem N h (v - 1) (ref_first N h v (cell_ref b j l) s)) led
      (object_at_lem N h b (led_first N h led)) l (omega arith)

  pub roots_below : (r : ℕ) → get_or h.roots r 0 ≤ N
  roots_below r = elim (ℕ_discrete (get_or h.roots r 0) 0) [ yes z ↦ omega arith | no s ↦ ref_le N h (get_or h.roots r 0) (root_ref r s) ]

  pub cells_below : (v j : ℕ) → get_or (followed N h v) j 0 ≤ N
  cells_below v j = elim (ℕ_discrete (get_or (followed N h v) j 0) 0) [
    | yes z ↦ omega arith
    | no s ↦ let f = follows N h v j s in omega (arith, f.is, ref_le N h (reference N h (4 * (v - 1) + j)) (cell_ref (v - 1) j f.below))
  ]

  -- ---- what is met is led to, and the other way

  abbrev Led : ℕ → Type 0
  Led v = (v ≢ 0) × Leads N h (v - 1)

  pub numbered_distinct : Distinct (numbered N h)
  unfolding numbered
  numbered_distinct = walk_distinct h.roots (followed N h) (followed_zero N h) N

  pub met_led : (v n : ℕ) → number_in (numbered N h) v ≡ suc n → (v ≢ 0) × Leads N h (v - 1)
  unfolding numbered
  met_led v n e = all_object (walk_all h.roots (followed N h) (followed_zero N h) {P = Led} (λ r s. (s, root_led r s)) next N) v n e
    where
      next : (v j : ℕ) → Led v → get_or (followed N h v) j 0 ≢ 0 → Led (get_or (followed N h v) j 0)
      next v j led s =
          let f = follows N h v j s in
          (s, subst (λ (x : ℕ). Leads N h (x - 1)) (sym f.is) (cell_led led.1 j f.below (λ z. s (f.is ∙ z))))

  pub led_met : {b : ℕ} → Leads N h b → (n : ℕ) × (number_in (numbered N h) (suc b) ≡ suc n)
  unfolding numbered
  led_met (root b n r object l e) =
      let v : get_or h.roots r 0 ≡ suc b = omega arith in
      subst (λ (x : ℕ). (n : ℕ) × (number_in (walk h.roots (followed N h) N) x ≡ suc n)) v
      (roots_known h.roots (followed N h) (followed_zero N h) N r (omega arith))
  led_met (cell b n a m j object before owner l e) =
      let at = led_met before in
      let low : j < 4 * size_at N h a = omega (arith, owner.size) in
      let v : get_or (followed N h (suc a)) j 0 ≡ suc b =
      ap (λ (l : List ℕ). get_or l j 0) (followed_block N h a) ∙ references_at N h a j low ∙ (omega arith) in
      subst (λ (x : ℕ). (n : ℕ) × (number_in (walk h.roots (followed N h) N) x ≡ suc n)) v
      (closed h.roots (followed N h) (followed_zero N h) N roots_below cells_below (suc a) at.0 at.1 j (omega arith))

  pub numbered_length : length (numbered N h) ≤ N
  unfolding numbered
  numbered_length = walk_length h.roots (followed N h) (followed_zero N h) N roots_below cells_below N

  -- more turns change nothing
  pub walk_more : (k : ℕ) → walk h.roots (followed N h) (k + N) ≡ numbered N h
  unfolding numbered
  walk_more zero = ap (walk h.roots (followed N h)) (omega arith)
  walk_more (suc k) =
      let long = walk_length h.roots (followed N h) (followed_zero N h) N roots_below cells_below (k + N) in
      let place : suc k + N ≡ suc (k + N) = omega arith in
      rw place (walk_stands h.roots (followed N h) (followed_zero N h) (k + N) (omega arith) ∙ walk_more k)

  pub all_met : AllMet N h
  all_met = record {
    each_number = λ b led.
        let known = led_met led in
        let n = known.0 in (
          n,
          omega (arith, known.1, number_le (numbered N h) (suc b)),
          record { number = known.1; object = number_object (numbered N h) (suc b) n known.1 },
        );
    each_object = λ n l.
        let v = object_at (numbered N h) (suc n) in
        let number : number_in (numbered N h) v ≡ suc n = object_number numbered_distinct (suc n) (omega arith) (omega arith) in
        let led = met_led v n number in
        let whole : v ≡ suc (v - 1) = omega (arith, led.0) in
        (v - 1, led.1, record { number = ap (number_in (numbered N h)) (sym whole) ∙ number; object = whole });
    no_more = walk_more;
  }

pub all_numbered : AllNumbered
all_numbered N w h u = all_met N h (intact_named N w h u)
