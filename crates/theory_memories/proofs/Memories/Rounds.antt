-- What N rounds of marking find: exactly the objects that a root leads to. Each round holds what the one before it held, and while it
-- holds more, the number of marks grows; so after N rounds nothing is added, and a set to which nothing is added holds all that is led to.
-- This is so for every memory, damaged or not.
use mathlib.Core.Path.{◌≡◌, refl, sym, ap, ◌∙◌}
use mathlib.Core.Logic.{◌⊎◌, inl, inr}
use mathlib.Core.Bool.{Bool, true, false, not, ◌&&◌, false≢true}
use mathlib.Core.List.{List}
use Prim.Native.Nat.{ℕ, zero, suc, ◌+◌, ◌-◌, ◌*◌, ◌≤◌, ◌<◌}
use native.Mathlib.Decide.{dec_lt}
use native.Mathlib.Omega.{arith}
use lib.ListN.{length, get_or, replicate, length-replicate, get_or-replicate, get_or-eq_default}
use lib.Dec.{leb, ltb, eqb}
use borrow.Author.Tests.{leb-true, le-leb, ltb-true, lt-ltb, eqb-true, eq-eqb, not-true, not-false}
use Rattle.bitmap.specs.Bit.{count_below}
use Rattle.rules.specs.Tools.{holding, some_below}
use Rattle.rules.specs.Heap.{Memory, is_first, size_at, reference}
use Rattle.rules_stores.specs.Collection.{is_cell_of, cell_of_chosen, references_from, marked, reached_next, reached_in, reached}
use Rattle.theory_memories.specs.Words.{Leads, root, cell}
use Rattle.rules.proofs.Tests.{test_cases_lem, and_true, true_and, and_false, some_true, true_some, some_false}
use Rattle.rules.proofs.Objects.{first_facts, size_le}
use Rattle.rules.proofs.Tabulate.{length_tabulate, get_d_tabulate}
use Rattle.rules.proofs.Counting.{count_found, found_count, count_grows, count_all, then_true, true_then}

-- ---- a list of marks

none_marked : (n i : ℕ) → marked (replicate n false) i ≡ false
none_marked n i =
    elim (dec_lt i n) [
      | yes l ↦ get_or-replicate n i false false l
      | no l ↦ get_or-eq_default (replicate n false) false {n = i} (omega (arith, length-replicate n false))
    ]

module _ (N : ℕ) (h : Memory) where
  -- ---- cells of the objects in a set

  -- cell number j is one of the object at block a, which is in the set
  pub record CellOf (set : ℕ → Bool) (j a : ℕ) : Type 0 where
    pub first : is_first N h a ≡ true
    pub chosen : set a ≡ true
    pub from : 4 * a ≤ j
    pub below : j < 4 * (a + size_at N h a)

  pub cell_of_set : (set : ℕ → Bool) (j : ℕ) → cell_of_chosen N h set j ≡ true → (a : ℕ) × CellOf set j a
  unfolding cell_of_chosen is_cell_of
  cell_of_set set j e =
      let found = some_true (λ i. is_first N h i && set i && is_cell_of N h i j) N e in
      let a = found.0 in
      let both = and_true (is_first N h a && set a) (is_cell_of N h a j) found.2 in
      let object = and_true (is_first N h a) (set a) both.0 in
      let place = and_true (leb (4 * a) j) (ltb j (4 * (a + size_at N h a))) both.1 in (
        a,
        record {
          first = object.0;
          chosen = object.1;
          from = leb-true (4 * a) j place.0;
          below = ltb-true j (4 * (a + size_at N h a)) place.1;
        },
      )

  pub of_set_cell : (set : ℕ → Bool) (j a : ℕ) → CellOf set j a → cell_of_chosen N h set j ≡ true
  unfolding cell_of_chosen is_cell_of
  of_set_cell set j a c =
      true_some (λ i. is_first N h i && set i && is_cell_of N h i j) N a (first_facts N h.a h.b a c.first).inside
      (true_and (is_first N h a && set a) (is_cell_of N h a j) (true_and (is_first N h a) (set a) c.first c.chosen)
      (true_and (leb (4 * a) j) (ltb j (4 * (a + size_at N h a))) (le-leb (4 * a) j c.from) (lt-ltb j (4 * (a + size_at N h a)) c.below)))

  -- ---- what names a block from the roots and from the cells of the objects in a set

  -- cell number j names the object at block b and belongs to an object in the set
  abbrev pub names_from : (ℕ → Bool) → ℕ → ℕ → Bool
  names_from set b j = elim (eqb (reference N h j) (b + 1)) [ true ↦ cell_of_chosen N h set j | false ↦ false ]

  data NamedFrom (set : ℕ → Bool) (b : ℕ) : Type 0 where
    by_root : (r : ℕ) → r < length h.roots → get_or h.roots r 0 ≡ 1 + b → NamedFrom set b
    by_cell : (j a : ℕ) → CellOf set j a → reference N h j ≡ 1 + b → NamedFrom set b

  named_from_lem : (set : ℕ → Bool) (b : ℕ) → 1 ≤ references_from N h set b → NamedFrom set b
  unfolding references_from holding
  named_from_lem set b l =
      elim (dec_lt 0 (holding (b + 1) h.roots)) [
        | yes u ↦
            let found = count_found (λ j. eqb (get_or h.roots j 0) (b + 1)) (length h.roots) u in
            by_root found.0 found.1 (omega (arith, eqb-true (get_or h.roots found.0 0) (b + 1) found.2))
        | no u ↦ let found = count_found (names_from set b) (4 * N) (omega arith) in cells found.0 found.2
      ]
    where
      cells : (j : ℕ) → names_from set b j ≡ true → NamedFrom set b
      cells j e =
          let both = then_true (eqb (reference N h j) (b + 1)) (cell_of_chosen N h set j) e in
          let owner = cell_of_set set j both.1 in
          by_cell j owner.0 owner.1 (omega (arith, eqb-true (reference N h j) (b + 1) both.0))

  from_named : (set : ℕ → Bool) (b : ℕ) → NamedFrom set b → 1 ≤ references_from N h set b
  unfolding references_from holding
  from_named set b (by_root r l e) =
      omega (
        arith,
        found_count (λ j. eqb (get_or h.roots j 0) (b + 1)) (length h.roots) r l
            (eq-eqb (get_or h.roots r 0) (b + 1) (omega arith)),
      )
  from_named set b (by_cell j a c e) =
      omega (
        arith,
        found_count (names_from set b) (4 * N) j inside
            (true_then (eqb (reference N h j) (b + 1)) (cell_of_chosen N h set j)
            (eq-eqb (reference N h j) (b + 1) (omega arith))
            (of_set_cell set j a c)),
      )
    where
      inside : j < 4 * N
      inside = omega (arith, c.below, size_le (N - a) h.b a, (first_facts N h.a h.b a c.first).inside)

  -- ---- one round

  next_at : (marks : List Bool) (b : ℕ) → b < N → marked (reached_next N h marks) b ≡ (is_first N h b && ltb 0 (references_from N h (marked marks) b))
  unfolding reached_next
  next_at marks b l = get_d_tabulate false N (λ i. is_first N h i && ltb 0 (references_from N h (marked marks) i)) b l

  next_inside : (marks : List Bool) (b : ℕ) → marked (reached_next N h marks) b ≡ true → b < N
  unfolding reached_next
  next_inside marks b e =
      elim (dec_lt b N) [
        | yes l ↦ l
        | no l ↦
            let past = length_tabulate N (λ i. is_first N h i && ltb 0 (references_from N h (marked marks) i)) in
            absurd (false≢true (sym (get_or-eq_default (reached_next N h marks) false {n = b} (omega (arith, past))) ∙ e))
      ]

  next_facts : (marks : List Bool) (b : ℕ) → marked (reached_next N h marks) b ≡ true → (is_first N h b ≡ true) × NamedFrom (marked marks) b
  next_facts marks b e =
      let both = and_true (is_first N h b) (ltb 0 (references_from N h (marked marks) b)) (sym (next_at marks b (next_inside marks b e)) ∙ e) in
      (both.0, named_from_lem (marked marks) b (ltb-true 0 (references_from N h (marked marks) b) both.1))

  next_test : (marks : List Bool) (b : ℕ) → is_first N h b ≡ true → NamedFrom (marked marks) b → marked (reached_next N h marks) b ≡ true
  next_test marks b f n =
      next_at marks b (first_facts N h.a h.b b f).inside
      ∙ true_and (is_first N h b) (ltb 0 (references_from N h (marked marks) b)) f
      (lt-ltb 0 (references_from N h (marked marks) b) (from_named (marked marks) b n))

  -- ---- all that is marked is led to

  led_from : (marks : List Bool) (b : ℕ) → ((a : ℕ) → marked marks a ≡ true → Leads N h a) → is_first N h b ≡ true → NamedFrom (marked marks) b
      → Leads N h b
  led_from marks b before f (by_root r l e) = root b (size_at N h b) r (record { first = f; size = refl }) l e
  led_from marks b before f (by_cell j a c e) =
      let place : 4 * a + (j - 4 * a) ≡ j = omega (arith, c.from) in
      cell b (size_at N h b) a (size_at N h a) (j - 4 * a) (record { first = f; size = refl }) (before a c.chosen)
      (record { first = c.first; size = refl })
      (omega (arith, c.below))
      (ap (reference N h) place ∙ e)

  rounds_sound : (k b : ℕ) → marked (reached_in k N h) b ≡ true → Leads N h b
  unfolding reached_in
  rounds_sound zero b e = absurd (false≢true (sym (none_marked N b) ∙ e))
  rounds_sound (suc k) b e =
      let facts = next_facts (reached_in k N h) b e in
      led_from (reached_in k N h) b (rounds_sound k) facts.0 facts.1

  -- ---- a set to which a round adds nothing has all that is led to

  abbrev Within : List Bool → List Bool → Type 0
  Within marks more = (b : ℕ) → marked marks b ≡ true → marked more b ≡ true

  closed_leads : (marks : List Bool) → Within (reached_next N h marks) marks → {b : ℕ} → Leads N h b → marked marks b ≡ true
  closed_leads marks closed (root b n r object l e) = closed b (next_test marks b object.first (by_root r l e))
  closed_leads marks closed (cell b n a m j object before owner l e) =
      closed b
      (next_test marks b object.first
      (by_cell (4 * a + j) a
      (record {
        first = owner.first;
        chosen = closed_leads marks closed before;
        from = omega arith;
        below = omega (arith, owner.size);
      })
      e))

  -- ---- N rounds come to such a set

  named_more : (marks more : List Bool) (b : ℕ) → Within marks more → NamedFrom (marked marks) b → NamedFrom (marked more) b
  named_more marks more b within (by_root r l e) = by_root r l e
  named_more marks more b within (by_cell j a c e) =
      by_cell j a (record { first = c.first; chosen = within a c.chosen; from = c.from; below = c.below }) e

  next_more : (marks more : List Bool) → Within marks more → Within (reached_next N h marks) (reached_next N h more)
  next_more marks more within b e =
      let facts = next_facts marks b e in
      next_test more b facts.0 (named_more marks more b within facts.1)

  rounds_grow : (k : ℕ) → Within (reached_in k N h) (reached_in (suc k) N h)
  unfolding reached_in
  rounds_grow zero b e = absurd (false≢true (sym (none_marked N b) ∙ e))
  rounds_grow (suc k) b e = next_more (reached_in k N h) (reached_in (suc k) N h) (rounds_grow k) b e

  -- a round adds nothing, or as many marks as rounds were made stand
  closed_or_more :
      (k : ℕ) → Within (reached_in (suc k) N h) (reached_in k N h) ⊎ (k ≤ count_below (marked (reached_in k N h)) N)
  unfolding reached_in
  closed_or_more zero = inr (omega arith)
  closed_or_more (suc k) =
      elim (closed_or_more k) [
        | inl closed ↦ inl (next_more (reached_in (suc k) N h) (reached_in k N h) closed)
        | inr l ↦ elim (test_cases_lem (some_below added N)) [ inl e ↦ inr (more l (some_true added N e)) | inr e ↦ inl (none e) ]
      ]
    where
      added : ℕ → Bool
      added i = marked (reached_in (suc k) N h) i && not (marked (reached_in k N h) i)

      more :
          k ≤ count_below (marked (reached_in k N h)) N → (i : ℕ) × (i < N) × (added i ≡ true)
          → suc k ≤ count_below (marked (reached_in (suc k) N h)) N
      more l (i, u, e) =
          let both = and_true (marked (reached_in (suc k) N h) i) (not (marked (reached_in k N h) i)) e in
          omega (
            arith,
            count_grows (marked (reached_in k N h)) (marked (reached_in (suc k) N h)) N i (rounds_grow k) u
                (not-true (marked (reached_in k N h) i) both.1)
                both.0,
          )

      none : some_below added N ≡ false → Within (reached_in (suc (suc k)) N h) (reached_in (suc k) N h)
      none e =
          next_more (reached_in (suc k) N h) (reached_in k N h)
          (λ b m.
          not-false (marked (reached_in k N h) b)
          (and_false (marked (reached_in (suc k) N h) b) (not (marked (reached_in k N h) b))
          (some_false added N e b (next_inside (reached_in k N h) b m))
          m))

  rounds_closed : Within (reached_next N h (reached N h)) (reached N h)
  unfolding reached_in reached
  rounds_closed b e =
      elim (closed_or_more N) [
        | inl closed ↦ closed b e
        | inr l ↦ count_all (marked (reached N h)) N b l (next_inside (reached N h) b e)
      ]

  -- ---- the two together

  pub reached_led : (b : ℕ) → marked (reached N h) b ≡ true → Leads N h b
  unfolding reached
  reached_led b e = rounds_sound N b e

  pub led_reached : (b : ℕ) → Leads N h b → marked (reached N h) b ≡ true
  led_reached b leads = closed_leads (reached N h) rounds_closed leads
