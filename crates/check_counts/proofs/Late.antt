-- What the tally of all references tells of kinds 4 and 5, where no cell and no root is wild.
use mathlib.Core.Path.{◌≡◌, refl, sym, ap, ◌∙◌}
use mathlib.Core.Logic.{◌≢◌, ◌⊎◌, inl, inr}
use mathlib.Core.Bool.{Bool, true, false, not, ◌&&◌, ◌||◌, true≢false}
use mathlib.Core.List.{List}
use Prim.Native.Nat.{ℕ, ◌+◌, ◌-◌, ◌*◌, ◌/◌, ◌^◌, ◌≤◌, ◌<◌, min}
use native.Mathlib.Decide.{ℕ_discrete}
use native.Mathlib.Omega.{arith}
use lib.Dec.{eqb, ltb}
use lib.ListN.{length, get_or, replicate, length-replicate, get_or-replicate}
use lib.Pow.{pow_mono}
use borrow.Author.Tests.{eq-eqb, ne_eqb, eqb-true, eqb-false, ltb-true, not-true}
use Rattle.bitmap.specs.Bit.{bit_at, count_below}
use Rattle.planes.proofs.Counts.{count_lt}
use Rattle.planes.proofs.Eights.{same_test}
use Rattle.rules.specs.Tools.{some_below, holding}
use Rattle.rules.specs.Heap.{Memory, capacity, is_free, is_first, first_in, ref_in, ref_at, count_of, references}
use Rattle.rules.specs.Damage.{bad_cell, bad_root, bad_count}
use Rattle.rules.proofs.Counting.{count_found, found_count}
use Rattle.rules.proofs.Reading.{read_free}
use Rattle.rules.proofs.Tests.{test_cases_lem, false_unless, and_true, true_and, or_true, true_or, or_false, some_true, true_some, some_false, false_some}
use Rattle.map_objects.proofs.Firsts.{first_past}
use Rattle.check_references.specs.Wild.{wild, wild_cell, wild_root}
use Rattle.check_references.specs.Tally.{Tallied}
use Rattle.check_references.proofs.Wilds.{wild_other, wild_within}
use Rattle.check_counts.specs.Late.{Cleared, count_off, stray_tally, off_tally}

-- an array of n places that was just made
pub all_cleared : (n N : ℕ) → N ≤ n → Cleared N (replicate n 0)
all_cleared n N l =
    let long = length-replicate {A = ℕ} n 0 in
    record { long = omega (arith, long); zero = λ b h. get_or-replicate {A = ℕ} n b 0 0 (omega (arith, long)) }

-- ---- references that are none

-- what is neither 0 nor names a first block ..
ref_other : (N : ℕ) (a b : List ℕ) (v : ℕ) → v ≢ 0 → first_in N a b (v - 1) ≡ false → ref_in N a b v ≡ false
unfolding ref_in
ref_other N a b v some other = rw (ne_eqb v 0 some, ref_in) other

-- .. and the other way
other_ref : (N : ℕ) (a b : List ℕ) (v : ℕ) → ref_in N a b v ≡ false → (v ≢ 0) × (first_in N a b (v - 1) ≡ false)
unfolding ref_in
other_ref N a b v e =
    let parts = or_false (eqb v 0) (first_in N a b (v - 1)) e in
    (eqb-false v 0 parts.0, parts.1)

-- what is beyond the heap names no block
beyond : (N : ℕ) (a b : List ℕ) (v : ℕ) → ltb N v ≡ true → ref_in N a b v ≡ false
beyond N a b v e =
    let l = ltb-true N v e in
    ref_other N a b v (λ z. omega arith) (sym (first_past N a b (v - 1) (omega arith)))

module _ (N : ℕ) (h : Memory) where
  -- what cell j is read as, and root r
  abbrev cell : ℕ → ℕ
  cell = ref_at N h.a h.b h.d h.cells

  abbrev root : ℕ → ℕ
  root r = get_or h.roots r 0

  abbrev wild_cell_of : ℕ → Bool
  wild_cell_of = wild_cell N h.a h.b h.d h.cells

  abbrev wild_root_of : ℕ → Bool
  wild_root_of = wild_root N h.roots

  -- the cells and then the roots tallied: all references
  pub tallied_all : (at₀ at next : List ℕ) → Cleared N at₀ → Tallied cell (4 * N) at₀ at → Tallied root (length h.roots) at next
      → (i : ℕ) → i < N → get_or next i 0 ≡ min 255 (references N h i)
  unfolding holding
  tallied_all at₀ at next clear cells roots i l = omega (
    arith,
    clear.long,
    clear.zero i (omega (arith, clear.long)),
    cells.named i (omega (arith, clear.long)),
    roots.named i (omega (arith, clear.long, cells.same_length)),
  )

  -- a cell that is read as none is bad
  bad_cell_lem : (j : ℕ) → ref_in N h.a h.b (cell j) ≡ false → bad_cell N h j ≡ true
  unfolding bad_cell
  bad_cell_lem j e = true_or (is_free h.a (j / 4) && not (eqb (get_or h.cells j 0) 0)) (not (ref_in N h.a h.b (cell j))) (inr (ap not e))

  bad_root_lem : (r : ℕ) → ref_in N h.a h.b (root r) ≡ false → bad_root N h r ≡ true
  unfolding bad_root
  bad_root_lem r e = ap not e

  -- what is wild is bad
  wild_parts : (free : Bool) (v : ℕ) → wild N free v ≡ true → (v ≢ 0) × ((free || ltb N v) ≡ true)
  unfolding wild
  wild_parts free v e =
      let parts = and_true (not (eqb v 0)) (free || ltb N v) e in
      (eqb-false v 0 (not-true (eqb v 0) parts.0), parts.1)

  wild_bad_cell : (j : ℕ) → wild_cell_of j ≡ true → bad_cell N h j ≡ true
  unfolding bad_cell
  wild_bad_cell j e =
      let parts = wild_parts (is_free h.a (j / 4)) (cell j) e in
      elim (or_true (is_free h.a (j / 4)) (ltb N (cell j)) parts.1) [
        | inl free ↦
            let holds = read_free N h.a h.b h.d h.cells j (eqb-true (bit_at h.a (j / 4)) 0 free) in
            true_or (is_free h.a (j / 4) && not (eqb (get_or h.cells j 0) 0)) (not (ref_in N h.a h.b (cell j)))
            (inl (true_and (is_free h.a (j / 4)) (not (eqb (get_or h.cells j 0) 0)) free
            (ap not (ne_eqb (get_or h.cells j 0) 0 (λ z. parts.0 (holds ∙ z))))))
        | inr past ↦ bad_cell_lem j (beyond N h.a h.b (cell j) past)
      ]

  pub wild_cells : some_below wild_cell_of (4 * N) ≡ true → some_below (bad_cell N h) (4 * N) ≡ true
  wild_cells e =
      let found = some_true wild_cell_of (4 * N) e in
      true_some (bad_cell N h) (4 * N) found.0 found.1 (wild_bad_cell found.0 found.2)

  pub wild_roots : some_below wild_root_of (length h.roots) ≡ true → some_below (bad_root N h) (length h.roots) ≡ true
  wild_roots e =
      let found = some_true wild_root_of (length h.roots) e in
      let r : ℕ = found.0 in
      true_some (bad_root N h) (length h.roots) r found.1
      (bad_root_lem r (beyond N h.a h.b (root r) (wild_parts false (root r) found.2).1))

  -- ---- where none is wild

  module _ (tame-cells : some_below wild_cell_of (4 * N) ≡ false) (tame-roots : some_below wild_root_of (length h.roots) ≡ false) where
    tame : (free : Bool) (v : ℕ) → wild N free v ≡ false → v ≢ 0 → (free ≡ false) × (v ≤ N)
    tame free v e some =
        let fails = sym (wild_other N free v some) ∙ e in
        ((or_false free (ltb N v) fails).0, wild_within N free v fails)

    -- a bad cell is read as none, of at most N
    bad_names : (j : ℕ) → j < 4 * N → bad_cell N h j ≡ true → (cell j ≢ 0) × (cell j ≤ N) × (first_in N h.a h.b (cell j - 1) ≡ false)
    unfolding bad_cell
    bad_names j l e = elim (or_true (is_free h.a (j / 4) && not (eqb (get_or h.cells j 0) 0)) (not (ref_in N h.a h.b (cell j))) e) [
      | inl p ↦
          let parts = and_true (is_free h.a (j / 4)) (not (eqb (get_or h.cells j 0) 0)) p in
          let holds = read_free N h.a h.b h.d h.cells j (eqb-true (bit_at h.a (j / 4)) 0 parts.0) in
          let some : cell j ≢ 0 =
          λ z. eqb-false (get_or h.cells j 0) 0 (not-true (eqb (get_or h.cells j 0) 0) parts.1) (sym holds ∙ z) in
          absurd (true≢false (sym parts.0 ∙ (tame (is_free h.a (j / 4)) (cell j) (some_false wild_cell_of (4 * N) tame-cells j l) some).0))
      | inr p ↦
          let other = other_ref N h.a h.b (cell j) (not-true (ref_in N h.a h.b (cell j)) p) in
          (other.0, (tame (is_free h.a (j / 4)) (cell j) (some_false wild_cell_of (4 * N) tame-cells j l) other.0).1, other.1)
    ]

    bad_root_names : (r : ℕ) → r < length h.roots → bad_root N h r ≡ true
        → (root r ≢ 0) × (root r ≤ N) × (first_in N h.a h.b (root r - 1) ≡ false)
    unfolding bad_root
    bad_root_names r l e =
        let other = other_ref N h.a h.b (root r) (not-true (ref_in N h.a h.b (root r)) e) in
        (other.0, (tame false (root r) (some_false wild_root_of (length h.roots) tame-roots r l) other.0).1, other.1)

    module _ (at : List ℕ) (tallied : (i : ℕ) → i < N → get_or at i 0 ≡ min 255 (references N h i)) where
      abbrev stray : ℕ → Bool
      stray = stray_tally N h.a h.b at

      -- a place that a bad reference names
      stray_there : (v : ℕ) → v ≢ 0 → v ≤ N → first_in N h.a h.b (v - 1) ≡ false → 1 ≤ references N h (v - 1)
          → some_below stray N ≡ true
      stray_there v some most other named =
          true_some stray N (v - 1) (omega arith)
          (true_and (not (first_in N h.a h.b (v - 1))) (not (eqb (get_or at (v - 1) 0) 0)) (ap not other)
          (ap not (ne_eqb (get_or at (v - 1) 0) 0 (λ z. omega (arith, z, tallied (v - 1) (omega arith))))))

      names : (v : ℕ) → v ≢ 0 → eqb v (v - 1 + 1) ≡ true
      names v some = eq-eqb v (v - 1 + 1) (omega arith)

      -- .. and the other way: what names a place where no object starts is bad
      stray_bad : (i : ℕ) → i < N → stray i ≡ true
          → (some_below (bad_cell N h) (4 * N) ≡ true) ⊎ (some_below (bad_root N h) (length h.roots) ≡ true)
      unfolding holding
      stray_bad i l e =
          let parts = and_true (not (first_in N h.a h.b i)) (not (eqb (get_or at i 0) 0)) e in
          let other = not-true (first_in N h.a h.b i) parts.0 in
          let some = eqb-false (get_or at i 0) 0 (not-true (eqb (get_or at i 0) 0) parts.1) in
          elim (ℕ_discrete (count_below (λ j. eqb (cell j) (i + 1)) (4 * N)) 0) [
            | no n ↦
                let found = count_found (λ j. eqb (cell j) (i + 1)) (4 * N) (omega arith) in
                inl (true_some (bad_cell N h) (4 * N) found.0 found.1 (bad_cell_lem found.0 (named_none i (cell found.0) other found.2)))
            | yes z ↦
                let found = count_found (λ r. eqb (root r) (i + 1)) (length h.roots) (omega (arith, z, some, tallied i l)) in
                inr (true_some (bad_root N h) (length h.roots) found.0 found.1 (bad_root_lem found.0 (named_none i (root found.0) other found.2)))
          ]
        where
          named_none : (i v : ℕ) → first_in N h.a h.b i ≡ false → eqb v (i + 1) ≡ true → ref_in N h.a h.b v ≡ false
          named_none i v other e =
              let is = eqb-true v (i + 1) e in
              let back : v - 1 ≡ i = omega arith in
              ref_other N h.a h.b v (λ z. omega arith) (ap (first_in N h.a h.b) back ∙ other)

      -- kind 4
      pub late_four : some_below stray N ≡ (some_below (bad_cell N h) (4 * N) || some_below (bad_root N h) (length h.roots))
      unfolding holding
      late_four = elim (test_cases_lem (some_below stray N)) [
        | inl e ↦
            let found = some_true stray N e in
            e ∙ sym (true_or (some_below (bad_cell N h) (4 * N)) (some_below (bad_root N h) (length h.roots)) (stray_bad found.0 found.1 found.2))
        | inr e ↦
            e
            ∙ sym (false_unless (some_below (bad_cell N h) (4 * N) || some_below (bad_root N h) (length h.roots))
            (λ p. true≢false (sym (shown (or_true (some_below (bad_cell N h) (4 * N)) (some_below (bad_root N h) (length h.roots)) p)) ∙ e)))
      ]
        where
          shown : (some_below (bad_cell N h) (4 * N) ≡ true) ⊎ (some_below (bad_root N h) (length h.roots) ≡ true) → some_below stray N ≡ true
          shown (inl p) =
              let found = some_true (bad_cell N h) (4 * N) p in
              let j : ℕ = found.0 in
              let bad = bad_names j found.1 found.2 in
              stray_there (cell j) bad.0 bad.1 bad.2
              (omega (arith, found_count (λ i. eqb (cell i) (cell j - 1 + 1)) (4 * N) j found.1 (names (cell j) bad.0)))
          shown (inr p) =
              let found = some_true (bad_root N h) (length h.roots) p in
              let r : ℕ = found.0 in
              let bad = bad_root_names r found.1 found.2 in
              stray_there (root r) bad.0 bad.1 bad.2
              (omega (arith, found_count (λ i. eqb (root i) (root r - 1 + 1)) (length h.roots) r found.1 (names (root r) bad.0)))

  -- ---- kind 5

  module _ (w : ℕ) (wide : w ≤ 4) (at : List ℕ) (tallied : (i : ℕ) → i < N → get_or at i 0 ≡ min 255 (references N h i)) where
    held_same : (first : Bool) (c t r : ℕ) → eqb c t ≡ eqb c r → count_off first w c t ≡ count_off first w c r
    unfolding count_off
    held_same true c t r e = ap (λ (x : Bool). eqb c 0 || (ltb c (capacity w) && not x)) e
    held_same false c t r e = refl

    bad_is : (i : ℕ) → count_off (is_first N h i) w (count_of N w h i) (references N h i) ≡ bad_count N w h i
    unfolding bad_count count_off
    bad_is i = refl

    off_same : (i : ℕ) → i < N → off_tally N w h.a h.b h.counts at i ≡ bad_count N w h i
    off_same i l =
        let c : ℕ = count_of N w h i in
        let most : 2 ^ w ≤ 2 ^ 4 = pow_mono wide in
        let less : c < 2 ^ w = count_lt (N / 8) w h.counts i in
        held_same (is_first N h i) c (get_or at i 0) (references N h i)
        (same_test c (get_or at i 0) c (references N h i) (λ e. omega (arith, tallied i l)) (λ e. omega (arith, tallied i l)))
        ∙ bad_is i

    pub late_five : some_below (off_tally N w h.a h.b h.counts at) N ≡ some_below (bad_count N w h) N
    late_five = elim (test_cases_lem (some_below (bad_count N w h) N)) [
      | inl e ↦
          let found = some_true (bad_count N w h) N e in
          true_some (off_tally N w h.a h.b h.counts at) N found.0 found.1 (off_same found.0 found.1 ∙ found.2) ∙ sym e
      | inr e ↦
          false_some (off_tally N w h.a h.b h.counts at) N (λ i l. off_same i l ∙ some_false (bad_count N w h) N e i l) ∙ sym e
    ]
