-- `check_damage::damage_kind` meets its contract: a kind is reported where its test passes and those before it fail.
use mathlib.Core.Path.{◌≡◌, refl, sym, ◌∙◌}
use mathlib.Core.Logic.{◌≢◌}
use mathlib.Core.Bool.{Bool, true, false, ◌||◌}
use mathlib.Core.List.{List, [], ◌∷◌}
use Prim.Native.Nat.{ℕ, ◌*◌}
use native.Mathlib.Omega.{arith}
use lib.ListN.{length}
use Rattle.rules.specs.Heap.{Memory, lent_memory}
use Rattle.rules.specs.Tools.{some_below, first_number}
use Rattle.rules.specs.Damage.{end_on_free, open_end, unaligned, bad_cell, bad_root, bad_count, stray_data, damage}
use Rattle.rules.proofs.Tests.{first_no}
use Rattle.rules.proofs.Shape.{shape_facts}
use Rattle.types.proofs.Refused.{kind_ne0}
use Rattle.check_damage.proofs.damage_kind.Goals as goal

-- ---- the seven tests, in the rule's order; kind 4 has two, and the code makes them with kind 5's in one. No test reads the waiting list, the sections,
-- the marks or the second list.

-- a number found before the last test
first_short : (x y z : Bool) → first_number ((4, x) ∷ (5, y) ∷ []) ≢ 0
    → first_number ((4, x) ∷ (5, y) ∷ []) ≡ first_number ((4, x) ∷ (5, y) ∷ (7, z) ∷ [])
unfolding first_number
first_short true y z n = refl
first_short false true z n = refl
first_short false false z n = absurd (n refl)

-- the tests of kind 4, and those of kinds 4 and 5 in one
abbrev bad_reference : ℕ → Memory → Bool
bad_reference N h = some_below (bad_cell N h) (4 * N) || some_below (bad_root N h) (length h.roots)

abbrev bad_number : (N w : ℕ) → Memory → ℕ
bad_number N w h = first_number ((4, bad_reference N h) ∷ (5, some_below (bad_count N w h) N) ∷ [])

-- what the calls say of the ten buffers, in their order
module _ (N w : ℕ) (h : Memory) where
  is_1 : some_below (end_on_free h) N ≡ true → 1 ≡ damage N w h
  unfolding damage first_number
  is_1 e = rw (e, damage, first_number)

  is_2 : some_below (end_on_free h) N ≡ false → some_below (open_end N h) N ≡ true → 2 ≡ damage N w h
  unfolding damage first_number
  is_2 e1 e2 = rw (e1, e2, damage, first_number)

  is_3 : some_below (end_on_free h) N ≡ false → some_below (open_end N h) N ≡ false → some_below (unaligned N h) N ≡ true
      → 3 ≡ damage N w h
  unfolding damage first_number
  is_3 e1 e2 e3 = rw (e1, e2, e3, damage, first_number)

  is_4_or_5 : some_below (end_on_free h) N ≡ false → some_below (open_end N h) N ≡ false → some_below (unaligned N h) N ≡ false
      → bad_number N w h ≢ 0 → bad_number N w h ≡ damage N w h
  unfolding damage first_number
  is_4_or_5 e1 e2 e3 n =
      rw (e1, e2, e3, damage) (first_short (bad_reference N h) (some_below (bad_count N w h) N) (some_below (stray_data N h) N) n)

  is_7_or_0 : some_below (end_on_free h) N ≡ false → some_below (open_end N h) N ≡ false → some_below (unaligned N h) N ≡ false
      → bad_number N w h ≡ 0 → (found : Bool) → some_below (stray_data N h) N ≡ found
      → first_number ((7, found) ∷ []) ≡ damage N w h
  unfolding damage first_number
  is_7_or_0 e1 e2 e3 none found e7 =
      let first = first_no 4 (bad_reference N h) ((5, some_below (bad_count N w h) N) ∷ []) (λ e. omega arith) none in
      let second = first_no 5 (some_below (bad_count N w h) N) [] (λ e. omega arith) first.1 in
      rw (e1, e2, e3, first.0, second.0, e7, damage, first_number)

-- ---- the goals

pub has_end_on_free-requires : goal.has_end_on_free-requires
has_end_on_free-requires c =
    let len =
    shape_facts c.args.blocks c.args.width
    (lent_memory c.args.a.now c.args.b.now c.args.counts.now c.args.cells.now c.args.roots.now c.requires.0 c.requires.1 c.args.d.now
    c.requires.2 c.requires.3)
    c.requires.4 in
    omega arith

pub returns-then-has_end_on_free : goal.returns-then-has_end_on_free
unfolding end_on_free
returns-then-has_end_on_free c = λ x s m l.
    is_1 c.args.blocks c.args.width
    (lent_memory c.args.a.now c.args.b.now c.args.counts.now c.args.cells.now c.args.roots.now x s c.args.d.now m l)
    (sym c.has_end_on_free.ensures ∙ c.if-has_end_on_free.true)

pub has_open_end-requires : goal.has_open_end-requires
has_open_end-requires c =
    let len =
    shape_facts c.args.blocks c.args.width
    (lent_memory c.args.a.now c.args.b.now c.args.counts.now c.args.cells.now c.args.roots.now c.requires.0 c.requires.1 c.args.d.now
    c.requires.2 c.requires.3)
    c.requires.4 in
    omega arith

pub returns-then-has_open_end : goal.returns-then-has_open_end
unfolding end_on_free open_end
returns-then-has_open_end c = λ x s m l.
    is_2 c.args.blocks c.args.width
    (lent_memory c.args.a.now c.args.b.now c.args.counts.now c.args.cells.now c.args.roots.now x s c.args.d.now m l)
    (sym c.has_end_on_free.ensures ∙ c.if-has_end_on_free.false)
    (sym c.has_open_end.ensures ∙ c.if-has_open_end.true)

pub has_unaligned-requires : goal.has_unaligned-requires
has_unaligned-requires c =
    let len =
    shape_facts c.args.blocks c.args.width
    (lent_memory c.args.a.now c.args.b.now c.args.counts.now c.args.cells.now c.args.roots.now c.requires.0 c.requires.1 c.args.d.now
    c.requires.2 c.requires.3)
    c.requires.4 in
    omega arith

pub returns-then-has_unaligned : goal.returns-then-has_unaligned
unfolding end_on_free open_end unaligned
returns-then-has_unaligned c = λ x s m l.
    is_3 c.args.blocks c.args.width
    (lent_memory c.args.a.now c.args.b.now c.args.counts.now c.args.cells.now c.args.roots.now x s c.args.d.now m l)
    (sym c.has_end_on_free.ensures ∙ c.if-has_end_on_free.false)
    (sym c.has_open_end.ensures ∙ c.if-has_open_end.false)
    (sym c.has_unaligned.ensures ∙ c.if-has_unaligned.true)

pub reference_kind-requires : goal.reference_kind-requires
reference_kind-requires c =
    let len =
    shape_facts c.args.blocks c.args.width
    (lent_memory c.args.a.now c.args.b.now c.args.counts.now c.args.cells.now c.args.roots.now c.requires.0 c.requires.1 c.args.d.now
    c.requires.2 c.requires.3)
    c.requires.4 in
    record {
      blocks_max = len.blocks_max;
      whole_bytes = sym len.whole_bytes;
      a_covers = omega arith;
      b_covers = omega arith;
      d_covers = omega arith;
      length_cells = len.length_cells;
      width_min = len.width_min;
      width_max = len.width_max;
      length_counts = len.length_counts;
      roots_max = len.roots_max;
    }

pub returns-in-Some : goal.returns-in-Some
unfolding end_on_free open_end unaligned bad_cell bad_root bad_count
returns-in-Some c = λ x s m l.
    c.in-Some.ensures
    ∙ is_4_or_5 c.args.blocks c.args.width
    (lent_memory c.args.a.now c.args.b.now c.args.counts.now c.args.cells.now c.args.roots.now x s c.args.d.now m l)
    (sym c.has_end_on_free.ensures ∙ c.if-has_end_on_free.false)
    (sym c.has_open_end.ensures ∙ c.if-has_open_end.false)
    (sym c.has_unaligned.ensures ∙ c.if-has_unaligned.false)
    (λ e. kind_ne0 _ (c.in-Some.ensures ∙ e))

pub has_stray_data-requires : goal.has_stray_data-requires
has_stray_data-requires c =
    let len =
    shape_facts c.args.blocks c.args.width
    (lent_memory c.args.a.now c.args.b.now c.args.counts.now c.args.cells.now c.args.roots.now c.requires.0 c.requires.1 c.args.d.now
    c.requires.2 c.requires.3)
    c.requires.4 in
    omega arith

pub returns-then-has_stray_data : goal.returns-then-has_stray_data
unfolding end_on_free open_end unaligned bad_cell bad_root bad_count stray_data first_number
returns-then-has_stray_data c = λ x s m l.
    is_7_or_0 c.args.blocks c.args.width
    (lent_memory c.args.a.now c.args.b.now c.args.counts.now c.args.cells.now c.args.roots.now x s c.args.d.now m l)
    (sym c.has_end_on_free.ensures ∙ c.if-has_end_on_free.false)
    (sym c.has_open_end.ensures ∙ c.if-has_open_end.false)
    (sym c.has_unaligned.ensures ∙ c.if-has_unaligned.false)
    (sym c.in_default.ensures)
    true
    (sym c.has_stray_data.ensures ∙ c.if-has_stray_data.true)

pub returns : goal.returns
unfolding end_on_free open_end unaligned bad_cell bad_root bad_count stray_data first_number
returns c = λ x s m l.
    is_7_or_0 c.args.blocks c.args.width
    (lent_memory c.args.a.now c.args.b.now c.args.counts.now c.args.cells.now c.args.roots.now x s c.args.d.now m l)
    (sym c.has_end_on_free.ensures ∙ c.if-has_end_on_free.false)
    (sym c.has_open_end.ensures ∙ c.if-has_open_end.false)
    (sym c.has_unaligned.ensures ∙ c.if-has_unaligned.false)
    (sym c.in_default.ensures)
    false
    (sym c.has_stray_data.ensures ∙ c.if-has_stray_data.false)
