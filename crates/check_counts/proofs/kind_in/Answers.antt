-- `check_counts::kind_in` meets its contract: a wild reference is kind 4, and where there is none the tally tells the rest.
use mathlib.Core.Path.{sym, ap₂, ◌∙◌}
use mathlib.Core.Logic.{inl, inr}
use mathlib.Core.Bool.{Bool, false≢true}
use mathlib.Core.List.{List, [], ◌∷◌}
use Prim.Native.Nat.{ℕ, ◌*◌}
use native.Mathlib.Omega.{arith}
use lib.ListN.{length, get_or}
use Rattle.rules.specs.Tools.{some_below, first_number}
use Rattle.rules.specs.Heap.{Memory, lent_memory, ref_at}
use Rattle.rules.specs.Damage.{bad_cell, bad_root}
use Rattle.rules.proofs.Tests.{true_or, first_found}
use Rattle.check_references.specs.Tally.{Tallied}
use Rattle.check_references.proofs.Tallies.{tallied_room}
use Rattle.check_counts.proofs.Late.{wild_cells, wild_roots, tallied_all, late_four, late_five}
use Rattle.check_counts.proofs.kind_in.Goals as goal
use Rattle.check_counts.proofs.kind_in.Goals.{then-tally_cells, else-tally_cells}

pub tally_cells-requires : goal.tally_cells-requires
tally_cells-requires c = (
  c.requires.0.a_covers,
  c.requires.0.b_covers,
  c.requires.0.length_cells,
  c.requires.0.d_covers,
  c.requires.0.blocks_max,
  c.requires.0.whole_bytes,
  c.requires.1.long,
  λ b l. omega (arith, c.requires.1.zero b l),
)

-- what is lent, with no waiting list, sections, marks and second list
abbrev whole : (a b counts cells roots d : List ℕ) → Memory
whole a b counts cells roots d = lent_memory a b counts cells roots [] [] d [] []

-- what the cells are read as
abbrev reads : (c : goal.After-tally_roots-arg-1) → ℕ → ℕ
reads c = ref_at c.args.blocks c.args.a.now c.args.b.now c.args.d.now c.args.cells.now

pub tally_roots-requires : goal.tally_roots-requires
tally_roots-requires c =
    let t = c.tally_cells.ensures.tallied c.if-tally_cells.false in
    (c.requires.0.roots_max, omega (arith, c.requires.1.long, t.same_length), tallied_room (reads c) c.args.at.now (4 * c.args.blocks) _ t)

pub returns-then-tally_roots : goal.returns-then-tally_roots
returns-then-tally_roots c =
    let N : ℕ = c.args.blocks in
    let h : Memory = whole c.args.a.now c.args.b.now c.args.counts.now c.args.cells.now c.args.roots.now c.args.d.now in
    let cells : Bool = some_below (bad_cell N h) (4 * N) in
    let roots : Bool = some_below (bad_root N h) (length c.args.roots.now) in
    sym
    (first_found 4 _ _
    (true_or cells roots (elim c.if-tally_cells.branch [
      | then-tally_cells w ↦ inl (wild_cells N h (sym c.tally_cells.ensures.told ∙ w.if-tally_cells.true))
      | else-tally_cells w ↦ inr (wild_roots N h (sym w.tally_roots.ensures.told ∙ sym w.value-is ∙ c.if-tally_roots.true))
    ])))

pub late_kind-requires : goal.late_kind-requires
late_kind-requires c = elim c.if-tally_cells.branch [
  | then-tally_cells w ↦ absurd (false≢true (sym c.if-tally_roots.false ∙ w.value-is ∙ w.if-tally_cells.true))
  | else-tally_cells w ↦
      let t = c.tally_cells.ensures.tallied w.if-tally_cells.false in
      let u : Tallied (λ i. get_or c.args.roots.now i 0) (length c.args.roots.now) c.tally_cells.new.at c.if-tally_cells.at =
      rw w.at-is (w.tally_roots.ensures.tallied (sym w.value-is ∙ c.if-tally_roots.false)) in (
        c.requires.0.blocks_max,
        c.requires.0.whole_bytes,
        c.requires.0.a_covers,
        c.requires.0.b_covers,
        c.requires.0.length_counts,
        c.requires.0.width_min,
        c.requires.0.width_max,
        omega (arith, c.requires.1.long, t.same_length, u.same_length),
        tallied_room (λ i. get_or c.args.roots.now i 0) _ (length c.args.roots.now) _ u,
      )
]

pub returns-else-tally_roots : goal.returns-else-tally_roots
returns-else-tally_roots c = elim c.if-tally_cells.branch [
  | then-tally_cells w ↦ absurd (false≢true (sym c.if-tally_roots.false ∙ w.value-is ∙ w.if-tally_cells.true))
  | else-tally_cells w ↦
      let N : ℕ = c.args.blocks in
      let h : Memory = whole c.args.a.now c.args.b.now c.args.counts.now c.args.cells.now c.args.roots.now c.args.d.now in
      let none = sym w.value-is ∙ c.if-tally_roots.false in
      let u : Tallied (λ i. get_or c.args.roots.now i 0) (length c.args.roots.now) c.tally_cells.new.at c.if-tally_cells.at =
      rw w.at-is (w.tally_roots.ensures.tallied none) in
      let at = c.if-tally_cells.at in
      let tallied = tallied_all N h c.args.at.now _ at c.requires.1 (c.tally_cells.ensures.tallied w.if-tally_cells.false) u in
      c.late_kind.ensures
      ∙ ap₂ (λ (x y : Bool). first_number ((4, x) ∷ (5, y) ∷ []))
      (late_four N h (sym c.tally_cells.ensures.told ∙ w.if-tally_cells.false) (sym w.tally_roots.ensures.told ∙ none) at tallied)
      (late_five N h c.args.width c.requires.0.width_max at tallied)
]
