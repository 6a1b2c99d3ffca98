use mathlib.Core.Path.{◌≡◌, refl, ap, ◌∙◌}
use Prim.Native.Nat.{ℕ, ◌+◌, ◌-◌, ◌*◌, ◌<◌}
use native.Mathlib.Omega.{arith}
use borrow.Author.Rules.{rules}
use lib.ListN.{get_or, take, drop}
use Rattle.rules.specs.Heap.{size_at}
use Rattle.rules_stores.specs.Store.{naming_cells}
use Rattle.walk_objects.specs.Walking.{walked_heap, part}
use Rattle.walk_objects.proofs.Numbering.{Taken, cells_fit, roots_fit, part_slice, part_at, part_length}
use Rattle.walk_objects.proofs.Tracing.{same_arrays}
use Rattle.walk_objects.proofs.TracedHeap.{object_of, start_at, next_at, finish_at}
use Rattle.walk_objects.proofs.trace_all.Goals.{After-naming_cells-n, In-loop-k}
use Rattle.walk_objects.proofs.trace_all.Goals as goal

pub meet_each_at-requires : goal.meet_each_at-requires
meet_each_at-requires c = (
  c.requires.1,
  omega (arith, c.requires.0.few_roots),
  omega arith,
  λ i l. let place : 0 + i ≡ i = omega arith in
      rw place at (roots_fit c.args.blocks c.args.a.now c.args.b.now c.args.d.now c.args.cells.now c.args.roots.now c.requires.0.named i l),
)

pub loop-k-init : goal.loop-k-init
loop-k-init c = record {
  same_order = refl;
  same_numbers = refl;
  same_owners = refl;
  same_vias = refl;
  few = omega arith;
  traced = start_at c.args.blocks c.args.a.now c.args.b.now c.args.d.now c.args.cells.now c.args.roots.now c.requires.0.named
      _ _ _ _ _ _ _ _ c.meet_each_at.ensures.traced;
}

-- the object that is taken
object : (c : In-loop-k) → Taken c.args.blocks c.args.a.now c.args.b.now c.args.d.now c.args.cells.now c.args.roots.now c.requires.0.named
    c.loop-k.walk.order.now c.loop-k.k
object c =
    object_of c.args.blocks c.args.a.now c.args.b.now c.args.d.now c.args.cells.now c.args.roots.now c.requires.0.named
    c.loop-k.walk.order.now c.loop-k.walk.numbers.now c.loop-k.walk.owners.now c.loop-k.walk.vias.now c.loop-k.walk.met c.loop-k.k c.loop-k.invariant.traced (omega arith)

pub bounds-walk-k : goal.bounds-walk-k
bounds-walk-k c =
    omega (arith, (object (goal.at.bounds-walk-k c).In-loop-k).turn, c.loop-k.invariant.traced.tracing.walking.long_order)

pub overflow_sub-at : goal.overflow_sub-at
overflow_sub-at c = let t = object (goal.at.overflow_sub-at c).In-loop-k in omega (arith, t.some)

pub object_size-size-requires : goal.object_size-size-requires
object_size-size-requires c =
    (c.requires.0.long_b, (object (goal.at.object_size-size-requires c).In-loop-k).block)

-- those of its cells that may name others
count : (c : After-naming_cells-n) → let at : ℕ = get_or c.loop-k.walk.order.now c.loop-k.k 0 - 1 in
    c.naming_cells-n.result
    ≡ naming_cells c.args.d.now at (size_at c.args.blocks (walked_heap c.args.a.now c.args.b.now c.args.d.now c.args.cells.now c.args.roots.now) at)
count c =
    c.naming_cells-n.ensures.0
    ∙ ap (naming_cells c.args.d.now (get_or c.loop-k.walk.order.now c.loop-k.k 0 - 1)) c.object_size-size.ensures.0

named : (c : After-naming_cells-n) → let at : ℕ = get_or c.loop-k.walk.order.now c.loop-k.k 0 - 1 in let n : ℕ = c.naming_cells-n.result in
    take (4 * at + n - 4 * at) (drop (4 * at) c.args.cells.now) ≡ part c.args.cells.now (4 * at) n
named c =
    let at : ℕ = get_or c.loop-k.walk.order.now c.loop-k.k 0 - 1 in
    let n : ℕ = c.naming_cells-n.result in
    let many : 4 * at + n - 4 * at ≡ n = omega arith in
    rw many (part_slice c.args.cells.now (4 * at) n (omega (arith, c.naming_cells-n.ensures.1, c.object_size-size.ensures.2, c.requires.0.long_cells)))

pub meet_each_at-requires-in-loop-k : goal.meet_each_at-requires-in-loop-k
meet_each_at-requires-in-loop-k c =
    let t = object (goal.at.meet_each_at-requires-in-loop-k c).In-loop-k in
    let at : ℕ = get_or c.loop-k.walk.order.now c.loop-k.k 0 - 1 in
    let n : ℕ = c.naming_cells-n.result in
    rw (named (goal.at.meet_each_at-requires-in-loop-k c).After-naming_cells-n) (
      c.loop-k.invariant.traced.tracing,
      omega (arith, part_length c.args.cells.now (4 * at) n, c.naming_cells-n.ensures.1, c.object_size-size.ensures.2, t.small),
      omega (arith, t.turn),
      λ i l.
          let inside : i < n = omega (arith, part_length c.args.cells.now (4 * at) n) in
          rw (part_at c.args.cells.now (4 * at) n i inside)
          (cells_fit c.args.blocks c.args.a.now c.args.b.now c.args.d.now c.args.cells.now c.args.roots.now c.requires.0.named at
          t.first n (count (goal.at.meet_each_at-requires-in-loop-k c).After-naming_cells-n) i inside),
    )

pub loop-k-smaller : goal.loop-k-smaller
loop-k-smaller c =
    omega (arith, (object (goal.at.loop-k-smaller c).In-loop-k).turn)

pub loop-k-preserved : goal.loop-k-preserved
loop-k-preserved c = record {
  same_order = c.meet_each_at-in-loop-k.ensures.same_order ∙ c.loop-k.invariant.same_order;
  same_numbers = c.meet_each_at-in-loop-k.ensures.same_numbers ∙ c.loop-k.invariant.same_numbers;
  same_owners = c.meet_each_at-in-loop-k.ensures.same_owners ∙ c.loop-k.invariant.same_owners;
  same_vias = c.meet_each_at-in-loop-k.ensures.same_vias ∙ c.loop-k.invariant.same_vias;
  few = omega (arith, (object (goal.at.loop-k-preserved c).In-loop-k).turn);
  traced = next_at c.args.blocks c.args.a.now c.args.b.now c.args.d.now c.args.cells.now c.args.roots.now c.requires.0.named
      _ _ _ _ _ _ _ _ _ _ _ _ c.loop-k.invariant.traced c.loop-k-test.true (count (goal.at.loop-k-preserved c).After-naming_cells-n)
      (rw (named (goal.at.loop-k-preserved c).After-naming_cells-n) at c.meet_each_at-in-loop-k.ensures.traced);
}

pub returns : goal.returns
returns c =
    same_arrays (search rules) (search rules) (search rules) (search rules)
    (finish_at c.args.blocks c.args.a.now c.args.b.now c.args.d.now c.args.cells.now c.args.roots.now c.requires.0.named
    _ _ _ _ _ _ c.loop-k.invariant.traced c.loop-k-test.false c.loop-k.invariant.few)
