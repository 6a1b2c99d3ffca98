-- The order in which waiting objects are freed can't be seen in a memory. Every order is a run of the object graph (`Runs`), so by
-- `same_end` all that leave nothing waiting end in one graph; and memories written from one memory that show one graph are equal.
use mathlib.Core.Path.{◌≡◌, refl, sym, ap, ◌∙◌, subst}
use mathlib.Core.List.{List, [], ◌∷◌, ◌++◌}
use Prim.Native.Nat.{ℕ, zero, suc, ◌+◌, ◌≤◌}
use native.Mathlib.Omega.{arith}
use lib.ListN.{length}
use Rattle.bitmap.specs.Bit.{zeros}
use Rattle.rules.specs.Heap.{Memory, capacity, size_at}
use Rattle.rules_stores.specs.Store.{freed, work_after, memory_after, release}
use Rattle.theory_memories.specs.Orders.{Taken, OneEnd}
use Rattle.theory_memories.proofs.Maps.Extents.{sizes_of, length_sizes_of}
use Rattle.theory_graphs.proofs.Graphs.Occurrences.{occurrences, occurrences_append, occurrences_cons, occurrences_le}
use Rattle.theory_graphs.proofs.Graphs.Graph.{Graph}
use Rattle.theory_graphs.proofs.Graphs.Balance.{waits_head, waits_bound, fewer}
use Rattle.theory_graphs.proofs.Graphs.Keep.{Runs, done, free_one}
use Rattle.theory_graphs.proofs.Graphs.Order.{Ends, same_end}
use Rattle.theory_memories.proofs.Memories.View.{view}
use Rattle.theory_memories.proofs.Memories.ViewRelease.{Releasing, releasing_next, view_after, sizes_after, freed_zeros}
use Rattle.theory_memories.proofs.Memories.SameView.{Rewrites, rewrites_same, rewrites_trans, step_rewrites, same_memory_lem}

-- ---- an order, step by step

-- whoever is taken could have stood first
pub taken_first :
    (N w : ℕ) (h : Memory) (front back : List ℕ) (i : ℕ) → Releasing N w h (front ++ (i ∷ back)) → Releasing N w h (i ∷ (front ++ back))
taken_first N w h front back i before =
    record {
      shape = before.shape;
      represents = before.represents;
      positive = before.positive;
      balanced = before.balanced;
      waits = λ b.
          omega (
            arith,
            before.waits b,
            occurrences_append b front (i ∷ back),
            occurrences_cons b i back,
            occurrences_cons b i (front ++ back),
            occurrences_append b front back,
          );
      bare = before.bare;
    }

-- one object less
pub fewer_objects :
    (N w : ℕ) (h : Memory) (x : ℕ) (rest : List ℕ) → Releasing N w h (x ∷ rest)
    → suc (occurrences 0 (sizes_of N h.a h.b)) ≡ occurrences 0 (sizes_of N (memory_after N w h x rest).a (memory_after N w h x rest).b)
unfolding freed
fewer_objects N w h x rest before =
    omega (
      arith,
      fewer (view N w h) x (waits_head (view N w h) x rest before.waits).0,
      ap (occurrences 0) (sizes_after N w h x rest before),
    )

-- what is known after k steps
record Carried (N w k n : ℕ) (h : Memory) (g : Memory) (left : List ℕ) : Type 0 where
  releasing : Releasing N w g left
  runs : Runs (capacity w) (length h.roots) (λ j. ⊥) (view N w h) (view N w g)
  written : Rewrites N h g
  same_roots : g.roots ≡ h.roots
  same_waiting : g.waiting ≡ h.waiting
  same_sections : g.sections ≡ h.sections
  same_marks : g.marks ≡ h.marks
  same_list : g.list ≡ h.list
  blocks : zeros g.a ≡ zeros h.a + n
  objects : k + occurrences 0 (sizes_of N h.a h.b) ≡ occurrences 0 (sizes_of N g.a g.b)

carried :
    (N w : ℕ) {k n : ℕ} {h g : Memory} {waiting left : List ℕ} → Taken N w k n h waiting g left → Releasing N w h waiting
    → Carried N w k n h g left
unfolding freed
carried N w Taken.none before =
    record {
      releasing = before;
      runs = done;
      written = rewrites_same N _;
      same_roots = refl;
      same_waiting = refl;
      same_sections = refl;
      same_marks = refl;
      same_list = refl;
      blocks = omega arith;
      objects = omega arith;
    }
carried N w (Taken.next {k} {n} {total} {h} {g} {waiting} {left} front i back e t rest) before =
    let first : Releasing N w h (i ∷ (front ++ back)) = taken_first N w h front back i (subst (λ (l : List ℕ). Releasing N w h l) e before) in
    let head = waits_head (view N w h) i (front ++ back) first.waits in
    let more = carried N w rest (releasing_next N w h i (front ++ back) first) in
    record {
      releasing = more.releasing;
      runs =
          free_one i head.0 head.1
          (subst (λ (m : Graph). Runs (capacity w) (length h.roots) (λ j. ⊥) m (view N w g)) (view_after N w h i (front ++ back) first)
          more.runs);
      written = rewrites_trans (step_rewrites N w h i (front ++ back) first) more.written;
      same_roots = more.same_roots;
      same_waiting = more.same_waiting;
      same_sections = more.same_sections;
      same_marks = more.same_marks;
      same_list = more.same_list;
      blocks = omega (arith, more.blocks, freed_zeros N w h i (front ++ back) first, t);
      objects = omega (arith, more.objects, fewer_objects N w h i (front ++ back) first);
    }

-- one order after another
joined :
    (N w : ℕ) {k n l m : ℕ} {h g end : Memory} {waiting left last : List ℕ} → Taken N w k n h waiting g left → Taken N w l m g left end last
    → (steps : ℕ) × (blocks : ℕ) × Taken N w steps blocks h waiting end last
joined N w {l} {m} Taken.none u = (l, m, u)
joined N w (Taken.next {h} front i back e t rest) u =
    let more = joined N w rest u in
    (suc more.0, size_at N h i + more.1, Taken.next front i back e refl more.2)

-- the order of the rules: the last that came to wait is taken first
release_taken :
    (N w fuel : ℕ) (h : Memory) (stack : List ℕ) → Releasing N w h stack → N ≤ occurrences 0 (sizes_of N h.a h.b) + fuel
    → (k : ℕ) × (n : ℕ) × Taken N w k n h stack (release fuel N w h stack) []
unfolding release
release_taken N w zero h [] before f = (0, 0, Taken.none)
release_taken N w zero h (x ∷ rest) before f =
    absurd (omega (arith, waits_bound (x ∷ rest) (view N w h) before.waits, length_sizes_of N h.a h.b))
release_taken N w (suc fuel) h [] before f = (0, 0, Taken.none)
release_taken N w (suc fuel) h (x ∷ rest) before f =
    let more =
    release_taken N w fuel (memory_after N w h x rest) (work_after N w h x rest).stack (releasing_next N w h x rest before)
    (omega (arith, fewer_objects N w h x rest before)) in
    (suc more.0, size_at N h x + more.1, Taken.next [] x rest refl refl more.2)

-- ---- two orders

module _ (N w : ℕ) (h : Memory) (waiting : List ℕ) (before : Releasing N w h waiting) where
  end_of : (k n : ℕ) (g : Memory) → Taken N w k n h waiting g [] → Ends (capacity w) (length h.roots) (λ j. ⊥) (view N w h) (view N w g)
  end_of k n g taken =
      let c = carried N w taken before in
      record { runs = c.runs; waits = c.releasing.waits; dropped = λ j e. absurd e }

  two_ends : (k n l m : ℕ) (g end : Memory) → Taken N w k n h waiting g [] → Taken N w l m h waiting end [] → g ≡ end
  two_ends k n l m g end t u =
      let c = carried N w t before in
      let d = carried N w u before in
      same_memory_lem N w h c.releasing.shape d.releasing.shape c.releasing.represents d.releasing.represents
      c.releasing.bare d.releasing.bare c.written d.written
      (ap length (c.same_roots ∙ sym d.same_roots)) (c.same_waiting ∙ sym d.same_waiting)
      (λ e. c.same_sections ∙ sym d.same_sections) (c.same_marks ∙ sym d.same_marks) (c.same_list ∙ sym d.same_list)
      (same_end (capacity w) before.positive (length h.roots) (λ j. ⊥) (view N w h) before.balanced (view N w g) (view N w end)
      (end_of k n g t) (end_of l m end u))

pub one_end : (N w : ℕ) (h : Memory) (stack : List ℕ) → Releasing N w h stack → OneEnd N w h stack (release N N w h stack)
one_end N w h stack before =
    let end : Memory = release N N w h stack in
    let own = release_taken N w N h stack before (omega arith) in
    record {
      bounded = λ k n g left t.
          omega (
            arith,
            (carried N w t before).objects,
            occurrences_le 0 (sizes_of N g.a g.b),
            length_sizes_of N g.a g.b,
          );
      finishes = λ k n g left t.
          let rest = release_taken N w N g left (carried N w t before).releasing (omega arith) in
          let whole = joined N w t rest.2 in
          let same : release N N w g left ≡ end =
          two_ends N w h stack before whole.0 whole.1 own.0 own.1 (release N N w g left) end whole.2 own.2 in
          (rest.0, rest.1, subst (λ (m : Memory). Taken N w rest.0 rest.1 g left m []) same rest.2);
      alike = λ k n g t.
          let same = two_ends N w h stack before k n own.0 own.1 g end t own.2 in
          (same, omega (arith, (carried N w t before).blocks, ap (λ (m : Memory). zeros m.a) same));
      own = own;
    }

-- what a release writes; the A-map has no fewer 0 bits after it
pub release_rewrites :
    (N w : ℕ) (h : Memory) (stack : List ℕ) → Releasing N w h stack
    → Rewrites N h (release N N w h stack) × (zeros h.a ≤ zeros (release N N w h stack).a)
release_rewrites N w h stack before =
    let own = release_taken N w N h stack before (omega arith) in
    let c = carried N w own.2 before in
    (c.written, omega (arith, c.blocks))
