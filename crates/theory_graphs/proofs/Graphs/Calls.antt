-- What every call keeps: a graph is whole if its blocks keep the law with an empty hand, nothing waits, and it has its shape (objects do not
-- overlap and lie inside, the lists have their lengths, and only roots and slots of objects hold anything). A store, an allocation and a
-- collection of a whole graph leave a whole graph. A store and an allocation free nothing that a root leads to once the new value is
-- written; a collection keeps exactly what a root leads to (Collection.antt).
use mathlib.Core.Path.{◌≡◌, refl, sym, ap, ◌∙◌}
use mathlib.Core.Logic.{◌≢◌, ◌⊎◌, inl, inr}
use mathlib.Core.List.{[]}
use Prim.Native.Nat.{ℕ, suc, ◌+◌, ◌*◌, ◌≤◌, ◌<◌, min}
use native.Mathlib.Decide.{ℕ_discrete}
use native.Mathlib.Omega.{arith}
use lib.ListN.{length, set, length-set}
use lib.Seq.{get_or-set_same, get_or-set_other}
use Rattle.theory_graphs.proofs.Graphs.Occurrences.{equals, equals_same, equals_other, equals_none, equals_cases, occurrences_nil, nonzero_inside}
use Rattle.theory_graphs.proofs.Graphs.Graph.{Graph, size, count, slot, references, Owns, Disjoint, raise, write, swap, swap_stack, finish}
use Rattle.theory_graphs.proofs.Graphs.Graph.{store, place, allocate, count_up_same, count_up_other, count_up_length, count_down_length}
use Rattle.theory_graphs.proofs.Graphs.Balance.{Balanced, Waits, unreferenced_counted, all_counted, law_zero, named_object, raise_balanced}
use Rattle.theory_graphs.proofs.Graphs.Balance.{write_balanced, lower_balanced, lower_waits, release_balanced}
use Rattle.theory_graphs.proofs.Graphs.Keep.{Reach, root, link, one_owner, release_runs, runs_reach}
use Rattle.theory_graphs.proofs.Graphs.Order.{Leaves, Ends, runs_leave}
use Rattle.theory_graphs.proofs.Graphs.Marking.{Markable}
use Rattle.theory_graphs.proofs.Graphs.Collection.{Live, Collected, collected_or_gone, collected_slot, collected_balanced, collected_waits}
use Rattle.theory_graphs.proofs.Graphs.Sweep.{Owned, collect, collect_collected}

pub record Shape (r : ℕ) (h : Graph) : Type 0 where
  pub disjoint : Disjoint h.sizes
  pub inside : (x : ℕ) → size h x ≢ 0 → x + size h x ≤ length h.sizes
  pub counts_length : length h.counts ≡ length h.sizes
  pub slots_length : length h.slots ≡ r + 4 * length h.sizes
  pub owned : Owned r h.sizes h.slots

pub record Whole (cap r : ℕ) (h : Graph) : Type 0 where
  pub balanced : Balanced cap h 0
  pub waits : Waits h []
  pub shape : Shape r h

-- a run of releases keeps the shape
pub leaves_shape : (cap r : ℕ) (h k : Graph) → Leaves cap r h k → Shape r h → Shape r k
leaves_shape cap r h k leaves shape =
    record {
      disjoint =
          λ x y l p q.
          rw (stands x p) (shape.disjoint x y l (λ z. p (stands x p ∙ z)) (λ z. q (stands y q ∙ z)));
      inside = λ x p. rw (stands x p, leaves.sizes_length) (shape.inside x (λ z. p (stands x p ∙ z)));
      counts_length = leaves.counts_length ∙ shape.counts_length ∙ sym leaves.sizes_length;
      slots_length = omega (arith, leaves.slots_length, shape.slots_length, leaves.sizes_length);
      owned = λ s n. still s n (shape.owned s (λ z. n (still_zero s z)));
    }
  where
    stands : (x : ℕ) → size k x ≢ 0 → size k x ≡ size h x
    stands x n = elim (leaves.objects x) [ inl e ↦ e | inr e ↦ absurd (n e.0) ]

    still_zero : (s : ℕ) → slot h s ≡ 0 → slot k s ≡ 0
    still_zero s z = elim (leaves.references s) [ inl e ↦ e ∙ z | inr e ↦ e ]

    still : (s : ℕ) → slot k s ≢ 0 → (s < r) ⊎ ((x : ℕ) × Owns r h.sizes x s) → (s < r) ⊎ ((x : ℕ) × Owns r k.sizes x s)
    still s n (inl l) = inl l
    still s n (inr (x, own)) = elim (leaves.objects x) [ inl e ↦ inr (x, rw e own) | inr e ↦ absurd (n (e.1 s own)) ]

-- ---- the end of a store and of an allocation: v is in the hand, slot i is written, the old value is let go

-- slot i is a root or a slot of an object
abbrev pub Place : ℕ → Graph → ℕ → Type 0
Place r h i = (i < r) ⊎ ((x : ℕ) × Owns r h.sizes x i)

module _ (cap : ℕ) (pos : 0 < cap) (r : ℕ) (h : Graph) (i v : ℕ) (held : Balanced cap h v) (waits : Waits h []) (shape : Shape r h)
    (slot-i : Place r h i) where
  place_inside : i < length h.slots
  place_inside = go slot-i
    where
      go : Place r h i → i < length h.slots
      go (inl l) = omega (arith, shape.slots_length)
      go (inr (x, own)) = omega (arith, shape.slots_length, own, shape.inside x (omega (arith, own)))

  written : Balanced cap (write h i v) (slot h i)
  written = write_balanced cap pos h i v place_inside held

  pub swap_balanced : Balanced cap (swap cap h i v) 0
  swap_balanced = lower_balanced cap pos (write h i v) (slot h i) written

  swap_waits : Waits (swap cap h i v) (swap_stack cap h i)
  swap_waits = lower_waits cap pos (write h i v) (slot h i) [] written waits

  pub swap_shape : Shape r (swap cap h i v)
  swap_shape =
      record {
        disjoint = shape.disjoint;
        inside = shape.inside;
        counts_length = count_down_length cap h.counts (slot h i) ∙ shape.counts_length;
        slots_length = length-set h.slots i v ∙ shape.slots_length;
        owned =
            λ s n.
            elim (ℕ_discrete s i) [
              | yes e ↦ rw e slot-i
              | no d ↦ shape.owned s (λ z. n (get_or-set_other h.slots i s v 0 d ∙ z))
            ];
      }

  released : Balanced cap (finish cap r h i v) 0 × Waits (finish cap r h i v) []
  unfolding finish
  released =
      let t = release_balanced cap pos r (length h.sizes) (swap cap h i v) (swap_stack cap h i) swap_balanced swap_waits (omega arith) in
      (t.0, t.1)

  -- it is one of the orders in which all that waits can be freed; by `same_end` all of them end alike
  pub finish_ends : Ends cap r (λ j. ⊥) (swap cap h i v) (finish cap r h i v)
  unfolding finish
  finish_ends =
      record {
        runs = release_runs cap pos r (λ j. ⊥) (length h.sizes) (swap cap h i v) (swap_stack cap h i) swap_balanced swap_waits;
        waits = released.1;
        dropped = λ j e. absurd e;
      }

  pub finish_whole : Whole cap r (finish cap r h i v)
  finish_whole =
      record {
        balanced = released.0;
        waits = released.1;
        shape =
            leaves_shape cap r (swap cap h i v) (finish cap r h i v) (runs_leave cap r (λ j. ⊥) pos finish_ends.runs) swap_shape;
      }

  pub finish_keeps : (b : ℕ) → Reach r h.sizes (set h.slots i v) b → size (finish cap r h i v) b ≡ size h b
  finish_keeps b reach =
      runs_reach cap pos r (swap cap h i v) (finish cap r h i v) finish_ends.runs swap_balanced shape.disjoint b reach

-- the n blocks from a on are in the heap, and in no object
pub record Vacant (h : Graph) (a n : ℕ) : Type 0 where
  pub some : n ≢ 0
  pub fits : a + n ≤ length h.sizes
  pub clear : (x : ℕ) → size h x ≢ 0 → (x + size h x ≤ a) ⊎ (a + n ≤ x)

module _ (cap : ℕ) (pos : 0 < cap) (r : ℕ) (h : Graph) (whole : Whole cap r h) where
  -- ---- the store of v in slot i

  module _ (i v : ℕ) (slot-i : Place r h i) (named : (a : ℕ) → v ≡ suc a → size h a ≢ 0) where
    pub raised_balanced : Balanced cap (raise cap h v) v
    raised_balanced = raise_balanced cap pos h v whole.balanced (λ a e. (named a e, all_counted h whole.waits a (named a e)))

    pub raised_waits : Waits (raise cap h v) []
    raised_waits b =
        elim (equals_cases v (suc b)) [
          | inl c ↦
              let n = all_counted h whole.waits b (named b c.0) in
              let e = count_up_same cap h.counts b (nonzero_inside h.counts b n) in
              rw (c.0, e) (occurrences_nil b ∙ sym (unreferenced_counted (size h b) (min cap (suc (count h b))) (omega arith)))
          | inr c ↦ rw (count_up_other cap h.counts v b c.0) (whole.waits b)
        ]

    pub raised_shape : Shape r (raise cap h v)
    raised_shape =
        let s = whole.shape in
        record {
          disjoint = s.disjoint;
          inside = s.inside;
          counts_length = count_up_length cap h.counts v ∙ s.counts_length;
          slots_length = s.slots_length;
          owned = s.owned;
        }

    pub store_whole : Whole cap r (store cap r h i v)
    unfolding store
    store_whole = finish_whole cap pos r (raise cap h v) i v raised_balanced raised_waits raised_shape slot-i

    -- what a root leads to, with v written, stays
    pub store_keeps : (b : ℕ) → Reach r h.sizes (set h.slots i v) b → size (store cap r h i v) b ≡ size h b
    unfolding store
    store_keeps b reach = finish_keeps cap pos r (raise cap h v) i v raised_balanced raised_waits raised_shape slot-i b reach

  -- ---- the allocation of n blocks at a for root i: the new object starts in the hand

  module _ (a n i : ℕ) (vacant : Vacant h a n) (is-root : i < r) where
    fresh : size h a ≡ 0
    fresh = elim (ℕ_discrete (size h a) 0) [ yes e ↦ e | no m ↦ absurd (go m (vacant.clear a m)) ]
      where
        go : size h a ≢ 0 → (a + size h a ≤ a) ⊎ (a + n ≤ a) → ⊥
        go m (inl l) = omega arith
        go m (inr l) = omega (arith, vacant.some)

    size_new : size (place h a n) a ≡ n
    size_new = get_or-set_same h.sizes a n 0 (omega (arith, vacant.fits, vacant.some))

    size_old : (b : ℕ) → b ≢ a → size (place h a n) b ≡ size h b
    size_old b d = get_or-set_other h.sizes a b n 0 d

    count_new : count (place h a n) a ≡ 1
    count_new = get_or-set_same h.counts a 1 0 (omega (arith, vacant.fits, vacant.some, whole.shape.counts_length))

    count_old : (b : ℕ) → b ≢ a → count (place h a n) b ≡ count h b
    count_old b d = get_or-set_other h.counts a b 1 0 d

    pub placed_balanced : Balanced cap (place h a n) (suc a)
    placed_balanced b =
        elim (ℕ_discrete b a) [
          | yes e ↦
              let law = whole.balanced a in
              let unnamed = law_zero cap pos (size h a) (count h a) (references h a + equals 0 (suc a)) law (law.absent fresh) in
              rw (e, size_new, count_new, equals_same (suc a) (suc a) refl)
              (record { bounded = omega arith; exact = λ l. omega arith; absent = λ z. absurd (vacant.some z) })
          | no d ↦
              rw (size_old b d, count_old b d, equals_other (suc a) (suc b) (omega arith)) (rw (equals_none b) at (whole.balanced b))
        ]

    pub placed_waits : Waits (place h a n) []
    placed_waits b =
        elim (ℕ_discrete b a) [
          | yes e ↦
              rw e (occurrences_nil a ∙ sym (unreferenced_counted (size (place h a n) a) (count (place h a n) a) (omega (arith, count_new))))
          | no d ↦ rw (size_old b d, count_old b d) (whole.waits b)
        ]

    placed_disjoint : Disjoint (place h a n).sizes
    placed_disjoint x y l p q =
        elim (ℕ_discrete x a) [
          | yes e ↦ let d : y ≢ a = omega arith in first e d (vacant.clear y (λ z. q (size_old y d ∙ z)))
          | no d ↦
              elim (ℕ_discrete y a) [
                | yes e ↦ rw (size_old x d) (second d e (vacant.clear x (λ z. p (size_old x d ∙ z))))
                | no f ↦ rw (size_old x d) (whole.shape.disjoint x y l (λ z. p (size_old x d ∙ z)) (λ z. q (size_old y f ∙ z)))
              ]
        ]
      where
        first : x ≡ a → y ≢ a → (y + size h y ≤ a) ⊎ (a + n ≤ y) → x + size (place h a n) x ≤ y
        first e d (inl u) = absurd (omega arith)
        first e d (inr u) = rw (e, size_new) u

        second : x ≢ a → y ≡ a → (x + size h x ≤ a) ⊎ (a + n ≤ x) → x + size h x ≤ y
        second d e (inl u) = omega arith
        second d e (inr u) = absurd (omega arith)

    owner_old : (x s : ℕ) → Owns r h.sizes x s → Owns r (place h a n).sizes x s
    owner_old x s own = rw (size_old x (λ e. let z = ap (size h) e ∙ fresh in omega (arith, own))) own

    pub placed_shape : Shape r (place h a n)
    placed_shape =
        record {
          disjoint = placed_disjoint;
          inside =
              λ x p.
              elim (ℕ_discrete x a) [
                | yes e ↦ rw (e, size_new) (omega (arith, vacant.fits, length-set h.sizes a n))
                | no d ↦
                    rw (size_old x d) (omega (arith, length-set h.sizes a n, whole.shape.inside x (λ z. p (size_old x d ∙ z))))
              ];
          counts_length = length-set h.counts a 1 ∙ whole.shape.counts_length ∙ sym (length-set h.sizes a n);
          slots_length = omega (arith, whole.shape.slots_length, length-set h.sizes a n);
          owned = λ s m. elim (whole.shape.owned s m) [ inl l ↦ inl l | inr q ↦ inr (q.0, owner_old q.0 s q.1) ];
        }

    pub allocate_whole : Whole cap r (allocate cap r h a n i)
    unfolding allocate
    allocate_whole = finish_whole cap pos r (place h a n) i (suc a) placed_balanced placed_waits placed_shape (inl is-root)

    reach_placed : (b : ℕ) → Reach r h.sizes (set h.slots i (suc a)) b → Reach r (place h a n).sizes (set h.slots i (suc a)) b
    reach_placed b (root s l e) = root s l e
    reach_placed b (link c s q own e) = link c s (reach_placed c q) (owner_old c s own) e

    -- an object that stood and that a root leads to, with the new reference written, stays
    pub allocate_keeps : (b : ℕ) → b ≢ a → Reach r h.sizes (set h.slots i (suc a)) b → size (allocate cap r h a n i) b ≡ size h b
    unfolding allocate
    allocate_keeps b d reach =
        finish_keeps cap pos r (place h a n) i (suc a) placed_balanced placed_waits placed_shape (inl is-root) b (reach_placed b reach)
        ∙ size_old b d

  -- ---- the collection

  names : (s b : ℕ) → slot h s ≡ suc b → size h b ≢ 0
  names = named_object cap pos h whole.balanced

  pub whole_markable : Markable r h.sizes h.slots
  whole_markable =
      let s = whole.shape in
      record {
        disjoint = s.disjoint;
        roots_inside = omega (arith, s.slots_length);
        slots_inside = λ x n. omega (arith, s.slots_length, s.inside x n);
        names = names;
      }

  pub collect_is : Collected cap r h (collect cap r h)
  collect_is = collect_collected cap pos r h whole_markable whole.shape.owned

  pub collected_whole : (k : Graph) → Collected cap r h k → Whole cap r k
  collected_whole k c =
      record {
        balanced = collected_balanced cap r h k c names;
        waits = collected_waits cap r h k c names pos;
        shape =
            record {
              disjoint =
                  λ x y l p q.
                  rw (stands x p) (whole.shape.disjoint x y l (λ z. p (stands x p ∙ z)) (λ z. q (stands y q ∙ z)));
              inside = λ x p. rw (stands x p, c.sizes_length) (whole.shape.inside x (λ z. p (stands x p ∙ z)));
              counts_length = c.counts_length ∙ sym c.sizes_length;
              slots_length = omega (arith, c.slots_length, c.sizes_length, whole.shape.slots_length);
              owned = λ s n. still s n (whole.shape.owned s (λ z. n (collected_slot cap r h k c s n ∙ z)));
            };
      }
    where
      stands : (x : ℕ) → size k x ≢ 0 → size k x ≡ size h x
      stands x n = elim (collected_or_gone cap r h k c x) [ inl e ↦ e | inr e ↦ absurd (n e) ]

      still : (s : ℕ) → slot k s ≢ 0 → (s < r) ⊎ ((x : ℕ) × Owns r h.sizes x s) → (s < r) ⊎ ((x : ℕ) × Owns r k.sizes x s)
      still s n (inl l) = inl l
      still s n (inr (x, own)) =
          elim (ℕ_discrete (size k x) (size h x)) [
            | yes e ↦ inr (x, rw e own)
            | no d ↦ absurd (n (c.dead s (λ l. d (c.reached x (owner l)))))
          ]
        where
          owner : Live r h s → Reach r h.sizes h.slots x
          owner (inl l) = absurd (omega (arith, own))
          owner (inr (y, q, own')) = rw (one_owner r h.sizes y x s whole.shape.disjoint own' own) at q

  pub collect_whole : Whole cap r (collect cap r h)
  collect_whole = collected_whole (collect cap r h) collect_is
