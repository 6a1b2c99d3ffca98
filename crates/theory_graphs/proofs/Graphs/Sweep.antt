-- The sweep, the second half of a collection: objects whose count the marking left at 0 are removed, with their slots, and nothing is
-- counted down. The slots that are left are the ghost slots of the marking, so the counts are those of the references that are left.
use mathlib.Core.Path.{◌≡◌, refl, sym, ap, ◌∙◌}
use mathlib.Core.Logic.{◌≢◌, ◌⊎◌, inl, inr}
use mathlib.Core.Bool.{true, false}
use mathlib.Core.List.{List, []}
use Prim.Native.Nat.{ℕ, zero, suc, ◌≤◌, ◌<◌}
use native.Mathlib.Decide.{ℕ_discrete, dec_lt}
use native.Mathlib.Omega.{arith}
use lib.ListN.{length, get_or, set, length-set, get_or-eq_default}
use lib.Seq.{get_or-set_other, ext_get_or}
use lib.Dec.{eqb}
use borrow.Author.Tests.{eq-eqb, ne_eqb}
use Rattle.theory_graphs.proofs.Graphs.Occurrences.{occurrences, occurrences_nil, nonzero_inside}
use Rattle.theory_graphs.proofs.Graphs.Stretch.{side, clear, clear_in, clear_or, stretch_out, stretch_length, set_zero}
use Rattle.theory_graphs.proofs.Graphs.Graph.{Graph, size, count, slot, first_slot, slots_of, Owns}
use Rattle.theory_graphs.proofs.Graphs.Keep.{one_owner}
use Rattle.theory_graphs.proofs.Graphs.Marking.{marked, Looked, Marking, Markable, marked_end, complete}
use Rattle.theory_graphs.proofs.Graphs.Collection.{Live, Collected}

-- the object at x goes, with no count-downs
abbrev pub erase : ℕ → Graph → ℕ → Graph
erase r h x =
    record { sizes = set h.sizes x 0; counts = h.counts; slots = clear (first_slot r x) (slots_of h x) h.slots }

unfoldable pub sweep_one : ℕ → Graph → ℕ → Graph
sweep_one r h x = elim (eqb (count h x) 0) [ true ↦ erase r h x | false ↦ h ]

-- the blocks below n are swept
unfoldable pub sweep : ℕ → Graph → ℕ → Graph
sweep r h zero = h
sweep r h (suc n) = sweep_one r (sweep r h n) n

abbrev pub marked_graph : ℕ → ℕ → Graph → Graph
marked_graph cap r h = record { sizes = h.sizes; counts = marked cap r h; slots = h.slots }

unfoldable pub collect : ℕ → ℕ → Graph → Graph
collect cap r h = sweep r (marked_graph cap r h) (length h.sizes)

pub sweep_gone : (r : ℕ) (h : Graph) (x : ℕ) → count h x ≡ 0 → sweep_one r h x ≡ erase r h x
unfolding sweep_one
sweep_gone r h x z = rw (eq-eqb (count h x) 0 z, sweep_one)

pub sweep_kept : (r : ℕ) (h : Graph) (x : ℕ) → count h x ≢ 0 → sweep_one r h x ≡ h
unfolding sweep_one
sweep_kept r h x n = rw (ne_eqb (count h x) 0 n, sweep_one)

-- what a sweep of the blocks below n leaves
pub record SweptBelow (r : ℕ) (h k : Graph) (n : ℕ) : Type 0 where
  pub same_counts : k.counts ≡ h.counts
  pub kept : (y : ℕ) → (count h y ≢ 0) ⊎ (n ≤ y) → size k y ≡ size h y
  pub gone : (y : ℕ) → count h y ≡ 0 → y < n → size k y ≡ 0
  pub cleared : (y s : ℕ) → count h y ≡ 0 → y < n → Owns r h.sizes y s → slot k s ≡ 0
  pub others : (s : ℕ) → ((y : ℕ) → count h y ≡ 0 → Owns r h.sizes y s → ⊥) → slot k s ≡ slot h s
  pub kept_or_cleared : (s : ℕ) → (slot k s ≡ slot h s) ⊎ (slot k s ≡ 0)
  pub sizes_length : length k.sizes ≡ length h.sizes
  pub slots_length : length k.slots ≡ length h.slots

module _ (r : ℕ) (h k : Graph) (n : ℕ) (p : SweptBelow r h k n) where
  untouched : size k n ≡ size h n
  untouched = p.kept n (inr (omega arith))

  swept_gone : count h n ≡ 0 → SweptBelow r h (erase r k n) (suc n)
  swept_gone z =
      record {
        same_counts = p.same_counts;
        kept = λ y o. get_or-set_other k.sizes n y 0 0 (differ y o) ∙ p.kept y (fewer y o);
        gone =
            λ y c l.
            elim (ℕ_discrete y n) [
              | yes e ↦ rw e (set_zero k.sizes n)
              | no d ↦ get_or-set_other k.sizes n y 0 0 d ∙ p.gone y c (omega arith)
            ];
        cleared =
            λ y s c l own.
            elim (ℕ_discrete y n) [
              | yes e ↦ clear_in (first_slot r n) (slots_of k n) k.slots s (rw untouched (rw e at own))
              | no d ↦ still_zero s (p.cleared y s c (omega arith) own)
            ];
        others =
            λ s f.
            elim (side (first_slot r n) (slots_of k n) s) [
              | inl own ↦ absurd (f n z (rw untouched at own))
              | inr o ↦ stretch_out (λ j. 0) (first_slot r n) k.slots (slots_of k n) s o ∙ p.others s f
            ];
        kept_or_cleared =
            λ s.
            elim (clear_or (first_slot r n) (slots_of k n) k.slots s) [
              | inl e ↦ rw e (p.kept_or_cleared s)
              | inr e ↦ inr e
            ];
        sizes_length = length-set k.sizes n 0 ∙ p.sizes_length;
        slots_length = stretch_length (λ j. 0) (first_slot r n) k.slots (slots_of k n) ∙ p.slots_length;
      }
    where
      differ : (y : ℕ) → (count h y ≢ 0) ⊎ (suc n ≤ y) → y ≢ n
      differ y (inl c) e = c (rw e z)
      differ y (inr l) e = omega arith

      fewer : (y : ℕ) → (count h y ≢ 0) ⊎ (suc n ≤ y) → (count h y ≢ 0) ⊎ (n ≤ y)
      fewer y (inl c) = inl c
      fewer y (inr l) = inr (omega arith)

      still_zero : (s : ℕ) → slot k s ≡ 0 → get_or (clear (first_slot r n) (slots_of k n) k.slots) s 0 ≡ 0
      still_zero s e = elim (clear_or (first_slot r n) (slots_of k n) k.slots s) [ inl f ↦ f ∙ e | inr f ↦ f ]

  swept_kept : count h n ≢ 0 → SweptBelow r h k (suc n)
  swept_kept c =
      record {
        same_counts = p.same_counts;
        kept = λ y o. p.kept y (elim o [ inl d ↦ inl d | inr l ↦ inr (omega arith) ]);
        gone = λ y z l. p.gone y z (below y z l);
        cleared = λ y s z l own. p.cleared y s z (below y z l) own;
        others = p.others;
        kept_or_cleared = p.kept_or_cleared;
        sizes_length = p.sizes_length;
        slots_length = p.slots_length;
      }
    where
      below : (y : ℕ) → count h y ≡ 0 → y < suc n → y < n
      below y z l = elim (ℕ_discrete y n) [ yes e ↦ absurd (c (rw e at z)) | no d ↦ omega arith ]

  swept_one : SweptBelow r h (sweep_one r k n) (suc n)
  swept_one =
      elim (ℕ_discrete (count k n) 0) [
        | yes z ↦ rw (sweep_gone r k n z) (swept_gone (sym same ∙ z))
        | no c ↦ rw (sweep_kept r k n c) (swept_kept (λ z. c (same ∙ z)))
      ]
    where
      same : count k n ≡ count h n
      same = ap (λ (l : List ℕ). get_or l n 0) p.same_counts

pub swept : (r : ℕ) (h : Graph) (n : ℕ) → SweptBelow r h (sweep r h n) n
unfolding sweep
swept r h zero =
    record {
      same_counts = refl;
      kept = λ y o. refl;
      gone = λ y z l. absurd (omega arith);
      cleared = λ y s z l own. absurd (omega (arith, l));
      others = λ s f. refl;
      kept_or_cleared = λ s. inl refl;
      sizes_length = refl;
      slots_length = refl;
    }
swept r h (suc n) = swept_one r h (sweep r h n) n (swept r h n)

-- slots that hold anything are roots, or slots of objects
abbrev pub Owned : ℕ → List ℕ → List ℕ → Type 0
Owned r sizes slots = (s : ℕ) → get_or slots s 0 ≢ 0 → (s < r) ⊎ ((x : ℕ) × Owns r sizes x s)

module _ (cap : ℕ) (pos : 0 < cap) (r : ℕ) (h : Graph) (markable : Markable r h.sizes h.slots) (owned : Owned r h.sizes h.slots) where
  module _ (counts taken ghost : List ℕ) (m : Marking cap r h.sizes h.slots counts taken [] ghost) (k : Graph)
      (p : SweptBelow r (record { sizes = h.sizes; counts = counts; slots = h.slots }) k (length h.sizes)) where
    counted_taken : (x : ℕ) → get_or counts x 0 ≢ 0 → 1 ≤ occurrences x taken
    counted_taken x n = omega (arith, m.listed x, occurrences_nil x)

    taken_counted : (x : ℕ) → 1 ≤ occurrences x taken → get_or counts x 0 ≢ 0
    taken_counted x o z = omega (arith, m.listed x, occurrences_nil x)

    -- a slot that the marking looked at stands; any other is 0
    slot_is : (s : ℕ) → slot k s ≡ get_or ghost s 0
    slot_is s =
        elim (ℕ_discrete (get_or ghost s 0) 0) [ yes z ↦ dark z (ℕ_discrete (slot h s) 0) | no n ↦ bright (m.looked s n) ]
      where
        bright : Looked r h.sizes taken s → slot k s ≡ get_or ghost s 0
        bright l = p.others s (λ y z own. clash y z own l) ∙ sym (m.agrees s l)
          where
            clash : (y : ℕ) → get_or counts y 0 ≡ 0 → Owns r h.sizes y s → Looked r h.sizes taken s → ⊥
            clash y z own (inl u) = omega (arith, own)
            clash y z own (inr (x, o, own')) =
                taken_counted x o (rw (one_owner r h.sizes x y s markable.disjoint own' own) z)

        dark : get_or ghost s 0 ≡ 0 → Dec (slot h s ≡ 0) → slot k s ≡ get_or ghost s 0
        dark z (yes e) = elim (p.kept_or_cleared s) [ inl f ↦ f ∙ e ∙ sym z | inr f ↦ f ∙ sym z ]
        dark z (no n) = by (owned s n)
          where
            by : (s < r) ⊎ ((x : ℕ) × Owns r h.sizes x s) → slot k s ≡ get_or ghost s 0
            by (inl l) = absurd (n (sym (m.agrees s (inl l)) ∙ z))
            by (inr (x, own)) =
                elim (ℕ_discrete (get_or counts x 0) 0) [
                  | yes c ↦ p.cleared x s c (nonzero_inside h.sizes x (omega (arith, own))) own ∙ sym z
                  | no c ↦ absurd (n (sym (m.agrees s (inr (x, counted_taken x c, own))) ∙ z))
                ]

    slots_are : k.slots ≡ ghost
    slots_are = ext_get_or 0 k.slots ghost (p.slots_length ∙ sym m.ghost_length) (λ s l. slot_is s)

    uncounted_gone : (b : ℕ) → get_or counts b 0 ≡ 0 → size k b ≡ 0
    uncounted_gone b z =
        elim (dec_lt b (length h.sizes)) [
          | yes l ↦ p.gone b z l
          | no l ↦ p.kept b (inr (omega arith)) ∙ get_or-eq_default h.sizes 0 (omega arith)
        ]

    swept_collected : Collected cap r h k
    swept_collected =
        record {
          reached = λ b q. p.kept b (inl (complete cap pos r h.sizes h.slots markable counts taken ghost m b q));
          unreached =
              λ b n.
              elim (ℕ_discrete (get_or counts b 0) 0) [ yes z ↦ uncounted_gone b z | no c ↦ absurd (n (m.sound b c)) ];
          live = λ s l. slot_is s ∙ m.agrees s (looked s l);
          dead =
              λ s n.
              slot_is s
              ∙ elim (ℕ_discrete (get_or ghost s 0) 0) [ yes z ↦ z | no c ↦ absurd (n (lives s (m.looked s c))) ];
          counted = λ b. rw slots_are (ap (λ (l : List ℕ). get_or l b 0) p.same_counts ∙ m.counted b);
          sizes_length = p.sizes_length;
          counts_length = ap length p.same_counts ∙ m.counts_length;
          slots_length = p.slots_length;
        }
      where
        looked : (s : ℕ) → Live r h s → Looked r h.sizes taken s
        looked s (inl l) = inl l
        looked s (inr (x, q, own)) =
            inr (x, counted_taken x (complete cap pos r h.sizes h.slots markable counts taken ghost m x q), own)

        lives : (s : ℕ) → Looked r h.sizes taken s → Live r h s
        lives s (inl l) = inl l
        lives s (inr (x, o, own)) = inr (x, m.sound x (taken_counted x o), own)

  pub collect_collected : Collected cap r h (collect cap r h)
  unfolding collect
  collect_collected =
      let t = marked_end cap pos r h markable in
      swept_collected (marked cap r h) t.0 t.1 t.2 (collect cap r h) (swept r (marked_graph cap r h) (length h.sizes))
