-- U8, the close on object graphs. h is the graph when the list has run out: roots and marked objects name
-- only marked ones. The unmarked are removed with their slots, and what these named among the marked is
-- counted down. To compare, let go of the unmarked objects' slots in the usual way (`drop_all`), counting down
-- everybody: that keeps the laws. At a marked object both ways of counting agree, and an unmarked one is
-- named by nobody in the end. So the graph k that the rule's close comes to before its release keeps the laws
-- too.
use mathlib.Core.Path.{◌≡◌, refl, sym, ap, ◌∙◌}
use mathlib.Core.Logic.{◌≢◌, ◌⊎◌, inl, inr}
use mathlib.Core.Bool.{Bool, true, false, false≢true}
use mathlib.Core.List.{List, [], ◌∷◌}
use Prim.Native.Nat.{ℕ, zero, suc, ◌+◌, ◌*◌, ◌<◌}
use native.Mathlib.Decide.{ℕ_discrete}
use native.Mathlib.Omega.{arith}
use lib.ListN.{length, get_or}
use lib.Dec.{eqb}
use Rattle.rules.proofs.Tests.{test_cases_lem}
use Rattle.theory_graphs.proofs.Graphs.Occurrences.{equals, equals_none, equals_other, occurrences, occurrences_nil, occurrences_cons, occurrences_find, nonzero_inside}
use Rattle.theory_graphs.proofs.Graphs.Stretch.{side, clear, clear_in, clear_or, stretch_out, Inside}
use Rattle.theory_graphs.proofs.Graphs.Graph.{Graph, size, count, slot, references, first_slot, slots_of, Owns, lowered, push_last, count_down, count_down_stack}
use Rattle.theory_graphs.proofs.Graphs.Graph.{count_down_each, count_down_each_stack, let_go_each, count_down_same, count_down_other, count_down_length}
use Rattle.theory_graphs.proofs.Graphs.Balance.{Law, Balanced, Waits, unreferenced, unreferenced_absent, let_go_each_balanced, let_go_each_waits}
use Rattle.theory_graphs.proofs.Graphs.Keep.{Reach, root, link, one_owner}
use Rattle.theory_graphs.proofs.Graphs.Calls.{Whole}
use Rattle.theory_graphs.proofs.Graphs.Tidy.{Tidy}

-- ---- counting down the marked alone

-- the reference v where it names a marked object, else 0
unfoldable pub only : (ℕ → Bool) → ℕ → ℕ
only marks zero = 0
only marks (suc b) = elim (marks b) [ true ↦ suc b | false ↦ 0 ]

module _ (marks : ℕ → Bool) where
  only_marked : (b : ℕ) → marks b ≡ true → only marks (suc b) ≡ suc b
  unfolding only
  only_marked b m = rw (m, only)

  only_names : (v b : ℕ) → only marks v ≡ suc b → (v ≡ suc b) × (marks b ≡ true)
  unfolding only
  only_names zero b e = absurd (omega arith)
  only_names (suc a) b e = go (test_cases_lem (marks a))
    where
      go : (marks a ≡ true) ⊎ (marks a ≡ false) → (suc a ≡ suc b) × (marks b ≡ true)
      go (inl m) = let q : suc a ≡ suc b = rw (m, only) at e in (q, ap marks (omega arith) ∙ m)
      go (inr u) = absurd (omega (arith, rw (u, only) at e))

unfoldable pub only_each : ℕ → (ℕ → Bool) → List ℕ → List ℕ → ℕ → ℕ → List ℕ
only_each cap marks counts slots i zero = counts
only_each cap marks counts slots i (suc n) = count_down cap (only_each cap marks counts slots i n) (only marks (get_or slots (i + n) 0))

unfoldable pub only_each_stack : ℕ → (ℕ → Bool) → List ℕ → List ℕ → ℕ → ℕ → List ℕ → List ℕ
only_each_stack cap marks counts slots i zero stack = stack
only_each_stack cap marks counts slots i (suc n) stack =
    count_down_stack cap (only_each cap marks counts slots i n) (only marks (get_or slots (i + n) 0)) (only_each_stack cap marks counts slots i n stack)

-- what is pushed is the object itself, whatever the stack holds
push_other : (cap c a b : ℕ) (stack : List ℕ) → a ≢ b → occurrences b (push_last cap c a stack) ≡ occurrences b stack
unfolding push_last
push_other cap c a b stack d = go (eqb c cap) (eqb c 1)
  where
    go : (s t : Bool) → occurrences b (elim s as (λ _. List ℕ) [ true ↦ stack | false ↦ elim t as (λ _. List ℕ) [ true ↦ a ∷ stack | false ↦ stack ] ])
        ≡ occurrences b stack
    go true t = refl
    go false true = omega (arith, occurrences_cons b a stack, equals_other a b d)
    go false false = refl

push_same : (cap c a b : ℕ) (s t : List ℕ) → occurrences b s ≡ occurrences b t → occurrences b (push_last cap c a s) ≡ occurrences b (push_last cap c a t)
unfolding push_last
push_same cap c a b s t e = go (eqb c cap) (eqb c 1)
  where
    go : (x y : Bool) → occurrences b (elim x as (λ _. List ℕ) [ true ↦ s | false ↦ elim y as (λ _. List ℕ) [ true ↦ a ∷ s | false ↦ s ] ])
        ≡ occurrences b (elim x as (λ _. List ℕ) [ true ↦ t | false ↦ elim y as (λ _. List ℕ) [ true ↦ a ∷ t | false ↦ t ] ])
    go true y = e
    go false true = omega (arith, occurrences_cons b a s, occurrences_cons b a t)
    go false false = e

stack_other : (cap : ℕ) (counts : List ℕ) (v b : ℕ) (stack : List ℕ) → v ≢ suc b → occurrences b (count_down_stack cap counts v stack) ≡ occurrences b stack
unfolding count_down_stack
stack_other cap counts zero b stack d = refl
stack_other cap counts (suc a) b stack d = push_other cap (get_or counts a 0) a b stack (λ e. d (ap suc e))

-- counts and stacks that agree at b: those of the rule, which counts down the marked alone, and those of
-- counting everybody down
pub record Agree (b : ℕ) (c c' s s' : List ℕ) : Type 0 where
  pub counts : get_or c b 0 ≡ get_or c' b 0
  pub stacks : occurrences b s ≡ occurrences b s'
  pub inside : b < length c
  pub inside' : b < length c'

module _ (cap : ℕ) (marks : ℕ → Bool) (b : ℕ) where
  module _ (marked : marks b ≡ true) where
    agree_one : (c c' s s' : List ℕ) (v : ℕ) → Agree b c c' s s'
        → Agree b (count_down cap c (only marks v)) (count_down cap c' v) (count_down_stack cap c (only marks v) s) (count_down_stack cap c' v s')
    unfolding count_down_stack
    agree_one c c' s s' v a =
        elim (ℕ_discrete v (suc b)) [
          | yes e ↦
              rw (e, only_marked marks b marked)
              (record {
                counts = count_down_same cap c b a.inside ∙ ap (lowered cap) a.counts ∙ sym (count_down_same cap c' b a.inside');
                stacks = rw a.counts (push_same cap (get_or c' b 0) b b s s' a.stacks);
                inside = omega (arith, count_down_length cap c (suc b), a.inside);
                inside' = omega (arith, count_down_length cap c' (suc b), a.inside');
              })
          | no d ↦
              let d' : only marks v ≢ suc b = λ e. d (only_names marks v b e).0 in
              record {
                counts = count_down_other cap c (only marks v) b d' ∙ a.counts ∙ sym (count_down_other cap c' v b d);
                stacks = stack_other cap c (only marks v) b s d' ∙ a.stacks ∙ sym (stack_other cap c' v b s' d);
                inside = omega (arith, count_down_length cap c (only marks v), a.inside);
                inside' = omega (arith, count_down_length cap c' v, a.inside');
              }
        ]

    pub agree_each : (c c' s s' slots slots' : List ℕ) (i n : ℕ) → ((j : ℕ) → Inside i n j → get_or slots j 0 ≡ get_or slots' j 0) → Agree b c c' s s'
        → Agree b (only_each cap marks c slots i n) (count_down_each cap c' slots' i n) (only_each_stack cap marks c slots i n s)
        (count_down_each_stack cap c' slots' i n s')
    unfolding only_each only_each_stack count_down_each count_down_each_stack
    agree_each c c' s s' slots slots' i zero same a = a
    agree_each c c' s s' slots slots' i (suc n) same a =
        rw (same (i + n) (omega arith, omega arith))
        (agree_one (only_each cap marks c slots i n) (count_down_each cap c' slots' i n) (only_each_stack cap marks c slots i n s)
        (count_down_each_stack cap c' slots' i n s') (get_or slots' (i + n) 0)
        (agree_each c c' s s' slots slots' i n (λ j p. same j (omega (arith, p), omega (arith, p))) a))

  -- an unmarked object is not counted down
  module _ (unmarked : marks b ≡ false) where
    none_names : (v : ℕ) → only marks v ≢ suc b
    none_names v e = false≢true (sym unmarked ∙ (only_names marks v b e).1)

    pub only_each_none : (c slots : List ℕ) (i n : ℕ) → get_or (only_each cap marks c slots i n) b 0 ≡ get_or c b 0
    unfolding only_each
    only_each_none c slots i zero = refl
    only_each_none c slots i (suc n) =
        count_down_other cap (only_each cap marks c slots i n) (only marks (get_or slots (i + n) 0)) b (none_names (get_or slots (i + n) 0))
        ∙ only_each_none c slots i n

    pub only_stack_none : (c slots : List ℕ) (i n : ℕ) (s : List ℕ) → occurrences b (only_each_stack cap marks c slots i n s) ≡ occurrences b s
    unfolding only_each_stack
    only_stack_none c slots i zero s = refl
    only_stack_none c slots i (suc n) s =
        stack_other cap (only_each cap marks c slots i n) (only marks (get_or slots (i + n) 0)) b (only_each_stack cap marks c slots i n s)
        (none_names (get_or slots (i + n) 0))
        ∙ only_stack_none c slots i n s

-- ---- the unmarked objects' slots let go in the usual way

unfoldable pub drop_all : ℕ → ℕ → (ℕ → Bool) → Graph → ℕ → Graph
drop_all cap r marks h zero = h
drop_all cap r marks h (suc n) =
    let g = drop_all cap r marks h n in
    elim (marks n) [ true ↦ g | false ↦ let_go_each cap g (first_slot r n) (slots_of g n) ]

unfoldable pub drop_stack : ℕ → ℕ → (ℕ → Bool) → Graph → ℕ → List ℕ
drop_stack cap r marks h zero = []
drop_stack cap r marks h (suc n) =
    let g = drop_all cap r marks h n in
    let s = drop_stack cap r marks h n in
    elim (marks n) [ true ↦ s | false ↦ count_down_each_stack cap g.counts g.slots (first_slot r n) (slots_of g n) s ]

-- the rule's counts and stack, from the counts that the sweep left
unfoldable pub survivors : ℕ → ℕ → (ℕ → Bool) → Graph → List ℕ → ℕ → List ℕ
survivors cap r marks h counts zero = counts
survivors cap r marks h counts (suc n) =
    let c = survivors cap r marks h counts n in
    elim (marks n) [ true ↦ c | false ↦ only_each cap marks c h.slots (first_slot r n) (slots_of h n) ]

unfoldable pub survivors_stack : ℕ → ℕ → (ℕ → Bool) → Graph → List ℕ → ℕ → List ℕ
survivors_stack cap r marks h counts zero = []
survivors_stack cap r marks h counts (suc n) =
    let c = survivors cap r marks h counts n in
    let s = survivors_stack cap r marks h counts n in
    elim (marks n) [ true ↦ s | false ↦ only_each_stack cap marks c h.slots (first_slot r n) (slots_of h n) s ]

module _ (cap : ℕ) (pos : 0 < cap) (r : ℕ) (marks : ℕ → Bool) (h : Graph) (whole : Whole cap r h) where
  -- what letting go of the unmarked below n leaves
  pub record Dropped (g : Graph) (n : ℕ) : Type 0 where
    pub same_sizes : g.sizes ≡ h.sizes
    pub cleared : (y s : ℕ) → marks y ≡ false → y < n → Owns r h.sizes y s → slot g s ≡ 0
    pub others : (s : ℕ) → ((y : ℕ) → marks y ≡ false → y < n → Owns r h.sizes y s → ⊥) → slot g s ≡ slot h s
    pub kept_or_cleared : (s : ℕ) → (slot g s ≡ slot h s) ⊎ (slot g s ≡ 0)

  module _ (g : Graph) (n : ℕ) (p : Dropped g n) (marked : marks n ≡ true) where
    dropped_kept : Dropped g (suc n)
    dropped_kept =
        record {
          same_sizes = p.same_sizes;
          cleared = λ y s u l own. p.cleared y s u (below y u l) own;
          others = λ s f. p.others s (λ y u l own. f y u (omega arith) own);
          kept_or_cleared = p.kept_or_cleared;
        }
      where
        below : (y : ℕ) → marks y ≡ false → y < suc n → y < n
        below y u l = elim (ℕ_discrete y n) [ yes e ↦ absurd (false≢true (sym u ∙ rw e marked)) | no d ↦ omega arith ]

  module _ (g : Graph) (n : ℕ) (p : Dropped g n) (unmarked : marks n ≡ false) where
    same_size : slots_of g n ≡ slots_of h n
    same_size = ap (λ (l : List ℕ). 4 * get_or l n 0) p.same_sizes

    dropped_next : Dropped (let_go_each cap g (first_slot r n) (slots_of g n)) (suc n)
    dropped_next =
        record {
          same_sizes = p.same_sizes;
          cleared =
              λ y s u l own.
              elim (ℕ_discrete y n) [
                | yes e ↦ clear_in (first_slot r n) (slots_of g n) g.slots s (rw same_size (rw e at own))
                | no d ↦ still_zero s (p.cleared y s u (omega arith) own)
              ];
          others =
              λ s f.
              elim (side (first_slot r n) (slots_of g n) s) [
                | inl own ↦ absurd (f n unmarked (omega arith) (rw same_size at own))
                | inr o ↦ stretch_out (λ j. 0) (first_slot r n) g.slots (slots_of g n) s o ∙ p.others s (λ y u l own. f y u (omega arith) own)
              ];
          kept_or_cleared =
              λ s.
              elim (clear_or (first_slot r n) (slots_of g n) g.slots s) [
                | inl e ↦ rw e (p.kept_or_cleared s)
                | inr e ↦ inr e
              ];
        }
      where
        still_zero : (s : ℕ) → slot g s ≡ 0 → get_or (clear (first_slot r n) (slots_of g n) g.slots) s 0 ≡ 0
        still_zero s e = elim (clear_or (first_slot r n) (slots_of g n) g.slots s) [ inl f ↦ f ∙ e | inr f ↦ f ]

  -- all of it, along the blocks
  pub record State (n : ℕ) : Type 0 where
    pub dropped : Dropped (drop_all cap r marks h n) n
    pub balanced : Balanced cap (drop_all cap r marks h n) 0
    pub waits : Waits (drop_all cap r marks h n) (drop_stack cap r marks h n)

  pub state : (n : ℕ) → State n
  unfolding drop_all drop_stack
  state zero =
      record {
        dropped =
            record {
              same_sizes = refl;
              cleared = λ y s u l own. absurd (omega arith);
              others = λ s f. refl;
              kept_or_cleared = λ s. inl refl;
            };
        balanced = whole.balanced;
        waits = whole.waits;
      }
  state (suc n) = go (state n) (test_cases_lem (marks n))
    where
      go : State n → (marks n ≡ true) ⊎ (marks n ≡ false) → State (suc n)
      go p (inl m) =
          record {
            dropped = rw (m, drop_all) (dropped_kept (drop_all cap r marks h n) n p.dropped m);
            balanced = rw (m, drop_all) p.balanced;
            waits = rw (m, drop_all, drop_stack) p.waits;
          }
      go p (inr u) =
          let g = drop_all cap r marks h n in
          record {
            dropped = rw (u, drop_all) (dropped_next g n p.dropped u);
            balanced = rw (u, drop_all) (let_go_each_balanced cap pos g (first_slot r n) (slots_of g n) p.balanced);
            waits = rw (u, drop_all, drop_stack)
                (let_go_each_waits cap pos g (first_slot r n) (slots_of g n) (drop_stack cap r marks h n) p.balanced p.waits);
          }

  -- ---- both ways of counting, along the blocks

  -- `counts` are those that the sweep left: 0 at the unmarked
  module _ (counts : List ℕ) (long : length counts ≡ length h.counts) where
    own_slots : (n j : ℕ) → Dropped (drop_all cap r marks h n) n → Inside (first_slot r n) (slots_of h n) j → slot h j ≡ slot (drop_all cap r marks h n) j
    own_slots n j p own =
        sym (p.others j (λ y u l other. let e = one_owner r h.sizes n y j whole.shape.disjoint own other in omega arith))

    module _ (b : ℕ) (object : size h b ≢ 0) where
      inside : b < length h.counts
      inside = omega (arith, whole.shape.counts_length, nonzero_inside h.sizes b object)

      pub agree : marks b ≡ true → get_or counts b 0 ≡ count h b → (n : ℕ)
          → Agree b (survivors cap r marks h counts n) (drop_all cap r marks h n).counts (survivors_stack cap r marks h counts n) (drop_stack cap r marks h n)
      unfolding survivors survivors_stack drop_all drop_stack
      agree m e zero = record { counts = e; stacks = refl; inside = omega (arith, inside); inside' = inside }
      agree m e (suc n) = go (state n) (agree m e n) (test_cases_lem (marks n))
        where
          go : State n
              → Agree b (survivors cap r marks h counts n) (drop_all cap r marks h n).counts (survivors_stack cap r marks h counts n) (drop_stack cap r marks h n)
              → (marks n ≡ true) ⊎ (marks n ≡ false)
              → Agree b (survivors cap r marks h counts (suc n)) (drop_all cap r marks h (suc n)).counts (survivors_stack cap r marks h counts (suc n))
              (drop_stack cap r marks h (suc n))
          go p a (inl t) = rw (t, survivors, survivors_stack, drop_all, drop_stack) a
          go p a (inr u) =
              rw (u, survivors, survivors_stack, drop_all, drop_stack)
              (rw (same_size (drop_all cap r marks h n) n p.dropped u)
              (agree_each cap marks b m (survivors cap r marks h counts n) (drop_all cap r marks h n).counts (survivors_stack cap r marks h counts n)
              (drop_stack cap r marks h n) h.slots (drop_all cap r marks h n).slots (first_slot r n) (slots_of h n)
              (λ j own. own_slots n j p.dropped own) a))

    pub none_counted : (b : ℕ) → marks b ≡ false → (n : ℕ)
        → (get_or (survivors cap r marks h counts n) b 0 ≡ get_or counts b 0) × (occurrences b (survivors_stack cap r marks h counts n) ≡ 0)
    unfolding survivors survivors_stack
    none_counted b u zero = (refl, occurrences_nil b)
    none_counted b u (suc n) = go (none_counted b u n) (test_cases_lem (marks n))
      where
        go : (get_or (survivors cap r marks h counts n) b 0 ≡ get_or counts b 0) × (occurrences b (survivors_stack cap r marks h counts n) ≡ 0)
            → (marks n ≡ true) ⊎ (marks n ≡ false)
            → (get_or (survivors cap r marks h counts (suc n)) b 0 ≡ get_or counts b 0) × (occurrences b (survivors_stack cap r marks h counts (suc n)) ≡ 0)
        go q (inl t) = rw (t, survivors, survivors_stack) q
        go q (inr t) =
            rw (t, survivors, survivors_stack) (
              only_each_none cap marks b u (survivors cap r marks h counts n) h.slots (first_slot r n) (slots_of h n) ∙ q.0,
              only_stack_none cap marks b u (survivors cap r marks h counts n) h.slots (first_slot r n) (slots_of h n) (survivors_stack cap r marks h counts n)
                  ∙ q.1,
            )

    -- ---- the graph before the release

    module _ (tidy : Tidy r h marks (λ b. false)) (k : Graph)
        (counted : (b : ℕ) → size h b ≢ 0 → marks b ≡ true → get_or counts b 0 ≡ count h b)
        (uncounted : (b : ℕ) → marks b ≡ false → get_or counts b 0 ≡ 0)
        (sizes_kept : (b : ℕ) → marks b ≡ true → size k b ≡ size h b)
        (sizes-gone : (b : ℕ) → marks b ≡ false → size k b ≡ 0)
        (counts_are : k.counts ≡ survivors cap r marks h counts (length h.sizes))
        (slots_are : k.slots ≡ (drop_all cap r marks h (length h.sizes)).slots) where
      abbrev all : ℕ
      all = length h.sizes

      end : State all
      end = state all

      -- an unmarked object is named by nobody
      unnamed : (b s : ℕ) → marks b ≡ false → slot k s ≡ suc b → ⊥
      unnamed b s u e =
          let f : slot (drop_all cap r marks h all) s ≡ suc b = sym (ap (λ (l : List ℕ). get_or l s 0) slots_are) ∙ e in
          go f (elim (end.dropped.kept_or_cleared s) [ inl q ↦ sym q ∙ f | inr q ↦ absurd (omega arith) ])
        where
          by : slot (drop_all cap r marks h all) s ≡ suc b → slot h s ≡ suc b → (s < r) ⊎ ((x : ℕ) × Owns r h.sizes x s) → ⊥
          by f q (inl l) = false≢true (sym u ∙ tidy.roots s b l q)
          by f q (inr (x, own)) =
              elim (test_cases_lem (marks x)) [
                | inl m ↦ false≢true (sym u ∙ tidy.cells x s b m refl own q)
                | inr w ↦ omega (arith, end.dropped.cleared x s w (nonzero_inside h.sizes x (omega (arith, own))) own)
              ]

          go : slot (drop_all cap r marks h all) s ≡ suc b → slot h s ≡ suc b → ⊥
          go f q = by f q (whole.shape.owned s (omega arith))

      unreferenced_there : (b : ℕ) → marks b ≡ false → references k b ≡ 0
      unreferenced_there b u =
          elim (ℕ_discrete (references k b) 0) [
            | yes z ↦ z
            | no n ↦ let f = occurrences_find (suc b) k.slots (omega arith) in absurd (unnamed b f.0 u f.2)
          ]

      same_size_there : (b : ℕ) → size (drop_all cap r marks h all) b ≡ size h b
      same_size_there b = ap (λ (l : List ℕ). get_or l b 0) end.dropped.same_sizes

      same_references : (b : ℕ) → references k b ≡ references (drop_all cap r marks h all) b
      same_references b = ap (occurrences (suc b)) slots_are

      marked_object : (b : ℕ) → marks b ≡ true → size h b ≢ 0
      marked_object = tidy.objects

      same_count : (b : ℕ) → marks b ≡ true → count k b ≡ count (drop_all cap r marks h all) b
      same_count b m =
          ap (λ (l : List ℕ). get_or l b 0) counts_are
          ∙ (agree b (marked_object b m) m (counted b (marked_object b m) m) all).counts

      gone_count : (b : ℕ) → marks b ≡ false → count k b ≡ 0
      gone_count b u = ap (λ (l : List ℕ). get_or l b 0) counts_are ∙ (none_counted b u all).0 ∙ uncounted b u

      pub close_balanced : Balanced cap k 0
      close_balanced b = go (test_cases_lem (marks b))
        where
          go : (marks b ≡ true) ⊎ (marks b ≡ false) → Law cap (size k b) (count k b) (references k b + equals 0 (suc b))
          go (inl m) =
              rw (sizes_kept b m, same_count b m, same_references b) (rw (same_size_there b) at (end.balanced b))
          go (inr u) =
              let z = gone_count b u in
              let n = unreferenced_there b u in
              record {
                bounded = omega arith;
                exact = λ l. omega (arith, equals_none b);
                absent = λ e. z;
              }

      pub close_waits : Waits k (survivors_stack cap r marks h counts all)
      close_waits b = go (test_cases_lem (marks b))
        where
          go : (marks b ≡ true) ⊎ (marks b ≡ false) → occurrences b (survivors_stack cap r marks h counts all) ≡ unreferenced (size k b) (count k b)
          go (inl m) =
              (agree b (marked_object b m) m (counted b (marked_object b m) m) all).stacks
              ∙ end.waits b
              ∙ ap (λ (s : ℕ). unreferenced s (count (drop_all cap r marks h all) b)) (same_size_there b ∙ sym (sizes_kept b m))
              ∙ ap (unreferenced (size k b)) (sym (same_count b m))
          go (inr u) = (none_counted b u all).1 ∙ sym (unreferenced_absent (size k b) (count k b) (sizes-gone b u))

      -- ---- what a root leads to stands

      slot_kept : (s : ℕ) → ((y : ℕ) → marks y ≡ false → Owns r h.sizes y s → ⊥) → slot k s ≡ slot h s
      slot_kept s f = ap (λ (l : List ℕ). get_or l s 0) slots_are ∙ end.dropped.others s (λ y u l own. f y u own)

      pub reach_marked : {b : ℕ} → Reach r h.sizes h.slots b → marks b ≡ true
      reach_marked (root s l e) = tidy.roots s _ l e
      reach_marked (link a s q own e) = tidy.cells a s _ (reach_marked q) refl own e

      pub reach_on : {b : ℕ} → Reach r h.sizes h.slots b → Reach r k.sizes k.slots b
      reach_on (root s l e) = root s l (slot_kept s (λ y u own. omega (arith, own)) ∙ e)
      reach_on (link a s q own e) =
          let m = reach_marked q in
          link a s (reach_on q) (rw (sizes_kept a m) own)
          (slot_kept s (λ y u other. false≢true (sym u ∙ rw (one_owner r h.sizes a y s whole.shape.disjoint own other) at m)) ∙ e)
