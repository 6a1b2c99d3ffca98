-- Marking, the first half of a collection. All counts start at 0. The roots are looked at, and then, object by object off a stack, the slots
-- of each object taken: what a slot names is counted up, and pushed if its count was 0. So the count is the mark, and it is exact at once.
-- The proof runs two ghosts beside the machine: the list of the objects taken off the stack so far, and a list of ghost slots that holds
-- what was looked at and 0 elsewhere. Then a count is the smaller of the capacity and the name's occurrences in the ghost slots; an object
-- with a count was listed once, taken or still on the stack; and the ghost slots agree with the slots at the roots and at the slots of the
-- objects taken. At the end the objects with a count are those that a root leads to, and the ghost slots are what the sweep will leave.
use mathlib.Core.Path.{◌≡◌, refl, sym, ap, ◌∙◌}
use mathlib.Core.Logic.{◌≢◌, ◌⊎◌, inl, inr}
use mathlib.Core.Bool.{Bool, true, false, not, true≢false}
use mathlib.Core.List.{List, [], ◌∷◌, ◌++◌}
use Prim.Native.Nat.{ℕ, zero, suc, ◌+◌, ◌*◌, ◌≤◌, ◌<◌, min}
use native.Mathlib.Decide.{ℕ_discrete, dec_lt}
use native.Mathlib.Omega.{arith}
use lib.ListN.{length, get_or, set, length-set, length-append, replicate, length-replicate}
use lib.Seq.{get_or-set_other}
use lib.Dec.{eqb}
use borrow.Author.Tests.{eq-eqb, ne_eqb}
use Rattle.theory_graphs.proofs.Graphs.Occurrences.{equals, equals_same, equals_other, equals_none, equals_cases, occurrences, occurrences_nil}
use Rattle.theory_graphs.proofs.Graphs.Occurrences.{occurrences_cons, occurrences_append, occurrences_set, occurrences_zeros, occurrences_name}
use Rattle.theory_graphs.proofs.Graphs.Occurrences.{occurrences_le, nonzero_inside}
use Rattle.theory_graphs.proofs.Graphs.Stretch.{stretch, Inside, Outside, side, never_both, stretch_length, stretch_in, stretch_out, set_zero}
use Rattle.theory_graphs.proofs.Graphs.Graph.{Graph, first_slot, Owns, Disjoint, count_up, count_up_same, count_up_other, count_up_length}
use Rattle.theory_graphs.proofs.Graphs.Keep.{Reach, root, link, one_owner}

-- ---- the machine

-- the object named by v is pushed if its count was 0
unfoldable pub meet_stack : List ℕ → ℕ → List ℕ → List ℕ
meet_stack counts zero stack = stack
meet_stack counts (suc b) stack = elim (eqb (get_or counts b 0) 0) [ true ↦ b ∷ stack | false ↦ stack ]

-- the n slots from i on are looked at
unfoldable pub count_up_each : ℕ → List ℕ → List ℕ → ℕ → ℕ → List ℕ
count_up_each cap counts slots i zero = counts
count_up_each cap counts slots i (suc n) = count_up cap (count_up_each cap counts slots i n) (get_or slots (i + n) 0)

unfoldable pub count_up_each_stack : ℕ → List ℕ → List ℕ → ℕ → ℕ → List ℕ → List ℕ
count_up_each_stack cap counts slots i zero stack = stack
count_up_each_stack cap counts slots i (suc n) stack =
    meet_stack (count_up_each cap counts slots i n) (get_or slots (i + n) 0) (count_up_each_stack cap counts slots i n stack)

-- the objects on the stack are taken, the first of the list first, until there is none or the fuel is used up
unfoldable pub mark : ℕ → ℕ → List ℕ → List ℕ → ℕ → List ℕ → List ℕ → List ℕ
mark cap r sizes slots zero counts stack = counts
mark cap r sizes slots (suc fuel) counts [] = counts
mark cap r sizes slots (suc fuel) counts (x ∷ stack) =
    mark cap r sizes slots fuel (count_up_each cap counts slots (first_slot r x) (4 * get_or sizes x 0))
    (count_up_each_stack cap counts slots (first_slot r x) (4 * get_or sizes x 0) stack)

-- the counts that marking gives
unfoldable pub marked : ℕ → ℕ → Graph → List ℕ
marked cap r h =
    let zeros : List ℕ = replicate (length h.sizes) 0 in
    mark cap r h.sizes h.slots (length h.sizes) (count_up_each cap zeros h.slots 0 r)
    (count_up_each_stack cap zeros h.slots 0 r [])

-- ---- one look

-- the counts are those of the ghost slots
abbrev pub Counted : ℕ → List ℕ → List ℕ → Type 0
Counted cap counts ghost = (b : ℕ) → get_or counts b 0 ≡ min cap (occurrences (suc b) ghost)

-- each object with a count is once among those taken and those on the stack, and no other is
abbrev pub MetOnce : List ℕ → List ℕ → List ℕ → Type 0
MetOnce counts taken stack = (b : ℕ) → occurrences b taken + occurrences b stack ≡ min 1 (get_or counts b 0)

-- a list that has each object at most once, and only those with a count, has at most as many as there are counts that are not 0
once_bound :
    (l counts : List ℕ) → ((b : ℕ) → occurrences b l ≤ min 1 (get_or counts b 0)) → length l + occurrences 0 counts ≤ length counts
once_bound [] counts f = omega (arith, occurrences_le 0 counts)
once_bound (x ∷ l) counts f =
    let n : get_or counts x 0 ≢ 0 = omega (arith, f x, occurrences_cons x x l, equals_same x x refl) in
    let one_less = occurrences_set 0 counts x 0 (nonzero_inside counts x n) in
    omega
    (arith, once_bound l (set counts x 0) rest, length-set counts x 0, equals_other (get_or counts x 0) 0 n, equals_same 0 0 refl)
  where
    rest : (b : ℕ) → occurrences b l ≤ min 1 (get_or (set counts x 0) b 0)
    rest b =
        elim (ℕ_discrete b x) [
          | yes e ↦ rw (e, set_zero counts x) (omega (arith, f x, occurrences_cons x x l, equals_same x x refl))
          | no n ↦ rw (get_or-set_other counts x b 0 0 n) (omega (arith, f b, occurrences_cons b x l))
        ]

-- so a stack of N places is enough
pub listed_bound : (counts taken stack : List ℕ) → MetOnce counts taken stack → length taken + length stack ≤ length counts
listed_bound counts taken stack listed =
    omega
    (arith, once_bound (taken ++ stack) counts (λ b. omega (arith, listed b, occurrences_append b taken stack)), length-append taken stack)

-- the slot looked at is copied to a ghost slot that was 0
look_counted :
    (cap : ℕ) (pos : 0 < cap) (counts : List ℕ) (v : ℕ) → ((b : ℕ) → v ≡ suc b → b < length counts) → (ghost : List ℕ) (i : ℕ)
    → i < length ghost → get_or ghost i 0 ≡ 0 → Counted cap counts ghost → Counted cap (count_up cap counts v) (set ghost i v)
look_counted cap pos counts v named ghost i l z counted b =
    let o = occurrences_set (suc b) ghost i v l in
    let n : equals (get_or ghost i 0) (suc b) ≡ 0 = rw z (equals_none b) in
    elim (equals_cases v (suc b)) [
      | inl q ↦
          let u : get_or (count_up cap counts v) b 0 ≡ min cap (suc (get_or counts b 0)) =
          rw q.0 (count_up_same cap counts b (named b q.0)) in
          omega (arith, counted b, q.1)
      | inr q ↦ omega (arith, counted b, q.1, count_up_other cap counts v b q.0)
    ]

meet_new : (counts : List ℕ) (b : ℕ) (stack : List ℕ) → get_or counts b 0 ≡ 0 → meet_stack counts (suc b) stack ≡ b ∷ stack
unfolding meet_stack
meet_new counts b stack z = rw (eq-eqb (get_or counts b 0) 0 z, meet_stack)

meet_again : (counts : List ℕ) (b : ℕ) (stack : List ℕ) → get_or counts b 0 ≢ 0 → meet_stack counts (suc b) stack ≡ stack
unfolding meet_stack
meet_again counts b stack n = rw (ne_eqb (get_or counts b 0) 0 n, meet_stack)

-- what it names is listed now, if it was not
look_listed :
    (cap : ℕ) (pos : 0 < cap) (counts : List ℕ) (v : ℕ) → ((b : ℕ) → v ≡ suc b → b < length counts) → (taken stack : List ℕ)
    → MetOnce counts taken stack → MetOnce (count_up cap counts v) taken (meet_stack counts v stack)
unfolding meet_stack
look_listed cap pos counts zero named taken stack listed b = rw (count_up_other cap counts 0 b (omega arith)) (listed b)
look_listed cap pos counts (suc a) named taken stack listed b =
    elim (ℕ_discrete (get_or counts a 0) 0) [
      | yes z ↦ rw (meet_new counts a stack z) (first z (ℕ_discrete a b))
      | no n ↦ rw (meet_again counts a stack n) (again n (ℕ_discrete a b))
    ]
  where
    same : a ≡ b → get_or counts a 0 ≡ get_or counts b 0
    same e = rw e

    up : a ≡ b → get_or (count_up cap counts (suc a)) b 0 ≡ min cap (suc (get_or counts a 0))
    up e = rw (← e) (count_up_same cap counts a (named a refl))

    first :
        get_or counts a 0 ≡ 0 → Dec (a ≡ b) → occurrences b taken + occurrences b (a ∷ stack) ≡ min 1 (get_or (count_up cap counts (suc a)) b 0)
    first z (yes e) = omega (arith, same e, up e, listed b, occurrences_cons b a stack, equals_same a b e)
    first z (no n) =
        omega (arith, count_up_other cap counts (suc a) b (omega arith), listed b, occurrences_cons b a stack, equals_other a b n)

    again : get_or counts a 0 ≢ 0 → Dec (a ≡ b) → occurrences b taken + occurrences b stack ≡ min 1 (get_or (count_up cap counts (suc a)) b 0)
    again n (yes e) = omega (arith, same e, up e, listed b)
    again n (no d) = omega (arith, count_up_other cap counts (suc a) b (omega arith), listed b)

-- ---- a stretch of slots is looked at, and the ghost slots take it over

module _ (cap : ℕ) (pos : 0 < cap) (slots counts : List ℕ) (i : ℕ) where
  pub each_length : (n : ℕ) → length (count_up_each cap counts slots i n) ≡ length counts
  unfolding count_up_each
  each_length zero = refl
  each_length (suc n) = count_up_length cap (count_up_each cap counts slots i n) (get_or slots (i + n) 0) ∙ each_length n

  -- what has a count is in Q, if what the slots name is
  each_sound :
      (Q : ℕ → Type 0) (n : ℕ) → ((s b : ℕ) → Inside i n s → get_or slots s 0 ≡ suc b → Q b) → ((b : ℕ) → get_or counts b 0 ≢ 0 → Q b)
      → (b : ℕ) → get_or (count_up_each cap counts slots i n) b 0 ≢ 0 → Q b
  unfolding count_up_each
  each_sound Q zero f q b c = q b c
  each_sound Q (suc n) f q b c =
      elim (ℕ_discrete (get_or slots (i + n) 0) (suc b)) [
        | yes e ↦ f (i + n) b (omega arith, omega arith) e
        | no d ↦
            each_sound Q n (λ s a p e. f s a (p.0, omega (arith, p)) e) q b
            (λ z. c (count_up_other cap (count_up_each cap counts slots i n) (get_or slots (i + n) 0) b d ∙ z))
      ]

  module _ (named : (s b : ℕ) → get_or slots s 0 ≡ suc b → b < length counts) where
    next_named : (n b : ℕ) → get_or slots (i + n) 0 ≡ suc b → b < length (count_up_each cap counts slots i n)
    next_named n b e = omega (arith, named (i + n) b e, each_length n)

    each_counted :
        (n : ℕ) (ghost : List ℕ) → i + n ≤ length ghost → ((s : ℕ) → Inside i n s → get_or ghost s 0 ≡ 0) → Counted cap counts ghost
        → Counted cap (count_up_each cap counts slots i n) (stretch (λ j. get_or slots j 0) i n ghost)
    unfolding count_up_each stretch
    each_counted zero ghost l fresh counted b = counted b
    each_counted (suc n) ghost l fresh counted b =
        look_counted cap pos (count_up_each cap counts slots i n) (get_or slots (i + n) 0) (next_named n)
        (stretch (λ j. get_or slots j 0) i n ghost)
        (i + n)
        (omega (arith, stretch_length (λ j. get_or slots j 0) i ghost n))
        (stretch_out (λ j. get_or slots j 0) i ghost n (i + n) (inr (omega arith)) ∙ fresh (i + n) (omega arith, omega arith))
        (each_counted n ghost (omega arith) (λ s p. fresh s (p.0, omega (arith, p))) counted)
        b

    pub each_listed :
        (n : ℕ) (taken stack : List ℕ) → MetOnce counts taken stack
        → MetOnce (count_up_each cap counts slots i n) taken (count_up_each_stack cap counts slots i n stack)
    unfolding count_up_each count_up_each_stack
    each_listed zero taken stack listed b = listed b
    each_listed (suc n) taken stack listed b =
        look_listed cap pos (count_up_each cap counts slots i n) (get_or slots (i + n) 0) (next_named n) taken
        (count_up_each_stack cap counts slots i n stack)
        (each_listed n taken stack listed)
        b

-- ---- the loop

-- slot s is a root, or one of an object taken
abbrev pub Looked : ℕ → List ℕ → List ℕ → ℕ → Type 0
Looked r sizes taken s = (s < r) ⊎ ((x : ℕ) × (1 ≤ occurrences x taken) × Owns r sizes x s)

pub record Marking (cap r : ℕ) (sizes slots counts taken stack ghost : List ℕ) : Type 0 where
  pub counts_length : length counts ≡ length sizes
  pub ghost_length : length ghost ≡ length slots
  pub counted : Counted cap counts ghost
  pub listed : MetOnce counts taken stack
  pub sound : (b : ℕ) → get_or counts b 0 ≢ 0 → Reach r sizes slots b
  pub looked : (s : ℕ) → get_or ghost s 0 ≢ 0 → Looked r sizes taken s
  pub agrees : (s : ℕ) → Looked r sizes taken s → get_or ghost s 0 ≡ get_or slots s 0

replicate_zero : (n b : ℕ) → ◌≡◌ {A = ℕ} (get_or (replicate n 0) b 0) 0
replicate_zero zero b = refl
replicate_zero (suc n) zero = refl
replicate_zero (suc n) (suc b) = replicate_zero n b

-- what marking needs of the sizes and slots: objects do not overlap, their slots and the roots are among the slots, and names name objects
pub record Markable (r : ℕ) (sizes slots : List ℕ) : Type 0 where
  pub disjoint : Disjoint sizes
  pub roots_inside : r ≤ length slots
  pub slots_inside : (x : ℕ) → get_or sizes x 0 ≢ 0 → first_slot r x + 4 * get_or sizes x 0 ≤ length slots
  pub names : (s b : ℕ) → get_or slots s 0 ≡ suc b → get_or sizes b 0 ≢ 0

module _ (cap : ℕ) (pos : 0 < cap) (r : ℕ) (sizes slots : List ℕ) (markable : Markable r sizes slots) where
  pub reach_object : (b : ℕ) → Reach r sizes slots b → get_or sizes b 0 ≢ 0
  reach_object b (root s l e) = markable.names s b e
  reach_object b (link a s k own e) = markable.names s b e

  named : (counts : List ℕ) → length counts ≡ length sizes → (s b : ℕ) → get_or slots s 0 ≡ suc b → b < length counts
  named counts l s b e = omega (arith, nonzero_inside sizes b (markable.names s b e))

  pub marking_start :
      Marking cap r sizes slots (count_up_each cap (replicate (length sizes) 0) slots 0 r) []
      (count_up_each_stack cap (replicate (length sizes) 0) slots 0 r [])
      (stretch (λ j. get_or slots j 0) 0 r (replicate (length slots) 0))
  marking_start =
      record {
        counts_length = each_length cap pos slots zeros 0 r ∙ length-replicate (length sizes) 0;
        ghost_length = stretch_length (λ j. get_or slots j 0) 0 blank r ∙ length-replicate (length slots) 0;
        counted =
            each_counted cap pos slots zeros 0 (named zeros (length-replicate (length sizes) 0)) r blank (omega (arith, all))
            (λ s p. replicate_zero (length slots) s)
            (λ b. replicate_zero (length sizes) b ∙ omega (arith, occurrences_zeros (length slots) b));
        listed =
            each_listed cap pos slots zeros 0 (named zeros (length-replicate (length sizes) 0)) r [] []
            (λ b. omega (arith, occurrences_nil b, replicate_zero (length sizes) b));
        sound =
            each_sound cap pos slots zeros 0 (Reach r sizes slots) r (λ s b p e. root s (omega (arith, p)) e)
            (λ b n. absurd (n (replicate_zero (length sizes) b)));
        looked =
            λ s n.
            elim (dec_lt s r) [
              | yes l ↦ inl l
              | no l ↦
                  absurd (n (stretch_out (λ j. get_or slots j 0) 0 blank r s (inr (omega arith)) ∙ replicate_zero (length slots) s))
            ];
        agrees = agree;
      }
    where
      zeros : List ℕ
      zeros = replicate (length sizes) 0

      blank : List ℕ
      blank = replicate (length slots) 0

      all : r ≤ length blank
      all = omega (arith, markable.roots_inside, length-replicate {A = ℕ} (length slots) 0)

      agree : (s : ℕ) → Looked r sizes [] s → get_or (stretch (λ j. get_or slots j 0) 0 r blank) s 0 ≡ get_or slots s 0
      agree s (inl l) = stretch_in (λ j. get_or slots j 0) 0 blank r s (omega (arith, all)) (omega arith, omega arith)
      agree s (inr (x, o, own)) = absurd (omega (arith, o, occurrences_nil x))

  pub marking_step :
      (counts taken stack ghost : List ℕ) (x : ℕ) → Marking cap r sizes slots counts taken (x ∷ stack) ghost
      → Marking cap r sizes slots (count_up_each cap counts slots (first_slot r x) (4 * get_or sizes x 0)) (x ∷ taken)
      (count_up_each_stack cap counts slots (first_slot r x) (4 * get_or sizes x 0) stack)
      (stretch (λ j. get_or slots j 0) (first_slot r x) (4 * get_or sizes x 0) ghost)
  marking_step counts taken stack ghost x m =
      record {
        counts_length = each_length cap pos slots counts i n ∙ m.counts_length;
        ghost_length = stretch_length (λ j. get_or slots j 0) i ghost n ∙ m.ghost_length;
        counted = each_counted cap pos slots counts i (named counts m.counts_length) n ghost inside fresh m.counted;
        listed =
            each_listed cap pos slots counts i (named counts m.counts_length) n (x ∷ taken) stack
            (λ b. omega (arith, m.listed b, occurrences_cons b x taken, occurrences_cons b x stack));
        sound = each_sound cap pos slots counts i (Reach r sizes slots) n (λ s b own e. link x s reached own e) m.sound;
        looked =
            λ s z.
            elim (side i n s) [
              | inl own ↦ inr (x, omega (arith, occurrences_cons x x taken, equals_same x x refl), own)
              | inr o ↦ older s (m.looked s (λ e. z (stretch_out (λ j. get_or slots j 0) i ghost n s o ∙ e)))
            ];
        agrees =
            λ s l.
            elim (side i n s) [
              | inl own ↦ stretch_in (λ j. get_or slots j 0) i ghost n s (omega (arith, own, inside)) own
              | inr o ↦ stretch_out (λ j. get_or slots j 0) i ghost n s o ∙ m.agrees s (before s o l)
            ];
      }
    where
      i : ℕ
      i = first_slot r x

      n : ℕ
      n = 4 * get_or sizes x 0

      once : (get_or counts x 0 ≢ 0) × (occurrences x taken ≡ 0)
      once =
          let o = occurrences_cons x x stack in
          let e = equals_same x x refl in
          (λ z. omega (arith, m.listed x), omega (arith, m.listed x))

      reached : Reach r sizes slots x
      reached = m.sound x once.0

      inside : i + n ≤ length ghost
      inside = omega (arith, markable.slots_inside x (reach_object x reached), m.ghost_length)

      fresh : (s : ℕ) → Inside i n s → get_or ghost s 0 ≡ 0
      fresh s own = elim (ℕ_discrete (get_or ghost s 0) 0) [ yes e ↦ e | no e ↦ absurd (clash (m.looked s e)) ]
        where
          clash : Looked r sizes taken s → ⊥
          clash (inl l) = omega (arith, own)
          clash (inr (y, o, own')) =
              omega (arith, rw (one_owner r sizes y x s markable.disjoint own' own) at o, once.1)

      older : (s : ℕ) → Looked r sizes taken s → Looked r sizes (x ∷ taken) s
      older s (inl l) = inl l
      older s (inr (y, o, own)) = inr (y, omega (arith, o, occurrences_cons y x taken), own)

      before : (s : ℕ) → Outside i n s → Looked r sizes (x ∷ taken) s → Looked r sizes taken s
      before s o (inl l) = inl l
      before s o (inr (y, t, own)) =
          elim (ℕ_discrete x y) [
            | yes e ↦ absurd (never_both i n s (rw (← e) at own) o)
            | no d ↦ inr (y, omega (arith, t, occurrences_cons y x taken, equals_other x y d), own)
          ]

  -- fuel for each block is enough
  pub marking_end :
      (fuel : ℕ) (counts taken stack ghost : List ℕ) → Marking cap r sizes slots counts taken stack ghost → length counts ≤ length taken + fuel
      → (taken' : List ℕ) × (ghost' : List ℕ) × Marking cap r sizes slots (mark cap r sizes slots fuel counts stack) taken' [] ghost'
  unfolding mark
  marking_end zero counts taken [] ghost m f = (taken, ghost, m)
  marking_end zero counts taken (x ∷ stack) ghost m f = absurd (omega (arith, listed_bound counts taken (x ∷ stack) m.listed))
  marking_end (suc fuel) counts taken [] ghost m f = (taken, ghost, m)
  marking_end (suc fuel) counts taken (x ∷ stack) ghost m f =
      marking_end fuel (count_up_each cap counts slots (first_slot r x) (4 * get_or sizes x 0)) (x ∷ taken)
      (count_up_each_stack cap counts slots (first_slot r x) (4 * get_or sizes x 0) stack)
      (stretch (λ j. get_or slots j 0) (first_slot r x) (4 * get_or sizes x 0) ghost)
      (marking_step counts taken stack ghost x m)
      (omega (arith, each_length cap pos slots counts (first_slot r x) (4 * get_or sizes x 0)))

  -- at the end everything that a root leads to has a count
  pub complete :
      (counts taken ghost : List ℕ) → Marking cap r sizes slots counts taken [] ghost → (b : ℕ) → Reach r sizes slots b → get_or counts b 0 ≢ 0
  complete counts taken ghost m b (root s l e) z =
      omega (arith, m.counted b, occurrences_name b ghost s (m.agrees s (inl l) ∙ e))
  complete counts taken ghost m b (link a s k own e) z =
      let t = complete counts taken ghost m a k in
      omega (arith, m.counted b, occurrences_name b ghost s (m.agrees s (inr (a, omega (arith, m.listed a, occurrences_nil a), own)) ∙ e))

-- so marking ends, with these counts
pub marked_end :
    (cap : ℕ) (pos : 0 < cap) (r : ℕ) (h : Graph) → Markable r h.sizes h.slots
    → (taken : List ℕ) × (ghost : List ℕ) × Marking cap r h.sizes h.slots (marked cap r h) taken [] ghost
unfolding marked
marked_end cap pos r h markable =
    let zeros : List ℕ = replicate (length h.sizes) 0 in
    let start = marking_start cap pos r h.sizes h.slots markable in
    marking_end cap pos r h.sizes h.slots markable (length h.sizes) (count_up_each cap zeros h.slots 0 r) []
    (count_up_each_stack cap zeros h.slots 0 r [])
    (stretch (λ j. get_or h.slots j 0) 0 r (replicate (length h.slots) 0))
    start
    (omega (arith, start.counts_length))

-- ---- reachability is decided

unfoldable pub is_reached : ℕ → ℕ → Graph → ℕ → Bool
is_reached cap r h b = not (eqb (get_or (marked cap r h) b 0) 0)

pub reached_sound :
    (cap : ℕ) (pos : 0 < cap) (r : ℕ) (h : Graph) → Markable r h.sizes h.slots
    → (b : ℕ) → is_reached cap r h b ≡ true → Reach r h.sizes h.slots b
unfolding is_reached
reached_sound cap pos r h markable b e =
    (marked_end cap pos r h markable).2.sound b (λ z. true≢false (sym e ∙ ap not (eq-eqb (get_or (marked cap r h) b 0) 0 z)))

pub reached_complete :
    (cap : ℕ) (pos : 0 < cap) (r : ℕ) (h : Graph) → Markable r h.sizes h.slots
    → (b : ℕ) → Reach r h.sizes h.slots b → is_reached cap r h b ≡ true
unfolding is_reached
reached_complete cap pos r h markable b q =
    let t = marked_end cap pos r h markable in
    ap not (ne_eqb (get_or (marked cap r h) b 0) 0 (complete cap pos r h.sizes h.slots markable (marked cap r h) t.0 t.1 t.2 b q))
