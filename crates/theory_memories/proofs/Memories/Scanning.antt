-- The steps of a collection in small steps (request U8), seen in the object graph: however many are taken,
-- number 13's condition stays, each takes an object off, and what no marked object leads to stays so.
use mathlib.Core.Path.{◌≡◌, refl, sym, ap, ◌∙◌}
use mathlib.Core.Logic.{◌≢◌, inl, inr}
use mathlib.Core.Bool.{Bool, true, false, not, ◌&&◌, ◌||◌, true≢false}
use mathlib.Core.List.{List, [], ◌∷◌}
use mathlib.Core.Option
use mathlib.Core.Option.{Option, none, some}
use Prim.Native.Nat.{ℕ, zero, suc, ◌+◌, ◌≤◌, ◌<◌}
use native.Mathlib.Decide.{dec_lt}
use native.Mathlib.Omega.{arith}
use lib.Dec.{ltb, eqb}
use lib.ListN.{length, get_or, get_or-eq_default}
use borrow.Author.Tests.{ne_eqb, eqb-false, not-true, ltb-true, lt-ltb}
use Rattle.bitmap.specs.Bit.{count_below}
use Rattle.rules.specs.Tools.{is_some, holding, tabulate}
use Rattle.rules.specs.Heap.{Memory}
use Rattle.rules_stores.specs.Collection.{marked}
use Rattle.rules_steps.specs.Steps.{names, is_marked, is_listed, is_open, is_untidy, root_names, Progress, progress_of, lowest, scanned, StepsTaken, taken, steps_from, closes}
use Rattle.rules.proofs.Tests.{false_unless, and_true, true_and, or_true, true_or}
use Rattle.rules.proofs.Tabulate.{length_tabulate, get_d_tabulate}
use Rattle.theory_graphs.proofs.Graphs.Occurrences.{occurrences_find, occurrences_at}
use Rattle.theory_graphs.proofs.Graphs.Graph.{Graph, size, slot}
use Rattle.theory_graphs.proofs.Graphs.Balance.{named_object}
use Rattle.theory_graphs.proofs.Graphs.Tidy.{Tidy}
use Rattle.theory_graphs.proofs.Graphs.Apart.{Apart}
use Rattle.theory_graphs.proofs.Graphs.Pale.{is_pale}
use Rattle.theory_graphs.proofs.Graphs.Scan.{Scans, tidy_same, tidy_scanned, apart_step, pale_step}
use Rattle.theory_memories.proofs.Memories.View.{view}
use Rattle.theory_memories.proofs.Memories.Slots.{root_slot, occurrences_holding}
use Rattle.theory_memories.proofs.Memories.Healthy.{Healthy}
use Rattle.theory_memories.proofs.Memories.Stores.{positive}
use Rattle.theory_memories.proofs.Memories.TidyHeap.{some_first, some_inside, names_slot, slot_names, tidy_facts, marked_inside}

-- ---- lists of marks

pub marked_tabulate : (N : ℕ) (test : ℕ → Bool) → ((i : ℕ) → test i ≡ true → i < N) → (i : ℕ) → marked (tabulate N test) i ≡ test i
marked_tabulate N test inside i =
    elim (dec_lt i N) [
      | yes l ↦ get_d_tabulate false N test i l
      | no l ↦
          get_or-eq_default (tabulate N test) false {n = i} (omega (arith, length_tabulate N test))
          ∙ sym (false_unless (test i) (λ t. l (inside i t)))
    ]

lowest_found : (ts : List Bool) (i x : ℕ) → lowest ts i ≡ some x → (k : ℕ) × (x ≡ i + k) × (get_or ts k false ≡ true)
unfolding lowest is_some
lowest_found [] i x e = absurd (none_some e)
  where
    none_some : {y : ℕ} → none ≡ some y → ⊥
    none_some q = true≢false (sym (ap is_some q))
lowest_found (true ∷ ts) i x e = let same : i ≡ x = ap (λ (o : Option ℕ). Option.get_or o 0) e in (0, omega arith, refl)
lowest_found (false ∷ ts) i x e = let more = lowest_found ts (i + 1) x e in (suc more.0, omega (arith, more.1), more.2)

pub lowest_empty : (ts : List Bool) (i : ℕ) → is_some (lowest ts i) ≡ false → (k : ℕ) → get_or ts k false ≡ false
unfolding lowest is_some
lowest_empty [] i e k = refl
lowest_empty (true ∷ ts) i e k = absurd (true≢false e)
lowest_empty (false ∷ ts) i e zero = refl
lowest_empty (false ∷ ts) i e (suc k) = lowest_empty ts (i + 1) e k

module _ (N w : ℕ) (h : Memory) (healthy : Healthy N w h) where
  abbrev r : ℕ
  r = length h.roots

  abbrev before : Graph
  before = view N w h

  named : (s b : ℕ) → slot before s ≡ suc b → size before b ≢ 0
  named s b e = named_object _ (positive N w h healthy) before healthy.whole.balanced s b e

  abbrev TidyAt : Progress → Type 0
  TidyAt p = Tidy r before (marked p.marks) (marked p.list)

  -- ---- one step

  module _ (p : Progress) (tidy : TidyAt p) (x : ℕ) (on : marked p.list x ≡ true) where
    sized : size before x ≢ 0
    sized = tidy.objects x (tidy.listed_marked x on)

    marks_next : ℕ → Bool
    marks_next i = marked p.marks i || names N h x i

    list_next : ℕ → Bool
    list_next i = (marked p.list i && not (eqb i x)) || (names N h x i && not (marked p.marks i))

    met_inside : (i : ℕ) → names N h x i ≡ true → i < N
    met_inside i e =
        let found = names_slot N w h x i (some_first N w h x sized) e in
        some_inside N w h i (named found.0 i found.2)

    mark_inside : (i : ℕ) → marked p.marks i ≡ true → i < N
    mark_inside i m = some_inside N w h i (tidy.objects i m)

    marks_inside : (i : ℕ) → marks_next i ≡ true → i < N
    unfolding marks_next
    marks_inside i e =
        elim (or_true (marked p.marks i) (names N h x i) e) [ inl m ↦ mark_inside i m | inr q ↦ met_inside i q ]

    list_inside : (i : ℕ) → list_next i ≡ true → i < N
    unfolding list_next
    list_inside i e =
        elim (or_true (marked p.list i && not (eqb i x)) (names N h x i && not (marked p.marks i)) e) [
          | inl q ↦ mark_inside i (tidy.listed_marked i (and_true (marked p.list i) (not (eqb i x)) q).0)
          | inr q ↦ met_inside i (and_true (names N h x i) (not (marked p.marks i)) q).0
        ]

    marks_next_lem : (i : ℕ) → marked (scanned N h p x).marks i ≡ marks_next i
    unfolding scanned marks_next
    marks_next_lem i = marked_tabulate N marks_next marks_inside i

    list_next_lem : (i : ℕ) → marked (scanned N h p x).list i ≡ list_next i
    unfolding scanned list_next
    list_next_lem i = marked_tabulate N list_next list_inside i

    scans_next : Scans r before x (marked p.marks) (marked p.list) marks_next list_next
    unfolding marks_next list_next
    scans_next =
        record {
          taken = on;
          now = λ b e.
              elim (or_true (marked p.marks b) (names N h x b) e) [
                | inl m ↦ inl m
                | inr q ↦ inr (names_slot N w h x b (some_first N w h x sized) q)
              ];
          also = λ b o.
              true_or (marked p.marks b) (names N h x b)
              (elim o [ inl m ↦ inl m | inr q ↦ inr (slot_names N w h x b q.0 (some_first N w h x sized) q.1 q.2) ]);
          listed = λ b e.
              elim (or_true (marked p.list b && not (eqb b x)) (names N h x b && not (marked p.marks b)) e) [
                | inl q ↦
                    let both = and_true (marked p.list b) (not (eqb b x)) q in
                    inl (both.0, eqb-false b x (not-true (eqb b x) both.1))
                | inr q ↦
                    let both = and_true (names N h x b) (not (marked p.marks b)) q in
                    inr (names_slot N w h x b (some_first N w h x sized) both.0, not-true (marked p.marks b) both.1)
              ];
          stays = λ b l d.
              true_or (marked p.list b && not (eqb b x)) (names N h x b && not (marked p.marks b))
              (inl (true_and (marked p.list b) (not (eqb b x)) l (ap not (ne_eqb b x d))));
          joins = λ b q u.
              true_or (marked p.list b && not (eqb b x)) (names N h x b && not (marked p.marks b))
              (inr (true_and (names N h x b) (not (marked p.marks b))
              (slot_names N w h x b q.0 (some_first N w h x sized) q.1 q.2) (ap not u)));
        }

    abbrev next : Progress
    next = scanned N h p x

    scans : Scans r before x (marked p.marks) (marked p.list) (marked next.marks) (marked next.list)
    scans =
        record {
          taken = on;
          now = λ b e. scans_next.now b (sym (marks_next_lem b) ∙ e);
          also = λ b o. marks_next_lem b ∙ scans_next.also b o;
          listed = λ b e. scans_next.listed b (sym (list_next_lem b) ∙ e);
          stays = λ b l d. list_next_lem b ∙ scans_next.stays b l d;
          joins = λ b q u. list_next_lem b ∙ scans_next.joins b q u;
        }

    step_tidy : TidyAt next
    step_tidy = tidy_scanned r before x _ _ _ _ tidy scans named

    step_apart : (b : ℕ) → Apart r before (marked p.marks) b → Apart r before (marked next.marks) b
    step_apart = apart_step r before x _ _ _ _ tidy scans named

    step_pale : count_below (is_pale before (marked next.marks) (marked next.list)) N + 1
        ≤ count_below (is_pale before (marked p.marks) (marked p.list)) N
    step_pale = pale_step r before x _ _ _ _ tidy scans named N (some_inside N w h x sized)

  -- ---- all steps of a call

  -- t is what comes of p
  pub record Stepped (p : Progress) (t : StepsTaken) : Type 0 where
    pub tidy : TidyAt t.reached
    pub apart : (b : ℕ) → Apart r before (marked p.marks) b → Apart r before (marked t.reached.marks) b
    pub fewer : t.steps + count_below (is_pale before (marked t.reached.marks) (marked t.reached.list)) N
        ≤ count_below (is_pale before (marked p.marks) (marked p.list)) N

  steps_none : (p : Progress) → TidyAt p → Stepped p (taken 0 p)
  steps_none p tidy = record { tidy = tidy; apart = λ b a. a; fewer = omega arith }

  pub steps_taken : (budget : ℕ) (p : Progress) → TidyAt p → Stepped p (steps_from budget N h p)
  unfolding steps_from
  steps_taken zero p tidy = steps_none p tidy
  steps_taken (suc k) p tidy = go (λ q t. steps_taken k q t) (lowest p.list 0) refl
    where
      go : ((q : Progress) → TidyAt q → Stepped q (steps_from k N h q)) → (o : Option ℕ) → lowest p.list 0 ≡ o
          → Stepped p
          (elim o [
            | none ↦ taken 0 p
            | some x ↦ let t = steps_from k N h (scanned N h p x) in taken (suc t.steps) t.reached
          ])
      go rest none e = steps_none p tidy
      go rest (some x) e =
          let found = lowest_found p.list 0 x e in
          let at : found.0 ≡ x = omega (arith, found.1) in
          let on : marked p.list x ≡ true = ap (marked p.list) (sym at) ∙ found.2 in
          let more = rest (scanned N h p x) (step_tidy p tidy x on) in
          record {
            tidy = more.tidy;
            apart = λ b a. more.apart b (step_apart p tidy x on b a);
            fewer = omega (arith, more.fewer, step_pale p tidy x on);
          }

  -- ---- from the lists of an open collection

  module _ (was_open : is_open N h ≡ true) (passes : is_untidy N h ≡ false) where
    tidy_now : Tidy r before (is_marked h) (is_listed N h)
    tidy_now = tidy_facts N w h healthy was_open passes

    pub marked_progress : (i : ℕ) → marked (progress_of N h).marks i ≡ is_marked h i
    unfolding progress_of
    marked_progress i = marked_tabulate N (is_marked h) (λ i m. marked_inside N w h healthy i m) i

    pub listed_progress : (i : ℕ) → marked (progress_of N h).list i ≡ is_listed N h i
    unfolding progress_of
    listed_progress i =
        marked_tabulate N (is_listed N h) (λ i m. marked_inside N w h healthy i (tidy_now.listed_marked i m)) i

    pub progress_tidy : TidyAt (progress_of N h)
    progress_tidy = tidy_same r before _ _ _ _ marked_progress listed_progress tidy_now

    pub steps_from_open : (budget : ℕ) → Stepped (progress_of N h) (steps_from budget N h (progress_of N h))
    steps_from_open budget = steps_taken budget (progress_of N h) progress_tidy

    -- where the list has run out
    pub list_empty : (budget : ℕ) (p : Progress) → TidyAt p → closes budget p ≡ true → Tidy r before (marked p.marks) (λ b. false)
    unfolding closes
    list_empty budget p tidy e =
        tidy_same r before _ _ _ _ (λ b. refl)
        (λ b. sym (lowest_empty p.list 0 (not-true (is_some (lowest p.list 0)) (and_true (ltb 0 budget) (not (is_some (lowest p.list 0))) e).1) b)) tidy

  -- ---- the opening

  root_names_lem : (b : ℕ) → root_names h b ≡ true → (s : ℕ) × (s < r) × (slot before s ≡ suc b)
  unfolding root_names
  root_names_lem b e =
      let some_held = ltb-true 0 (holding (b + 1) h.roots) e in
      let found = occurrences_find (b + 1) h.roots (omega (arith, occurrences_holding (b + 1) h.roots)) in
      (found.0, found.1, root_slot N h found.0 found.1 ∙ omega (arith, found.2))

  pub named_root : (s b : ℕ) → s < r → slot before s ≡ suc b → root_names h b ≡ true
  unfolding root_names
  named_root s b l e =
      lt-ltb 0 (holding (b + 1) h.roots)
      (omega (arith, occurrences_holding (b + 1) h.roots, occurrences_at (b + 1) h.roots s l (omega (arith, root_slot N h s l))))

  pub opened_tidy : Tidy r before (root_names h) (root_names h)
  opened_tidy =
      record {
        listed_marked = λ b e. e;
        objects = λ b e. let found = root_names_lem b e in named found.0 b found.2;
        roots = λ s b l e. named_root s b l e;
        cells = λ x s b m u own e. absurd (true≢false (sym m ∙ u));
      }

  pub opened_names : (b : ℕ) → root_names h b ≡ true → (s : ℕ) × (s < r) × (slot before s ≡ suc b)
  opened_names = root_names_lem
