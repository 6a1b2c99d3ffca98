-- What `visit` gives on each way through the code, and a run of visits.
use mathlib.Core.Path.{◌≡◌, refl, sym, ap, ap₂, ◌∙◌}
use mathlib.Core.Logic.{◌≢◌}
use mathlib.Core.Bool.{true}
use mathlib.Core.List.{List, ◌∷◌}
use Prim.Native.Nat.{ℕ, zero, suc, ◌+◌, ◌-◌, ◌*◌, ◌/◌, ◌^◌, ◌≤◌, ◌<◌}
use native.Mathlib.Numerals.{add-one}
use native.Mathlib.Omega.{arith}
use lib.ListN.{get_or, set}
use lib.Pow.{pow_mono}
use borrow.Author.Tests.{lt-ltb, le-ltb, eq-eqb, ne_eqb}
use Rattle.planes.specs.Plane.{count_at, set_count}
use Rattle.rules.specs.Heap.{capacity}
use Rattle.rules_stores.specs.Store.{Work, work, count_up}
use Rattle.count_up.specs.Ready.{Planes}
use Rattle.count_up.specs.Stack.{top_first, uncounted, remaining, Stack, Worked}
use Rattle.count_up.proofs.Worked.{unchanged, kept, push_room, pushed, worked_next}
use Rattle.collect_counts.specs.Counts.{count_maps}
use Rattle.collect_counts.proofs.Counts.{maps_count, maps_set, counting_set}
use Rattle.collect_visit.specs.Visit.{visit, visit_each, Counted, VisitedTo}

-- what a visit of v has to leave
abbrev pub Visited : (N w : ℕ) → (counts waiting : List ℕ) → (top v : ℕ) → (counts' waiting' : List ℕ) → (top' : ℕ) → Type 0
Visited N w counts waiting top v counts' waiting' top' =
    Worked uncounted N w (visit N w (work counts (top_first waiting top)) v) (remaining uncounted N w counts top) counts' waiting' top'

module _ {N w : ℕ} {counts waiting : List ℕ} {top v : ℕ} (p : Planes N w counts) (s : Stack uncounted N w counts waiting top) where
  pub visit_none : v ≡ 0 → Visited N w counts waiting top v counts waiting top
  unfolding visit
  visit_none e = unchanged p s (rw (eq-eqb v 0 e, visit))

  pub visit_past : v ≢ 0 → N < v → Visited N w counts waiting top v counts waiting top
  unfolding visit
  visit_past named past = unchanged p s (rw (ne_eqb v 0 named, lt-ltb N v past, visit))

  module _ (within : v ≤ N) (named : v ≢ 0) {count : ℕ} (reads : count ≡ count_at (N / 8) w counts (v - 1)) where
    count_goes_up : count ≢ capacity w → count_up N w counts v ≡ set_count (N / 8) w counts (v - 1) (count + 1)
    unfolding count_up
    count_goes_up d = rw (ne_eqb v 0 named, ← reads, ne_eqb count (capacity w) d, count_up, ← reads)

    count_stays : count ≡ capacity w → count_up N w counts v ≡ counts
    unfolding count_up
    count_stays e = rw (ne_eqb v 0 named, ← reads, eq-eqb count (capacity w) e, count_up)

    pushes : (stack : List ℕ) → count ≡ 0 → visit N w (work counts stack) v ≡ work (count_up N w counts v) ((v - 1) ∷ stack)
    unfolding visit
    pushes stack z = rw (ne_eqb v 0 named, le-ltb N v within, ← reads, eq-eqb count 0 z, visit)

    keeps : (stack : List ℕ) → count ≢ 0 → visit N w (work counts stack) v ≡ work (count_up N w counts v) stack
    unfolding visit
    keeps stack n = rw (ne_eqb v 0 named, le-ltb N v within, ← reads, ne_eqb count 0 n, visit)

    -- the block's count leaves 0
    module _ (z : count ≡ 0) where
      none : uncounted (count_at (N / 8) w counts (v - 1)) ≡ true
      none = eq-eqb _ 0 (sym reads ∙ z)

      fits : 1 < 2 ^ w
      fits = omega (arith, pow_mono {i = 1} {j = w} p.some)

      pub room_to_push : top < N
      room_to_push = omega (arith, push_room p s (v - 1) 1 (omega arith) fits refl none refl, s.length_is)

      pub visit_first : {counts' : List ℕ} → counts' ≡ set_count (N / 8) w counts (v - 1) 1
          → Visited N w counts waiting top v counts' (set waiting top (v - 1)) (top + 1)
      visit_first e =
          let up = count_goes_up (λ full. omega (arith, fits)) in
          let one_is : count + 1 ≡ 1 = omega arith in
          pushed p s (v - 1) 1 (omega arith) fits e none refl (cc (pushes (top_first waiting top) z))

    pub visit_again : count ≢ 0 → {most : ℕ} → most ≡ capacity w → count < most → {counts' : List ℕ} → counts' ≡ set_count (N / 8) w counts (v - 1) (count + 1)
        → Visited N w counts waiting top v counts' waiting top
    visit_again n most-is below e =
        let up = count_goes_up (λ full. omega arith) in
        let some = ne_eqb (count + 1) 0 (λ d. omega arith) ∙ sym (ne_eqb (count_at (N / 8) w counts (v - 1)) 0 (λ d. n (reads ∙ d))) in
        kept p s (v - 1) (count + 1) (omega arith) (omega arith) e some (cc (keeps (top_first waiting top) n))

    pub visit_stuck : count ≢ 0 → {most : ℕ} → most ≡ capacity w → most ≤ count → count < 2 ^ w
        → Visited N w counts waiting top v counts waiting top
    visit_stuck n most-is full fits =
        let stays = count_stays (omega arith) in
        unchanged p s (cc (keeps (top_first waiting top) n))

-- one visit more
pub marking_more : {N w left top top' : ℕ} {counts waiting counts' waiting' : List ℕ} (s : Work) (refs : List ℕ) (j n : ℕ)
    → Worked uncounted N w (visit_each N w s refs j n) left counts waiting top
    → Visited N w counts waiting top (get_or refs (j + n) 0) counts' waiting' top'
    → Worked uncounted N w (visit_each N w s refs j (n + 1)) left counts' waiting' top'
unfolding visit_each
marking_more {N} {w} s refs j n =
    worked_next (λ x. visit N w x (get_or refs (j + n) 0))
    (sym (ap (λ (k : ℕ). visit_each N w s refs j k) (add-one n)))

-- ---- with the counts in a list

-- what visits lead to can be visited on
pub visited_counted : {N w left top : ℕ} {s : Work} {at waiting : List ℕ} → VisitedTo N w s left at waiting top → Counted N w at waiting top
visited_counted v = record { planes = v.worked.planes; counting = v.counting; stack = v.worked.stack }

-- what a visit of v has to leave
abbrev To : (N w : ℕ) → (at waiting : List ℕ) → (top v : ℕ) → (at' waiting' : List ℕ) → (top' : ℕ) → Type 0
To N w at waiting top v at' waiting' top' =
    VisitedTo N w (visit N w (work (count_maps N w at) (top_first waiting top)) v) (remaining uncounted N w (count_maps N w at) top) at' waiting' top'

module _ {N w : ℕ} {at waiting : List ℕ} {top v : ℕ} (c : Counted N w at waiting top) where
  pub to_none : v ≡ 0 → To N w at waiting top v at waiting top
  to_none e = record { worked = visit_none c.planes c.stack e; counting = c.counting }

  pub to_past : v ≢ 0 → N < v → To N w at waiting top v at waiting top
  to_past named past = record { worked = visit_past c.planes c.stack named past; counting = c.counting }

  module _ (within : v ≤ N) (named : v ≢ 0) {count : ℕ} (reads : count ≡ get_or at (v - 1) 0) where
    counted : count ≡ count_at (N / 8) w (count_maps N w at) (v - 1)
    counted = reads ∙ maps_count c.planes.eighths c.counting (v - 1) (omega arith)

    pub to_room : count ≡ 0 → top < N
    to_room z = room_to_push c.planes c.stack within named counted z

    pub to_first : count ≡ 0 → To N w at waiting top v (set at (v - 1) 1) (set waiting top (v - 1)) (top + 1)
    to_first z =
        let fits : 1 < 2 ^ w = omega (arith, pow_mono {i = 1} {j = w} c.planes.some) in
        record {
          worked = visit_first c.planes c.stack within named counted z (maps_set c.planes.eighths c.counting (v - 1) 1 (omega arith) fits);
          counting = counting_set c.planes.eighths c.counting (v - 1) 1 (omega arith) fits;
        }

    pub to_again : count ≢ 0 → {most : ℕ} → most ≡ capacity w → count < most → To N w at waiting top v (set at (v - 1) (count + 1)) waiting top
    to_again n most-is below =
        let fits : count + 1 < 2 ^ w = omega arith in
        record {
          worked =
              visit_again c.planes c.stack within named counted n most-is below
              (maps_set c.planes.eighths c.counting (v - 1) (count + 1) (omega arith) fits);
          counting = counting_set c.planes.eighths c.counting (v - 1) (count + 1) (omega arith) fits;
        }

    pub to_stuck : count ≢ 0 → {most : ℕ} → most ≡ capacity w → most ≤ count → To N w at waiting top v at waiting top
    to_stuck n most-is full = record {
      worked = visit_stuck c.planes c.stack within named counted n most-is full (omega (arith, c.counting.fits (v - 1)));
      counting = c.counting;
    }

-- one visit more
pub visited_more : {N w left top top' : ℕ} {at waiting at' waiting' : List ℕ} (s : Work) (refs : List ℕ) (j n : ℕ)
    → VisitedTo N w (visit_each N w s refs j n) left at waiting top
    → To N w at waiting top (get_or refs (j + n) 0) at' waiting' top'
    → VisitedTo N w (visit_each N w s refs j (n + 1)) left at' waiting' top'
visited_more s refs j n before next = record {
  worked = marking_more s refs j n before.worked next.worked;
  counting = next.counting;
}

-- ---- a block at a time

-- references that are all 0 change nothing
pub visits_none : (N w : ℕ) (s : Work) (refs : List ℕ) (j n : ℕ) → ((c : ℕ) → c < n → get_or refs (j + c) 0 ≡ 0) → visit_each N w s refs j n ≡ s
unfolding visit_each visit
visits_none N w s refs j zero none = refl
visits_none N w s refs j (suc n) none =
    ap (visit N w (visit_each N w s refs j n)) (none n (omega arith)) ∙ visits_none N w s refs j n (λ c l. none c (omega arith))

pub to_nothing : {N w top : ℕ} {at waiting : List ℕ} (refs : List ℕ) (j n : ℕ) → Counted N w at waiting top
    → ((c : ℕ) → c < n → get_or refs (j + c) 0 ≡ 0)
    → VisitedTo N w (visit_each N w (work (count_maps N w at) (top_first waiting top)) refs j n) (remaining uncounted N w (count_maps N w at) top) at waiting top
to_nothing {N} {w} refs j n c none = record {
  worked = unchanged c.planes c.stack (sym (visits_none N w _ refs j n none));
  counting = c.counting;
}

-- those from place j + m on come after the first m
visits_append : (N w : ℕ) (s : Work) (refs : List ℕ) (j m n : ℕ)
    → visit_each N w (visit_each N w s refs j m) refs (j + m) n ≡ visit_each N w s refs j (m + n)
unfolding visit_each
visits_append N w s refs j m zero =
    let none : m ≡ m + 0 = omega arith in
    ap (visit_each N w s refs j) none
visits_append N w s refs j m (suc n) =
    let place : j + m + n ≡ j + (m + n) = omega arith in
    let more : suc (m + n) ≡ m + suc n = omega arith in
    ap₂ (λ (x : Work) (v : ℕ). visit N w x v) (visits_append N w s refs j m n) (ap (λ (k : ℕ). get_or refs k 0) place)
    ∙ ap (visit_each N w s refs j) more

-- one block more
pub visited_block : {N w left top top' : ℕ} {at waiting at' waiting' : List ℕ} (s : Work) (refs : List ℕ) (i k : ℕ)
    → VisitedTo N w (visit_each N w s refs (4 * i) (4 * k)) left at waiting top
    → VisitedTo N w (visit_each N w (work (count_maps N w at) (top_first waiting top)) refs (4 * (i + k)) 4)
    (remaining uncounted N w (count_maps N w at) top) at' waiting' top'
    → VisitedTo N w (visit_each N w s refs (4 * i) (4 * (k + 1))) left at' waiting' top'
visited_block {N} {w} s refs i k before next =
    let place : 4 * (i + k) ≡ 4 * i + 4 * k = omega arith in
    let more : 4 * k + 4 ≡ 4 * (k + 1) = omega arith in
    record {
      worked =
          worked_next (λ x. visit_each N w x refs (4 * (i + k)) 4)
          (ap (λ (j : ℕ). visit_each N w (visit_each N w s refs (4 * i) (4 * k)) refs j 4) place
          ∙ visits_append N w s refs (4 * i) (4 * k) 4 ∙ ap (visit_each N w s refs (4 * i)) more)
          before.worked next.worked;
      counting = next.counting;
    }
