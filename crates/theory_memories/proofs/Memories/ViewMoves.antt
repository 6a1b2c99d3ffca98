-- What the moves of the rules do to the three lists of the object graph: counts read off the count maps follow the graph's counting, and
-- cleared cells behind the roots are cleared slots.
use mathlib.Core.Path.{◌≡◌, refl, sym, ap, ◌∙◌}
use mathlib.Core.Logic.{◌≢◌}
use mathlib.Core.List.{List, [], ◌∷◌, ◌++◌}
use Prim.Native.Nat.{ℕ, zero, suc, ◌+◌, ◌-◌, ◌*◌, ◌/◌, ◌^◌, ◌≤◌, ◌<◌, min}
use native.Mathlib.Nat.{zero-add, suc-add, add_assoc}
use native.Mathlib.Decide.{ℕ_discrete}
use native.Mathlib.Omega.{arith}
use lib.ListN.{length, get_or, set, length-set}
use lib.Seq.{get_or-set_same, get_or-set_other, set-get_or, ext_get_or}
use borrow.Author.Tests.{le-ltb, eq-eqb, ne_eqb}
use Rattle.planes.specs.Plane.{count_at, set_count}
use Rattle.planes.proofs.Counts.{count_lt, count_set_same, count_set_other, length_set_count}
use Rattle.rules.specs.Heap.{capacity}
use Rattle.rules.specs.Tools.{tabulate}
use Rattle.rules_stores.specs.Store.{Work, work, count_up, count_down, count_down_each, clear_cells}
use Rattle.theory_graphs.proofs.Graphs.Stretch.{stretch, clear}
use Rattle.rules.proofs.Tabulate.{length_tabulate, get_d_tabulate}
use Rattle.theory_graphs.proofs.Graphs.Graph as graph
use Rattle.theory_graphs.proofs.Graphs.Graph.{lowered, lowered_stuck, lowered_other, push_last}

-- the block that a reference names
back : (b : ℕ) → suc b - 1 ≡ b
back b = omega arith

-- ---- counts

-- the counts of all blocks, read off the count maps
abbrev pub counts_of : ℕ → ℕ → List ℕ → List ℕ
counts_of N w counts = tabulate N (count_at (N / 8) w counts)

-- the rules' work s stands for the graph's counts and waiting list
pub record WorkShows (N w : ℕ) (s : Work) (counts stack : List ℕ) : Type 0 where
  pub length_is : length s.counts ≡ w * (N / 8)
  pub counts_are : counts_of N w s.counts ≡ counts
  pub stack_is : s.stack ≡ stack

push_stuck : (cap c b : ℕ) (stack : List ℕ) → c ≡ cap → push_last cap c b stack ≡ stack
unfolding push_last
push_stuck cap c b stack e = rw (eq-eqb c cap e, push_last)

module _ (N w : ℕ) (whole : 8 * (N / 8) ≡ N) (counts : List ℕ) (len : length counts ≡ w * (N / 8)) where
  counts_length : length (counts_of N w counts) ≡ N
  counts_length = length_tabulate N (count_at (N / 8) w counts)

  counts_at : (i : ℕ) → i < N → get_or (counts_of N w counts) i 0 ≡ count_at (N / 8) w counts i
  counts_at i l = get_d_tabulate 0 N (count_at (N / 8) w counts) i l

  -- a count written
  pub counts_set : (i v : ℕ) → i < N → v < 2 ^ w → counts_of N w (set_count (N / 8) w counts i v) ≡ set (counts_of N w counts) i v
  counts_set i v l u =
      ext_get_or 0 (counts_of N w after) (set (counts_of N w counts) i v)
      (length_tabulate N (count_at (N / 8) w after) ∙ sym (length-set (counts_of N w counts) i v ∙ counts_length))
      (λ j m. same j (omega (arith, length_tabulate N (count_at (N / 8) w after))) (ℕ_discrete j i))
    where
      after : List ℕ
      after = set_count (N / 8) w counts i v

      same : (j : ℕ) → j < N → Dec (j ≡ i) → get_or (counts_of N w after) j 0 ≡ get_or (set (counts_of N w counts) i v) j 0
      same j m (yes e) =
          rw e
          (get_d_tabulate 0 N (count_at (N / 8) w after) i l
          ∙ count_set_same (N / 8) w counts i v (omega arith) (omega arith) u
          ∙ sym (get_or-set_same (counts_of N w counts) i v 0 (omega (arith, counts_length))))
      same j m (no d) =
          get_d_tabulate 0 N (count_at (N / 8) w after) j m
          ∙ count_set_other (N / 8) w counts i v j (omega arith) (omega arith) d
          ∙ sym (get_or-set_other (counts_of N w counts) i j v 0 d ∙ counts_at j m)

  -- ---- counting up: a count at capacity is stuck, another goes up

  up_stuck : (b : ℕ) → count_at (N / 8) w counts b ≡ capacity w → count_up N w counts (suc b) ≡ counts
  unfolding count_up
  up_stuck b e = rw (ne_eqb (suc b) 0 (omega arith), back b, eq-eqb (count_at (N / 8) w counts b) (capacity w) e, count_up)

  up_other :
      (b : ℕ) → count_at (N / 8) w counts b ≢ capacity w
      → count_up N w counts (suc b) ≡ set_count (N / 8) w counts b (count_at (N / 8) w counts b + 1)
  unfolding count_up
  up_other b d = rw (ne_eqb (suc b) 0 (omega arith), back b, ne_eqb (count_at (N / 8) w counts b) (capacity w) d, back b, count_up)

  pub counts_up : (v : ℕ) → v ≤ N → counts_of N w (count_up N w counts v) ≡ graph.count_up (capacity w) (counts_of N w counts) v
  unfolding count_up graph.count_up
  counts_up zero l = refl
  counts_up (suc b) l =
      elim (ℕ_discrete (count_at (N / 8) w counts b) (capacity w)) [
        | yes e ↦
            ap (counts_of N w) (up_stuck b e)
            ∙ sym (ap (set (counts_of N w counts) b) (stuck e) ∙ set-get_or (counts_of N w counts) b 0)
        | no d ↦
            ap (counts_of N w) (up_other b d)
            ∙ counts_set b (count_at (N / 8) w counts b + 1) (omega arith) (omega (arith, count_lt (N / 8) w counts b))
            ∙ ap (set (counts_of N w counts) b) (up d)
      ]
    where
      stuck :
          count_at (N / 8) w counts b ≡ capacity w
          → min (capacity w) (suc (get_or (counts_of N w counts) b 0)) ≡ get_or (counts_of N w counts) b 0
      stuck e = omega (arith, counts_at b (omega arith))

      up :
          count_at (N / 8) w counts b ≢ capacity w
          → count_at (N / 8) w counts b + 1 ≡ min (capacity w) (suc (get_or (counts_of N w counts) b 0))
      up d = omega (arith, counts_at b (omega arith), count_lt (N / 8) w counts b)

  pub length_up : (v : ℕ) → length (count_up N w counts v) ≡ length counts
  unfolding count_up
  length_up zero = refl
  length_up (suc b) =
      elim (ℕ_discrete (count_at (N / 8) w counts b) (capacity w)) [
        | yes e ↦ ap length (up_stuck b e)
        | no d ↦ ap length (up_other b d) ∙ length_set_count (N / 8) w counts b (count_at (N / 8) w counts b + 1)
      ]

  -- ---- counting down: likewise, and what comes to 0 waits

  module _ (stack : List ℕ) where
    down_stuck : (b : ℕ) → b < N → count_at (N / 8) w counts b ≡ capacity w → count_down N w (work counts stack) (suc b) ≡ work counts stack
    unfolding count_down
    down_stuck b l e =
        rw (ne_eqb (suc b) 0 (omega arith), le-ltb N (suc b) (omega arith), back b, eq-eqb (count_at (N / 8) w counts b) (capacity w) e, count_down)

    down_past :
        (v : ℕ) → v ≢ 0 → v ≤ N → count_at (N / 8) w counts (v - 1) ≢ capacity w
        → count_down N w (work counts stack) v
        ≡ work (set_count (N / 8) w counts (v - 1) (count_at (N / 8) w counts (v - 1) - 1))
        (push_last (capacity w) (count_at (N / 8) w counts (v - 1)) (v - 1) stack)
    unfolding count_down push_last
    down_past v some l d = rw (ne_eqb v 0 some, le-ltb N v l, ne_eqb (count_at (N / 8) w counts (v - 1)) (capacity w) d, count_down, push_last)

    down_other :
        (b : ℕ) → b < N → count_at (N / 8) w counts b ≢ capacity w
        → count_down N w (work counts stack) (suc b)
        ≡ work (set_count (N / 8) w counts b (count_at (N / 8) w counts b - 1)) (push_last (capacity w) (count_at (N / 8) w counts b) b stack)
    down_other b l d = rw (back b) at (down_past (suc b) (omega arith) (omega arith) (rw (back b) d))

    pub down_shows :
        (v : ℕ) → v ≤ N
        → WorkShows N w (count_down N w (work counts stack) v) (graph.count_down (capacity w) (counts_of N w counts) v)
        (graph.count_down_stack (capacity w) (counts_of N w counts) v stack)
    unfolding count_down graph.count_down graph.count_down_stack
    down_shows zero l = record { length_is = len; counts_are = refl; stack_is = refl }
    down_shows (suc b) l =
        elim (ℕ_discrete (count_at (N / 8) w counts b) (capacity w)) [
          | yes e ↦
              record {
                length_is = ap (λ (s : Work). length s.counts) (down_stuck b (omega arith) e) ∙ len;
                counts_are = ap (λ (s : Work). counts_of N w s.counts) (down_stuck b (omega arith) e)
                    ∙ sym (ap (set (counts_of N w counts) b) (lowered_stuck (capacity w) (get_or (counts_of N w counts) b 0) (here ∙ e))
                    ∙ set-get_or (counts_of N w counts) b 0);
                stack_is = ap (λ (s : Work). s.stack) (down_stuck b (omega arith) e)
                    ∙ sym (push_stuck (capacity w) (get_or (counts_of N w counts) b 0) b stack (here ∙ e));
              }
          | no d ↦
              record {
                length_is = ap (λ (s : Work). length s.counts) (down_other b (omega arith) d)
                    ∙ length_set_count (N / 8) w counts b (count_at (N / 8) w counts b - 1) ∙ len;
                counts_are = ap (λ (s : Work). counts_of N w s.counts) (down_other b (omega arith) d)
                    ∙ counts_set b (count_at (N / 8) w counts b - 1) (omega arith) (omega (arith, count_lt (N / 8) w counts b))
                    ∙ ap (set (counts_of N w counts) b)
                    (sym (ap (lowered (capacity w)) here ∙ lowered_other (capacity w) (count_at (N / 8) w counts b) d));
                stack_is = ap (λ (s : Work). s.stack) (down_other b (omega arith) d) ∙ ap (λ (c : ℕ). push_last (capacity w) c b stack) (sym here);
              }
        ]
      where
        here : get_or (counts_of N w counts) b 0 ≡ count_at (N / 8) w counts b
        here = counts_at b (omega arith)

-- each cell of a stretch, where the stretch of slots holds the same
pub each_shows :
    (N w : ℕ) (whole : 8 * (N / 8) ≡ N) (counts : List ℕ) (len : length counts ≡ w * (N / 8)) (stack cells slots : List ℕ) (j i : ℕ)
    → ((k : ℕ) → get_or slots k 0 ≤ N) → (n : ℕ) → ((k : ℕ) → k < n → get_or cells (j + k) 0 ≡ get_or slots (i + k) 0)
    → WorkShows N w (count_down_each N w (work counts stack) cells j n) (graph.count_down_each (capacity w) (counts_of N w counts) slots i n)
    (graph.count_down_each_stack (capacity w) (counts_of N w counts) slots i n stack)
unfolding count_down_each graph.count_down_each graph.count_down_each_stack
each_shows N w whole counts len stack cells slots j i named zero same = record { length_is = len; counts_are = refl; stack_is = refl }
each_shows N w whole counts len stack cells slots j i named (suc n) same =
    let before = each_shows N w whole counts len stack cells slots j i named n (λ k l. same k (omega arith)) in
    let s : Work = count_down_each N w (work counts stack) cells j n in
    rw (same n (omega arith), ← before.counts_are, ← before.stack_is)
    (down_shows N w whole s.counts before.length_is s.stack (get_or slots (i + n) 0) (named (i + n)))

-- slots that hold 0 count nothing down
pub each_none :
    (cap : ℕ) (counts stack slots : List ℕ) (i n : ℕ) → ((k : ℕ) → k < n → get_or slots (i + k) 0 ≡ 0)
    → (graph.count_down_each cap counts slots i n ≡ counts) × (graph.count_down_each_stack cap counts slots i n stack ≡ stack)
unfolding graph.count_down graph.count_down_stack graph.count_down_each graph.count_down_each_stack
each_none cap counts stack slots i zero none = (refl, refl)
each_none cap counts stack slots i (suc n) none =
    let before = each_none cap counts stack slots i n (λ k l. none k (omega arith)) in
    let here = none n (omega arith) in
    let so_far : List ℕ = graph.count_down_each cap counts slots i n in
    let waiting : List ℕ = graph.count_down_each_stack cap counts slots i n stack in (
      ap (graph.count_down cap so_far) here ∙ before.0,
      ap (λ (v : ℕ). graph.count_down_stack cap so_far v waiting) here ∙ before.1,
    )

-- ---- slots

-- the cells stand behind the roots
pub set_append_right : (roots cells : List ℕ) (i v : ℕ) → set (roots ++ cells) (length roots + i) v ≡ roots ++ set cells i v
set_append_right [] cells i v = rw zero-add refl
set_append_right (x ∷ roots) cells i v = rw suc-add (ap (λ (l : List ℕ). x ∷ l) (set_append_right roots cells i v))

pub length_clear_cells : (cells : List ℕ) (j n : ℕ) → length (clear_cells cells j n) ≡ length cells
unfolding clear_cells
length_clear_cells cells j zero = refl
length_clear_cells cells j (suc n) = length-set (clear_cells cells j n) (j + n) 0 ∙ length_clear_cells cells j n

-- cells made 0 are slots made 0
pub clear_behind : (roots cells : List ℕ) (j n : ℕ) → roots ++ clear j n cells ≡ clear (length roots + j) n (roots ++ cells)
unfolding stretch
clear_behind roots cells j zero = refl
clear_behind roots cells j (suc n) =
    rw (← clear_behind roots cells j n, add_assoc) (sym (set_append_right roots (clear j n cells) (j + n) 0))
