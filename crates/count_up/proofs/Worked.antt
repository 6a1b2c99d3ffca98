-- What is left of counts and stack: with nothing written, with a count written and its block pushed or not, and step by step.
use mathlib.Core.Path.{◌≡◌, refl, ap, ◌∙◌}
use mathlib.Core.Bool.{Bool, true, false}
use mathlib.Core.List.{List, ◌∷◌}
use Prim.Native.Nat.{ℕ, ◌+◌, ◌/◌, ◌^◌, ◌<◌}
use native.Mathlib.Decide.{ℕ_discrete}
use native.Mathlib.Omega.{arith}
use lib.ListN.{length, get_or, set, length-set}
use lib.Seq.{get_or-set_same, get_or-set_other}
use Rattle.bitmap.specs.Bit.{one}
use Rattle.planes.specs.Plane.{count_at, set_count}
use Rattle.planes.proofs.Counts.{length_set_count}
use Rattle.rules_stores.specs.Store.{Work, work}
use Rattle.count_up.specs.Ready.{Planes}
use Rattle.count_up.specs.Stack.{top_first, passing, remaining, Stack, Worked}
use Rattle.count_up.proofs.Shapes.{planes_same}
use Rattle.count_up.proofs.Counts.{count_written, count_kept, passing_set}
use Rattle.count_up.proofs.Stack.{top_first_push}

module _ {test : ℕ → Bool} {N w : ℕ} {counts waiting : List ℕ} {top : ℕ} (p : Planes N w counts)
    (stack : Stack test N w counts waiting top) where
  -- nothing is written
  pub unchanged : {s : Work} → work counts (top_first waiting top) ≡ s → Worked test N w s (remaining test N w counts top) counts waiting top
  unchanged e = record { result = e; planes = p; stack = stack; left_is = refl }

  -- the count v is written at block i
  module _ (i v : ℕ) (inside : i < N) (fits : v < 2 ^ w) {counts' : List ℕ} (written : counts' ≡ set_count (N / 8) w counts i v) where
    planes_left : Planes N w counts'
    planes_left = planes_same p (ap length written ∙ length_set_count (N / 8) w counts i v)

    change : passing test N w counts' + one (test (count_at (N / 8) w counts i)) ≡ passing test N w counts + one (test v)
    change = rw written (passing_set p i v inside test fits)

    -- what had come, has come still
    still : (test (count_at (N / 8) w counts i) ≡ false → test v ≡ false) → (b : ℕ) → b < N
        → test (count_at (N / 8) w counts b) ≡ false → test (count_at (N / 8) w counts' b) ≡ false
    still h b l e = rw written (by_block (ℕ_discrete b i))
      where
        by_block : Dec (b ≡ i) → test (count_at (N / 8) w (set_count (N / 8) w counts i v) b) ≡ false
        by_block (yes d) = rw d (ap test (count_written p i v inside fits) ∙ h (rw d at e))
        by_block (no d) = ap test (count_kept p i v inside b l d) ∙ e

    -- whether the block can still come is as before
    pub kept : test v ≡ test (count_at (N / 8) w counts i) → {s : Work} → work counts' (top_first waiting top) ≡ s
        → Worked test N w s (remaining test N w counts top) counts' waiting top
    kept same e = record {
      result = e;
      planes = planes_left;
      stack = record {
        length_is = stack.length_is;
        blocks = stack.blocks;
        come = λ k l. still (λ c. same ∙ c) (get_or waiting k 0) (stack.blocks k l) (stack.come k l);
        clear = stack.clear;
        room = omega (arith, change, ap one same, stack.room);
      };
      left_is = omega (arith, change, ap one same);
    }

    -- the block comes, and is pushed
    module _ (could : test (count_at (N / 8) w counts i) ≡ true) (came : test v ≡ false) where
      one_fewer : passing test N w counts' + 1 ≡ passing test N w counts
      one_fewer = omega (arith, change, ap one could, ap one came)

      pub push_room : top < length waiting
      push_room = omega (arith, one_fewer, stack.length_is, stack.room)

      pub pushed : {s : Work} → work counts' (i ∷ top_first waiting top) ≡ s
          → Worked test N w s (remaining test N w counts top) counts' (set waiting top i) (top + 1)
      pushed e = record {
        result = ap (λ (l : List ℕ). work counts' l) (top_first_push waiting top i push_room) ∙ e;
        planes = planes_left;
        stack = record {
          length_is = length-set waiting top i ∙ stack.length_is;
          blocks = λ k l. at_block k l (ℕ_discrete k top);
          come = λ k l. at_count k l (ℕ_discrete k top);
          clear = λ k l. get_or-set_other waiting top k i 0 (λ d. omega arith) ∙ stack.clear k (omega arith);
          room = omega (arith, one_fewer, stack.room);
        };
        left_is = omega (arith, one_fewer);
      }
        where
          at_top : get_or (set waiting top i) top 0 ≡ i
          at_top = get_or-set_same waiting top i 0 push_room

          at_block : (k : ℕ) → k < top + 1 → Dec (k ≡ top) → get_or (set waiting top i) k 0 < N
          at_block k l (yes d) = rw (d, at_top) inside
          at_block k l (no d) = rw (get_or-set_other waiting top k i 0 d) (stack.blocks k (omega arith))

          at_count : (k : ℕ) → k < top + 1 → Dec (k ≡ top) → test (count_at (N / 8) w counts' (get_or (set waiting top i) k 0)) ≡ false
          at_count k l (yes d) = rw (d, at_top, written) (ap test (count_written p i v inside fits) ∙ came)
          at_count k l (no d) =
              rw (get_or-set_other waiting top k i 0 d)
              (still (λ _. came) (get_or waiting k 0) (stack.blocks k (omega arith)) (stack.come k (omega arith)))

-- one step more
pub worked_next :
    {test : ℕ → Bool} {N w left top top' : ℕ} {counts waiting counts' waiting' : List ℕ} {s s' : Work} (step : Work → Work)
    → step s ≡ s'
    → Worked test N w s left counts waiting top
    → Worked test N w (step (work counts (top_first waiting top))) (remaining test N w counts top) counts' waiting' top'
    → Worked test N w s' left counts' waiting' top'
worked_next step e before next = record {
  result = next.result ∙ ap step before.result ∙ e;
  planes = next.planes;
  stack = next.stack;
  left_is = next.left_is ∙ before.left_is;
}
